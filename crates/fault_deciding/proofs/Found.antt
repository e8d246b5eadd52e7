-- Values that a loop over blocks gathers.
use Rattle.std.proofs.Common.{◌≡◌, ℕ, ◌+◌, ◌*◌, ◌/◌, ◌%◌, ◌<◌, ◌≤◌, inl, inr, Bool, true, ◌&&◌, arith, tests, sym}
use Rattle.std.proofs.Common.{ap, subst, ◌∙◌}
use Rattle.std.specs.Prelude.{◌==◌, nat_le, nat_lt, slice_index}
use Rattle.std.proofs.lemmas.Bool.{cases_eq}
use Rattle.crash_model.specs.Disk.{Disk, byte}
use Rattle.crash_model.specs.Layout.{pointer_of, links_of, entry_of, counts, is_data, is_owned, kind_of}
use Rattle.crash_model.specs.Patches.{image_of}
use Rattle.crash_model.specs.Replay.{image_after_replay}
use Rattle.known_bytes.specs.Family.{Family, InEach, IsLike, HasValue}

-- an inode's byte is one of its block
pub pointer_value : (low high inode slot block at : ℕ) (f : Family) → block ≡ 2 + inode / 8
    → at ≡ 16 * (inode % 8) + 4 + slot
    → InEach f (λ d. HasValue low high (byte (image_after_replay d) block at))
    → InEach f (λ d. HasValue low high (pointer_of (image_after_replay d) inode slot))
pointer_value low high inode slot block at f holds starts has set m =
    let d : Disk = image_of f.base f.patches set in
    let place : 128 * block + at ≡ 260 + 16 * inode + slot = omega arith in
    subst (λ (k : ℕ). HasValue low high (slice_index (image_after_replay d).bytes k)) place (has set m)

pub links_value : (low high inode block from : ℕ) (f : Family) → block ≡ 2 + inode / 8 → from ≡ 16 * (inode % 8)
    → InEach f (λ d. HasValue low high (byte (image_after_replay d) block (from + 1)))
    → InEach f (λ d. HasValue low high (links_of (image_after_replay d) inode))
links_value low high inode block from f holds starts has set m =
    let d : Disk = image_of f.base f.patches set in
    let place : 128 * block + (from + 1) ≡ 257 + 16 * inode = omega arith in
    subst (λ (k : ℕ). HasValue low high (slice_index (image_after_replay d).bytes k)) place (has set m)

-- of the first n blocks, those of the data area that a directory may have, with the values of a byte
pub record AreGathered (f : Family) (low high n offset values_low values_high : ℕ) : Type 0 where
  pub each : (b : ℕ) → b < n → is_data f.base b ≡ true → HasValue low high b
      → InEach f (λ d. HasValue values_low values_high (byte (image_after_replay d) b offset))

pub gathered_none : (f : Family) (low high offset values_low values_high : ℕ)
    → AreGathered f low high 0 offset values_low values_high
gathered_none f low high offset values_low values_high = record { each = λ b less is has. absurd (omega arith) }

pub gathered_same : (f : Family) (low high n offset values_low values_high : ℕ)
    → (is_data f.base n ≡ true → HasValue low high n → ⊥)
    → AreGathered f low high n offset values_low values_high
    → AreGathered f low high (n + 1) offset values_low values_high
gathered_same f low high n offset values_low values_high never old = record {
  each = λ b less is has. elim (cases_eq b n) [
    | inl same ↦ absurd (never (subst (λ (k : ℕ). is_data f.base k ≡ true) same is)
        (subst (λ (k : ℕ). HasValue low high k) same has))
    | inr other ↦ old.each b (omega arith) is has
  ];
}

pub gathered_more : (f : Family) (low high n offset values_low values_high new_low new_high block place : ℕ) → block ≡ n
    → place ≡ offset
    → ((x : ℕ) → HasValue values_low values_high x → HasValue new_low new_high x)
    → InEach f (λ d. HasValue new_low new_high (byte (image_after_replay d) block place))
    → AreGathered f low high n offset values_low values_high → AreGathered f low high (n + 1) offset new_low new_high
gathered_more f low high n offset values_low values_high new_low new_high block place at where_is kept here old
    = record {
      each = λ b less is has set m. elim (cases_eq b n) [
        | inl same ↦
            let d : Disk = image_of f.base f.patches set in
            subst (λ (k : ℕ). HasValue new_low new_high (byte (image_after_replay d) k offset)) (at ∙ sym same)
            (subst (λ (o : ℕ). HasValue new_low new_high (byte (image_after_replay d) block o)) where_is (here set m))
        | inr other ↦ kept _ (old.each b (omega arith) is has set m)
      ];
    }

pub entry_value : (f : Family) (low high n dir k values_low values_high : ℕ) → InEach f (IsLike f.base)
    → f.base.blocks ≤ n
    → InEach f (λ d. HasValue low high (pointer_of (image_after_replay d) dir 0))
    → AreGathered f low high n (8 + 12 * k) values_low values_high
    → InEach f (λ d. counts (image_after_replay d) dir ≡ true
    → HasValue values_low values_high (entry_of (image_after_replay d) dir k))
entry_value f low high n dir k values_low values_high like all blocks gathered set m counted =
    let d : Disk = image_of f.base f.patches set in
    let alike = like set m in
    let r : Disk = image_after_replay d in
    let block : ℕ = pointer_of r dir 0 in
    let inside : is_data r block ≡ true = second (kind_of r dir == 2) (is_data r block) (byte r block 0 == 0x44)
    (is_owned r block dir) counted in
    let here : is_data f.base block ≡ true =
    sym (ap (λ (n : ℕ). nat_le (4 + n) block && nat_lt block d.blocks) alike.journal
    ∙ ap (λ (n : ℕ). nat_le (4 + f.base.journal) block && nat_lt block n) alike.blocks) ∙ inside in
    let less : block < f.base.blocks = below (4 + f.base.journal) block f.base.blocks here in
    gathered.each block (omega arith) here (blocks set m) set m
  where
    second : (a b c e : Bool) → (a && b && c && e) ≡ true → b ≡ true
    second a b c e h = grind (arith, tests)

    below : (a b c : ℕ) → (nat_le a b && nat_lt b c) ≡ true → b < c
    below a b c h = grind (arith, tests)
