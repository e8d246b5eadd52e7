-- Replay finds a block at its own place or in the journal.
use Rattle.std.proofs.Common.{◌≡◌, ℕ, zero, suc, ◌+◌, ◌<◌, ◌≤◌, ◌⊎◌, inl, inr, List, ◌∷◌, length, true, Option}
use Rattle.std.proofs.Common.{arith, refl, sym, subst, ◌∙◌, get_or}
use Rattle.std.specs.Prelude.{◌==◌, slice_index, unwrap_or, option_map, bit_or}
use Rattle.patch_sets.proofs.Bits.{in_or_left, in_or_right}
use Rattle.crash_model.specs.Disk.{Disk, IsDisk, byte, block_of}
use Rattle.crash_model.specs.Patches.{image_of}
use Rattle.crash_model.specs.Replay.{is_header, count_of, targets_of, copy_in, copy_after, headers, headers_from}
use Rattle.crash_model.specs.Replay.{image_after_replay}
use Rattle.journal_replay.proofs.Walk.{count_targets}
use Rattle.journal_replay.proofs.Targets.{bool_is, found_or_not, header_in, header_fits, header_few}
use Rattle.known_bytes.specs.Headers.{IsCopyOf}
use Rattle.known_bytes.proofs.HeaderBytes.{target_byte}
use Rattle.known_bytes.specs.Family.{Family, InEach, IsLike, HasValue}
use Rattle.known_bytes.proofs.Coming.{copied_in, left_in}
use Rattle.known_bytes.proofs.Walked.{replayed_byte}

-- a block is another one, or one of the journal that has a copy of it
abbrev IsSource : Disk → ℕ → ℕ → Type 0
IsSource d b x = (x ≡ b) ⊎ ((4 ≤ x) × (x < 4 + d.journal) × IsCopyOf d b x)

copied_source : (d : Disk) (at transaction b found : ℕ) → IsDisk d → 4 ≤ at
    → is_header d at transaction (block_of d at) ≡ true
    → IsSource d b found → IsSource d b (unwrap_or (copy_in (block_of d at) at b) found)
copied_source d at transaction b found disk from is was = elim (bool_is (slice_index (block_of d at) 0 == 0xC7)) [
  | inr f ↦ subst (λ (x : ℕ). IsSource d b x) (sym (left_in (block_of d at) at b found f)) was
  | inl t ↦ subst (λ (x : ℕ). IsSource d b x) (sym (copied_in (block_of d at) at b found t))
      (elim (found_or_not b (targets_of (block_of d at))) [
        | inr none ↦ subst (λ (o : Option ℕ). IsSource d b (unwrap_or (option_map (λ m. at + 1 + m) o) found))
            (sym none.0) was
        | inl at_m ↦ subst (λ (o : Option ℕ). IsSource d b (unwrap_or (option_map (λ m. at + 1 + m) o) found))
            (sym at_m.1) (inr (omega arith, inside at_m.0 at_m.2, named at_m.0 at_m.2 at_m.3))
      ])
]
  where
    in_journal : at < 4 + d.journal
    in_journal = header_in d at transaction (block_of d at) is

    count : length (targets_of (block_of d at)) ≡ count_of (block_of d at)
    count = count_targets d at transaction disk (omega (arith, disk.room, in_journal)) is

    named : (m : ℕ) → m < length (targets_of (block_of d at)) → get_or (targets_of (block_of d at)) m 0 ≡ b
        → IsCopyOf d b (at + 1 + m)
    named m less same =
        let few : count_of (block_of d at) ≤ 8 = header_few d at transaction (block_of d at) is in
        record {
          header = at;
          place = m;
          from = from;
          few = omega (arith, count, less, few);
          behind = refl;
          names = sym (target_byte d at m (omega (arith, count, less)) few) ∙ same;
        }

    inside : (m : ℕ) → m < length (targets_of (block_of d at)) → at + 1 + m < 4 + d.journal
    inside m less =
        let fits : at + count_of (block_of d at) ≤ 3 + d.journal = header_fits d at transaction (block_of d at) is in
        omega (arith, fits, count, less)

source_from : (most : ℕ) (d : Disk) (at transaction b found : ℕ) → IsDisk d → 4 ≤ at → IsSource d b found
    → IsSource d b (copy_after d b found (headers_from most d at transaction))
source_from zero d at transaction b found disk from was = was
source_from (suc most) d at transaction b found disk from was =
    elim (bool_is (is_header d at transaction (block_of d at))) [
      | inr none ↦ rw none was
      | inl is ↦
          let js : headers_from (suc most) d at transaction
          ≡ at ∷ headers_from most d (at + 1 + count_of (block_of d at)) (transaction + 1) = rw is refl in
          subst (λ (xs : List ℕ). IsSource d b (copy_after d b found xs)) (sym js)
          (source_from most d (at + 1 + count_of (block_of d at)) (transaction + 1) b
          (unwrap_or (copy_in (block_of d at) at b) found) disk (omega arith)
          (copied_source d at transaction b found disk from is was))
    ]

pub replayed_value : (f : Family) (low high block offset : ℕ) → InEach f (IsLike f.base) → block < f.base.blocks
    → offset < 128 → InEach f (λ d. HasValue low high (byte d block offset))
    → ((at : ℕ) → 4 ≤ at → at < 4 + f.base.journal
    → InEach f (λ d. IsCopyOf d block at → HasValue low high (byte d at offset)))
    → InEach f (λ d. HasValue low high (byte (image_after_replay d) block offset))
replayed_value f low high block offset like below within own copies set m =
    let d : Disk = image_of f.base f.patches set in
    let alike = like set m in
    let home : ℕ = copy_after d block block (headers d) in
    subst (λ (x : ℕ). HasValue low high x)
    (sym (replayed_byte d block home offset alike.disk (omega (arith, alike.blocks)) within refl))
    (elim (source_from d.journal d 4 1 block block alike.disk (omega arith) (inl refl)) [
      | inl same ↦ subst (λ (b : ℕ). HasValue low high (byte d b offset)) (sym same) (own set m)
      | inr there ↦ copies home there.0 (omega (arith, there.1, alike.journal)) set m there.2
    ])

pub in_first : (a b c e value : ℕ) → HasValue a b value → HasValue (bit_or a c) (bit_or b e) value
in_first a b c e value is = record {
  small = λ s. in_or_left a c value (is.small s);
  large = λ l. in_or_left b e _ (is.large l);
}

pub in_second : (a b c e value : ℕ) → HasValue c e value → HasValue (bit_or a c) (bit_or b e) value
in_second a b c e value is = record {
  small = λ s. in_or_right a c value (is.small s);
  large = λ l. in_or_right b e _ (is.large l);
}
