-- What the patches of one transaction do to a disk.
use Rattle.std.proofs.Common.{◌≡◌, ◌≢◌, ℕ, zero, suc, ◌+◌, ◌<◌, ◌≤◌, ◌⊎◌, inl, inr, List, [], ◌∷◌, ◌++◌, length, take}
use Rattle.std.proofs.Common.{drop, get_or, Bool, true, false, cond, nat_lt, nat_le, ◌&&◌, ◌||◌, Option, None, arith}
use Rattle.std.proofs.Common.{tests, refl, sym, ◌∙◌, ap, subst}
use Rattle.std.specs.Prelude.{unwrap_or, option_map, ◌==◌}
use Rattle.std.specs.List.{list_all, position}
use Rattle.std.proofs.lemmas.List.{length-append, length-map, take_at}
use Rattle.crash_model.specs.Disk.{Disk, block_of, with_bytes, overwrite}
use Rattle.patch_sets.specs.Sets.{has}
use Rattle.crash_model.specs.Patches.{Place, place, image_from}
use Rattle.crash_model.specs.Plan.{with_changes}
use Rattle.crash_model.specs.Trace.{touched_blocks}
use Rattle.crash_model.specs.Replay.{is_header, copy_in, count_of, is_target, is_ascending}
use Rattle.crash_model.specs.declared.plans.Change.{Change}
use Rattle.full_journal_laws.proofs.Transactions.{IsPlaced, ArePlaced, IsTurn, IsTurnClosed, copy_places, change_places}
use Rattle.full_journal_laws.proofs.Transactions.{turn_places}
use Rattle.full_journal_laws.specs.Full.{IsOutside}
use Rattle.journal_replay.proofs.Blocks.{IsShaped, shaped-inside, length-block, overwrite-all, block-put_same}
use Rattle.journal_replay.proofs.Targets.{bool_is, found_or_not, outside_apart}
use Rattle.full_journal_laws.proofs.Images.{Avoid, with_places, image-append, image-none, image-all, shaped-with_bytes}
use Rattle.full_journal_laws.proofs.Images.{shaped-image, shaped-all, kept-with_bytes, kept-image, kept-all, same-all}
use Rattle.full_journal_laws.proofs.Targets.{touched_targets, touched_ascending, avoid_journal, avoid_untouched}
use Rattle.full_journal_laws.proofs.TurnPlaces.{length-copies, with_changes-all, shaped-with_changes, row-fits}
use Rattle.full_journal_laws.proofs.TurnPlaces.{placed-copies, avoid-copies, placed-turn, avoid-turn}

-- What the patches of a set, of one transaction, make of disk e, where d is the disk that the operation was planned on.
pub record IsTurned (n jl : ℕ) (d e f : Disk) (t j : ℕ) (cs : List Change) (committed done : Bool) : Type 0 where
  pub shaped : IsShaped n jl f
  -- of the journal, only the header and the copies change; the header only by the commit
  pub below : (x : ℕ) → 4 ≤ x → x < j → block_of f x ≡ block_of e x
  pub above : (x : ℕ) → j + 1 + length (touched_blocks n cs) ≤ x → x < 4 + jl → block_of f x ≡ block_of e x
  pub open_header : committed ≡ false → block_of f j ≡ block_of e j
  -- outside it nothing before the commit
  pub open_outside : committed ≡ false → (x : ℕ) → x < n → IsOutside jl x → block_of f x ≡ block_of e x
  -- the header, and where replay then looks for a block
  pub header : committed ≡ true → (g : Disk) → g.blocks ≡ n → g.journal ≡ jl → block_of g j ≡ block_of f j
      → (is_header g j t (block_of g j) ≡ true) × (count_of (block_of g j) ≡ length (touched_blocks n cs))
  pub found : committed ≡ true → (b cur : ℕ) → b < n → IsOutside jl b
      → (done ≡ true → cur ≡ b) → ((cur ≡ b) ⊎ ((4 ≤ cur) × (cur < j))) → block_of e cur ≡ block_of d b
      → let now = unwrap_or (copy_in (block_of f j) j b) cur in
      (done ≡ true → now ≡ b) × ((now ≡ b) ⊎ ((4 ≤ now) × (now < j + 1 + length (touched_blocks n cs))))
      × (block_of f now ≡ block_of (with_changes d cs) b)

-- ---- what a set has of a transaction

-- without the commit: some of the copies
turn_open : (id : ℕ) (e after : Disk) (t j : ℕ) (targets : List ℕ) (cs : List Change) (before done : Bool) (set : ℕ)
    → IsTurnClosed id (length targets) (length cs) before done set → has set (id + length targets) ≡ false
    → image_from id e (turn_places after t j targets cs) set ≡ image_from id e (copy_places after (j + 1) targets) set
turn_open id e after t j targets cs before done set closed none_yet =
    let commit : Place = place j 0 (0xC7 ∷ t ∷ length targets ∷ targets) in
    let last : Place = place j 0 (0xC8 ∷ []) in
    let rest : List Place = commit ∷ (change_places cs ++ (last ∷ [])) in
    let k : ℕ = length targets in
    let e1 : Disk = image_from id e (copy_places after (j + 1) targets) set in
    let long : length (copy_places after (j + 1) targets) ≡ k = length-copies after (j + 1) targets in
    let more : length (change_places cs) ≡ length cs = length-map cs
    (λ (c : Change). place c.block c.offset c.new.items) in
    let e2 : length (change_places cs ++ (last ∷ [])) ≡ length (change_places cs) + length (last ∷ []) =
    length-append (change_places cs) (last ∷ []) in
    image-append id e (copy_places after (j + 1) targets) rest set (id + k) (omega arith)
    ∙ image-none (id + k) e1 rest set (λ q from to. elim (bool_is (has set q)) [
      | inr f ↦ f
      | inl t ↦ elim (where_is q (id + k) (id + k + 1 + length cs) from (omega arith)) [
        | inl here ↦ let z : has set (id + k) ≡ true = subst (λ (m : ℕ). has set m ≡ true) here t in absurd (cc)
        | inr rest ↦ elim rest [
          | inl mid ↦ let z : has set (id + k) ≡ true = closed.after_commit q mid.0 mid.1 t in absurd (cc)
          | inr end ↦ let z : has set (id + k) ≡ true = closed.done_last (subst (λ (m : ℕ). has set m ≡ true) end t)
              (id + k) (omega arith) (omega arith) in absurd (cc)
        ]
      ]
    ])
  where
    where_is : (q a b : ℕ) → a ≤ q → q < b + 1 → (q ≡ a) ⊎ (((a < q) × (q < b)) ⊎ (q ≡ b))
    where_is q a b from to = grind arith

-- with the commit: all copies, the commit, some of the changes, and perhaps the done
turn_held : (id : ℕ) (e after : Disk) (t j : ℕ) (targets : List ℕ) (cs : List Change) (before done : Bool) (set : ℕ)
    → IsTurnClosed id (length targets) (length cs) before done set → has set (id + length targets) ≡ true
    → let e2 = with_bytes (with_places e (copy_places after (j + 1) targets)) j 0
    (0xC7 ∷ t ∷ length targets ∷ targets) in
    let e3 = image_from (id + length targets + 1) e2 (change_places cs) set in
    image_from id e (turn_places after t j targets cs) set ≡ cond (has set (id + length targets + 1 + length cs))
    (with_bytes e3 j 0 (0xC8 ∷ [])) e3
turn_held id e after t j targets cs before done set closed held =
    let commit : Place = place j 0 (0xC7 ∷ t ∷ length targets ∷ targets) in
    let last : Place = place j 0 (0xC8 ∷ []) in
    let rest : List Place = change_places cs ++ (last ∷ []) in
    let k : ℕ = length targets in
    let e1 : Disk = with_places e (copy_places after (j + 1) targets) in
    let e2 : Disk = with_bytes e1 j 0 (0xC7 ∷ t ∷ length targets ∷ targets) in
    let long : length (copy_places after (j + 1) targets) ≡ k = length-copies after (j + 1) targets in
    let more : length (change_places cs) ≡ length cs = length-map cs
    (λ (c : Change). place c.block c.offset c.new.items) in
    let all : image_from id e (copy_places after (j + 1) targets) set ≡ e1 =
    image-all id e (copy_places after (j + 1) targets) set (λ q from to. closed.copied held q from (omega arith)) in
    image-append id e (copy_places after (j + 1) targets) (commit ∷ rest) set (id + k) (omega arith)
    ∙ ap (λ (g : Disk). image_from (id + k) g (commit ∷ rest) set) all
    ∙ ap (λ (b : Bool). image_from (id + k + 1) (cond b e2 e1) rest set) held
    ∙ image-append (id + k + 1) e2 (change_places cs) (last ∷ []) set (id + k + 1 + length cs) (omega arith)

-- ---- the copies

over-start : (xs new : List ℕ) → overwrite xs 0 new ≡ new ++ drop (length new) xs
unfolding overwrite
over-start xs new = let e : 0 + length new ≡ length new = omega arith in ap (λ (m : ℕ). new ++ drop m xs) e

pub all_at : (p : ℕ → Bool) (xs : List ℕ) (m : ℕ) → list_all p xs ≡ true → m < length xs → p (get_or xs m 0) ≡ true
all_at p [] m h less = absurd (omega arith)
all_at p (x ∷ xs) zero h less = elim (bool_is (p x)) [
  | inl t ↦ t
  | inr f ↦ (let z : false ≡ true = rw f at h in absurd (cc))
]
all_at p (x ∷ xs) (suc m) h less = elim (bool_is (p x)) [
  | inl t ↦ all_at p xs m (rw t at h) (omega arith)
  | inr f ↦ (let z : false ≡ true = rw f at h in absurd (cc))
]

copies-at : (n jl : ℕ) (e after : Disk) (j : ℕ) (bs : List ℕ) (m : ℕ) → IsShaped n jl e → IsShaped n jl after
    → j + length bs ≤ n → m < length bs
    → ((i : ℕ) → i < length bs → get_or bs i 0 < n) → block_of (with_places e (copy_places after j bs)) (j + m)
    ≡ block_of after (get_or bs m 0)
copies-at n jl e after j [] m r s fits less known = absurd (omega arith)
copies-at n jl e after j (b ∷ bs) zero r s fits less known =
    let in_b : b < n = known 0 (omega arith) in
    let in_j : j < n = omega arith in
    let p : Place = place j 0 (block_of after b) in
    let long : length (block_of after b) ≡ 128 = length-block after b (shaped-inside n jl after b s in_b) in
    let old : length (block_of e j) ≡ 128 = length-block e j (shaped-inside n jl e j r in_j) in
    let ok : IsPlaced n p = record { inside = omega arith; known = in_j } in
    subst (λ (x : ℕ). block_of (with_places (with_bytes e j 0 (block_of after b)) (copy_places after (j + 1) bs)) x
    ≡ block_of after b) (omega arith)
    (kept-all n jl (with_bytes e j 0 (block_of after b)) (copy_places after (j + 1) bs) j
    (shaped-with_bytes n jl e p r ok) (placed-copies n after (j + 1) bs (omega arith)) in_j
    (avoid-copies after (j + 1) bs j (inl (omega arith)))
    ∙ block-put_same e j 0 (block_of after b) (omega arith) (shaped-inside n jl e j r in_j)
    ∙ overwrite-all (block_of e j) (block_of after b) (omega arith))
copies-at n jl e after j (b ∷ bs) (suc m) r s fits less known =
    let in_j : j < n = omega arith in
    let p : Place = place j 0 (block_of after b) in
    let ok : IsPlaced n p = record {
      inside = (let f : length (block_of after b) ≤ 128 = row-fits after b in
          omega arith);
      known = in_j;
    } in
    subst (λ (x : ℕ). block_of (with_places (with_bytes e j 0 (block_of after b)) (copy_places after (j + 1) bs)) x
    ≡ block_of after (get_or bs m 0)) (omega arith)
    (copies-at n jl (with_bytes e j 0 (block_of after b)) after (j + 1) bs m (shaped-with_bytes n jl e p r ok) s
    (omega arith) (omega arith) (λ i h. known (suc i) (omega arith)))

-- ---- the header

-- a header's bytes
pub record HasRow (mark t : ℕ) (targets row : List ℕ) : Type 0 where
  pub rest : List ℕ
  pub is : row ≡ mark ∷ t ∷ length targets ∷ (targets ++ rest)

abbrev mark_of : Bool → ℕ
mark_of done = cond done 0xC8 0xC7

aim : ℕ → ℕ → ℕ → Bool
aim bl jn b = (nat_le 1 b && nat_le b 3) || (nat_le (4 + jn) b && nat_lt b bl)

same_targets : (g d : Disk) (xs : List ℕ) → g.blocks ≡ d.blocks → g.journal ≡ d.journal
    → list_all (is_target g) xs ≡ list_all (is_target d) xs
unfolding aim
same_targets g d xs p q = ap (λ (m : ℕ). list_all (aim m g.journal) xs) p
    ∙ ap (λ (m : ℕ). list_all (aim d.blocks m) xs) q

good_row : (g : Disk) (j t : ℕ) (done : Bool) (targets rest : List ℕ) → 1 ≤ length targets → length targets ≤ 8
    → j + 1 + length targets ≤ 4 + g.journal
    → is_ascending targets ≡ true → list_all (is_target g) targets ≡ true
    → is_header g j t (mark_of done ∷ t ∷ length targets ∷ (targets ++ rest)) ≡ true
good_row g j t done targets rest some few fits up aimed =
    let b1 : nat_lt j (4 + g.journal) ≡ true = grind (arith, tests) in
    let b3 : (t == t) ≡ true = grind (arith, tests) in
    let b4 : nat_le 1 (length targets) ≡ true = grind (arith, tests) in
    let b5 : nat_le (length targets) 8 ≡ true = grind (arith, tests) in
    let b6 : nat_le (j + length targets) (3 + g.journal) ≡ true = grind (arith, tests) in
    let e : take (length targets) (targets ++ rest) ≡ targets = take_at targets rest (length targets) refl in
    go done b1 b3 b4 b5 b6 e
  where
    go : (dn : Bool) → nat_lt j (4 + g.journal) ≡ true → (t == t) ≡ true → nat_le 1 (length targets) ≡ true
        → nat_le (length targets) 8 ≡ true → nat_le (j + length targets) (3 + g.journal) ≡ true
        → take (length targets) (targets ++ rest) ≡ targets
        → is_header g j t (mark_of dn ∷ t ∷ length targets ∷ (targets ++ rest)) ≡ true
    go true b1 b3 b4 b5 b6 e = rw (b1, b3, b4, b5, b6, e) (rw (up, aimed) refl)
    go false b1 b3 b4 b5 b6 e = rw (b1, b3, b4, b5, b6, e) (rw (up, aimed) refl)

copy_done : (t j b : ℕ) (targets row : List ℕ) → HasRow 0xC8 t targets row → copy_in row j b ≡ None
copy_done t j b targets row h = ap (λ (r : List ℕ). copy_in r j b) h.is

copy_held : (t j b : ℕ) (targets row : List ℕ) → HasRow 0xC7 t targets row
    → copy_in row j b ≡ option_map (λ m. j + 1 + m) (position (λ x. x == b) targets)
copy_held t j b targets row h =
    ap (λ (r : List ℕ). copy_in r j b) h.is
    ∙ ap (λ (xs : List ℕ). option_map (λ m. j + 1 + m) (position (λ x. x == b) xs))
    (take_at targets h.rest (length targets) refl)

row_after : (dn : Bool) (n jl t j : ℕ) (targets : List ℕ) (e3 : Disk) → IsShaped n jl e3 → j < n
    → HasRow 0xC7 t targets (block_of e3 j)
    → HasRow (mark_of dn) t targets (block_of (cond dn (with_bytes e3 j 0 (0xC8 ∷ [])) e3) j)
row_after false n jl t j targets e3 s below h = h
row_after true n jl t j targets e3 s below h = record {
  rest = h.rest;
  is = block-put_same e3 j 0 (0xC8 ∷ []) (omega arith) (shaped-inside n jl e3 j s below)
      ∙ over-start (block_of e3 j) (0xC8 ∷ [])
      ∙ ap (λ (row : List ℕ). 0xC8 ∷ drop 1 row) h.is;
}

shaped_after : (dn : Bool) (n jl j : ℕ) (e3 : Disk) → IsShaped n jl e3 → j < n
    → IsShaped n jl (cond dn (with_bytes e3 j 0 (0xC8 ∷ [])) e3)
shaped_after false n jl j e3 s below = s
shaped_after true n jl j e3 s below = shaped-with_bytes n jl e3 (place j 0 (0xC8 ∷ [])) s
    (record { inside = omega arith; known = below })

block_after : (dn : Bool) (n jl j x : ℕ) (e3 : Disk) → IsShaped n jl e3 → j < n → x < n → x ≢ j
    → block_of (cond dn (with_bytes e3 j 0 (0xC8 ∷ [])) e3) x ≡ block_of e3 x
block_after false n jl j x e3 s below h other = refl
block_after true n jl j x e3 s below h other = kept-with_bytes n jl e3 (place j 0 (0xC8 ∷ [])) x s
    (record { inside = omega arith; known = below }) h other

-- the stages of a transaction whose commit is held, all within the disk
pub record IsStaged (n jl : ℕ) (e d' : Disk) (t j : ℕ) (cs : List Change) (e1 e2 e3 : Disk) : Type 0 where
  pub first : IsShaped n jl e1
  pub second : IsShaped n jl e2
  pub third : IsShaped n jl e3
  -- e1 has the copies; e2 also the header; e3 has put changes, none of them in the journal
  pub copied : (m : ℕ) → m < length (touched_blocks n cs)
      → block_of e1 (j + 1 + m) ≡ block_of d' (get_or (touched_blocks n cs) m 0)
  pub kept_one : (x : ℕ) → x < n → (x < j) ⊎ (j + 1 + length (touched_blocks n cs) ≤ x) → block_of e2 x ≡ block_of e x
  pub kept_two : (x : ℕ) → x < n → x ≢ j → block_of e2 x ≡ block_of e1 x
  pub kept_three : (x : ℕ) → x < n → Avoid x (change_places cs) → block_of e3 x ≡ block_of e2 x
  pub row : HasRow 0xC7 t (touched_blocks n cs) (block_of e2 j)

staged : (n jl : ℕ) (d e : Disk) (id t j : ℕ) (cs : List Change) (set : ℕ)
    → IsShaped n jl d → IsShaped n jl e → 4 + jl ≤ n → 4 ≤ j → IsTurn n jl d j cs
    → let e1 = with_places e (copy_places (with_changes d cs) (j + 1) (touched_blocks n cs)) in
    let e2 = with_bytes e1 j 0 (0xC7 ∷ t ∷ length (touched_blocks n cs) ∷ touched_blocks n cs) in
    IsStaged n jl e (with_changes d cs) t j cs e1 e2 (image_from (id + length (touched_blocks n cs) + 1) e2
    (change_places cs) set)
staged n jl d e id t j cs set s r room least turn =
    let k : ℕ = length (touched_blocks n cs) in
    let d' : Disk = with_changes d cs in
    let s' : IsShaped n jl d' = shaped-with_changes n jl d j cs s turn in
    let fits : j + 1 + k ≤ 4 + jl = turn.room in
    let few : k ≤ 8 = turn.few in
    let copies : List Place = copy_places d' (j + 1) (touched_blocks n cs) in
    let placed : ArePlaced n copies = placed-copies n d' (j + 1) (touched_blocks n cs) (omega arith) in
    let e1 : Disk = with_places e copies in
    let commit : Place = place j 0 (0xC7 ∷ t ∷ k ∷ touched_blocks n cs) in
    let ok : IsPlaced n commit = record { inside = omega arith; known = omega arith } in
    let e2 : Disk = with_bytes e1 j 0 (0xC7 ∷ t ∷ k ∷ touched_blocks n cs) in
    let s1 : IsShaped n jl e1 = shaped-all n jl e copies r placed in
    let s2 : IsShaped n jl e2 = shaped-with_bytes n jl e1 commit s1 ok in
    let dn : d.blocks ≡ n = s.blocks in
    record {
      first = s1;
      second = s2;
      third = shaped-image n jl (id + k + 1) e2 (change_places cs) set s2 turn.placed;
      copied = λ m less. copies-at n jl e d' (j + 1) (touched_blocks n cs) m r s' (omega arith) less
          (λ i h. let t : is_target d (get_or (touched_blocks n cs) i 0) ≡ true =
          all_at (is_target d) (touched_blocks n cs) i (touched_targets d n cs turn.aimed) h in
          known d (get_or (touched_blocks n cs) i 0) n dn (omega arith) t);
      kept_one = λ x below h. kept-with_bytes n jl e1 commit x s1 ok below
          (elim h [ inl l ↦ grind arith | inr g ↦ grind arith ])
          ∙ kept-all n jl e copies x r placed below (avoid-copies d' (j + 1) (touched_blocks n cs) x
          (elim h [ inl l ↦ inl (omega arith) | inr g ↦ inr (omega arith) ]));
      kept_two = λ x below other. kept-with_bytes n jl e1 commit x s1 ok below other;
      kept_three = λ x below avoid. kept-image n jl (id + k + 1) e2 (change_places cs) set x s2 turn.placed below avoid;
      row = record {
        rest = drop (length (0xC7 ∷ t ∷ k ∷ touched_blocks n cs)) (block_of e1 j);
        is = block-put_same e1 j 0 (0xC7 ∷ t ∷ k ∷ touched_blocks n cs) (omega arith)
            (shaped-inside n jl e1 j s1 (omega arith))
            ∙ over-start (block_of e1 j) (0xC7 ∷ t ∷ k ∷ touched_blocks n cs);
      };
    }
  where
    known : (d : Disk) (b n : ℕ) → d.blocks ≡ n → 4 ≤ n → is_target d b ≡ true → b < n
    known d b n e least h = grind (arith, tests)

-- where replay looks for block b after the transaction, and that it finds it there
abbrev pub IsFoundAt : Disk → Disk → ℕ → Bool → ℕ → ℕ → Type 0
IsFoundAt f d' next done b now = (done ≡ true → now ≡ b) × ((now ≡ b) ⊎ ((4 ≤ now) × (now < next)))
    × (block_of f now ≡ block_of d' b)

-- settled: the block itself
found_done : (n jl : ℕ) (d e : Disk) (id t j : ℕ) (cs : List Change) (set b cur : ℕ) (e1 e2 e3 : Disk)
    → IsShaped n jl d → IsTurn n jl d j cs → 4 + jl ≤ n → 4 ≤ j
    → IsStaged n jl e (with_changes d cs) t j cs e1 e2 e3 → e3 ≡ with_places e2 (change_places cs)
    → b < n → IsOutside jl b → cur ≡ b → block_of e cur ≡ block_of d b
    → IsFoundAt (with_bytes e3 j 0 (0xC8 ∷ [])) (with_changes d cs) (j + 1 + length (touched_blocks n cs)) true b
    (unwrap_or (copy_in (block_of (with_bytes e3 j 0 (0xC8 ∷ [])) j) j b) cur)
found_done n jl d e id t j cs set b cur e1 e2 e3 s turn room least stage all below out is same =
    let k : ℕ = length (touched_blocks n cs) in
    let fits : j + 1 + k ≤ 4 + jl = turn.room in
    let f : Disk = with_bytes e3 j 0 (0xC8 ∷ []) in
    let row : HasRow 0xC8 t (touched_blocks n cs) (block_of f j) = row_after true n jl t j (touched_blocks n cs) e3
    stage.third (omega arith)
    (record {
      rest = stage.row.rest;
      is = stage.kept_three j (omega arith)
          (avoid_journal d jl cs j s.journal turn.aimed least (omega arith)) ∙ stage.row.is;
    }) in
    let none : copy_in (block_of f j) j b ≡ None = copy_done t j b (touched_blocks n cs) (block_of f j) row in
    let now : unwrap_or (copy_in (block_of f j) j b) cur ≡ b = ap (λ (o : Option ℕ). unwrap_or o cur) none ∙ is in
    let apart : b ≢ j = outside_apart jl b j out least (omega arith) in
    let far : (b < j) ⊎ (j + 1 + k ≤ b) = elim out [ inl l ↦ inl (omega arith) | inr r ↦ inr (omega arith) ] in
    let before : block_of e2 b ≡ block_of d b = stage.kept_one b below far
    ∙ subst (λ (x : ℕ). block_of e x ≡ block_of d b) is same in
    let here : block_of f b ≡ block_of (with_changes d cs) b =
    block_after true n jl j b e3 stage.third (omega arith) below apart
    ∙ ap (λ (g : Disk). block_of g b) all
    ∙ same-all n jl d e2 (change_places cs) b s stage.second turn.placed below before
    ∙ ap (λ (g : Disk). block_of g b) (sym (with_changes-all d cs)) in
    subst (λ (x : ℕ). IsFoundAt f (with_changes d cs) (j + 1 + k) true b x) (sym now) ((λ h. refl), inl refl, here)

-- not settled: the copy, or where it was before
found_open : (n jl : ℕ) (d e : Disk) (id t j : ℕ) (cs : List Change) (set b cur : ℕ) (e1 e2 e3 : Disk)
    → IsShaped n jl d → IsShaped n jl e → IsTurn n jl d j cs → 4 + jl ≤ n → 4 ≤ j
    → IsStaged n jl e (with_changes d cs) t j cs e1 e2 e3
    → b < n → IsOutside jl b → ((cur ≡ b) ⊎ ((4 ≤ cur) × (cur < j))) → block_of e cur ≡ block_of d b
    → IsFoundAt e3 (with_changes d cs) (j + 1 + length (touched_blocks n cs)) false b
    (unwrap_or (copy_in (block_of e3 j) j b) cur)
found_open n jl d e id t j cs set b cur e1 e2 e3 s r turn room least stage below out source same =
    let k : ℕ = length (touched_blocks n cs) in
    let fits : j + 1 + k ≤ 4 + jl = turn.room in
    let row : HasRow 0xC7 t (touched_blocks n cs) (block_of e3 j) =
    record {
      rest = stage.row.rest;
      is = stage.kept_three j (omega arith)
          (avoid_journal d jl cs j s.journal turn.aimed least (omega arith)) ∙ stage.row.is;
    } in
    let where_it_is : copy_in (block_of e3 j) j b ≡ option_map (λ m. j + 1 + m)
    (position (λ x. x == b) (touched_blocks n cs)) = copy_held t j b (touched_blocks n cs) (block_of e3 j) row in
    elim (found_or_not b (touched_blocks n cs)) [
      | inl at ↦
          let m : ℕ = at.0 in
          let less : m < k = at.2 in
          let now : unwrap_or (copy_in (block_of e3 j) j b) cur ≡ j + 1 + m =
          ap (λ (o : Option ℕ). unwrap_or o cur) (where_it_is
          ∙ ap (λ (o : Option ℕ). option_map (λ m. j + 1 + m) o) at.1) in
          let apart : j + 1 + m ≢ j = grind arith in
          let here : block_of e3 (j + 1 + m) ≡ block_of (with_changes d cs) b =
          stage.kept_three (j + 1 + m) (omega arith) (avoid_journal d jl cs (j + 1 + m) s.journal turn.aimed
          (omega arith) (omega arith))
          ∙ stage.kept_two (j + 1 + m) (omega arith) apart
          ∙ stage.copied m less
          ∙ ap (λ (x : ℕ). block_of (with_changes d cs) x) at.3 in
          subst (λ (x : ℕ). IsFoundAt e3 (with_changes d cs) (j + 1 + k) false b x) (sym now)
          ((λ h. absurd (cc)), inr (omega arith, omega arith), here)
      | inr none ↦
          let now : unwrap_or (copy_in (block_of e3 j) j b) cur ≡ cur =
          ap (λ (o : Option ℕ). unwrap_or o cur) (where_it_is
          ∙ ap (λ (o : Option ℕ). option_map (λ m. j + 1 + m) o) none.0) in
          let avoid : Avoid b (change_places cs) = avoid_untouched n cs b below none.1 in
          let after : block_of (with_changes d cs) b ≡ block_of d b =
          ap (λ (g : Disk). block_of g b) (with_changes-all d cs)
          ∙ kept-all n jl d (change_places cs) b s turn.placed below avoid in
          let here : block_of e3 cur ≡ block_of e cur = elim source [
            | inl is ↦ subst (λ (x : ℕ). block_of e3 x ≡ block_of e x) (sym is)
                (stage.kept_three b below avoid ∙ stage.kept_one b below
                (elim out [ inl l ↦ inl (omega arith) | inr g ↦ inr (omega arith) ]))
            | inr old ↦ let low : cur < j = old.1 in let from : 4 ≤ cur = old.0 in
                stage.kept_three cur (omega arith) (avoid_journal d jl cs cur s.journal turn.aimed from (omega arith))
                ∙ stage.kept_one cur (omega arith) (inl low)
          ] in
          subst (λ (x : ℕ). IsFoundAt e3 (with_changes d cs) (j + 1 + k) false b x) (sym now) (
            (λ h. absurd (cc)),
            elim source [
              | inl is ↦ inl is
              | inr old ↦ inr (old.0, (let low : cur < j = old.1 in omega arith))
            ],
            here ∙ same ∙ sym after,
          )
    ]

pub turned : (n jl : ℕ) (d e : Disk) (id t j : ℕ) (cs : List Change) (before done : Bool) (set : ℕ)
    → IsShaped n jl d → IsShaped n jl e → 4 + jl ≤ n → 4 ≤ j → IsTurn n jl d j cs
    → IsTurnClosed id (length (touched_blocks n cs)) (length cs) before done set
    → IsTurned n jl d e (image_from id e (turn_places (with_changes d cs) t j (touched_blocks n cs) cs) set) t j cs
    (has set (id + length (touched_blocks n cs))) (has set (id + length (touched_blocks n cs) + 1 + length cs))
turned n jl d e id t j cs before done set s r room least turn closed =
    let k : ℕ = length (touched_blocks n cs) in
    let d' : Disk = with_changes d cs in
    let fits : j + 1 + k ≤ 4 + jl = turn.room in
    let ps : List Place = turn_places d' t j (touched_blocks n cs) cs in
    let f : Disk = image_from id e ps set in
    let placed : ArePlaced n ps = placed-turn n jl d d' t j cs room turn in
    let copies : List Place = copy_places d' (j + 1) (touched_blocks n cs) in
    let placed_copies : ArePlaced n copies = placed-copies n d' (j + 1) (touched_blocks n cs) (omega arith) in
    let e1 : Disk = with_places e copies in
    let e2 : Disk = with_bytes e1 j 0 (0xC7 ∷ t ∷ k ∷ touched_blocks n cs) in
    let e3 : Disk = image_from (id + k + 1) e2 (change_places cs) set in
    let stage : IsStaged n jl e d' t j cs e1 e2 e3 = staged n jl d e id t j cs set s r room least turn in
    let dn : d.blocks ≡ n = s.blocks in
    let dj : d.journal ≡ jl = s.journal in
    record {
      shaped = shaped-image n jl id e ps set r placed;
      below = λ x from to. kept-image n jl id e ps set x r placed (omega arith)
          (avoid-turn d' t j (touched_blocks n cs) cs x (inl to)
          (avoid_journal d jl cs x dj turn.aimed from (omega arith)));
      above = λ x from to. kept-image n jl id e ps set x r placed (omega arith)
          (avoid-turn d' t j (touched_blocks n cs) cs x (inr from)
          (avoid_journal d jl cs x dj turn.aimed (omega arith) to));
      open_header = λ unheld. ap (λ (g : Disk). block_of g j)
          (turn_open id e d' t j (touched_blocks n cs) cs before done set closed unheld)
          ∙ kept-image n jl id e copies set j r placed_copies (omega arith)
          (avoid-copies d' (j + 1) (touched_blocks n cs) j (inl (omega arith)));
      open_outside = λ unheld x less out. ap (λ (g : Disk). block_of g x)
          (turn_open id e d' t j (touched_blocks n cs) cs before done set closed unheld)
          ∙ kept-image n jl id e copies set x r placed_copies less
          (avoid-copies d' (j + 1) (touched_blocks n cs) x
          (elim out [ inl l ↦ inl (omega arith) | inr g ↦ inr (omega arith) ]));
      header = λ held g gb gj at_j.
          let row : HasRow (mark_of (has set (id + k + 1 + length cs))) t (touched_blocks n cs) (block_of f j) =
          subst (λ (h : Disk). HasRow (mark_of (has set (id + k + 1 + length cs))) t (touched_blocks n cs)
          (block_of h j)) (sym (turn_held id e d' t j (touched_blocks n cs) cs before done set closed held))
          (row_after (has set (id + k + 1 + length cs)) n jl t j (touched_blocks n cs) e3 stage.third (omega arith)
          (record {
            rest = stage.row.rest;
            is = stage.kept_three j (omega arith)
                (avoid_journal d jl cs j dj turn.aimed least (omega arith)) ∙ stage.row.is;
          })) in
          let what : block_of g j ≡ mark_of (has set (id + k + 1 + length cs)) ∷ t ∷ k
          ∷ (touched_blocks n cs ++ row.rest) = at_j ∙ row.is in
          let aimed : list_all (is_target g) (touched_blocks n cs) ≡ true =
          same_targets g d (touched_blocks n cs) (gb ∙ sym dn) (gj ∙ sym dj) ∙ touched_targets d n cs turn.aimed in (
            ap (λ (row : List ℕ). is_header g j t row) what
                ∙ good_row g j t (has set (id + k + 1 + length cs)) (touched_blocks n cs) row.rest turn.some turn.few
                (subst (λ (m : ℕ). j + 1 + k ≤ 4 + m) (sym gj) fits) (touched_ascending n cs) aimed,
            ap (λ (row : List ℕ). count_of row) what,
          );
      found = λ held b cur less out settled source same.
          subst (λ (g : Disk). IsFoundAt g d' (j + 1 + k) (has set (id + k + 1 + length cs)) b
          (unwrap_or (copy_in (block_of g j) j b) cur)) (sym
          (turn_held id e d' t j (touched_blocks n cs) cs before done set closed held))
          (by_done (has set (id + k + 1 + length cs)) n jl d e id t j cs set b cur e1 e2 e3 s r turn room least stage
          (λ all. image-all (id + k + 1) e2 (change_places cs) set
          (λ q from to. closed.done_last all q (omega arith)
          (let more : length (change_places cs) ≡ length cs =
          length-map cs (λ (c : Change). place c.block c.offset c.new.items) in omega arith)))
          less out settled source same);
    }
  where
    by_done : (dn : Bool) (n jl : ℕ) (d e : Disk) (id t j : ℕ) (cs : List Change) (set b cur : ℕ) (e1 e2 e3 : Disk)
        → IsShaped n jl d → IsShaped n jl e → IsTurn n jl d j cs → 4 + jl ≤ n → 4 ≤ j
        → IsStaged n jl e (with_changes d cs) t j cs e1 e2 e3 → (dn ≡ true → e3 ≡ with_places e2 (change_places cs))
        → b < n → IsOutside jl b → (dn ≡ true → cur ≡ b) → ((cur ≡ b) ⊎ ((4 ≤ cur) × (cur < j)))
        → block_of e cur ≡ block_of d b
        → let g = cond dn (with_bytes e3 j 0 (0xC8 ∷ [])) e3 in
        IsFoundAt g (with_changes d cs) (j + 1 + length (touched_blocks n cs)) dn b
        (unwrap_or (copy_in (block_of g j) j b) cur)
    by_done true n jl d e id t j cs set b cur e1 e2 e3 s r turn room least stage all less out settled source same =
        found_done n jl d e id t j cs set b cur e1 e2 e3 s turn room least stage (all refl) less out (settled refl) same
    by_done false n jl d e id t j cs set b cur e1 e2 e3 s r turn room least stage all less out settled source same =
        found_open n jl d e id t j cs set b cur e1 e2 e3 s r turn room least stage less out source same
