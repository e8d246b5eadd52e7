-- The places of the patches of a transaction.
use Rattle.std.proofs.Common.{◌≡◌, ◌≢◌, ℕ, suc, ◌+◌, ◌*◌, ◌<◌, ◌≤◌, ◌⊎◌, inl, inr, List, [], ◌∷◌, ◌++◌, length, take}
use Rattle.std.proofs.Common.{drop, min, arith, refl, sym, ap, subst}
use Rattle.std.proofs.lemmas.List.{length-append, length-map, length-take}
use Rattle.crash_model.specs.Disk.{Disk, block_of, with_bytes}
use Rattle.crash_model.specs.Patches.{Place, place}
use Rattle.crash_model.specs.Plan.{with_changes}
use Rattle.crash_model.specs.Trace.{touched_blocks}
use Rattle.crash_model.specs.declared.plans.Change.{Change}
use Rattle.full_journal_laws.proofs.Transactions.{ArePlaced, IsTurn, copy_places, change_places, turn_places}
use Rattle.full_journal_laws.proofs.Transactions.{log_places, IsLog}
use Rattle.journal_replay.proofs.Blocks.{IsShaped}
use Rattle.full_journal_laws.proofs.Images.{Avoid, with_places, shaped-all}
use Rattle.full_journal_laws.proofs.Targets.{avoid_journal}

pub length-copies : (after : Disk) (j : ℕ) (bs : List ℕ) → length (copy_places after j bs) ≡ length bs
length-copies after j [] = refl
length-copies after j (b ∷ bs) = ap suc (length-copies after (j + 1) bs)

pub length-turn : (after : Disk) (t j : ℕ) (targets : List ℕ) (cs : List Change)
    → length (turn_places after t j targets cs) ≡ length targets + 1 + length cs + 1
length-turn after t j targets cs =
    let commit : Place = place j 0 (0xC7 ∷ t ∷ length targets ∷ targets) in
    let done : Place = place j 0 (0xC8 ∷ []) in
    let e1 : length (copy_places after (j + 1) targets ++ (commit ∷ (change_places cs ++ (done ∷ []))))
    ≡ length (copy_places after (j + 1) targets) + length (commit ∷ (change_places cs ++ (done ∷ []))) =
    length-append (copy_places after (j + 1) targets) (commit ∷ (change_places cs ++ (done ∷ []))) in
    let e2 : length (change_places cs ++ (done ∷ [])) ≡ length (change_places cs) + length (done ∷ []) =
    length-append (change_places cs) (done ∷ []) in
    let e3 : length (copy_places after (j + 1) targets) ≡ length targets = length-copies after (j + 1) targets in
    let e4 : length (change_places cs) ≡ length cs = length-map cs
    (λ (c : Change). place c.block c.offset c.new.items) in
    omega arith

pub with_changes-all : (d : Disk) (cs : List Change) → with_changes d cs ≡ with_places d (change_places cs)
with_changes-all d [] = refl
with_changes-all d (c ∷ cs) = with_changes-all (with_bytes d c.block c.offset c.new.items) cs

pub shaped-with_changes : (n jl : ℕ) (d : Disk) (j : ℕ) (cs : List Change) → IsShaped n jl d → IsTurn n jl d j cs
    → IsShaped n jl (with_changes d cs)
shaped-with_changes n jl d j cs s turn = subst (IsShaped n jl) (sym (with_changes-all d cs))
    (shaped-all n jl d (change_places cs) s turn.placed)

placed-append : (n : ℕ) (xs ys : List Place) → ArePlaced n xs → ArePlaced n ys → ArePlaced n (xs ++ ys)
placed-append n [] ys p q = q
placed-append n (x ∷ xs) ys p q = (p.0, placed-append n xs ys p.1 q)

avoid-append : (x : ℕ) (xs ys : List Place) → Avoid x xs → Avoid x ys → Avoid x (xs ++ ys)
avoid-append x [] ys p q = q
avoid-append x (y ∷ xs) ys p q = (p.0, avoid-append x xs ys p.1 q)

pub row-fits : (d : Disk) (b : ℕ) → length (block_of d b) ≤ 128
row-fits d b = let e : length (take 128 (drop (128 * b) d.bytes)) ≡ min 128 (length (drop (128 * b) d.bytes)) =
    length-take 128 (drop (128 * b) d.bytes) in omega arith

pub placed-copies : (n : ℕ) (after : Disk) (j : ℕ) (bs : List ℕ) → j + length bs ≤ n
    → ArePlaced n (copy_places after j bs)
placed-copies n after j [] h = tt
placed-copies n after j (b ∷ bs) h = (
  record {
    inside =
        (let f : length (block_of after b) ≤ 128 = row-fits after b in omega arith);
    known = omega arith;
  },
  placed-copies n after (j + 1) bs (omega arith),
)

pub avoid-copies : (after : Disk) (j : ℕ) (bs : List ℕ) (x : ℕ) → (x < j) ⊎ (j + length bs ≤ x)
    → Avoid x (copy_places after j bs)
avoid-copies after j [] x h = tt
avoid-copies after j (b ∷ bs) x h = (
  grind arith,
  avoid-copies after (j + 1) bs x
      (elim h [ inl l ↦ inl (omega arith) | inr r ↦ inr (omega arith) ]),
)

-- the places of a transaction are inside the disk
pub placed-turn : (n jl : ℕ) (d after : Disk) (t j : ℕ) (cs : List Change) → 4 + jl ≤ n → IsTurn n jl d j cs
    → ArePlaced n (turn_places after t j (touched_blocks n cs) cs)
placed-turn n jl d after t j cs room turn =
    let fits : j + 1 + length (touched_blocks n cs) ≤ 4 + jl = turn.room in
    let few : length (touched_blocks n cs) ≤ 8 = turn.few in
    placed-append n (copy_places after (j + 1) (touched_blocks n cs))
    _ (placed-copies n after (j + 1) (touched_blocks n cs) (omega arith)) (
      record { inside = omega arith; known = omega arith },
      placed-append n (change_places cs) _ turn.placed (record { inside = omega arith; known = omega arith }, tt),
    )

-- and are not in other blocks of the journal than its own
pub avoid-turn : (after : Disk) (t j : ℕ) (targets : List ℕ) (cs : List Change) (x : ℕ) → (x < j)
    ⊎ (j + 1 + length targets ≤ x) → Avoid x (change_places cs) → Avoid x (turn_places after t j targets cs)
avoid-turn after t j targets cs x h changes =
    let apart : x ≢ j = grind arith in
    avoid-append x (copy_places after (j + 1) targets) _ (avoid-copies after (j + 1) targets x
    (elim h [ inl l ↦ inl (omega arith) | inr r ↦ inr (omega arith) ]))
    (apart, avoid-append x (change_places cs) _ changes (apart, tt))

pub placed-log : (n jl : ℕ) (d : Disk) (t j : ℕ) (ops : List (List Change)) → IsShaped n jl d → 4 + jl ≤ n → 4 ≤ j
    → IsLog n jl d j ops → ArePlaced n (log_places n d t j ops)
placed-log n jl d t j [] s room least log = tt
placed-log n jl d t j (cs ∷ ops) s room least log =
    placed-append n (turn_places (with_changes d cs) t j (touched_blocks n cs) cs)
    _ (placed-turn n jl d (with_changes d cs) t j cs room log.0)
    (placed-log n jl (with_changes d cs) (t + 1) (j + 1 + length (touched_blocks n cs)) ops
    (shaped-with_changes n jl d j cs s log.0) room (omega arith) log.1)

pub avoid-log : (n jl : ℕ) (d : Disk) (t j x : ℕ) (ops : List (List Change)) → IsShaped n jl d → IsLog n jl d j ops
    → 4 ≤ x → x < j → x < 4 + jl → Avoid x (log_places n d t j ops)
avoid-log n jl d t j x [] s log least below inside = tt
avoid-log n jl d t j x (cs ∷ ops) s log least below inside =
    avoid-append x (turn_places (with_changes d cs) t j (touched_blocks n cs) cs) _
    (avoid-turn (with_changes d cs) t j (touched_blocks n cs) cs x (inl below)
    (avoid_journal d jl cs x s.journal log.0.aimed least inside))
    (avoid-log n jl (with_changes d cs) (t + 1) (j + 1 + length (touched_blocks n cs)) x ops
    (shaped-with_changes n jl d j cs s log.0) log.1 least (omega arith) inside)
