-- The writes of a set in two parts, one before the other.
use Rattle.std.proofs.Common.{◌≡◌, ◌≢◌, ℕ, ◌<◌, ◌≤◌, List, [], ◌∷◌, ◌++◌, length, arith, refl, sym, subst, ap, ap₂, ◌∙◌}
use Rattle.std.proofs.Common.{inl, inr}
use Rattle.std.specs.Prelude.{slice_index}
use Rattle.std.specs.List.{AllPairs, Contains}
use Rattle.std.proofs.lemmas.List.Concat.{flat_map-append}
use Rattle.std.proofs.lemmas.List.Elements.{Contains-append_cases, Contains-append_right}
use Rattle.patch_sets.specs.Sets.{Has, has, ids_of}
use Rattle.patch_sets.specs.Ends.{IsLowest}
use Rattle.patch_sets.specs.Writes.{AreRuns}
use Rattle.patch_sets.specs.declared.write.BlockWrite.{BlockWrite}
use Rattle.patch_sets.proofs.Ids.{from_ids_of, to_ids_of, ids_ascend}
use Rattle.patch_sets.proofs.Lists.{in_front, front_or_rest, front_before, across}
use Rattle.patch_sets.proofs.Writes.{AreCut, ids_carried, carried_push, cut_from_runs, runs_from_cut, some_id, own_last}
use Rattle.patch_sets.proofs.Writes.{block_of_first}

module _ (homes : List ℕ) where
  -- writes after writes, of another block than the last of them
  cut_append : (ws vs : List BlockWrite) → AreCut homes ws → AreCut homes vs
      → ((front back : List BlockWrite) (last first : BlockWrite) → ws ≡ front ++ last ∷ [] → vs ≡ first ∷ back
      → last.block ≢ first.block) → AreCut homes (ws ++ vs)
  cut_append [] vs cut more other = more
  cut_append (w ∷ []) [] cut more other = (cut.0, tt, tt)
  cut_append (w ∷ []) (v ∷ vs) cut more other = (cut.0, other [] vs w v refl refl, more)
  cut_append (w ∷ u ∷ us) vs cut more other = (
    cut.0,
    cut.1,
    cut_append (u ∷ us) vs cut.2 more (λ front back last first e f. other (w ∷ front) back last first
        (ap (λ xs. w ∷ xs) e) f),
  )

  -- the ids of the part from one on are of a block, and the rest begins with an id of another
  module _ (set part rest last block : ℕ) (whole : ids_of (length homes) set ≡ ids_of (length homes) part
      ++ ids_of (length homes) rest)
      (inside : Has part last) (known : last < length homes)
      (ends : (id : ℕ) → Has part id → last ≤ id → slice_index homes id ≡ block)
      (below : (id : ℕ) → Has rest id → id < length homes)
      (begins : (id : ℕ) → IsLowest rest id → slice_index homes id ≢ block) where
    last_block : (front : List BlockWrite) (w : BlockWrite) → AreCut homes (front ++ w ∷ [])
        → ids_carried homes (front ++ w ∷ []) ≡ ids_of (length homes) part → w.block ≡ block
    last_block front w cut in_order =
        let own = own_last homes front w cut in
        let it = some_id (length homes) w.ids (λ id is. (own.own id is).0) own.some in
        let here : Contains (ids_of (length homes) w.ids) it.0 =
        subst (λ xs. Contains xs it.0) (sym it.2) (in_front it.0 it.1) in
        let split : ids_of (length homes) part ≡ ids_carried homes front ++ ids_of (length homes) w.ids = sym in_order
        ∙ carried_push homes front w in
        elim (Contains-append_cases (ids_carried homes front) (ids_of (length homes) w.ids) last
        (subst (λ xs. Contains xs last) split (to_ids_of (length homes) part last known inside))) [
          | inl early ↦
              let later : last < it.0 = across (λ x y. x < y) (ids_carried homes front) (ids_of (length homes) w.ids)
              (subst (AllPairs (λ x y. x < y)) split (ids_ascend (length homes) (has part))) last it.0 early here in
              let member = from_ids_of (length homes) part it.0
              (subst (λ xs. Contains xs it.0) (sym split) (Contains-append_right (ids_carried homes front)
              (ids_of (length homes) w.ids) it.0 here)) in
              sym (block_of_first homes w it.0 it.1 own it.2) ∙ ends it.0 member.1 (omega (arith, later))
          | inr late ↦ sym (own.own last (from_ids_of (length homes) w.ids last late).1).1
              ∙ ends last inside (omega arith)
        ]

    first_block : (v : BlockWrite) (back : List BlockWrite) → AreCut homes (v ∷ back)
        → ids_carried homes (v ∷ back) ≡ ids_of (length homes) rest → v.block ≢ block
    first_block v back cut in_order e =
        let it = some_id (length homes) v.ids (λ id is. (cut.0.own id is).0) cut.0.some in
        let behind = it.1 ++ ids_carried homes back in
        let starts : ids_of (length homes) rest ≡ it.0 ∷ behind = sym in_order
        ∙ ap (λ xs. xs ++ ids_carried homes back) it.2 in
        let lowest : IsLowest rest it.0 = record {
          inside = (from_ids_of (length homes) rest it.0 (subst (λ xs. Contains xs it.0) (sym starts)
              (in_front it.0 behind))).1;
          least = λ other is. elim (front_or_rest it.0 behind other
              (subst (λ xs. Contains xs other) starts (to_ids_of (length homes) rest other (below other is) is))) [
                | inl same ↦ omega (arith, same)
                | inr later ↦ let less = front_before (λ x y. x < y) it.0 behind
                    (subst (AllPairs (λ x y. x < y)) starts (ids_ascend (length homes) (has rest))) other later in
                    omega (arith, less)
              ];
        } in
        begins it.0 lowest (block_of_first homes v it.0 it.1 cut.0 it.2 ∙ e)

    -- the writes of the part and then those of the rest are those of the set
    pub runs_append : (ws vs : List BlockWrite) → AreRuns homes part ws → AreRuns homes rest vs
        → AreRuns homes set (ws ++ vs)
    runs_append ws vs early late =
        runs_from_cut homes set (ws ++ vs)
        (flat_map-append (λ w. ids_of (length homes) w.ids) ws vs
        ∙ (ap₂ (λ xs ys. xs ++ ys) early.in_order late.in_order ∙ sym whole))
        (cut_append ws vs (cut_from_runs homes part ws early) (cut_from_runs homes rest vs late)
        (λ front back last_write first_write e f same.
        first_block first_write back (subst (AreCut homes) f (cut_from_runs homes rest vs late))
        (ap (ids_carried homes) (sym f) ∙ late.in_order)
        (sym same ∙ last_block front last_write (subst (AreCut homes) e (cut_from_runs homes part ws early))
        (ap (ids_carried homes) (sym e) ∙ early.in_order))))
