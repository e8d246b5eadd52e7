-- Writes of blocks that carry the ids of a set in ascending order.
use Rattle.std.proofs.Common.{◌≡◌, ◌≢◌, ℕ, zero, suc, ◌+◌, ◌<◌, cond, List, [], ◌∷◌, ◌++◌, length, arith, refl, sym}
use Rattle.std.proofs.Common.{subst, ap, ap₂, ◌∙◌, inl, inr, append_assoc, append-nil}
use Rattle.std.specs.Prelude.{slice_index, flat_map}
use Rattle.std.specs.List.{Contains}
use Rattle.std.proofs.lemmas.List.Elements.{Contains-append_left, Contains-append_right, Contains-push}
use Rattle.std.proofs.lemmas.List.Elements.{Contains-push_cases}
use Rattle.std.proofs.lemmas.List.Concat.{flat_map-append}
use Rattle.patch_sets.specs.Sets.{Has, has, with_id, ids_of}
use Rattle.patch_sets.specs.Writes.{AreRuns, ids_at, block_at}
use Rattle.patch_sets.specs.declared.write.BlockWrite.{BlockWrite}
use Rattle.patch_sets.proofs.Bits.{none_in_empty, same_set, in_with_same, in_with_old, in_with_cases}
use Rattle.patch_sets.proofs.Ids.{has_true, has_false, ids_more, ids_push, from_ids_of, to_ids_of, ids_ascend}
use Rattle.patch_sets.proofs.Lists.{in_front, in_none, one_ascending, ascends_push, same, longer, shorter, cuts_of}

-- a set that is not empty has a first id
pub some_id : (n set : ℕ) → ((id : ℕ) → Has set id → id < n) → set ≢ 0 → (x : ℕ) × (xs : List ℕ)
    × (ids_of n set ≡ x ∷ xs)
some_id n set below some = by_cases (ids_of n set) refl
  where
    by_cases : (xs : List ℕ) → ids_of n set ≡ xs → (x : ℕ) × (ys : List ℕ) × (ids_of n set ≡ x ∷ ys)
    by_cases [] e = absurd (some (same_set set 0
        (λ id is. absurd (in_none id (subst (λ xs. Contains xs id) e (to_ids_of n set id (below id is) is))))
        (λ id is. absurd (none_in_empty id is))))
    by_cases (x ∷ xs) e = (x, xs, e)

-- sets of ids below n with the same list are equal
pub same_ids : (n a b : ℕ) → ((id : ℕ) → Has a id → id < n) → ((id : ℕ) → Has b id → id < n) → ids_of n a ≡ ids_of n b
    → a ≡ b
same_ids n a b small_a small_b e = same_set a b
    (λ id is. (from_ids_of n b id (subst (λ xs. Contains xs id) e (to_ids_of n a id (small_a id is) is))).1)
    (λ id is. (from_ids_of n a id (subst (λ xs. Contains xs id) (sym e) (to_ids_of n b id (small_b id is) is))).1)

-- one id more, above all others
pub ids_with_top : (n set id : ℕ) → id < n → ((other : ℕ) → Has set other → other < id)
    → ids_of n (with_id set id) ≡ ids_of n set ++ id ∷ []
ids_with_top n set id inside below = one_ascending (ids_of n (with_id set id)) (ids_of n set ++ id ∷ [])
    (ids_ascend n (has (with_id set id)))
    (ascends_push (ids_of n set) id (ids_ascend n (has set)) (λ x is. below x (from_ids_of n set x is).1))
    (λ z is. let it = from_ids_of n (with_id set id) z is in elim (in_with_cases set id z it.1) [
      | inl e ↦ subst (Contains (ids_of n set ++ id ∷ [])) (sym e) (Contains-push (ids_of n set) id)
      | inr old ↦ Contains-append_left (ids_of n set) (id ∷ []) z (to_ids_of n set z it.0 old)
    ])
    (λ z is. elim (Contains-push_cases (ids_of n set) id z is) [
      | inl old ↦ let it = from_ids_of n set z old in to_ids_of n (with_id set id) z it.0 (in_with_old set id z it.1)
      | inr e ↦ subst (Contains (ids_of n (with_id set id))) e
          (to_ids_of n (with_id set id) id inside (in_with_same set id))
    ])

ids_of_empty : (n : ℕ) → ids_of n 0 ≡ []
ids_of_empty n = by_cases (ids_of n 0) refl
  where
    by_cases : (xs : List ℕ) → ids_of n 0 ≡ xs → ids_of n 0 ≡ []
    by_cases [] e = e
    by_cases (x ∷ xs) e = absurd (none_in_empty x (from_ids_of n 0 x
        (subst (λ ys. Contains ys x) (sym e) (in_front x xs))).1)

pub ids_of_one : (n id : ℕ) → id < n → ids_of n (with_id 0 id) ≡ id ∷ []
ids_of_one n id inside = ids_with_top n 0 id inside (λ other is. absurd (none_in_empty other is))
    ∙ ap (λ xs. xs ++ id ∷ []) (ids_of_empty n)

module _ (homes : List ℕ) where
  -- the ids that writes carry, one after another
  abbrev pub ids_carried : List BlockWrite → List ℕ
  ids_carried writes = flat_map (λ w. ids_of (length homes) w.ids) writes

  -- some ids of its block
  pub record IsOwn (w : BlockWrite) : Type 0 where
    pub own : (id : ℕ) → Has w.ids id → (id < length homes) × (slice_index homes id ≡ w.block)
    pub some : w.ids ≢ 0

  abbrev pub IsOther : ℕ → List BlockWrite → Type 0
  IsOther block [] = Unit {0}
  IsOther block (w ∷ ws) = block ≢ w.block

  -- each write is some ids of its block, and neighbours differ in block
  abbrev pub AreCut : List BlockWrite → Type 0
  AreCut [] = Unit {0}
  AreCut (w ∷ ws) = IsOwn w × IsOther w.block ws × AreCut ws

  -- ---- the same by places

  after_suc : (i : ℕ) → suc (i + 1) ≡ suc i + 1
  after_suc i = omega arith

  pub cut_from_places : (ws : List BlockWrite)
      → ((i id : ℕ) → i < length ws → Has (ids_at ws i) id → (id < length homes)
      × (slice_index homes id ≡ block_at ws i))
      → ((i : ℕ) → i < length ws → ids_at ws i ≢ 0)
      → ((i : ℕ) → i + 1 < length ws → block_at ws i ≢ block_at ws (i + 1))
      → AreCut ws
  cut_from_places [] one some longest = tt
  cut_from_places (w ∷ []) one some longest = (
    record {
      own = λ id is. one zero id (omega arith) is;
      some = some zero (omega arith);
    },
    tt,
    tt,
  )
  cut_from_places (w ∷ v ∷ vs) one some longest = (
    record { own = λ id is. one zero id (omega arith) is; some = some zero (omega arith) },
    longest zero (omega arith),
    cut_from_places (v ∷ vs) (λ i id within is. one (suc i) id (omega arith) is)
        (λ i within. some (suc i) (omega arith)) (λ i within e. longest (suc i) (omega arith)
        (e ∙ ap (block_at (w ∷ v ∷ vs)) (after_suc i))),
  )

  own_at : (ws : List BlockWrite) → AreCut ws → (i id : ℕ) → i < length ws → Has (ids_at ws i) id → (id < length homes)
      × (slice_index homes id ≡ block_at ws i)
  own_at [] cut i id within is = absurd (omega arith)
  own_at (w ∷ ws) cut zero id within is = cut.0.own id is
  own_at (w ∷ ws) cut (suc i) id within is = own_at ws cut.2 i id (omega arith) is

  some_at : (ws : List BlockWrite) → AreCut ws → (i : ℕ) → i < length ws → ids_at ws i ≢ 0
  some_at [] cut i within = absurd (omega arith)
  some_at (w ∷ ws) cut zero within = cut.0.some
  some_at (w ∷ ws) cut (suc i) within = some_at ws cut.2 i (omega arith)

  other_at : (ws : List BlockWrite) → AreCut ws → (i : ℕ) → i + 1 < length ws → block_at ws i ≢ block_at ws (i + 1)
  other_at [] cut i within = absurd (omega arith)
  other_at (w ∷ []) cut i within = absurd (omega arith)
  other_at (w ∷ v ∷ vs) cut zero within = cut.1
  other_at (w ∷ v ∷ vs) cut (suc i) within = λ e. other_at (v ∷ vs) cut.2 i (omega arith)
      (e ∙ ap (block_at (w ∷ v ∷ vs)) (sym (after_suc i)))

  pub cut_from_runs : (set : ℕ) (ws : List BlockWrite) → AreRuns homes set ws → AreCut ws
  cut_from_runs set ws runs = cut_from_places ws runs.one_block runs.some runs.longest

  pub runs_from_cut : (set : ℕ) (ws : List BlockWrite) → ids_carried ws ≡ ids_of (length homes) set → AreCut ws
      → AreRuns homes set ws
  runs_from_cut set ws in_order cut = record {
    in_order = in_order;
    one_block = own_at ws cut;
    some = some_at ws cut;
    longest = other_at ws cut;
  }

  -- ---- one id more

  -- a write at the end, of another block than the last one
  pub cut_push : (ws : List BlockWrite) (w : BlockWrite) → AreCut ws
      → ((front : List BlockWrite) (last : BlockWrite) → ws ≡ front ++ last ∷ [] → last.block ≢ w.block) → IsOwn w
      → AreCut (ws ++ w ∷ [])
  cut_push [] w cut other own = (own, tt, tt)
  cut_push (v ∷ []) w cut other own = (cut.0, other [] v refl, (own, tt, tt))
  cut_push (v ∷ u ∷ us) w cut other own = (
    cut.0,
    cut.1,
    cut_push (u ∷ us) w cut.2 (λ front last e. other (v ∷ front) last (ap (λ xs. v ∷ xs) e)) own,
  )

  -- another set for the last write
  pub cut_last : (front : List BlockWrite) (last more : BlockWrite) → last.block ≡ more.block
      → AreCut (front ++ last ∷ []) → IsOwn more → AreCut (front ++ more ∷ [])
  cut_last [] last more block cut own = (own, tt, tt)
  cut_last (v ∷ []) last more block cut own = (cut.0, (λ e. cut.1 (e ∙ sym block)), (own, tt, tt))
  cut_last (v ∷ u ∷ us) last more block cut own = (cut.0, cut.1, cut_last (u ∷ us) last more block cut.2 own)

  pub own_last : (front : List BlockWrite) (last : BlockWrite) → AreCut (front ++ last ∷ []) → IsOwn last
  own_last [] last cut = cut.0
  own_last (v ∷ front) last cut = own_last front last cut.2

  pub carried_push : (front : List BlockWrite) (last : BlockWrite)
      → ids_carried (front ++ last ∷ []) ≡ ids_carried front ++ ids_of (length homes) last.ids
  carried_push front last = flat_map-append (λ w. ids_of (length homes) w.ids) front (last ∷ [])
      ∙ ap (λ xs. ids_carried front ++ xs) (append-nil (ids_of (length homes) last.ids))

  -- the writes carry the ids of the set below k
  pub record AreCutTo (k set : ℕ) (writes : List BlockWrite) : Type 0 where
    pub in_order : ids_carried writes ≡ ids_of k set
    pub cut : AreCut writes

  pub cut_none : (set : ℕ) → AreCutTo 0 set []
  cut_none set = record { in_order = refl; cut = tt }

  pub cut_skip : (k set : ℕ) (writes : List BlockWrite) → (Has set k → ⊥) → AreCutTo k set writes
      → AreCutTo (k + 1) set writes
  cut_skip k set writes is_not so_far = record {
    in_order = so_far.in_order ∙ sym (ids_more k (has set)
        ∙ (ap (λ b. ids_of k set ++ cond b (k ∷ []) []) (has_false set k is_not) ∙ append-nil (ids_of k set)));
    cut = so_far.cut;
  }

  module _ (k set : ℕ) (is : Has set k) (inside : k < length homes) where
    pub cut_alone : (writes : List BlockWrite) (w : BlockWrite) → AreCutTo k set writes → w.block ≡ slice_index homes k
        → w.ids ≡ with_id 0 k
        → ((front : List BlockWrite) (last : BlockWrite) → writes ≡ front ++ last ∷ [] → last.block ≢ w.block)
        → AreCutTo (k + 1) set (writes ++ w ∷ [])
    cut_alone writes w so_far home ids other = record {
      in_order = carried_push writes w ∙ (ap₂ (λ xs ys. xs ++ ys) so_far.in_order
          (ap (ids_of (length homes)) ids ∙ ids_of_one (length homes) k inside)
          ∙ sym (ids_push k (has set) (has_true set k is)));
      cut = cut_push writes w so_far.cut other record {
        own = λ id has_it. elim (in_with_cases 0 k id (subst (λ s. Has s id) ids has_it)) [
          | inl e ↦ (subst (λ i. i < length homes) (sym e) inside, ap (slice_index homes) e ∙ sym home)
          | inr none ↦ absurd (none_in_empty id none)
        ];
        some = λ empty. none_in_empty k (subst (λ s. Has s k) (sym ids ∙ empty) (in_with_same 0 k));
      };
    }

    pub cut_joined : (front : List BlockWrite) (last more : BlockWrite) → AreCutTo k set (front ++ last ∷ [])
        → last.block ≡ slice_index homes k → more.block ≡ last.block → more.ids ≡ with_id last.ids k
        → AreCutTo (k + 1) set (front ++ more ∷ [])
    cut_joined front last more so_far home block ids =
        let own = own_last front last so_far.cut in
        let below : (other : ℕ) → Has last.ids other → other < k = λ other has_it.
        (from_ids_of k set other (subst (λ xs. Contains xs other) (sym (carried_push front last) ∙ so_far.in_order)
        (Contains-append_right (ids_carried front) (ids_of (length homes) last.ids) other
        (to_ids_of (length homes) last.ids other (own.own other has_it).0 has_it)))).0 in
        record {
          in_order = carried_push front more ∙ (ap (λ s. ids_carried front ++ ids_of (length homes) s) ids
              ∙ (ap (λ xs. ids_carried front ++ xs) (ids_with_top (length homes) last.ids k inside below)
              ∙ (sym (append_assoc (ids_carried front) (ids_of (length homes) last.ids) (k ∷ []))
              ∙ (ap (λ xs. xs ++ k ∷ []) (sym (carried_push front last) ∙ so_far.in_order)
              ∙ sym (ids_push k (has set) (has_true set k is))))));
          cut = cut_last front last more (sym block) so_far.cut record {
            own = λ id has_it. elim (in_with_cases last.ids k id (subst (λ s. Has s id) ids has_it)) [
              | inl e ↦ (
                subst (λ i. i < length homes) (sym e) inside,
                ap (slice_index homes) e
                    ∙ (sym home ∙ sym block),
              )
              | inr old ↦ let it = own.own id old in (it.0, it.1 ∙ sym block)
            ];
            some = λ empty. none_in_empty k (subst (λ s. Has s k) (sym ids ∙ empty) (in_with_same last.ids k));
          };
        }

  -- ---- there is one list of writes

  small : (w : BlockWrite) → IsOwn w → (id : ℕ) → Has w.ids id → id < length homes
  small w own id is = (own.own id is).0

  -- the block of writes that begin with an id
  pub block_of_first : (w : BlockWrite) (x : ℕ) (xs : List ℕ) → IsOwn w → ids_of (length homes) w.ids ≡ x ∷ xs
      → slice_index homes x ≡ w.block
  block_of_first w x xs own e = (own.own x (from_ids_of (length homes) w.ids x
      (subst (λ ys. Contains ys x) (sym e) (in_front x xs))).1).1

  -- what follows a write does not begin with an id of its block
  not_of_block : (block : ℕ) (ws : List BlockWrite) (y : ℕ) (ys : List ℕ) → IsOther block ws → AreCut ws
      → ids_carried ws ≡ y ∷ ys → slice_index homes y ≡ block → ⊥
  not_of_block block [] y ys other cut e at = cc
  not_of_block block (w ∷ ws) y ys other cut e at =
      let it = some_id (length homes) w.ids (small w cut.0) cut.0.some in
      let begins : it.0 ∷ (it.1 ++ ids_carried ws) ≡ y ∷ ys = ap (λ xs. xs ++ ids_carried ws) (sym it.2) ∙ e in
      let head : it.0 ≡ y = cc in
      other (sym at ∙ (ap (slice_index homes) (sym head) ∙ block_of_first w it.0 it.1 cut.0 it.2))

  one_cut : (ws vs : List BlockWrite) → AreCut ws → AreCut vs → ids_carried ws ≡ ids_carried vs → ws ≡ vs
  one_cut [] [] cut_w cut_v e = refl
  one_cut [] (v ∷ vs) cut_w cut_v e =
      let it = some_id (length homes) v.ids (small v cut_v.0) cut_v.0.some in
      let none : it.0 ∷ (it.1 ++ ids_carried vs) ≡ [] = ap (λ xs. xs ++ ids_carried vs) (sym it.2) ∙ sym e in cc
  one_cut (w ∷ ws) [] cut_w cut_v e =
      let it = some_id (length homes) w.ids (small w cut_w.0) cut_w.0.some in
      let none : it.0 ∷ (it.1 ++ ids_carried ws) ≡ [] = ap (λ xs. xs ++ ids_carried ws) (sym it.2) ∙ e in cc
  one_cut (w ∷ ws) (v ∷ vs) cut_w cut_v e =
      let a = some_id (length homes) w.ids (small w cut_w.0) cut_w.0.some in
      let b = some_id (length homes) v.ids (small v cut_v.0) cut_v.0.some in
      let heads : a.0 ∷ (a.1 ++ ids_carried ws) ≡ b.0 ∷ (b.1 ++ ids_carried vs) =
      ap (λ xs. xs ++ ids_carried ws) (sym a.2) ∙ (e ∙ ap (λ xs. xs ++ ids_carried vs) b.2) in
      let head : a.0 ≡ b.0 = cc in
      let block : w.block ≡ v.block = sym (block_of_first w a.0 a.1 cut_w.0 a.2)
      ∙ (ap (slice_index homes) head ∙ block_of_first v b.0 b.1 cut_v.0 b.2) in
      elim (cuts_of (ids_of (length homes) w.ids) (ids_carried ws) (ids_of (length homes) v.ids) (ids_carried vs) e) [
        | same p q ↦
            let ids : w.ids ≡ v.ids = same_ids (length homes) w.ids v.ids (small w cut_w.0) (small v cut_v.0) p in
            ap₂ (λ x xs. x ∷ xs) (ap₂ (λ x y. let one : BlockWrite = record { block = x; ids = y } in one) block ids)
            (one_cut ws vs cut_w.2 cut_v.2 q)
        | longer y c p q ↦
            let here : Contains (ids_of (length homes) w.ids) y =
            subst (λ xs. Contains xs y) (sym p) (Contains-append_right (ids_of (length homes) v.ids) (y ∷ c) y
            (in_front y c)) in
            absurd (not_of_block v.block vs y (c ++ ids_carried ws) cut_v.1 cut_v.2 q
            ((cut_w.0.own y (from_ids_of (length homes) w.ids y here).1).1 ∙ block))
        | shorter y c p q ↦
            let here : Contains (ids_of (length homes) v.ids) y =
            subst (λ xs. Contains xs y) (sym p) (Contains-append_right (ids_of (length homes) w.ids) (y ∷ c) y
            (in_front y c)) in
            absurd (not_of_block w.block ws y (c ++ ids_carried vs) cut_w.1 cut_w.2 q
            ((cut_v.0.own y (from_ids_of (length homes) v.ids y here).1).1 ∙ sym block))
      ]

  pub one_runs : (set : ℕ) (ws vs : List BlockWrite) → AreRuns homes set ws → AreRuns homes set vs → ws ≡ vs
  one_runs set ws vs a b = one_cut ws vs (cut_from_runs set ws a) (cut_from_runs set vs b) (a.in_order ∙ sym b.in_order)
