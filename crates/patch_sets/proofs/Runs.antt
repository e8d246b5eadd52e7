-- What runs of the disk commit: exactly the closed sets, and a closed set by its writes.
use Rattle.std.proofs.Common.{◌≡◌, ◌≢◌, ℕ, ◌<◌, Bool, true, false, cond, List, [], ◌∷◌, ◌++◌, map, length, get_or, ◌⊎◌}
use Rattle.std.proofs.Common.{inl, inr, bit_or, nat_eq, eq-eqb, arith, refl, sym, subst, ap, ap₂, ◌∙◌, append_assoc}
use Rattle.std.proofs.Common.{append-nil}
use Rattle.std.specs.Prelude.{slice_index, flat_map}
use Rattle.std.specs.List.{AllPairs, Contains}
use Rattle.std.proofs.lemmas.List.Elements.{Contains-append_cases, Contains-append_left, Contains-append_right}
use Rattle.patch_sets.specs.Sets.{Has, has, with_id, ids_of}
use Rattle.patch_sets.specs.Closed.{AreEarlier, IsClosed}
use Rattle.patch_sets.specs.Machine.{Event, Begin, End, State, at_rest, after, CanBegin, IsAllowed, IsRun, state_after}
use Rattle.patch_sets.specs.Machine.{LeadTo, CanLeave}
use Rattle.patch_sets.specs.Writes.{AreRuns, events_of}
use Rattle.patch_sets.specs.declared.write.BlockWrite.{BlockWrite}
use Rattle.patch_sets.proofs.Bits.{none_in_empty, same_set, in_with_same, in_with_cases, in_or_cases, in_or_left}
use Rattle.patch_sets.proofs.Bits.{in_or_right}
use Rattle.patch_sets.proofs.Ids.{from_ids_of, to_ids_of, ids_ascend}
use Rattle.patch_sets.proofs.Lists.{in_none, across, in_front, in_rest}
use Rattle.patch_sets.proofs.Writes as writes

-- what holds of both holds of the one that is chosen
pub chosen : (P : ℕ → Type 0) (b : Bool) (x y : ℕ) → P x → P y → P (cond b x y)
chosen P true x y p q = p
chosen P false x y p q = q

-- what each state of a run keeps
pub record IsKept (deps : List ℕ) (s : State) : Type 0 where
  pub known : (id : ℕ) → Has s.committed id → id < length deps
  pub flying : (b id : ℕ) → Has (s.in_flight b) id → id < length deps
  pub closed : (q p : ℕ) → Has s.committed q → Has (get_or deps q 0) p → Has s.committed p
  pub carried : (b q p : ℕ) → Has (s.in_flight b) q → Has (get_or deps q 0) p → Has s.committed p
      ⊎ Has (s.in_flight b) p

pub kept_after : (deps homes : List ℕ) (s : State) (e : Event) → IsKept deps s → IsAllowed deps homes s e
    → IsKept deps (after s e)
kept_after deps homes s (Begin block set) kept allowed = record {
  known = kept.known;
  flying = λ b id. chosen (λ m. Has m id → id < length deps) (nat_eq b block) set (s.in_flight b)
      (λ h. (allowed.own id h).0) (kept.flying b id);
  closed = kept.closed;
  carried = λ b q p. chosen (λ m. Has m q → Has (get_or deps q 0) p → Has s.committed p ⊎ Has m p) (nat_eq b block) set
      (s.in_flight b) (allowed.ready q p) (kept.carried b q p);
}
kept_after deps homes s (End block) kept allowed = record {
  known = λ id h. elim (in_or_cases s.committed (s.in_flight block) id h) [
    | inl c ↦ kept.known id c
    | inr f ↦ kept.flying block id f
  ];
  flying = λ b id. chosen (λ m. Has m id → id < length deps) (nat_eq b block) 0 (s.in_flight b)
      (λ h. absurd (none_in_empty id h)) (kept.flying b id);
  closed = λ q p h d. elim (in_or_cases s.committed (s.in_flight block) q h) [
    | inl c ↦ in_or_left s.committed (s.in_flight block) p (kept.closed q p c d)
    | inr f ↦ elim (kept.carried block q p f d) [
      | inl c ↦ in_or_left s.committed (s.in_flight block) p c
      | inr g ↦ in_or_right s.committed (s.in_flight block) p g
    ]
  ];
  carried = λ b q p. chosen (λ m. Has m q → Has (get_or deps q 0) p → Has (bit_or s.committed (s.in_flight block)) p
      ⊎ Has m p) (nat_eq b block) 0 (s.in_flight b)
      (λ h. absurd (none_in_empty q h))
      (λ h d. elim (kept.carried b q p h d) [
        | inl c ↦ inl (in_or_left s.committed (s.in_flight block) p c)
        | inr g ↦ inr g
      ]);
}

pub kept_along : (deps homes : List ℕ) (s : State) (es : List Event) → IsKept deps s → IsRun deps homes s es
    → IsKept deps (state_after s es)
kept_along deps homes s [] kept run = kept
kept_along deps homes s (e ∷ es) kept run = kept_along deps homes (after s e) es (kept_after deps homes s e kept run.0)
    run.1

pub kept_at_rest : (deps : List ℕ) → IsKept deps (at_rest 0)
kept_at_rest deps = record {
  known = λ id h. absurd (none_in_empty id h);
  flying = λ b id h. absurd (none_in_empty id h);
  closed = λ q p h d. absurd (none_in_empty q h);
  carried = λ b q p h d. absurd (none_in_empty q h);
}

-- what a crash can leave is closed
pub left_closed : (deps homes : List ℕ) (set : ℕ) → CanLeave deps homes set → IsClosed deps set
left_closed deps homes set (events, leads) =
    let kept = kept_along deps homes (at_rest 0) events (kept_at_rest deps) leads.run in
    subst (IsClosed deps) leads.leaves (record { known = kept.known; whole = kept.closed })

-- ---- a run for each closed set

cleared : (b : Bool) (x y : ℕ) → y ≡ 0 → cond b 0 (cond b x y) ≡ 0
cleared true x y e = refl
cleared false x y e = e

-- nothing is in flight, and the ids of the list are committed
pub record IsRested (ids : List ℕ) (s : State) : Type 0 where
  pub idle : (block : ℕ) → s.in_flight block ≡ 0
  pub to : (id : ℕ) → Has s.committed id → Contains ids id
  pub from : (id : ℕ) → Contains ids id → Has s.committed id

at_rest_rested : IsRested [] (at_rest 0)
at_rest_rested = record {
  idle = λ block. refl;
  to = λ id is. absurd (none_in_empty id is);
  from = λ id is. absurd (in_none id is);
}

module _ (deps homes : List ℕ) (set : ℕ) (earlier : AreEarlier deps) (closed : IsClosed deps set) where
  -- the ids that a write carries
  abbrev pub ids_carried : BlockWrite → List ℕ
  ids_carried w = ids_of (length deps) w.ids

  -- some ids of its block
  pub record IsOwn (w : BlockWrite) : Type 0 where
    pub own : (id : ℕ) → Has w.ids id → (id < length deps) × (slice_index homes id ≡ w.block)
    pub some : w.ids ≢ 0

  abbrev pub AreOwn : List BlockWrite → Type 0
  AreOwn [] = Unit {0}
  AreOwn (w ∷ ws) = IsOwn w × AreOwn ws

  module _ (before rest : List ℕ) (w : BlockWrite) (own : IsOwn w)
      (whole : before ++ (ids_carried w ++ rest) ≡ ids_of (length deps) set) (s : State)
      (rested : IsRested before s) where
    up : AllPairs (λ x y. x < y) (before ++ (ids_carried w ++ rest))
    up = subst (AllPairs (λ x y. x < y)) (sym whole) (ids_ascend (length deps) (has set))

    mine : (id : ℕ) → Has w.ids id → Contains (ids_carried w) id
    mine id is = to_ids_of (length deps) w.ids id (own.own id is).0 is

    in_whole : (id : ℕ) → Contains (ids_carried w) id → Has set id
    in_whole id is = (from_ids_of (length deps) set id (subst (λ xs. Contains xs id) whole
        (Contains-append_right before (ids_carried w ++ rest) id (Contains-append_left (ids_carried w) rest id is)))).1

    begins : CanBegin deps homes s w.block w.ids
    begins = record {
      idle = rested.idle w.block;
      some = own.some;
      own = own.own;
      new = λ id is done. let less : id < id = across (λ x y. x < y) before (ids_carried w ++ rest) up id id
          (rested.to id done) (Contains-append_left (ids_carried w) rest id (mine id is)) in omega arith;
      ready = λ q p is dep.
          let less : p < q = earlier q p dep in
          let member : Has set p = closed.whole q p (in_whole q (mine q is)) dep in
          let there : Contains (before ++ (ids_carried w ++ rest)) p =
          subst (λ xs. Contains xs p) (sym whole) (to_ids_of (length deps) set p (closed.known p member) member) in
          elim (Contains-append_cases before (ids_carried w ++ rest) p there) [
            | inl done ↦ inl (rested.from p done)
            | inr later ↦ elim (Contains-append_cases (ids_carried w) rest p later) [
              | inl here ↦ inr (from_ids_of (length deps) w.ids p here).1
              | inr after_it ↦
                  let more : q < p = across (λ x y. x < y) (before ++ ids_carried w) rest
                  (subst (AllPairs (λ x y. x < y)) (sym (append_assoc before (ids_carried w) rest)) up) q p
                  (Contains-append_right before (ids_carried w) q (mine q is)) after_it in
                  absurd (omega arith)
            ]
          ];
    }

    flown : (after s (Begin w.block w.ids)).in_flight w.block ≡ w.ids
    flown = ap (λ (b : Bool). cond b w.ids (s.in_flight w.block)) (eq-eqb w.block w.block refl)

    ends : (after s (Begin w.block w.ids)).in_flight w.block ≢ 0
    ends none = own.some (sym flown ∙ none)

    rests : IsRested (before ++ ids_carried w) (after (after s (Begin w.block w.ids)) (End w.block))
    rests = record {
      idle = λ b. cleared (nat_eq b w.block) w.ids (s.in_flight b) (rested.idle b);
      to = λ id is. elim (in_or_cases s.committed ((after s (Begin w.block w.ids)).in_flight w.block) id is) [
        | inl done ↦ Contains-append_left before (ids_carried w) id (rested.to id done)
        | inr new ↦ Contains-append_right before (ids_carried w) id (mine id (subst (λ m. Has m id) flown new))
      ];
      from = λ id is. elim (Contains-append_cases before (ids_carried w) id is) [
        | inl done ↦ in_or_left s.committed ((after s (Begin w.block w.ids)).in_flight w.block) id (rested.from id done)
        | inr new ↦ in_or_right s.committed ((after s (Begin w.block w.ids)).in_flight w.block) id
            (subst (λ m. Has m id) (sym flown) (from_ids_of (length deps) w.ids id new).1)
      ];
    }

  -- writes that carry the rest of the set, in ascending order, lead on to it
  goes_on : (ws : List BlockWrite) (before : List ℕ) (s : State) → IsRested before s → AreOwn ws
      → before ++ flat_map ids_carried ws ≡ ids_of (length deps) set
      → IsRun deps homes s (events_of ws) × ((state_after s (events_of ws)).committed ≡ set)
  goes_on [] before s rested own whole = (
    tt,
    same_set s.committed set
        (λ id is. (from_ids_of (length deps) set id (subst (λ xs. Contains xs id) (sym (append-nil before) ∙ whole)
        (rested.to id is))).1)
        (λ id is. rested.from id (subst (λ xs. Contains xs id) (sym whole ∙ append-nil before)
        (to_ids_of (length deps) set id (closed.known id is) is))),
  )
  goes_on (w ∷ ws) before s rested own whole =
      let on = goes_on ws (before ++ ids_carried w) (after (after s (Begin w.block w.ids)) (End w.block))
      (rests before (flat_map ids_carried ws) w own.0 whole s rested) own.1
      (append_assoc before (ids_carried w) (flat_map ids_carried ws) ∙ whole) in (
        (
          begins before (flat_map ids_carried ws) w own.0 whole s rested,
          (ends before (flat_map ids_carried ws) w own.0 whole s rested, on.0),
        ),
        on.1,
      )

  pub lead : (ws : List BlockWrite) → AreOwn ws → flat_map ids_carried ws ≡ ids_of (length deps) set
      → LeadTo deps homes (events_of ws) set
  lead ws own whole = let it = goes_on ws [] (at_rest 0) at_rest_rested own whole in
      record { run = it.0; leaves = it.1 }

  -- a write of its own for each id
  alone : ℕ → BlockWrite
  alone id = record { block = slice_index homes id; ids = with_id 0 id }

  alone_own : (ids : List ℕ) → ((id : ℕ) → Contains ids id → id < length deps) → AreOwn (map alone ids)
  unfolding alone
  alone_own [] below = tt
  alone_own (id ∷ ids) below = (
    record {
      own = λ other is. elim (in_with_cases 0 id other is) [
        | inl e ↦ (subst (λ i. i < length deps) (sym e) (below id (in_front id ids)), ap (slice_index homes) e)
        | inr none ↦ absurd (none_in_empty other none)
      ];
      some = λ empty. none_in_empty id (subst (λ s. Has s id) empty (in_with_same 0 id));
    },
    alone_own ids (λ other is. below other (in_rest id ids other is)),
  )

  alone_whole : (ids : List ℕ) → ((id : ℕ) → Contains ids id → id < length deps)
      → flat_map ids_carried (map alone ids) ≡ ids
  unfolding alone
  alone_whole [] below = refl
  alone_whole (id ∷ ids) below = ap₂ (λ xs ys. xs ++ ys)
      (writes.ids_of_one (length deps) id (below id (in_front id ids)))
      (alone_whole ids (λ other is. below other (in_rest id ids other is)))

  -- what is closed can be left by a crash
  pub closed_left : CanLeave deps homes set
  closed_left =
      let ids = ids_of (length deps) set in
      let below : (id : ℕ) → Contains ids id → id < length deps = λ id is. (from_ids_of (length deps) set id is).0 in
      (events_of (map alone ids), lead (map alone ids) (alone_own ids below) (alone_whole ids below))

-- the writes of a closed set lead to it
module _ (deps homes : List ℕ) (long : length homes ≡ length deps) (set : ℕ) (earlier : AreEarlier deps)
    (closed : IsClosed deps set) where
  own_from_cut : (ws : List BlockWrite) → writes.AreCut homes ws → AreOwn deps homes set earlier closed ws
  own_from_cut [] cut = tt
  own_from_cut (w ∷ ws) cut = (
    record {
      own = λ id is. let it = cut.0.own id is in
          (subst (λ n. id < n) long it.0, it.1);
      some = cut.0.some;
    },
    own_from_cut ws cut.2,
  )

  pub runs_lead : (ws : List BlockWrite) → AreRuns homes set ws → LeadTo deps homes (events_of ws) set
  runs_lead ws runs = lead deps homes set earlier closed ws (own_from_cut ws (writes.cut_from_runs homes set ws runs))
      (subst (λ n. flat_map (λ w. ids_of n w.ids) ws ≡ ids_of n set) long runs.in_order)
