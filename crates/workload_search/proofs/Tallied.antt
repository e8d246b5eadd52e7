-- What is counted of sequences, one more or some more after them.
use Rattle.std.proofs.Common.{◌≡◌, ℕ, ◌+◌, ◌<◌, ◌^◌, List, [], ◌∷◌, ◌++◌, length, Bool, cond, Option, Some, None}
use Rattle.std.proofs.Common.{refl, sym, subst, ap, ap₂, ◌∙◌, arith, set, inl, inr, ◌≤◌}
use Rattle.std.specs.Prelude.{slice_index, slice_index_or, is_some}
use Rattle.std.specs.List.{All, count_by}
use Rattle.std.proofs.lemmas.List.{get_or-set_same, get_or-set_other, length_push}
use Rattle.std.proofs.lemmas.List.Elements.{All-push}
use Rattle.std.proofs.lemmas.List.Sums.{sum_by-append, sum_by_push, count_by-le-length}
use Rattle.crash_model.specs.declared.refusal.TheConstants.{REFUSALS}
use Rattle.patch_sets.proofs.Bits.{eq_or_not}
use Rattle.crash_model.specs.declared.fault_kind.TheConstants.{KINDS}
use Rattle.workload_search.specs.Tallies.{Tried, tried_as, is_accepted, is_failing, is_refused_at, first_at, shows_at}
use Rattle.workload_search.specs.Tallies.{number_of, or_else, with_places, first_shown, listed_first, IsKindTally}
use Rattle.workload_search.specs.Tallies.{IsTally, HasRoom, HaveRoom, IsKindAdded, IsKindJoined}
use Rattle.workload_search.specs.Tallies.{AreKindsJoined, AreCountsJoined, AreNoKinds, KindsHaveRoomFor}
use Rattle.question_model.specs.declared.verdict.Verdict.{Verdict}
use Rattle.workload_search.specs.declared.kinds.KindTally.{KindTally}
use Rattle.workload_search.specs.declared.tally.SearchTally.{SearchTally}

-- ---- numbers

pub number_push : (test : Verdict → Bool) (tried : List Tried) (t : Tried)
    → number_of test (tried ++ t ∷ []) ≡ number_of test tried + cond (test t.verdict) 1 0
number_push test tried t = sum_by_push (λ (x : Tried). cond (test x.verdict) 1 0) tried t

pub plus_none : (n : ℕ) → n + 0 ≡ n
plus_none n = omega arith

pub number_join : (test : Verdict → Bool) (tried others : List Tried)
    → number_of test (tried ++ others) ≡ number_of test tried + number_of test others
number_join test tried others = sum_by-append (λ (x : Tried). cond (test x.verdict) 1 0) tried others

pub number_most : (test : Verdict → Bool) (tried : List Tried)
    → count_by (λ t. test t.verdict) tried < length tried + 1
number_most test tried = omega (arith, count_by-le-length (λ (t : Tried). test t.verdict) tried)

-- ---- firsts

or_else_none : {X : Type 0} (x : Option X) → or_else x None ≡ x
or_else_none None = refl
or_else_none (Some x) = refl

or_else_else : {X : Type 0} (x y z : Option X) → or_else x (or_else y z) ≡ or_else (or_else x y) z
or_else_else None y z = refl
or_else_else (Some x) y z = refl

pub first_join : (i : ℕ) (tried others : List Tried)
    → first_shown i (tried ++ others) ≡ or_else (first_shown i tried) (first_shown i others)
first_join i [] others = refl
first_join i (t ∷ ts) others =
    ap (or_else (with_places t.places (first_at i t.verdict))) (first_join i ts others)
    ∙ or_else_else (with_places t.places (first_at i t.verdict)) (first_shown i ts) (first_shown i others)

pub first_push : (i : ℕ) (tried : List Tried) (t : Tried) → first_shown i (tried ++ t ∷ [])
    ≡ or_else (first_shown i tried) (with_places t.places (first_at i t.verdict))
first_push i tried t =
    first_join i tried (t ∷ [])
    ∙ ap (or_else (first_shown i tried)) (or_else_none (with_places t.places (first_at i t.verdict)))

-- ---- kinds

pub kind_added : (i : ℕ) (tried : List Tried) (places : List ℕ) (v : Verdict) (old new : KindTally)
    → IsKindTally i tried old → IsKindAdded places (first_at i v) old new
    → IsKindTally i (tried ++ tried_as places v ∷ []) new
kind_added i tried places v old new is added = by (first_at i v) refl added
  where
    by : (o : Option ℕ) → first_at i v ≡ o → IsKindAdded places o old new
        → IsKindTally i (tried ++ tried_as places v ∷ []) new
    by None e same = record {
      workloads = ap (λ (k : KindTally). k.workloads) same
          ∙ (is.workloads ∙ sym (number_push (shows_at i) tried (tried_as places v)
          ∙ (ap (λ (o : Option ℕ). number_of (shows_at i) tried + cond (is_some o) 1 0) e
          ∙ plus_none (number_of (shows_at i) tried))));
      first = ap (λ (k : KindTally). listed_first k.first) same
          ∙ (is.first ∙ sym (first_push i tried (tried_as places v)
          ∙ (ap (λ (o : Option ℕ). or_else (first_shown i tried) (with_places places o)) e
          ∙ or_else_none (first_shown i tried))));
    }
    by (Some set) e it = record {
      workloads = it.0
          ∙ (ap (λ n. n + 1) is.workloads ∙ sym (number_push (shows_at i) tried (tried_as places v)
          ∙ ap (λ (o : Option ℕ). number_of (shows_at i) tried + cond (is_some o) 1 0) e));
      first = it.1
          ∙ (ap (λ (f : Option (List ℕ × ℕ)). or_else f (Some (places, set))) is.first
          ∙ sym (first_push i tried (tried_as places v)
          ∙ ap (λ (o : Option ℕ). or_else (first_shown i tried) (with_places places o)) e));
    }

pub kind_joined : (i : ℕ) (tried others : List Tried) (later old new : KindTally) → IsKindTally i tried old
    → IsKindTally i others later → IsKindJoined later old new → IsKindTally i (tried ++ others) new
kind_joined i tried others later old new is after joined = record {
  workloads = joined.workloads
      ∙ (ap₂ (λ a b. a + b) is.workloads after.workloads ∙ sym (number_join (shows_at i) tried others));
  first = joined.first
      ∙ (ap₂ (λ (a b : Option (List ℕ × ℕ)). or_else a b) is.first after.first ∙ sym (first_join i tried others));
}

-- ---- tallies

module _ {A : Type 0} where
  pub no_tally : (tally : SearchTally A) → tally.workloads ≡ 0 → tally.failing ≡ 0 → length tally.refused ≡ REFUSALS
      → ((i : ℕ) → i < REFUSALS → slice_index tally.refused i ≡ 0) → AreNoKinds tally.kinds.items → IsTally [] tally
  no_tally tally workloads failing long refused kinds = record {
    workloads = workloads;
    failing = failing;
    refused_long = long;
    refused = refused;
    kinds_long = kinds.long;
    kinds = λ i d low. kinds.none i d low;
  }

  -- how each count grows with one sequence
  pub record IsAdded (places : List ℕ) (v : Verdict) (old new : SearchTally A) : Type 0 where
    pub workloads : new.workloads ≡ old.workloads + cond (is_accepted v) 1 0
    pub failing : new.failing ≡ old.failing + cond (is_failing v) 1 0
    pub refused_long : length new.refused ≡ length old.refused
    pub refused : (i : ℕ) → i < REFUSALS
        → slice_index new.refused i ≡ slice_index old.refused i + cond (is_refused_at i v) 1 0
    pub kinds_long : length new.kinds.items ≡ length old.kinds.items
    pub kinds : (i : ℕ) (d : KindTally) → i < KINDS
        → IsKindAdded places (first_at i v) (slice_index_or old.kinds.items i d) (slice_index_or new.kinds.items i d)

  pub tally_added : (tried : List Tried) (places : List ℕ) (v : Verdict) (old new : SearchTally A) → IsTally tried old
      → IsAdded places v old new → IsTally (tried ++ tried_as places v ∷ []) new
  tally_added tried places v old new is added = record {
    workloads = added.workloads
        ∙ (ap (λ n. n + cond (is_accepted v) 1 0) is.workloads
        ∙ sym (number_push is_accepted tried (tried_as places v)));
    failing = added.failing
        ∙ (ap (λ n. n + cond (is_failing v) 1 0) is.failing ∙ sym (number_push is_failing tried (tried_as places v)));
    refused_long = added.refused_long ∙ is.refused_long;
    refused = λ i low. added.refused i low
        ∙ (ap (λ n. n + cond (is_refused_at i v) 1 0) (is.refused i low)
        ∙ sym (number_push (is_refused_at i) tried (tried_as places v)));
    kinds_long = added.kinds_long ∙ is.kinds_long;
    kinds = λ i d low. kind_added i tried places v (slice_index_or old.kinds.items i d)
        (slice_index_or new.kinds.items i d) (is.kinds i d low) (added.kinds i d low);
  }

  -- how each count grows with those of later sequences
  pub record IsJoined (later old new : SearchTally A) : Type 0 where
    pub workloads : new.workloads ≡ old.workloads + later.workloads
    pub failing : new.failing ≡ old.failing + later.failing
    pub refused : AreCountsJoined old.refused later.refused new.refused
    pub kinds : AreKindsJoined later.kinds.items old.kinds.items new.kinds.items

  pub tally_joined : (tried others : List Tried) (later old new : SearchTally A) → IsTally tried old
      → IsTally others later
      → IsJoined later old new → IsTally (tried ++ others) new
  tally_joined tried others later old new is after joined = record {
    workloads = joined.workloads
        ∙ (ap₂ (λ a b. a + b) is.workloads after.workloads ∙ sym (number_join is_accepted tried others));
    failing = joined.failing
        ∙ (ap₂ (λ a b. a + b) is.failing after.failing ∙ sym (number_join is_failing tried others));
    refused_long = joined.refused.long ∙ is.refused_long;
    refused = λ i low. joined.refused.each i low
        ∙ (ap₂ (λ a b. a + b) (is.refused i low) (after.refused i low)
        ∙ sym (number_join (is_refused_at i) tried others));
    kinds_long = joined.kinds.long ∙ is.kinds_long;
    kinds = λ i d low. kind_joined i tried others (slice_index_or later.kinds.items i d)
        (slice_index_or old.kinds.items i d) (slice_index_or new.kinds.items i d) (is.kinds i d low)
        (after.kinds i d low) (joined.kinds.each i d low);
  }

  -- ---- room

  pub record IsRoom (more : ℕ) (tally : SearchTally A) : Type 0 where
    pub workloads : tally.workloads + more < 2 ^ 128
    pub failing : tally.failing + more < 2 ^ 128
    pub refused_long : length tally.refused ≡ REFUSALS
    pub refused : (i : ℕ) → i < REFUSALS → slice_index tally.refused i + more < 2 ^ 128
    pub kinds_long : length tally.kinds.items ≡ KINDS
    pub kinds : (i : ℕ) (d : KindTally) → i < KINDS → (slice_index_or tally.kinds.items i d).workloads + more < 2 ^ 128

  pub room_of : (more : ℕ) (tally : SearchTally A) → HasRoom more tally → IsRoom more tally
  room_of more tally has =
      let is = has.is in record {
        workloads = omega (arith, is.workloads, number_most is_accepted has.tried, has.room);
        failing = omega (arith, is.failing, number_most is_failing has.tried, has.room);
        refused_long = is.refused_long;
        refused = λ i low. omega (arith, is.refused i low, number_most (is_refused_at i) has.tried, has.room);
        kinds_long = is.kinds_long;
        kinds = λ i d low. let kind = is.kinds i d low in
            omega (arith, kind.workloads, number_most (shows_at i) has.tried, has.room);
      }

  pub record IsRoomFor (tally later : SearchTally A) : Type 0 where
    pub workloads : tally.workloads + later.workloads < 2 ^ 128
    pub failing : tally.failing + later.failing < 2 ^ 128
    pub refused : (i : ℕ) → i < REFUSALS → slice_index tally.refused i + slice_index later.refused i < 2 ^ 128
    pub long : (length tally.kinds.items ≡ KINDS) × (length later.kinds.items ≡ KINDS)
    pub kinds : KindsHaveRoomFor tally.kinds.items later.kinds.items

  pub room_for : (tally later : SearchTally A) → HaveRoom tally later → IsRoomFor tally later
  room_for tally later has =
      let a = has.is in
      let b = has.after in record {
        workloads = omega (
          arith,
          a.workloads,
          b.workloads,
          number_most is_accepted has.tried,
          number_most is_accepted has.others,
          has.room,
        );
        failing = omega (
          arith,
          a.failing,
          b.failing,
          number_most is_failing has.tried,
          number_most is_failing has.others,
          has.room,
        );
        refused = λ i low. omega (
          arith,
          a.refused i low,
          b.refused i low,
          number_most (is_refused_at i) has.tried,
          number_most (is_refused_at i) has.others,
          has.room,
        );
        long = (a.kinds_long, b.kinds_long);
        kinds = λ i d low. let x = a.kinds i d low in let y = b.kinds i d low in omega (
          arith,
          x.workloads,
          y.workloads,
          number_most (shows_at i) has.tried,
          number_most (shows_at i) has.others,
          has.room,
        );
      }

-- ---- lists of counts, as far as a loop has come

pub record IsEmpty (kind : KindTally) : Type 0 where
  pub workloads : kind.workloads ≡ 0
  pub first : listed_first kind.first ≡ None

pub no_kinds_yet : (kinds : List KindTally) (i : ℕ) → length kinds ≡ i → All IsEmpty kinds → KINDS ≤ i → i ≤ KINDS
    → AreNoKinds kinds
no_kinds_yet kinds i long empty all few = record {
  long = omega arith;
  none = λ k d low. let it = empty k d (omega arith) in record { workloads = it.workloads; first = it.first };
}

pub empty_pushed : (kinds new : List KindTally) (kind : KindTally) (n : ℕ) → new ≡ kinds ++ kind ∷ [] → IsEmpty kind
    → length kinds ≡ n → All IsEmpty kinds → (length new ≡ n + 1) × All IsEmpty new
empty_pushed kinds new kind n pushed empty long each = (
  ap length pushed ∙ (length_push kinds kind ∙ ap (λ n. n + 1) long),
  subst (All IsEmpty) (sym pushed) (All-push IsEmpty kinds kind each empty),
)

pub record AreKindsAddedBelow (places : List ℕ) (firsts : List (Option ℕ)) (i : ℕ) (old new : List KindTally)
    : Type 0 where
  pub done : (k : ℕ) (d : KindTally) → k < i
      → IsKindAdded places (slice_index_or firsts k None) (slice_index_or old k d) (slice_index_or new k d)
  pub rest : (k : ℕ) (d : KindTally) → i ≤ k → slice_index_or new k d ≡ slice_index_or old k d

pub record AreKindsJoinedBelow (later : List KindTally) (i : ℕ) (old new : List KindTally) : Type 0 where
  pub done : (k : ℕ) (d : KindTally) → k < i
      → IsKindJoined (slice_index_or later k d) (slice_index_or old k d) (slice_index_or new k d)
  pub rest : (k : ℕ) (d : KindTally) → i ≤ k → slice_index_or new k d ≡ slice_index_or old k d

-- one place more is written
pub added_more : (places : List ℕ) (firsts : List (Option ℕ)) (i : ℕ) (old new : List KindTally) (kind : KindTally)
    → i < length new → AreKindsAddedBelow places firsts i old new
    → ((d : KindTally) → IsKindAdded places (slice_index_or firsts i None) (slice_index_or old i d) kind)
    → AreKindsAddedBelow places firsts (i + 1) old (set new i kind)
added_more places firsts i old new kind inside so_far here = record {
  done = λ k d less. elim (eq_or_not k i) [
    | inl e ↦ subst (λ n. IsKindAdded places (slice_index_or firsts n None) (slice_index_or old n d)
        (slice_index_or (set new i kind) n d)) (sym e)
        (subst (IsKindAdded places (slice_index_or firsts i None) (slice_index_or old i d))
        (sym (get_or-set_same new i kind d inside)) (here d))
    | inr ne ↦ subst (IsKindAdded places (slice_index_or firsts k None) (slice_index_or old k d))
        (sym (get_or-set_other new i k kind d ne)) (so_far.done k d (omega arith))
  ];
  rest = λ k d least. get_or-set_other new i k kind d (λ e. omega arith) ∙ so_far.rest k d (omega arith);
}

-- a place stays as it is
pub added_same : (places : List ℕ) (firsts : List (Option ℕ)) (i : ℕ) (old new : List KindTally)
    → AreKindsAddedBelow places firsts i old new → slice_index_or firsts i None ≡ None
    → AreKindsAddedBelow places firsts (i + 1) old new
added_same places firsts i old new so_far none = record {
  done = λ k d less. elim (eq_or_not k i) [
    | inl e ↦ subst (λ n. IsKindAdded places (slice_index_or firsts n None) (slice_index_or old n d)
        (slice_index_or new n d)) (sym e)
        (subst (λ o. IsKindAdded places o (slice_index_or old i d) (slice_index_or new i d)) (sym none)
        (so_far.rest i d (omega arith)))
    | inr ne ↦ so_far.done k d (omega arith)
  ];
  rest = λ k d least. so_far.rest k d (omega arith);
}

pub joined_more : (later : List KindTally) (i : ℕ) (old new : List KindTally) (kind : KindTally) → i < length new
    → AreKindsJoinedBelow later i old new
    → ((d : KindTally) → IsKindJoined (slice_index_or later i d) (slice_index_or old i d) kind)
    → AreKindsJoinedBelow later (i + 1) old (set new i kind)
joined_more later i old new kind inside so_far here = record {
  done = λ k d less. elim (eq_or_not k i) [
    | inl e ↦ subst (λ n. IsKindJoined (slice_index_or later n d) (slice_index_or old n d)
        (slice_index_or (set new i kind) n d)) (sym e)
        (subst (IsKindJoined (slice_index_or later i d) (slice_index_or old i d))
        (sym (get_or-set_same new i kind d inside)) (here d))
    | inr ne ↦ subst (IsKindJoined (slice_index_or later k d) (slice_index_or old k d))
        (sym (get_or-set_other new i k kind d ne)) (so_far.done k d (omega arith))
  ];
  rest = λ k d least. get_or-set_other new i k kind d (λ e. omega arith) ∙ so_far.rest k d (omega arith);
}
