-- The least set of the faults of a kind.
use Rattle.std.proofs.Common.{◌≡◌, ◌≢◌, ℕ, ◌+◌, ◌-◌, ◌<◌, List, [], ◌∷◌, ◌++◌, map, length, take, sym, subst, ap}
use Rattle.std.proofs.Common.{◌∙◌, inl, inr, get_or, set, arith}
use Rattle.std.specs.Prelude.{◌⊎◌, Option, Some, None, IfSome, count_ones}
use Rattle.std.specs.List.{Contains}
use Rattle.std.proofs.lemmas.List.{take_more, get_or-set_same, get_or-set_other}
use Rattle.std.proofs.lemmas.List.Elements.{All-contains, Contains-append_left, Contains-push, Contains-push_cases}
use Rattle.patch_sets.specs.Sets.{IsBefore}
use Rattle.state_space.proofs.Counting.{below, same, above, order_of}
use Rattle.patch_sets.proofs.Bits.{eq_or_not}
use Rattle.patch_sets.proofs.Canonical.{before_trans}
use Rattle.patch_sets.proofs.Lists.{in_none, in_front, in_rest, front_or_rest}
use Rattle.crash_model.specs.Checker.{Demands}
use Rattle.crash_model.specs.Disk.{Disk}
use Rattle.crash_model.specs.FirstSets.{HasFault, IsFirst}
use Rattle.crash_model.specs.declared.fault.Fault.{Fault}
use Rattle.crash_model.specs.declared.patches.Patch.{Patch}
use Rattle.question_model.specs.Decided.{AreDecided}
use Rattle.question_model.specs.declared.decided_fault.DecidedFault.{DecidedFault}
use Rattle.crash_model.proofs.KindNumbers.{same_kind}
use Rattle.crash_model.specs.FaultKinds.{kind_of, kind_number}
use Rattle.question_model.specs.Verdict.{IsFirstOfKind}
use Rattle.crash_model.specs.declared.fault_kind.FaultKind.{FaultKind}
use Rattle.pool_judging.specs.Firsts.{IsOfKind, IsLeast, IsLeastOfKind}

-- of two sets one is before the other, or they are the same
before_or_same : (a b : ℕ) → IsBefore a b ⊎ ((a ≡ b) ⊎ IsBefore b a)
before_or_same a b = elim (order_of (count_ones a) (count_ones b)) [
  | below h ↦ inl (inl h)
  | same e ↦ elim (order_of a b) [
    | below h ↦ inl (inr (e, h))
    | same f ↦ inr (inl f)
    | above h ↦ inr (inr (inr (sym e, h)))
  ]
  | above h ↦ inr (inr (inl h))
]

-- what is not before a set is not before one that the set is not before
not_before : (a b c : ℕ) → ¬ (IsBefore a b) → ¬ (IsBefore b c) → ¬ (IsBefore a c)
not_before a b c first second sooner = elim (before_or_same b c) [
  | inl h ↦ second h
  | inr (inl e) ↦ first (subst (IsBefore a) (sym e) sooner)
  | inr (inr h) ↦ first (before_trans a c b sooner h)
]

module _ (kind : FaultKind) (faults : List DecidedFault) (d : DecidedFault) where
  -- a fault of another kind changes nothing
  pub one_other : (least : Option ℕ) → kind_of d.fault ≢ kind → IsLeastOfKind kind faults least
      → IsLeastOfKind kind (faults ++ d ∷ []) least
  one_other None apart none = λ other of_kind. elim (Contains-push_cases faults d other of_kind.0) [
    | inl old ↦ none other (old, of_kind.1)
    | inr e ↦ apart (ap (λ (x : DecidedFault). kind_of x.fault) e ∙ of_kind.1)
  ]
  one_other (Some set) apart is = record {
    decided = is.decided;
    among = (Contains-append_left faults (d ∷ []) is.decided is.among.0, is.among.1);
    of_it = is.of_it;
    least = λ other of_kind. elim (Contains-push_cases faults d other of_kind.0) [
      | inl old ↦ is.least other (old, of_kind.1)
      | inr e ↦ absurd (apart (ap (λ (x : DecidedFault). kind_of x.fault) e ∙ of_kind.1))
    ];
  }

  -- one of the kind is the least where no other is before it
  pub one_more : (least : Option ℕ) (set : ℕ) → kind_of d.fault ≡ kind → IsLeastOfKind kind faults least
      → (set ≡ d.first) ⊎ (least ≡ Some set) → ¬ (IsBefore d.first set)
      → IfSome least (λ so_far. ¬ (IsBefore so_far set)) → IsLeast kind (faults ++ d ∷ []) set
  one_more None set is none one this old = record {
    decided = d;
    among = (Contains-push faults d, is);
    of_it = elim one [ inl e ↦ sym e | inr e ↦ cc ];
    least = λ other of_kind. elim (Contains-push_cases faults d other of_kind.0) [
      | inl before ↦ absurd (none other (before, of_kind.1))
      | inr e ↦ subst (λ (x : DecidedFault). ¬ (IsBefore x.first set)) e this
    ];
  }
  one_more (Some so_far) set is least one this old = record {
    decided = who.0;
    among = who.1;
    of_it = who.2;
    least = λ other of_kind. elim (Contains-push_cases faults d other of_kind.0) [
      | inl before ↦ not_before other.first so_far set (least.least other (before, of_kind.1)) old
      | inr e ↦ subst (λ (x : DecidedFault). ¬ (IsBefore x.first set)) e this
    ];
  }
    where
      who : (x : DecidedFault) × IsOfKind kind (faults ++ d ∷ []) x × (x.first ≡ set)
      who = elim one [
        | inl e ↦ (d, (Contains-push faults d, is), sym e)
        | inr e ↦ (
          least.decided,
          (Contains-append_left faults (d ∷ []) least.decided least.among.0, least.among.1),
          least.of_it ∙ cc,
        )
      ]

-- the same of the faults up to a place
module _ (kind : FaultKind) (faults : List DecidedFault) (i : ℕ) (d : DecidedFault) (within : i < length faults)
    (least : Option ℕ) where
  pub least_other : kind_of (get_or faults i d).fault ≢ kind → IsLeastOfKind kind (take i faults) least
      → IsLeastOfKind kind (take (i + 1) faults) least
  least_other apart is = subst (λ (fs : List DecidedFault). IsLeastOfKind kind fs least)
      (sym (take_more faults i d within)) (one_other kind (take i faults) (get_or faults i d) least apart is)

  pub least_more : (set : ℕ) → kind_of (get_or faults i d).fault ≡ kind → IsLeastOfKind kind (take i faults) least
      → (set ≡ (get_or faults i d).first) ⊎ (least ≡ Some set) → ¬ (IsBefore (get_or faults i d).first set)
      → IfSome least (λ so_far. ¬ (IsBefore so_far set)) → IsLeast kind (take (i + 1) faults) set
  least_more set of_kind is one this old = subst (λ (fs : List DecidedFault). IsLeast kind fs set)
      (sym (take_more faults i d within)) (one_more kind (take i faults) (get_or faults i d) least set of_kind is one
      this old)

-- the least for each kind whose place is below another
abbrev pub AreLeastBelow : List DecidedFault → ℕ → List (Option ℕ) → Type 0
AreLeastBelow faults i firsts =
    (kind : FaultKind) → kind_number kind - 1 < i
    → IsLeastOfKind kind faults (get_or firsts (kind_number kind - 1) None)

-- the same with that of one more kind
pub least_below_more : (faults : List DecidedFault) (i : ℕ) (firsts : List (Option ℕ)) (here : FaultKind)
    (least : Option ℕ) → AreLeastBelow faults i firsts → i < length firsts → kind_number here ≡ i + 1
    → IsLeastOfKind here faults least → AreLeastBelow faults (i + 1) (set firsts i least)
least_below_more faults i firsts here least are within at is = λ kind below. elim (eq_or_not (kind_number kind - 1) i) [
  | inl e ↦ subst (λ n. IsLeastOfKind kind faults (get_or (set firsts i least) n None)) (sym e)
      (subst (IsLeastOfKind kind faults) (sym (get_or-set_same firsts i least None within))
      (subst (λ (k : FaultKind). IsLeastOfKind k faults least) (same_kind here kind (omega (arith, at, e))) is))
  | inr other ↦ subst (IsLeastOfKind kind faults)
      (sym (get_or-set_other firsts i (kind_number kind - 1) least None other)) (are kind (omega (arith, below, other)))
]

-- a fault that is listed is listed with a first set
listed : (faults : List DecidedFault) (fault : Fault) → Contains (map (λ f. f.fault) faults) fault
    → (d : DecidedFault) × Contains faults d × (d.fault ≡ fault)
listed [] fault there = absurd (in_none fault there)
listed (d ∷ ds) fault there = elim (front_or_rest d.fault (map (λ f. f.fault) ds) fault there) [
  | inl e ↦ (d, in_front d ds, e)
  | inr rest ↦ let more = listed ds fault rest in (more.0, in_rest d ds more.0 more.1, more.2)
]

-- the least of the first sets of the faults of a kind is the first set with such a fault
pub least_is_first : (demands : Demands) (base : Disk) (patches : List Patch) (faults : List DecidedFault)
    (kind : FaultKind) (least : Option ℕ) → AreDecided (HasFault demands base patches) faults
    → IsLeastOfKind kind faults least → IsFirstOfKind kind demands base patches least
least_is_first demands base patches faults kind None are none = λ set has.
    let there = listed faults has.0 (are.every has.0 set has.1) in
    none there.0 (there.1, ap kind_of there.2 ∙ has.2)
least_is_first demands base patches faults kind (Some set) are is = record {
  among = (
    is.decided.fault,
    subst (HasFault demands base patches is.decided.fault) is.of_it (first_with is.decided is.among.0).among,
    is.among.1,
  );
  first = λ other has.
      let there = listed faults has.0 (are.every has.0 other has.1) in
      let first = first_with there.0 there.1 in
      not_before other there.0.first set
      (first.first other (subst (λ (f : Fault). HasFault demands base patches f other) (sym there.2) has.1))
      (is.least there.0 (there.1, ap kind_of there.2 ∙ has.2));
}
  where
    first_with : (d : DecidedFault) → Contains faults d → IsFirst (HasFault demands base patches d.fault) d.first
    first_with d there = All-contains (λ f. IsFirst (HasFault demands base patches f.fault) f.first) faults d are.each
        there
