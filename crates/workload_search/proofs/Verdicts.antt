-- What a right verdict says of a sequence that is tried.
use Rattle.std.proofs.Common.{◌≡◌, ℕ, ◌<◌, ◌≤◌, List, [], ◌∷◌, length, arith, true, false, Option, Some, None, refl}
use Rattle.std.proofs.Common.{sym, subst, ap, ◌∙◌, eqb-true, eq-eqb}
use Rattle.std.specs.Prelude.{slice_index_or, is_some, Result, Err}
use Rattle.crash_model.specs.Checker.{Demands}
use Rattle.crash_model.specs.Tracing.{Tracing}
use Rattle.crash_model.specs.declared.refusals.TraceFault.{TraceFault}
use Rattle.crash_model.specs.declared.patches.Patch.{Patch}
use Rattle.crash_model.specs.Refused.{refusal_of}
use Rattle.question_model.specs.Workloads.{Search, ShowsKind, HasPatches}
use Rattle.question_model.specs.Workloads.{Fails, HasKind}
use Rattle.crash_model.specs.declared.fault_kind.FaultKind.{FaultKind}
use Rattle.crash_model.specs.declared.refusal.Refusal.{Refusal}
use Rattle.crash_model.specs.declared.refusal.Refusal.TheVariants as refused
use Rattle.crash_model.specs.declared.refusal.TheConstants.{REFUSALS}
use Rattle.question_model.specs.Verdict.{IsVerdict, IsRefusal, IsAccepted, IsFirstOfKind}
use Rattle.workload_search.specs.Tallies.{is_accepted, is_passing, is_failing, is_refused_at, shows_at}
use Rattle.workload_search.specs.Tallies.{reason_place, kind_place}
use Rattle.question_model.specs.declared.verdict.Verdict.{Verdict}
use Rattle.question_model.specs.declared.verdict.Verdict.TheVariants as verdict
use Rattle.workload_search.proofs.Accepted.{not_both}
use Rattle.workload_search.proofs.Sequences.{IsTriedSequence, tried_workload}

-- ---- the places of reasons

abbrev reasons : List Refusal
reasons =
    refused.TooManyPatches ∷ refused.NotFound ∷ refused.NotADirectory ∷ refused.Exists ∷ refused.NotAFile
    ∷ refused.NotEmpty ∷ refused.NoInode ∷ refused.NoBlock ∷ refused.DirectoryFull ∷ refused.FileFull
    ∷ refused.LinksFull ∷ refused.JournalFull ∷ []

reason_at_place : (a : Refusal) → slice_index_or reasons (reason_place a) refused.JournalFull ≡ a
reason_at_place refused.TooManyPatches = refl
reason_at_place refused.NotFound = refl
reason_at_place refused.NotADirectory = refl
reason_at_place refused.Exists = refl
reason_at_place refused.NotAFile = refl
reason_at_place refused.NotEmpty = refl
reason_at_place refused.NoInode = refl
reason_at_place refused.NoBlock = refl
reason_at_place refused.DirectoryFull = refl
reason_at_place refused.FileFull = refl
reason_at_place refused.LinksFull = refl
reason_at_place refused.JournalFull = refl

pub same_place : (a b : Refusal) → reason_place a ≡ reason_place b → a ≡ b
same_place a b e = sym (reason_at_place a)
    ∙ (ap (λ i. slice_index_or reasons i refused.JournalFull) e ∙ reason_at_place b)

pub reason_low : (a : Refusal) → reason_place a < REFUSALS
reason_low refused.TooManyPatches = omega arith
reason_low refused.NotFound = omega arith
reason_low refused.NotADirectory = omega arith
reason_low refused.Exists = omega arith
reason_low refused.NotAFile = omega arith
reason_low refused.NotEmpty = omega arith
reason_low refused.NoInode = omega arith
reason_low refused.NoBlock = omega arith
reason_low refused.DirectoryFull = omega arith
reason_low refused.FileFull = omega arith
reason_low refused.LinksFull = omega arith
reason_low refused.JournalFull = omega arith

module _ (s : Search) (places : List ℕ) where
  -- ---- accepted

  pub accepted : (v : Verdict) → IsVerdict s places v → is_accepted v ≡ true → IsAccepted s places
  accepted (verdict.Refused reason) right e = absurd cc
  accepted verdict.Passes right e = right.0
  accepted (verdict.Fails firsts) right e = right.0

  pub accepted_back : (v : Verdict) → IsVerdict s places v → IsAccepted s places → is_accepted v ≡ true
  accepted_back (verdict.Refused reason) right (last, traced) =
      absurd (not_both s places right.fault last right.refused traced)
  accepted_back verdict.Passes right is = refl
  accepted_back (verdict.Fails firsts) right is = refl

  -- ---- failing

  pub failing : (v : Verdict) → IsVerdict s places v → is_failing v ≡ true → IsAccepted s places × Fails s places
  failing (verdict.Refused reason) right e = absurd cc
  failing verdict.Passes right e = absurd cc
  failing (verdict.Fails firsts) right e = (right.0, right.1)

  pub failing_back : (v : Verdict) → IsVerdict s places v → IsAccepted s places → Fails s places → is_failing v ≡ true
  failing_back (verdict.Refused reason) right (last, traced) fails =
      absurd (not_both s places right.fault last right.refused traced)
  failing_back verdict.Passes right is fails = absurd (right.1 fails)
  failing_back (verdict.Fails firsts) right is fails = refl

  -- ---- passing

  pub passing : (v : Verdict) → IsVerdict s places v → is_passing v ≡ true
      → IsAccepted s places × (¬ (Fails s places))
  passing (verdict.Refused reason) right e = absurd cc
  passing verdict.Passes right e = right
  passing (verdict.Fails firsts) right e = absurd cc

  pub passing_back : (v : Verdict) → IsVerdict s places v → IsAccepted s places → (¬ (Fails s places))
      → is_passing v ≡ true
  passing_back (verdict.Refused reason) right (last, traced) passes =
      absurd (not_both s places right.fault last right.refused traced)
  passing_back verdict.Passes right is passes = refl
  passing_back (verdict.Fails firsts) right is passes = absurd (passes right.1)

  -- ---- refused

  same_fault : {a b : Refusal} (x : IsRefusal s places a) (y : IsRefusal s places b) → x.fault ≡ y.fault
  same_fault x y =
      let both : ◌≡◌ {A = Result Tracing TraceFault} (Err x.fault) (Err y.fault) = sym x.refused ∙ y.refused in cc

  pub refusal : (v : Verdict) (reason : Refusal) → IsVerdict s places v → is_refused_at (reason_place reason) v ≡ true
      → IsRefusal s places reason
  refusal (verdict.Refused other) reason right e =
      subst (IsRefusal s places)
      (same_place other reason (eqb-true (reason_place other) (reason_place reason) e)) right
  refusal verdict.Passes reason right e = absurd cc
  refusal (verdict.Fails firsts) reason right e = absurd cc

  pub refusal_back : (v : Verdict) (reason : Refusal) → IsVerdict s places v → IsRefusal s places reason
      → is_refused_at (reason_place reason) v ≡ true
  refusal_back (verdict.Refused other) reason right is =
      let one : ◌≡◌ {A = Option Refusal} (Some other) (Some reason) =
      sym right.because ∙ (ap refusal_of (same_fault right is) ∙ is.because) in
      let same : other ≡ reason = cc in
      eq-eqb (reason_place other) (reason_place reason) (ap reason_place same)
  refusal_back verdict.Passes reason right is =
      absurd (not_both s places is.fault right.0.0 is.refused right.0.1)
  refusal_back (verdict.Fails firsts) reason right is =
      absurd (not_both s places is.fault right.0.0 is.refused right.0.1)

  -- ---- kinds

  fails_with : (kind : FaultKind) (demands : Demands) (patches : List Patch) → HasPatches s places demands patches
      → (set : ℕ) → HasKind kind demands s.base patches set → Fails s places
  fails_with kind demands patches traced set (fault, has, is) = (demands, patches, traced, (set, has.failing))

  -- the verdict has a first set of each kind that is shown
  pub shown : (v : Verdict) (kind : FaultKind) → IsVerdict s places v → IsTriedSequence s places
      → length places ≤ s.most → shows_at (kind_place kind) v ≡ true → ShowsKind s kind places
  shown (verdict.Refused reason) kind right tried short e = absurd cc
  shown verdict.Passes kind right tried short e = absurd cc
  shown (verdict.Fails firsts) kind right tried short e =
      by (slice_index_or firsts (kind_place kind) None) refl
    where
      by : (first : Option ℕ) → slice_index_or firsts (kind_place kind) None ≡ first → ShowsKind s kind places
      by None is = absurd (let no : false ≡ true = sym (ap is_some is) ∙ e in cc)
      by (Some set) is =
          let fails = right.1 in
          let first = subst (IsFirstOfKind kind fails.0 s.base fails.1) is (right.2 fails.0 fails.1 fails.2 kind) in
          record {
            workload = tried_workload s places tried short right.0;
            demands = fails.0;
            patches = fails.1;
            traced = fails.2;
            set = set;
            has = first.among;
          }

  pub shown_back : (v : Verdict) (kind : FaultKind) → IsVerdict s places v → ShowsKind s kind places
      → shows_at (kind_place kind) v ≡ true
  shown_back (verdict.Refused reason) kind right is =
      absurd (not_both s places right.fault is.traced.last right.refused is.traced.traced)
  shown_back verdict.Passes kind right is =
      absurd (right.1 (fails_with kind is.demands is.patches is.traced is.set is.has))
  shown_back (verdict.Fails firsts) kind right is =
      by (slice_index_or firsts (kind_place kind) None) (right.2 is.demands is.patches is.traced kind)
    where
      by : (first : Option ℕ) → IsFirstOfKind kind is.demands s.base is.patches first → is_some first ≡ true
      by None none = absurd (none is.set is.has)
      by (Some set) first = refl
