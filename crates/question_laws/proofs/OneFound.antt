-- A search finds at most one thing.
use Rattle.std.proofs.Common.{◌≡◌, ℕ, ◌<◌, List, arith, sym, subst}
use Rattle.std.specs.Prelude.{Result, Ok}
use Rattle.crash_model.specs.Checker.{Demands}
use Rattle.crash_model.specs.FirstSets.{IsFirst}
use Rattle.crash_model.specs.Trace.{IsGraphOf}
use Rattle.crash_model.specs.Tracing.{Tracing}
use Rattle.crash_model.specs.declared.patches.Patch.{Patch}
use Rattle.crash_model.specs.declared.refusals.TraceFault.{TraceFault}
use Rattle.question_model.specs.SearchCounts.{IsCounted, AreCounted, IsShown, AreShown, AreSearchCounts}
use Rattle.crash_model.specs.FaultKinds.{kind_number}
use Rattle.crash_model.specs.Refused.{refusal_number}
use Rattle.question_model.specs.Sequences.{CountsSequences, IsFirstSequence}
use Rattle.question_model.specs.Workloads.{Search, workload_at, trace_at, HasPatches, IsWorkload, IsFailingWorkload}
use Rattle.question_model.specs.Workloads.{IsRefusedFor, HasKind, ShowsKind}
use Rattle.crash_model.specs.declared.fault_kind.FaultKind.{FaultKind}
use Rattle.question_model.specs.declared.found.SearchCounts.{SearchCounts}
use Rattle.question_model.specs.declared.found.RefusedCount.{RefusedCount}
use Rattle.question_model.specs.declared.found.ShownKind.{ShownKind}
use Rattle.crash_model.specs.declared.refusal.Refusal.{Refusal}
use Rattle.uniqueness_laws.proofs.Demands.{one_demands}
use Rattle.uniqueness_laws.proofs.OneGraph.{graph_one}
use Rattle.question_laws.proofs.OneSections.{first_one}
use Rattle.question_laws.proofs.Orders.{one_keyed}
use Rattle.question_laws.proofs.Sequences.{count_one, counted_some, first_sequence_one}

less_both : (n m : ℕ) → n < m → m < n → ⊥
less_both n m less more = omega arith

last_one : (r : Result Tracing TraceFault) (a b : Tracing) → r ≡ Ok a → r ≡ Ok b → a ≡ b
last_one r a b is also = cc

module _ (s : Search) where
  -- the patches of a sequence, and what is demanded of them, are determined
  pub patches_one : (places : List ℕ) (demands more : Demands) (patches others : List Patch)
      → HasPatches s places demands patches → HasPatches s places more others → (demands ≡ more) × (patches ≡ others)
  patches_one places demands more patches others is also =
      let lasts : is.last ≡ also.last = last_one (trace_at s places) is.last also.last is.traced also.traced in (
        one_demands s.asked s.base (workload_at s places) demands more is.demanded also.demanded,
        graph_one s.rules s.base also.last patches others
            (subst (λ last. IsGraphOf s.rules s.base last patches) lasts is.graph) also.graph,
      )

  refused_one : (a b : RefusedCount) → IsCounted s a → IsCounted s b → a.reason ≡ b.reason → a ≡ b
  refused_one a b is also same =
      let count : a.count ≡ b.count = count_one (IsRefusedFor s b.reason) a.count b.count
      (subst (λ (reason : Refusal). CountsSequences (IsRefusedFor s reason) a.count) same is.counted) also.counted in
      λ i. record { reason = same i; count = count i }

  pub all_refused_one : (xs ys : List RefusedCount) → AreCounted s xs → AreCounted s ys → xs ≡ ys
  all_refused_one xs ys are also =
      one_keyed (λ (p q : Refusal). refusal_number p < refusal_number q)
      (λ p q. less_both (refusal_number p) (refusal_number q)) (λ (r : RefusedCount). r.reason)
      (IsCounted s) refused_one
      xs ys are.ordered also.ordered are.each also.each
      (λ r here. let some = counted_some (IsRefusedFor s r.reason) r.count here.counted here.some in
      are.every r.reason some.0 some.1)
      (λ r here. let some = counted_some (IsRefusedFor s r.reason) r.count here.counted here.some in
      also.every r.reason some.0 some.1)

  shown_one : (a b : ShownKind) → IsShown s a → IsShown s b → a.kind ≡ b.kind → a ≡ b
  shown_one a b is also same =
      let workloads : a.workloads ≡ b.workloads = count_one (ShowsKind s b.kind) a.workloads b.workloads
      (subst (λ (kind : FaultKind). CountsSequences (ShowsKind s kind) a.workloads) same is.counted) also.counted in
      let places : a.places.items ≡ b.places.items = first_sequence_one
      (ShowsKind s b.kind) a.places.items b.places.items
      (subst (λ (kind : FaultKind). IsFirstSequence (ShowsKind s kind) a.places.items) same is.earliest)
      also.earliest in
      let there = also.earliest.among in
      let at_a : HasPatches s a.places.items there.demands there.patches =
      subst (λ (items : List ℕ). HasPatches s items there.demands there.patches) (sym places) there.traced in
      let first : a.first ≡ b.first = first_one (HasKind b.kind there.demands s.base there.patches) a.first b.first
      (subst (λ (kind : FaultKind). IsFirst (HasKind kind there.demands s.base there.patches) a.first) same
      (is.first there.demands there.patches at_a)) (also.first there.demands there.patches there.traced) in
      λ i. record {
        kind = same i;
        workloads = workloads i;
        places = record { items = places i };
        first = first i;
      }

  pub all_shown_one : (xs ys : List ShownKind) → AreShown s xs → AreShown s ys → xs ≡ ys
  all_shown_one xs ys are also =
      one_keyed (λ (p q : FaultKind). kind_number p < kind_number q)
      (λ p q. less_both (kind_number p) (kind_number q)) (λ (k : ShownKind). k.kind) (IsShown s) shown_one
      xs ys are.ordered also.ordered are.each also.each
      (λ k here. are.every k.kind k.places.items here.earliest.among)
      (λ k here. also.every k.kind k.places.items here.earliest.among)

  pub found_one : (found other : SearchCounts) → AreSearchCounts s found → AreSearchCounts s other → found ≡ other
  found_one found other is also =
      let workloads : found.workloads ≡ other.workloads = count_one (IsWorkload s) found.workloads other.workloads
      is.workloads also.workloads in
      let failing : found.failing ≡ other.failing = count_one
      (IsFailingWorkload s) found.failing other.failing is.failing
      also.failing in
      let refused : found.refused.items ≡ other.refused.items = all_refused_one found.refused.items other.refused.items
      is.refused also.refused in
      let kinds : found.kinds.items ≡ other.kinds.items = all_shown_one found.kinds.items other.kinds.items is.kinds
      also.kinds in
      λ i. record {
        workloads = workloads i;
        failing = failing i;
        refused = record { items = refused i };
        kinds = record { items = kinds i };
      }
