-- The closed and the failing sets under more rules.
use Rattle.std.proofs.Common.{◌≡◌, ℕ, zero, suc, ◌<◌, List, [], ◌∷◌, length, map, Some, arith, refl, sym, ◌∙◌, ap}
use Rattle.std.proofs.Common.{true, subst}
use Rattle.std.specs.Prelude.{slice_get}
use Rattle.std.proofs.lemmas.List.{length-map}
use Rattle.patch_sets.specs.Closed.{IsClosed}
use Rattle.crash_model.specs.Disk.{Disk}
use Rattle.crash_model.specs.Failing.{IsFailing}
use Rattle.crash_model.specs.Faults.{IsClean}
use Rattle.crash_model.specs.Patches.{Place, place, places_of, deps_of, image_from}
use Rattle.crash_model.specs.Replay.{image_after_replay}
use Rattle.crash_model.specs.RuleFacts.{AreAmong}
use Rattle.crash_model.specs.Checker.{Demands, IsCleanUnder, IsFailingUnder}
use Rattle.crash_model.specs.Trace.{Emitted, depends, IsGraphOf}
use Rattle.crash_model.specs.Tracing.{Tracing}
use Rattle.crash_model.specs.declared.patches.Patch.{Patch}
use Rattle.crash_model.specs.declared.rules.Rule.{Rule}
use Rattle.crash_model.proofs.Dependence.{depends-among}

pub get_some : {X : Type 0} (xs : List X) (i : ℕ) → i < length xs → (x : X) × (slice_get xs i ≡ Some x)
get_some [] i below = absurd (omega arith)
get_some (x ∷ xs) zero below = (x, refl)
get_some (x ∷ xs) (suc i) below = get_some xs i (omega arith)

pub length-deps : (rules : List Rule) (base : Disk) (s : Tracing) (patches : List Patch)
    → IsGraphOf rules base s patches
    → length (deps_of patches) ≡ length s.emitted
length-deps rules base s patches graph =
    let all : length (deps_of patches) ≡ length patches = length-map patches (λ (p : Patch). p.deps) in
    let places : length (places_of patches) ≡ length patches =
    length-map patches (λ (p : Patch). place p.block p.offset p.new.items) in
    let emitted : length (map (λ (e : Emitted). e.place) s.emitted) ≡ length s.emitted =
    length-map s.emitted (λ (e : Emitted). e.place) in
    let same : length (places_of patches) ≡ length (map (λ (e : Emitted). e.place) s.emitted) =
    ap (λ (ps : List Place). length ps) graph.places in
    omega arith

-- two graphs of the same patches, where what depends on an earlier patch in the first does so in the second
module _ (some all : List Rule) (base : Disk) (s t : Tracing) (few more : List Patch) (set : ℕ)
    (same : t.emitted ≡ s.emitted)
    (adds : (q : Emitted) (id : ℕ) (p : Emitted) → depends some s.whole s.links q id p ≡ true
    → depends all t.whole t.links q id p ≡ true)
    (graph : IsGraphOf some base s few) (wider : IsGraphOf all base t more) where
  at_other : (id : ℕ) (x : Emitted) → slice_get s.emitted id ≡ Some x → slice_get t.emitted id ≡ Some x
  at_other id x at = ap (λ (es : List Emitted). slice_get es id) same ∙ at

  same_places : places_of few ≡ places_of more
  same_places = graph.places ∙ sym (ap (λ (es : List Emitted). map (λ (e : Emitted). e.place) es) same)
      ∙ sym wider.places

  pub closed_both : IsClosed (deps_of more) set → IsClosed (deps_of few) set
  closed_both closed =
      let short : length (deps_of few) ≡ length s.emitted = length-deps some base s few graph in
      let long : length (deps_of more) ≡ length s.emitted = length-deps all base t more wider
      ∙ ap (λ (es : List Emitted). length es) same in
      record {
        known = λ id has. let below : id < length (deps_of more) = closed.known id has in omega arith;
        whole = λ q p has dep.
            let before : p < q = graph.earlier q p dep in
            let below : q < length (deps_of more) = closed.known q has in
            let later = get_some s.emitted q (omega arith) in
            let earlier = get_some s.emitted p (omega arith) in
            let waits = (graph.exactly q p later.0 earlier.0 before later.1 earlier.1).0 dep in
            closed.whole q p has ((wider.exactly q p later.0 earlier.0 before (at_other q later.0 later.1)
            (at_other p earlier.0 earlier.1)).1 (adds later.0 p earlier.0 waits));
      }

  pub failing_both : IsFailing base more set → IsFailing base few set
  failing_both failing = record {
    closed = closed_both failing.closed;
    unclean = λ clean. failing.unclean (subst (λ (ps : List Place).
        IsClean (image_after_replay (image_from 0 base ps set))) same_places clean);
  }

  pub failing_under_both : (demands : Demands) → IsFailingUnder demands base more set
      → IsFailingUnder demands base few set
  failing_under_both demands failing = record {
    closed = closed_both failing.closed;
    unclean = λ clean. failing.unclean (subst (λ (ps : List Place).
        IsCleanUnder demands set (image_after_replay (image_from 0 base ps set))) same_places clean);
  }

-- by more rules
module _ (some all : List Rule) (base : Disk) (s : Tracing) (few more : List Patch) (set : ℕ)
    (among : AreAmong some all) (graph : IsGraphOf some base s few) (wider : IsGraphOf all base s more) where
  adds_rules : (q : Emitted) (id : ℕ) (p : Emitted) → depends some s.whole s.links q id p ≡ true
      → depends all s.whole s.links q id p ≡ true
  adds_rules q id p = depends-among some all s.whole s.links q id p among

  pub closed_more : IsClosed (deps_of more) set → IsClosed (deps_of few) set
  closed_more = closed_both some all base s s few more set refl adds_rules graph wider

  pub failing_more : IsFailing base more set → IsFailing base few set
  failing_more = failing_both some all base s s few more set refl adds_rules graph wider

  pub failing_under_more : (demands : Demands) → IsFailingUnder demands base more set
      → IsFailingUnder demands base few set
  failing_under_more = failing_under_both some all base s s few more set refl adds_rules graph wider
