-- What is said of rules in one state of tracing is said in each with the same patches and links.
use Rattle.std.proofs.Common.{◌≡◌, ℕ, List, Bool, map, refl, subst, sym, ap, ◌∙◌}
use Rattle.std.specs.Prelude.{◌↔◌, IsTrue, slice_get, slice_index}
use Rattle.patch_sets.specs.Sets.{Has}
use Rattle.crash_model.specs.Checker.{Demands}
use Rattle.crash_model.specs.Disk.{Disk}
use Rattle.crash_model.specs.Patches.{deps_of}
use Rattle.crash_model.specs.Trace.{Emitted, IsGraphOf, depends}
use Rattle.crash_model.specs.Tracing.{Tracing}
use Rattle.crash_model.specs.declared.patches.Patch.{Patch}
use Rattle.crash_model.specs.declared.rules.Rule.{Rule}
use Rattle.question_model.specs.Enough.{AreEnough, IsMinimalEnough, IsNeeded, rules_in, rules_but}
use Rattle.enough_deciding.specs.Rules.{IsTracingOf, tracing_of}
use Rattle.traced_patches.specs.Traced.{TracedPatches}

pub one_tracing : (base : Disk) (t : TracedPatches) → IsTracingOf t (tracing_of base t)
one_tracing base t = record { emitted = refl; links = refl; whole = refl }

module _ (demands : Demands) (base : Disk) (t : TracedPatches) where
  -- the patches by some rules are those of each state
  pub same_graph : (s other : Tracing) (rules : List Rule) (patches : List Patch) → IsTracingOf t s
      → IsTracingOf t other
      → IsGraphOf rules base s patches → IsGraphOf rules base other patches
  same_graph s other rules patches of_s of_other is =
      let emitted : s.emitted ≡ other.emitted = of_s.emitted ∙ sym of_other.emitted in
      let links : s.links ≡ other.links = of_s.links ∙ sym of_other.links in
      let whole : s.whole ≡ other.whole = of_s.whole ∙ sym of_other.whole in
      record {
        places = is.places ∙ ap (λ es. map (λ e. e.place) es) emitted;
        undo = is.undo;
        earlier = is.earlier;
        exactly = λ q p later before less at_q at_p.
            subst (λ (w : Bool). Has (slice_index (deps_of patches) q) p
            ↔ IsTrue (depends rules w other.links later p before)) whole
            (subst (λ ls. Has (slice_index (deps_of patches) q) p ↔ IsTrue (depends rules s.whole ls later p before))
            links
            (is.exactly q p later before less (ap (λ (es : List Emitted). slice_get es q) emitted ∙ at_q)
            (ap (λ (es : List Emitted). slice_get es p) emitted ∙ at_p)));
      }

  -- so rules that are enough are enough in each
  pub same_enough : (s other : Tracing) (rules : List Rule) → IsTracingOf t s → IsTracingOf t other
      → AreEnough demands base s rules → AreEnough demands base other rules
  same_enough s other rules of_s of_other enough =
      (enough.0, same_graph s other rules enough.0 of_s of_other enough.1, enough.2)

  pub minimal_in_each : (s other : Tracing) (rules : List Rule) → IsTracingOf t s → IsTracingOf t other → (set : ℕ)
      → IsMinimalEnough demands base s rules set ↔ IsMinimalEnough demands base other rules set
  minimal_in_each s other rules of_s of_other set =
      (to s other of_s of_other, to other s of_other of_s)
    where
      to : (a b : Tracing) → IsTracingOf t a → IsTracingOf t b → IsMinimalEnough demands base a rules set
          → IsMinimalEnough demands base b rules set
      to a b of_a of_b is = record {
        places = is.places;
        enough = same_enough a b (rules_in rules set) of_a of_b is.enough;
        minimal = λ part inside less enough. is.minimal part inside less
            (same_enough b a (rules_in rules part) of_b of_a enough);
      }

  pub needed_in_each : (s other : Tracing) (rules : List Rule) → IsTracingOf t s → IsTracingOf t other → (group : ℕ)
      → IsNeeded demands base s rules group ↔ IsNeeded demands base other rules group
  needed_in_each s other rules of_s of_other group =
      (to s other of_s of_other, to other s of_other of_s)
    where
      to : (a b : Tracing) → IsTracingOf t a → IsTracingOf t b → IsNeeded demands base a rules group
          → IsNeeded demands base b rules group
      to a b of_a of_b is = record {
        places = is.places;
        some = is.some;
        needed = λ enough. is.needed (same_enough b a (rules_but rules group) of_b of_a enough);
        minimal = λ part inside less. same_enough a b (rules_but rules part) of_a of_b (is.minimal part inside less);
      }
