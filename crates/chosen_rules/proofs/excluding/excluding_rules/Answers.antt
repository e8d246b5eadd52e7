use Rattle.std.proofs.Common.{◌≡◌, ℕ, ◌+◌, ◌<◌, true, false, sym, ◌∙◌, subst}
use Rattle.std.specs.Prelude.{◌↔◌}
use Rattle.patch_sets.specs.Sets.{Has}
use Rattle.chosen_rules.specs.Excluded.{ExcludesAt}
use Rattle.chosen_rules.proofs.Lists.{place_more, place_less}
use Rattle.chosen_rules.proofs.Placed.{excludes_at, excludes_not, all_placed}
use Rattle.chosen_rules.proofs.excluding.excluding_rules.Goals as goal
use Rattle.chosen_rules.proofs.excluding.excluding_rules.Goals.{then-excludes, else-excludes}

pub loop-place-preserved : goal.loop-place-preserved
loop-place-preserved g c =
    let emitted = c.args.traced.now.emitted in
    let rules = c.as_slice-rules.result.now in
    let set = c.args.set in
    let n = c.loop-place.place in
    elim c.if-excludes.branch [
      | then-excludes w ↦ subst
          (λ found. (place : ℕ) → Has found place ↔ ((place < n + 1) × ExcludesAt emitted rules set place))
          (sym (w.found-is ∙ w.with-found.ensures))
          (place_more (ExcludesAt emitted rules set) n c.loop-place.found c.loop-place.invariant
          (excludes_at emitted rules set n _ c.loop-place-test.true (c.excludes.ensures.0 w.if-excludes.true)))
      | else-excludes w ↦ subst
          (λ found. (place : ℕ) → Has found place ↔ ((place < n + 1) × ExcludesAt emitted rules set place))
          (sym w.found-is)
          (place_less (ExcludesAt emitted rules set) n c.loop-place.found c.loop-place.invariant
          (excludes_not emitted rules set n _
          (λ out. let clash : false ≡ true = sym w.if-excludes.false ∙ c.excludes.ensures.1 out in cc)))
    ]

pub returns : goal.returns
returns g c = all_placed c.args.traced.now.emitted c.as_slice-rules.result.now c.args.set c.loop-place.place
    c.args.traced.now.rules c.loop-place.found (c.as_slice-rules.ensures.value ∙ c.ordering.ensures.rules)
    c.loop-place-test.false c.loop-place.invariant
