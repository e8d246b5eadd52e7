use Rattle.std.proofs.Common.{◌≡◌, ℕ, ◌+◌, ◌<◌, true, false, sym, ◌∙◌, subst}
use Rattle.std.specs.Prelude.{◌↔◌}
use Rattle.patch_sets.specs.Sets.{Has}
use Rattle.traced_patches.specs.Labels.{waits_by}
use Rattle.chosen_rules.specs.ExcludedBy.{ExcludesFaultAt}
use Rattle.chosen_rules.proofs.Lists.{place_more, place_less}
use Rattle.chosen_rules.proofs.LinesPlaced.{excludes_at, excludes_not, all_placed}
use Rattle.chosen_rules.proofs.lines.excluding_lines.Goals as goal
use Rattle.chosen_rules.proofs.lines.excluding_lines.Goals.{then-excludes_fault, else-excludes_fault}

pub loop-place-preserved : goal.loop-place-preserved
loop-place-preserved g c =
    let emitted = c.args.traced.now.emitted in
    let waits = c.waits-waits.result.now in
    let set = c.args.found.now.first in
    let fault = c.args.found.now.fault in
    let n = c.loop-place.place in
    let within = c.loop-place-test.true in
    let wait = c.index-waits-place.result in
    let is = c.index-waits-place.is in
    elim c.if-excludes_fault.branch [
      | then-excludes_fault w ↦ subst
          (λ found. (place : ℕ) → Has found place
          ↔ ((place < n + 1) × ExcludesFaultAt emitted (waits_by waits) set fault place))
          (sym (w.lines-is ∙ w.with-lines.ensures))
          (place_more (ExcludesFaultAt emitted (waits_by waits) set fault) n c.loop-place.lines c.loop-place.invariant
          (excludes_at emitted waits set fault n wait within is (c.excludes_fault.ensures.0 w.if-excludes_fault.true)))
      | else-excludes_fault w ↦ subst
          (λ found. (place : ℕ) → Has found place
          ↔ ((place < n + 1) × ExcludesFaultAt emitted (waits_by waits) set fault place))
          (sym w.lines-is)
          (place_less (ExcludesFaultAt emitted (waits_by waits) set fault) n c.loop-place.lines c.loop-place.invariant
          (excludes_not emitted waits set fault n wait within is
          (λ out. let clash : false ≡ true = sym w.if-excludes_fault.false ∙ c.excludes_fault.ensures.1 out in cc)))
    ]

pub returns : goal.returns
returns g c =
    all_placed c.args.traced.now.emitted c.waits-waits.result.now c.args.found.now.first c.args.found.now.fault
    c.loop-place.place c.args.traced.now.waits c.loop-place.lines c.waits-waits.ensures c.loop-place-test.false
    c.loop-place.invariant
