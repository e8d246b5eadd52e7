use Rattle.std.proofs.Common.{◌<◌, List, ℕ, length, Some, arith, sym, ap, ◌∙◌}
use Rattle.std.proofs.lemmas.List.{get_or_default}
use Rattle.workload_search.specs.Tallies.{listed_first}
use Rattle.workload_search.specs.declared.kinds.KindTally.{KindTally}
use Rattle.workload_search.proofs.Reporting.{kind_pushed, kind_passed}
use Rattle.workload_search.proofs.found.shown.Goals as goal
use Rattle.workload_search.proofs.found.shown.Goals.{in-Some, in_default}

pub loop-i-preserved : goal.loop-i-preserved
loop-i-preserved c =
    let kinds = c.args.kinds.now in
    let i = c.loop-i.i in
    let inside : i < length kinds = omega (arith, c.requires, c.loop-i-test.true) in
    elim c.match-kinds-i.branch [
      | in-Some w ↦ rw w.shown-is (rw w.push.ensures.items
          (kind_pushed kinds i c.loop-i.shown.items _ c.loop-i.invariant (omega (arith, w.at.ensures))
          (λ d. let same = get_or_default kinds i w.index-kinds-i-in-Some.result d inside in cc)
          (λ d. ap (λ (k : KindTally). listed_first k.first)
          (sym (get_or_default kinds i c.index-kinds-i.result d inside))
          ∙ (ap listed_first w.in-Some.is
          ∙ ap (λ (places : List ℕ). Some (places, w.in-Some.first.set)) (sym w.copied.ensures)))))
      | in_default w ↦ rw w.shown-is (kind_passed kinds i c.loop-i.shown.items c.loop-i.invariant
          (λ d. ap (λ (k : KindTally). listed_first k.first)
          (sym (get_or_default kinds i c.index-kinds-i.result d inside)) ∙ ap listed_first w.in_default.is))
    ]
