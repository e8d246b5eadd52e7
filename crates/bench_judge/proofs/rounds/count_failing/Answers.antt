use Rattle.std.proofs.Common.{◌≡◌, ◌+◌, ◌<◌, false, true, take, length, get_or, sym, subst, ◌∙◌, arith}
use Rattle.crash_image.specs.Moves.{IsGood}
use Rattle.bench_judge.specs.Counted.{IsCountOfOthers}
use Rattle.bench_judge.proofs.Counted.{counted_more}
use Rattle.bench_judge.proofs.rounds.count_failing.Goals as goal
use Rattle.bench_judge.proofs.rounds.count_failing.Goals.{then-not-branch, else-not-branch}

pub loop-set-preserved : goal.loop-set-preserved
loop-set-preserved c =
    let good = IsGood c.args.space.now in
    let sets = c.args.sets.now in
    let i = c.loop-set.set-index in
    let inside : i < length sets = omega (arith, c.loop-set-test.true) in
    let more = counted_more good sets i c.loop-set.failing inside c.loop-set.invariant.2 in
    let judged = c.in_ok-judge.ensures.good in
    elim c.if-not-branch.branch [
      | then-not-branch w ↦
          let ill : good (get_or sets i 0) → ⊥ = λ well. let no : false ≡ true = sym w.if-not-branch.true
          ∙ judged.1 well in cc in (
            c.in_ok-judge.ensures.own,
            omega (arith, w.failing-is, c.loop-set.invariant.1),
            subst (IsCountOfOthers good (take (i + 1) sets)) (sym w.failing-is) (more.1 ill),
          )
      | else-not-branch w ↦
          let well : good (get_or sets i 0) = judged.0 w.if-not-branch.false in (
            c.in_ok-judge.ensures.own,
            omega (arith, w.failing-is, c.loop-set.invariant.1),
            subst (IsCountOfOthers good (take (i + 1) sets)) (sym w.failing-is) (more.0 well),
          )
    ]
