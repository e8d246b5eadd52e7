use Rattle.std.proofs.Common.{◌≡◌, length, arith, subst}
use Rattle.state_space.specs.Counts.{IsListOf}
use Rattle.board_rule.specs.Lists.{row_of}
use Rattle.explorers.specs.Entries.{IsBrokenBefore}
use Rattle.explorers.proofs.Entries.{row_done}
use Rattle.explorers.proofs.collected.push_broken.Goals as goal

pub returns : goal.returns
returns g c =
    let e = c.args.contents.now in
    let q = c.args.shard in
    let l = c.loop-at.broken.items in
    let all : c.loop-at.at ≡ length (row_of e.rows q) = omega (arith, c.loop-at-test.false, c.loop-at.invariant.end) in
    row_done e c.requires.short q l c.requires.shard (subst (λ k. IsListOf (IsBrokenBefore e q k) l) all
    c.loop-at.invariant.list)
