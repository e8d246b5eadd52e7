use Rattle.std.proofs.Common.{arith, sym}
use Rattle.std.specs.List.{concat}
use Rattle.patch_sets.proofs.DistinctWords.{all_in_order}
use Rattle.state_space.specs.Reach.{IsReached}
use Rattle.explorers.specs.Entries.{AreShort}
use Rattle.explorers.proofs.Entries.{broken_all}
use Rattle.explorers.proofs.collected.collect.Goals as goal

pub returns-clause-found : goal.returns-clause-found
returns-clause-found g c =
    let s = c.args._space.now in
    let e = c.args.contents.now in
    let next = g.S.Space.successors s in
    let start = g.S.Space.initial s in
    let good = g.S.Space.is_good s in
    let l = c.in_ok-broken.broken.items in
    let short : AreShort e.rows = λ q near. let fits = c.requires.entries.short q near in
    omega (arith, fits, c.requires.small) in
    record {
      total = (concat e.rows, c.requires.done.list, sym c.count_entries-total.ensures);
      within = c.if-total-limit.false;
      broken = all_in_order (λ w. IsReached next start w × (good w → ⊥)) l c.in_order.result.items
          (broken_all e next start c.args.limit good l c.requires.entries c.requires.settled c.requires.done short
          c.in_ok-broken.ensures)
          c.in_order.ensures.same c.in_order.ensures.ordered;
    }
