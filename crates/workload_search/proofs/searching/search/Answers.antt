use Rattle.std.proofs.Common.{ℕ, ◌*◌, ◌≤◌, ◌<◌, ◌^◌, List, length, map, arith, sym, subst, ap, ◌∙◌}
use Rattle.std.proofs.Common.{inl, inr}
use Rattle.std.specs.List.{All}
use Rattle.arrayvec.specs.ArrayVec.{ArrayVec}
use Rattle.workload_search.specs.Tries.{IsExtendable, items_of}
use Rattle.workload_search.proofs.Finding.{all_found}
use Rattle.workload_search.proofs.Kept.{kept_none, kept_level, all_passing}
use Rattle.workload_search.proofs.Searched.{batch_of, level_room, all_extendable, join_room, all_searched}
use Rattle.workload_search.proofs.searching.search.Goals as goal

pub loop-made-init : goal.loop-made-init
loop-made-init g c = kept_none (g.J.Judge.search c.args.judge.now) c.args.pool c.args.keeps c.in_ok-tally.tally
    c.new-passing.result.items c.in_ok-beginnings.beginnings.items c.in_ok-tally.ensures c.new-passing.ensures.items
    c.in_ok-beginnings.ensures

pub try_level-requires-clause-room : goal.try_level-requires-clause-room
try_level-requires-clause-room g c = λ _ _.
    let beginnings = c.loop-made.beginnings in
    let pool = c.args.pool in
    let few : length beginnings.items ≤ 2 ^ 63 = omega (arith, beginnings.ok.0, beginnings.ok.1, beginnings.small) in
    subst (λ (xs : List (ArrayVec ℕ)). length xs * pool < 2 ^ 128) (sym c.deref.ensures.value)
    (level_room pool beginnings.items few c.requires.small)

pub try_level-requires-clause-short : goal.try_level-requires-clause-short
try_level-requires-clause-short g c = λ _ _.
    let beginnings = c.loop-made.beginnings in
    let pool = c.args.pool in
    let laws = g.met.J.Judge g.world.𝓛 g.world.𝓜 g.world.𝓡 ((λ s x. x), (λ x. x), (λ x. x), λ x. x) in
    subst (All (IsExtendable (g.J.Judge.search c.args.judge.now) pool)) (sym c.deref.ensures.value)
    (all_extendable (g.J.Judge.search c.args.judge.now) pool c.loop-made.made beginnings.items
    (laws.begins c.args.judge.now) c.requires.pool
    (omega (arith, c.loop-made-test.true, c.requires.range.1))
    (c.loop-made.invariant.searched.fronts (omega (arith, c.loop-made-test.true, c.requires.most))))

pub join-requires : goal.join-requires
join-requires g c =
    let s = g.J.Judge.search c.args.judge.now in
    let beginnings = c.loop-made.beginnings in
    let pool = c.args.pool in
    let few : length beginnings.items ≤ 2 ^ 63 = omega (arith, beginnings.ok.0, beginnings.ok.1, beginnings.small) in
    join_room s pool c.loop-made.made beginnings.items c.loop-made.tally _ c.in_ok-batch.batch few
    (omega (arith, c.loop-made-test.true, c.requires.range.1)) c.requires.small c.loop-made.invariant.searched
    (batch_of s _ pool c.deref.result.now beginnings.items c.in_ok-batch.batch c.deref.ensures.value
    c.in_ok-batch.ensures)

pub loop-made-preserved : goal.loop-made-preserved
loop-made-preserved g c =
    let s = g.J.Judge.search c.args.judge.now in
    let beginnings = c.loop-made.beginnings in
    let pool = c.args.pool in
    let so_far = c.loop-made.invariant in
    let few : length beginnings.items ≤ 2 ^ 63 = omega (arith, beginnings.ok.0, beginnings.ok.1, beginnings.small) in
    let b = batch_of s _ pool c.deref.result.now beginnings.items c.in_ok-batch.batch c.deref.ensures.value
    c.in_ok-batch.ensures in
    kept_level s pool c.loop-made.made c.args.keeps c.are_wanted.result c.loop-made.tally c.join.new.self
    c.loop-made.passing.items beginnings.items c.keep.new.kept.items c.in_ok-batch.batch c.requires.pool few
    (omega (arith, c.loop-made-test.true, c.requires.most)) (λ whole. c.are_wanted.ensures.1 (inl whole))
    (λ more. c.are_wanted.ensures.1 (inr (omega (arith, more, c.requires.most)))) so_far b
    (c.join.ensures so_far.searched.tried b.tried so_far.searched.is b.tally) c.in_ok-keep.ensures

pub returns-clause-found : goal.returns-clause-found
returns-clause-found g c =
    let s = g.J.Judge.search c.args.judge.now in
    let so_far = c.loop-made.invariant.searched in
    all_found s so_far.tried
    (all_searched s c.args.pool c.loop-made.made c.loop-made.tally c.loop-made.beginnings.items
    (omega (arith, c.loop-made-test.false, c.requires.most)) so_far)
    c.loop-made.tally so_far.is c.found-found.result c.found-found.ensures

pub returns-clause-passing : goal.returns-clause-passing
returns-clause-passing g c = λ whole.
    let s = g.J.Judge.search c.args.judge.now in
    let so_far = c.loop-made.invariant in
    all_passing s so_far.searched.tried
    (all_searched s c.args.pool c.loop-made.made c.loop-made.tally c.loop-made.beginnings.items
    (omega (arith, c.loop-made-test.false, c.requires.most)) so_far.searched)
    (map items_of c.drop_first.new.sequences.items)
    (c.drop_first.ensures _ _ (ap (λ (xs : List (ArrayVec ℕ)). map items_of xs) (c.in_ok-keep-2.ensures whole)
    ∙ so_far.kept whole))
