use Rattle.std.proofs.Common.{◌≡◌, ◌∙◌, ◌<◌, ℕ, List, length, take, ap, arith}
use Rattle.std.specs.List.{concat}
use Rattle.explorers.proofs.Entries.{concat_next, take_all}
use Rattle.explorers.proofs.collected.count_entries.Goals as goal

pub overflow_add-total : goal.overflow_add-total
overflow_add-total g c = let near : c.loop-shard.shard < 13 = omega (arith, c.loop-shard-test.true) in
    let fits = c.requires.short c.loop-shard.shard near in
    omega (arith, near, fits, c.len-total.ensures, c.loop-shard.invariant.small)

pub loop-shard-preserved : goal.loop-shard-preserved
loop-shard-preserved g c =
    let q = c.loop-shard.shard in
    let near : q < 13 = omega (arith, c.loop-shard-test.true) in
    let fits = c.requires.short q near in
    let next = concat_next c.args.contents.now.rows q (omega (arith, near, c.requires.thirteen)) in
    record {
      count = omega (arith, next, c.len-total.ensures, c.loop-shard.invariant.count);
      small = omega (arith, fits, c.len-total.ensures, c.loop-shard.invariant.small);
    }

pub returns : goal.returns
returns g c =
    let rows = c.args.contents.now.rows in
    let all : c.loop-shard.shard ≡ 13 = omega (arith, c.loop-shard-test.false) in
    c.loop-shard.invariant.count ∙ ap (λ (n : ℕ). length (concat (take n rows))) all
    ∙ ap (λ (l : List (List ℕ)). length (concat l)) (take_all rows 13 c.requires.thirteen)
