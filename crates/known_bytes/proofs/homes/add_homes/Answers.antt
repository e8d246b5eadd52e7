use Rattle.std.proofs.Common.{◌<◌, length, arith, ◌∙◌}
use Rattle.std.proofs.lemmas.List.{length-set}
use Rattle.known_bytes.proofs.Noting.{added_more}
use Rattle.known_bytes.proofs.homes.add_homes.Goals as goal

pub loop-m-preserved : goal.loop-m-preserved
loop-m-preserved c =
    let known = c.requires.known c.loop-m.m 0 (omega arith) in
    let inside : c.from-block.result < length c.loop-m.others =
    omega (arith, known, c.from-block.ensures, c.loop-m.invariant.long) in
    record {
      long = length-set c.loop-m.others c.from-block.result c.with.result ∙ c.loop-m.invariant.long;
      added = added_more c.args.others.now c.loop-m.others c.args.first c.loop-m.m c.from-block.result c.with.result
          c.args.targets.now c.from-block.ensures inside c.with.ensures c.loop-m.invariant.added;
    }
