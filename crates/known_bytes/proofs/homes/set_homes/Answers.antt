use Rattle.std.proofs.Common.{◌<◌, ◌-◌, ◌+◌, arith, refl, length, ◌∙◌}
use Rattle.std.proofs.lemmas.List.{length-set}
use Rattle.known_bytes.proofs.Setting.{setting_start, setting_step}
use Rattle.known_bytes.proofs.homes.set_homes.Goals as goal

pub loop-m-init : goal.loop-m-init
loop-m-init c = record {
  inside = omega arith;
  long = c.told-homes;
  setting = setting_start c.args.homes.now c.args.first (length c.args.targets.now) c.args.targets.now refl;
}

pub loop-m-preserved : goal.loop-m-preserved
loop-m-preserved c =
    let less : c.loop-m.m - 1 < length c.args.targets.now = omega arith in
    let known = c.requires.known (c.loop-m.m - 1) 0 less in
    let place : c.from.result < length c.loop-m.homes = omega (arith, known, c.from.ensures) in
    record {
      inside = omega arith;
      long = length-set c.loop-m.homes c.from.result (c.args.first + (c.loop-m.m - 1)) ∙ c.loop-m.invariant.long;
      setting = setting_step c.args.homes.now c.loop-m.homes c.args.first c.loop-m.m (c.loop-m.m - 1) c.from.result
          (c.args.first + (c.loop-m.m - 1)) c.args.targets.now (omega arith) less c.from.ensures place refl
          c.loop-m.invariant.setting;
    }
