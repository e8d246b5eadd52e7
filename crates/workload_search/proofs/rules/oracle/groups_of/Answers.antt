use Rattle.std.proofs.Common.{map}
use Rattle.workload_search.specs.Tries.{items_of}
use Rattle.workload_search.proofs.Together.{more_are_enough}
use Rattle.workload_search.proofs.rules.oracle.groups_of.Goals as goal

pub blocking_groups-requires : goal.blocking_groups-requires
blocking_groups-requires g c = more_are_enough (g.J.RuleJudge.search c.args.judge.now)
    (map items_of c.args.workloads.now) c.args.parts c.args.part
