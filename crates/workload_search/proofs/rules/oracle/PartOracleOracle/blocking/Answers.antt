use Rattle.workload_search.proofs.rules.oracle.PartOracleOracle.blocking.Goals as goal

pub blocking_of-requires-clause-some : goal.blocking_of-requires-clause-some
blocking_of-requires-clause-some g c = c.args.self.now.some

pub blocking_of-requires-clause-passing : goal.blocking_of-requires-clause-passing
blocking_of-requires-clause-passing g c = c.args.self.now.passing
