use Rattle.state_space.specs.Counts.{IsListOf}
use Rattle.explorers.specs.Entries.{IsBrokenBefore}
use Rattle.explorers.proofs.collected.broken_words.Given as goal

abbrev pub invariant-loop-shard : goal.invariant-loop-shard
invariant-loop-shard g l = IsListOf (IsBrokenBefore l.contents l.shard 0) l.broken.items
