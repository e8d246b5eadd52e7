use Rattle.patch_sets.specs.Sets.{IsSubset}
use Rattle.journal_replay.proofs.Changed.{HasFirst}
use Rattle.journal_replay.proofs.journal.with_all.Given as goal

abbrev pub invariant-loop-block : goal.invariant-loop-block
invariant-loop-block l = record { old : IsSubset l.set l.all; more : HasFirst l.all l.block-index l.blocks }
