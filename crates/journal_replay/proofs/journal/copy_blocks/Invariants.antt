use Rattle.std.proofs.Common.{◌≡◌, take}
use Rattle.journal_replay.specs.Walk.{with_copies}
use Rattle.journal_replay.proofs.journal.copy_blocks.Given as goal

abbrev pub invariant-loop-m : goal.invariant-loop-m
invariant-loop-m g l = (l.image ≡ with_copies l.initial.image l.first (take l.m l.targets))
    × (l.image.blocks ≡ l.initial.image.blocks)
