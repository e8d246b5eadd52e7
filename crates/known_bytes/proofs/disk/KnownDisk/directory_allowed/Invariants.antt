use Rattle.std.proofs.Common.{◌≡◌}
use Rattle.std.specs.Prelude.{if◌then◌else◌}
use Rattle.crash_model.specs.declared.showing.Shown.TheVariants.{Nothing, Directory}
use Rattle.crash_model.specs.Layout.{pointer_of, counts}
use Rattle.known_bytes.specs.Reading.{InEachDisk}
use Rattle.known_bytes.proofs.EachValue.{AreTaken}
use Rattle.known_bytes.proofs.disk.KnownDisk.directory_allowed.Given as goal

abbrev pub invariant-loop-block : goal.invariant-loop-block
invariant-loop-block g l = AreTaken l.blocks.low l.blocks.high l.block (λ value. InEachDisk l.self (λ d.
    pointer_of d l.dir 0 ≡ value
    → g.S.Showing.excuses l.showing (if counts d l.dir then Directory else Nothing)))
