-- Which lines of a script wait, promise or let something stand in.
use Rattle.std.specs.Prelude.{List, Bool, true, false}
use Rattle.std.specs.List.{list_any}
use Rattle.crash_model.specs.declared.steps.Act.{Act}
use Rattle.crash_model.specs.declared.steps.Act.TheVariants.{Sync, Fsync, Keep, Hold, Spare}
use Rattle.crash_model.specs.declared.steps.Step.{Step}

-- lines that wait, promise or let something stand in
abbrev pub waits_or_promises : Act → Bool
waits_or_promises Sync = true
waits_or_promises (Fsync _) = true
waits_or_promises (Keep _) = true
waits_or_promises (Hold _) = true
waits_or_promises (Spare _ _) = true
waits_or_promises _ = false

-- a line of the script waits or promises
abbrev pub has_promises : List Step → Bool
has_promises steps = list_any (λ x. waits_or_promises x.act) steps
