use Rattle.explorers.proofs.Counting.{made_none}
use Rattle.explorers.proofs.exploring.explore.Goals as goal

pub returns-in-Err-clause-at_most_once : goal.returns-in-Err-clause-at_most_once
returns-in-Err-clause-at_most_once g c = made_none _
