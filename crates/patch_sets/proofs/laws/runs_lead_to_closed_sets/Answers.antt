use Rattle.patch_sets.proofs.Runs.{runs_lead}
use Rattle.patch_sets.proofs.laws.runs_lead_to_closed_sets.Goals as goal

pub returns : goal.returns
returns c = λ set writes closed runs. runs_lead c.args.deps.now c.args.homes.now c.requires.homes set c.requires.earlier
    closed writes runs
