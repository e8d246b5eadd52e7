use Rattle.fs_check.proofs.Halves.{clean_halves, halves_clean}
use Rattle.fs_check.proofs.laws.clean_is_faultless.Goals as goal

pub returns : goal.returns
returns c = λ d. (clean_halves d, halves_clean d)
