use Rattle.std.proofs.Common.{refl}
use Rattle.crash_model.specs.declared.modules.Module.TheVariants.{Full}
use Rattle.full_journal_laws.proofs.Failing.{none_fails}
use Rattle.full_journal_laws.proofs.Safe.{traced_is_safe}
use Rattle.full_journal_laws.proofs.laws.nothing_fails_without_promises.Goals as goal

pub returns : goal.returns
returns c rules whole asked base steps s patches set demands disk sound zeros names is_traced among graph are none =
    none_fails asked whole demands base steps patches disk are none
    (traced_is_safe Full rules whole base steps s patches refl among disk sound zeros names is_traced graph) set
