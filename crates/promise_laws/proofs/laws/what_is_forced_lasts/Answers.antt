use Rattle.std.specs.Prelude.{[]}
use Rattle.promise_laws.proofs.Kept.{durable_kept}
use Rattle.promise_laws.proofs.laws.what_is_forced_lasts.Goals as goal

pub returns : goal.returns
returns c rules whole base before after s here patches set line path disk sound zeros names is_traced among graph
    closed is_here behind =
    durable_kept rules whole base before after s here patches set line [] disk sound zeros names is_traced among graph
    closed is_here path behind
