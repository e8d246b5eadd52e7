use Rattle.promise_laws.proofs.Kept.{waited_kept}
use Rattle.promise_laws.proofs.laws.what_is_waited_for_is_kept.Goals as goal

pub returns : goal.returns
returns c rules whole base before after s here patches set line paths disk sound zeros names is_traced among graph
    closed is_here none waited =
    waited_kept rules whole base before after s here patches set line paths disk sound zeros names is_traced among
    graph closed is_here none waited
