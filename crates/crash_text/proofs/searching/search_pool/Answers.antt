use Rattle.std.proofs.Common.{Result, Ok, Err, IfOk}
use Rattle.crash_text.proofs.searching.search_pool.Goals as goal

-- what a condition says of a result, it says of what the result holds
inside : {T E K : Type 0} (P : T → Type 0) (r : Result T E) → (K → IfOk r P) → IfOk r (λ x. K → P x)
inside P (Ok x) f = f
inside P (Err e) f = tt

pub returns-clause-passing : goal.returns-clause-passing
returns-clause-passing g c = inside _ c.search.result c.search.ensures.passing
