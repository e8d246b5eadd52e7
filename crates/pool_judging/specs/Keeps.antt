-- The promises that each workload begins with are not refused.
use Rattle.std.specs.Prelude.{◌≡◌, ℕ, List, [], ◌∷◌, ◌++◌, IsTrue, Result, Ok}
use Rattle.std.specs.List.{All}
use Rattle.std.proofs.Common.{refl, ap, ◌∙◌}
use Rattle.std.proofs.lemmas.Bool.{false≢true}
use Rattle.std.proofs.lemmas.List.Elements.{All-head, All-tail}
use Rattle.crash_model.specs.Plan.{then_ok}
use Rattle.crash_model.specs.Trace.{trace_from, step}
use Rattle.crash_model.specs.Tracing.{Tracing, trace_start}
use Rattle.crash_model.specs.declared.modules.Module.{Module}
use Rattle.crash_model.specs.declared.refusals.TraceFault.{TraceFault}
use Rattle.crash_model.specs.declared.steps.Act.{Act}
use Rattle.crash_model.specs.declared.steps.Act.TheVariants.{Do, Group, End, Depend, Sync, Fsync, Keep, Hold, Spare}
use Rattle.crash_model.specs.declared.steps.Step.{Step}
use Rattle.question_model.specs.Verdict.{IsAccepted}
use Rattle.question_model.specs.Workloads.{Search, is_keep}
use Rattle.pool_judging.specs.Pools.{IsKeep}

-- a promise changes nothing
pub keep_step : (kind : Module) (s : Tracing) (line : ℕ) (act : Act) → IsTrue (is_keep act)
    → step kind s line act ≡ Ok s
keep_step kind s line (Keep paths) is = refl
keep_step kind s line (Do op) is = absurd (false≢true is)
keep_step kind s line (Group name) is = absurd (false≢true is)
keep_step kind s line End is = absurd (false≢true is)
keep_step kind s line (Depend b a) is = absurd (false≢true is)
keep_step kind s line Sync is = absurd (false≢true is)
keep_step kind s line (Fsync target) is = absurd (false≢true is)
keep_step kind s line (Hold path) is = absurd (false≢true is)
keep_step kind s line (Spare path other) is = absurd (false≢true is)

keeps_traced : (kind : Module) (s : Tracing) (steps : List Step) → All IsKeep steps
    → trace_from kind s (steps ++ []) ≡ Ok s
keeps_traced kind s [] all = refl
keeps_traced kind s (x ∷ xs) all =
    ap (λ (r : Result Tracing TraceFault). then_ok r (λ next. trace_from kind next (xs ++ [])))
    (keep_step kind s x.line x.act (All-head IsKeep x xs all))
    ∙ keeps_traced kind s xs (All-tail IsKeep x xs all)

-- so nothing is refused before the first step of a workload
pub keeps_accepted : (s : Search) → All IsKeep s.keeps → IsAccepted s []
keeps_accepted s all = (trace_start s.whole s.base, keeps_traced s.ordering (trace_start s.whole s.base) s.keeps all)
