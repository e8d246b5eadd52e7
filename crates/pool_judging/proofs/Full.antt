-- Under the full journal no sequence of steps fails.
use Rattle.std.proofs.Common.{◌≡◌, ℕ, List, [], ◌∷◌, length, inl, refl, sym, ap, ◌∙◌, subst}
use Rattle.std.specs.Prelude.{Ok, IsTrue}
use Rattle.std.specs.List.{All, Contains}
use Rattle.std.proofs.lemmas.Bool.{false≢true}
use Rattle.std.proofs.lemmas.List.Elements.{All-weaker}
use Rattle.patch_sets.proofs.Lists.{in_front}
use Rattle.crash_model.specs.Disk.{IsDisk}
use Rattle.crash_model.specs.Script.{IsAct}
use Rattle.crash_model.specs.Sound.{IsSound, HasZeroJournal}
use Rattle.crash_model.specs.Trace.{trace_from}
use Rattle.crash_model.specs.Tracing.{trace_start}
use Rattle.crash_model.specs.declared.modules.Module.{Module}
use Rattle.crash_model.specs.declared.operations.Op.{Op}
use Rattle.crash_model.specs.declared.operations.Op.TheVariants.{Create, Write, Link, Unlink, Rename, Mkdir, Rmdir}
use Rattle.crash_model.specs.declared.operations.Op.TheVariants.{Overwrite, Truncate, Replace}
use Rattle.crash_model.specs.declared.steps.Act.{Act}
use Rattle.crash_model.specs.declared.steps.Act.TheVariants.{Do}
use Rattle.crash_model.specs.declared.steps.Step.{Step}
use Rattle.inode_fs.specs.Inside.{GivesName}
use Rattle.full_journal_laws.specs.Full.{GivesNames}
use Rattle.promise_laws.proofs.Lines.{none_at_risk}
use Rattle.question_model.specs.SearchCounts.{AreSearchCounts}
use Rattle.question_model.specs.Workloads.{Search, Fails, is_keep, workload_at}
use Rattle.question_model.specs.declared.found.SearchCounts.{SearchCounts}
use Rattle.pool_judging.specs.Judging.{IsFullJournal}
use Rattle.pool_judging.specs.Pools.{IsPlace, IsKeep}
use Rattle.pool_judging.proofs.Pools.{all_in_workload}
use Rattle.pool_judging.proofs.Sure.{workload_sure}

abbrev IsStep : Step → Type 0
IsStep step = IsAct step.act

op_gives : (op : Op) → IsAct (Do op) → GivesName op
op_gives (Create path) (is, rest) = is.last
op_gives (Write path) is = tt
op_gives (Link old new) (is, (also, rest)) = also.last
op_gives (Unlink path) is = tt
op_gives (Rename old new) (is, (also, rest)) = also.last
op_gives (Mkdir path) (is, rest) = is.last
op_gives (Rmdir path) is = tt
op_gives (Overwrite path slot) is = tt
op_gives (Truncate path) is = tt
op_gives (Replace old new) (is, (also, rest)) = also.last

-- the names that steps of a pool give are names
step_gives : (x : Step) → IsStep x → GivesNames x
step_gives x is = λ op same. op_gives op (subst IsAct same is)

-- a promise gives none
keep_gives : (x : Step) → IsKeep x → GivesNames x
keep_gives x is = λ op same. absurd (false≢true (subst (λ (act : Act). IsTrue (is_keep act)) same is))

pub nothing_fails : (s : Search) → IsFullJournal s → IsDisk s.base → IsSound s.base → HasZeroJournal s.base
    → All IsStep s.pool → All IsPlace s.pool → All IsKeep s.keeps → (places : List ℕ) → ¬ (Fails s places)
nothing_fails s full disk sound zeros acts pool keeps places (demands, patches, is, (set, failing)) =
    none_at_risk s.rules s.whole s.asked s.base (workload_at s places) is.last patches set demands disk sound zeros
    (all_in_workload s GivesNames (All-weaker IsKeep GivesNames keep_gives s.keeps keeps)
    (All-weaker IsStep GivesNames step_gives s.pool acts) places)
    (subst (λ (m : Module). trace_from m (trace_start s.whole s.base) (workload_at s places) ≡ Ok is.last) full.full
    is.traced)
    full.all is.graph full.asked is.demanded (inl (workload_sure s places keeps pool)) failing

-- where none fails no workload that fails is counted
pub none_failing : (s : Search) (found : SearchCounts) → AreSearchCounts s found
    → ((places : List ℕ) → ¬ (Fails s places))
    → found.failing ≡ 0
none_failing s found are none = by are.failing.0 refl
  where
    by : (sequences : List (List ℕ)) → are.failing.0 ≡ sequences → found.failing ≡ 0
    by [] e = are.failing.2 ∙ ap length e
    by (places ∷ rest) e =
        let there = subst (λ ps. Contains ps places) (sym e) (in_front places rest) in
        absurd (none places ((are.failing.1.exactly places).0 there).1)
