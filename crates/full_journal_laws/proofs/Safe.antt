-- What is traced under the full journal is safe.
use Rattle.std.proofs.Common.{◌≡◌, List, [], ◌∷◌, Bool, Ok, refl, subst}
use Rattle.std.specs.Prelude.{All}
use Rattle.std.proofs.lemmas.List.Elements.{All-nil, All-head, All-tail, All-cons, All-append}
use Rattle.crash_model.specs.Disk.{Disk, IsDisk}
use Rattle.crash_model.specs.Rules.{rules_of}
use Rattle.crash_model.specs.RuleFacts.{AreAmong}
use Rattle.crash_model.specs.Sound.{IsSound, HasZeroJournal}
use Rattle.crash_model.specs.Trace.{trace_from, IsGraphOf}
use Rattle.crash_model.specs.Tracing.{Tracing, trace_start}
use Rattle.crash_model.specs.declared.modules.Module.{Module}
use Rattle.crash_model.specs.declared.modules.Module.TheVariants.{Full}
use Rattle.crash_model.specs.declared.operations.Op.{Op}
use Rattle.crash_model.specs.declared.patches.Patch.{Patch}
use Rattle.crash_model.specs.declared.rules.Rule.{Rule}
use Rattle.crash_model.specs.declared.steps.Act.{Act}
use Rattle.crash_model.specs.declared.steps.Act.TheVariants.{Do, Group, End, Depend, Sync, Fsync, Keep, Hold, Spare}
use Rattle.crash_model.specs.declared.steps.Step.{Step}
use Rattle.inode_fs.specs.Inside.{GivesName}
use Rattle.full_journal_laws.specs.Full.{ops_at, ops_of, GivesNames, IsFullSafe}
use Rattle.full_journal_laws.proofs.Final.{recovered}

act_gives : (act : Act) → ((op : Op) → act ≡ Do op → GivesName op) → All GivesName (ops_at act)
act_gives (Do op) gives = All-cons GivesName op [] (gives op refl) (All-nil GivesName)
act_gives (Group name) gives = All-nil GivesName
act_gives End gives = All-nil GivesName
act_gives (Depend b a) gives = All-nil GivesName
act_gives Sync gives = All-nil GivesName
act_gives (Fsync target) gives = All-nil GivesName
act_gives (Keep paths) gives = All-nil GivesName
act_gives (Hold path) gives = All-nil GivesName
act_gives (Spare path other) gives = All-nil GivesName

-- the names that operations of steps give are names
pub steps_give : (steps : List Step) → All GivesNames steps → All GivesName (ops_of steps)
steps_give [] all = All-nil GivesName
steps_give (x ∷ xs) all = All-append GivesName (ops_at x.act) (ops_of xs)
    (act_gives x.act (All-head GivesNames x xs all)) (steps_give xs (All-tail GivesNames x xs all))

pub traced_is_safe : (by : Module) (rules : List Rule) (whole : Bool) (base : Disk) (steps : List Step) (s : Tracing)
    (patches : List Patch) → by ≡ Full → AreAmong (rules_of Full) rules → IsDisk base → IsSound base
    → HasZeroJournal base → All GivesNames steps → trace_from by (trace_start whole base) steps ≡ Ok s
    → IsGraphOf rules base s patches → IsFullSafe whole base steps patches
traced_is_safe by rules whole base steps s patches full among disk sound zeros names traced graph =
    let is_traced : trace_from Full (trace_start whole base) steps ≡ Ok s =
    subst (λ (m : Module). trace_from m (trace_start whole base) steps ≡ Ok s) full traced in (
      s,
      is_traced,
      λ set closed. recovered rules whole base steps s patches set disk sound zeros (steps_give steps names) is_traced
          among graph closed,
    )
