-- Rules that order patches, and the ordering modules as lists of them.
use Rattle.std.specs.Prelude.{ℕ, ◌+◌, List, [], ◌∷◌, Bool, true, false, ◌==◌, nat_lt, codes, bytes_eq}
use Rattle.crash_model.specs.declared.plans.Role.{Role}
use Rattle.crash_model.specs.declared.plans.Role.TheVariants.{InodeInit, EntrySet, EntryClear, MapSet, MapClear}
use Rattle.crash_model.specs.declared.plans.Role.TheVariants.{InitFile, InitDir, Ptr, LinkUp, LinkDown, InodeFree}
use Rattle.crash_model.specs.declared.plans.Role.TheVariants.{PtrClear, NewData, Touch}
use Rattle.crash_model.specs.declared.rules.Part.{Part}
use Rattle.crash_model.specs.declared.rules.Part.TheVariants as part
use Rattle.crash_model.specs.declared.rules.RulePart.{RulePart}
use Rattle.crash_model.specs.declared.rules.RulePart.TheVariants.{Change, InPlace, FileData, Copy, Commit, Done}
use Rattle.crash_model.specs.declared.rules.Scope.{Scope}
use Rattle.crash_model.specs.declared.rules.Scope.TheVariants.{Same, Previous, Before}
use Rattle.crash_model.specs.declared.rules.Rule.{Rule}
use Rattle.crash_model.specs.declared.modules.Module.{Module}
use Rattle.crash_model.specs.declared.modules.Module.TheVariants.{Async, Soft, Meta, Full}

-- ---- words

abbrev pub role_text : Role → List ℕ
role_text InodeInit = codes "InodeInit"
role_text EntrySet = codes "EntrySet"
role_text EntryClear = codes "EntryClear"
role_text MapSet = codes "MapSet"
role_text MapClear = codes "MapClear"
role_text InitFile = codes "InitFile"
role_text InitDir = codes "InitDir"
role_text Ptr = codes "Ptr"
role_text LinkUp = codes "LinkUp"
role_text LinkDown = codes "LinkDown"
role_text InodeFree = codes "InodeFree"
role_text PtrClear = codes "PtrClear"
role_text NewData = codes "NewData"
role_text Touch = codes "Touch"

-- ---- what a rule applies to

-- the rule names a patch with this part
abbrev pub has_part : RulePart → Part → Bool
has_part (Change role) (part.InPlace other) = bytes_eq (role_text role) (role_text other)
has_part (Change NewData) part.NewData = true
has_part InPlace (part.InPlace other) = true
has_part FileData part.FileData = true
has_part Copy part.Copy = true
has_part Commit part.Commit = true
has_part Done part.Done = true
has_part _ _ = false

-- the operations with these numbers are one, or the later one comes right after the earlier one, or anywhere after it
abbrev pub are_scoped : Scope → ℕ → ℕ → Bool
are_scoped Same later earlier = later == earlier
are_scoped Previous later earlier = later == earlier + 1
are_scoped Before later earlier = nat_lt earlier later

-- ---- the orderings

abbrev pub same_rule : RulePart → RulePart → Rule
same_rule later earlier = record { later = later; earlier = earlier; scope = Same }

abbrev pub previous_rule : RulePart → RulePart → Rule
previous_rule later earlier = record { later = later; earlier = earlier; scope = Previous }

-- soft updates
abbrev pub soft_rules : List Rule
soft_rules =
    same_rule (Change EntrySet) (Change InodeInit)
    ∷ same_rule (Change EntrySet) (Change LinkUp)
    ∷ same_rule (Change EntrySet) (Change Ptr)
    ∷ same_rule (Change InitFile) (Change MapSet)
    ∷ same_rule (Change InitDir) (Change MapSet)
    ∷ same_rule (Change Ptr) (Change InitFile)
    ∷ same_rule (Change Ptr) (Change InitDir)
    ∷ same_rule (Change Ptr) (Change MapSet)
    ∷ same_rule (Change LinkDown) (Change EntryClear)
    ∷ same_rule (Change InodeFree) (Change EntryClear)
    ∷ same_rule (Change MapClear) (Change InodeFree)
    ∷ same_rule (Change EntryClear) (Change EntrySet)
    ∷ same_rule (Change MapClear) (Change PtrClear)
    ∷ []

-- a journal
abbrev pub journal_rules : List Rule
journal_rules =
    previous_rule FileData Commit
    ∷ same_rule Commit Copy
    ∷ same_rule Commit FileData
    ∷ previous_rule Commit Commit
    ∷ same_rule InPlace Commit
    ∷ same_rule Done InPlace
    ∷ previous_rule Done Done
    ∷ []

abbrev pub rules_of : Module → List Rule
rules_of Async = []
rules_of Soft = soft_rules
rules_of Meta = journal_rules
rules_of Full = journal_rules
