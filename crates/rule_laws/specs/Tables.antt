-- The orderings as tables: which part of an operation waits for which, and of which operation.
use Rattle.std.specs.Prelude.{ℕ, Bool, false, Option, Some, None}
use Rattle.crash_model.specs.Rules.{are_scoped}
use Rattle.crash_model.specs.declared.plans.Role.TheVariants.{InodeInit, EntrySet, EntryClear, MapSet, MapClear}
use Rattle.crash_model.specs.declared.plans.Role.TheVariants.{InitFile, InitDir, Ptr, LinkUp, LinkDown, InodeFree}
use Rattle.crash_model.specs.declared.plans.Role.TheVariants.{PtrClear}
use Rattle.crash_model.specs.declared.rules.Part.{Part}
use Rattle.crash_model.specs.declared.rules.Part.TheVariants.{InPlace, FileData, Copy, Commit, Done}
use Rattle.crash_model.specs.declared.rules.Scope.{Scope}
use Rattle.crash_model.specs.declared.rules.Scope.TheVariants.{Same, Previous}
use Rattle.crash_model.specs.declared.modules.Module.{Module}
use Rattle.crash_model.specs.declared.modules.Module.TheVariants.{Async, Soft, Meta, Full}

abbrev pub soft_row : Part → Part → Option Scope
soft_row (InPlace EntrySet) (InPlace InodeInit) = Some Same
soft_row (InPlace EntrySet) (InPlace LinkUp) = Some Same
soft_row (InPlace EntrySet) (InPlace Ptr) = Some Same
soft_row (InPlace InitFile) (InPlace MapSet) = Some Same
soft_row (InPlace InitDir) (InPlace MapSet) = Some Same
soft_row (InPlace Ptr) (InPlace InitFile) = Some Same
soft_row (InPlace Ptr) (InPlace InitDir) = Some Same
soft_row (InPlace Ptr) (InPlace MapSet) = Some Same
soft_row (InPlace LinkDown) (InPlace EntryClear) = Some Same
soft_row (InPlace InodeFree) (InPlace EntryClear) = Some Same
soft_row (InPlace MapClear) (InPlace InodeFree) = Some Same
soft_row (InPlace EntryClear) (InPlace EntrySet) = Some Same
soft_row (InPlace MapClear) (InPlace PtrClear) = Some Same
soft_row _ _ = None

abbrev pub journal_row : Part → Part → Option Scope
journal_row FileData Commit = Some Previous
journal_row Commit Copy = Some Same
journal_row Commit FileData = Some Same
journal_row Commit Commit = Some Previous
journal_row (InPlace _) Commit = Some Same
journal_row Done (InPlace _) = Some Same
journal_row Done Done = Some Previous
journal_row _ _ = None

abbrev pub row : Module → Part → Part → Option Scope
row Async later earlier = None
row Soft later earlier = soft_row later earlier
row Meta later earlier = journal_row later earlier
row Full later earlier = journal_row later earlier

-- the operations with these numbers are placed as a row of the table requires
abbrev pub are_in : Option Scope → ℕ → ℕ → Bool
are_in None later earlier = false
are_in (Some scope) later earlier = are_scoped scope later earlier
