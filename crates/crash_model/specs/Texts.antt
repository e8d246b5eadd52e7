-- The words for faults and modules.
use Rattle.std.specs.Prelude.{ℕ, List, ◌++◌, codes, decimal}
use Rattle.crash_model.specs.declared.fault.Fault.{Fault}
use Rattle.crash_model.specs.declared.fault.Fault.TheVariants.{Dangling, Twice, Unwritten, LowLinks, MarkedFree, Wild}
use Rattle.crash_model.specs.declared.fault.Fault.TheVariants.{Lost, NoBlock, HalfDone, BrokenPromise}
use Rattle.crash_model.specs.declared.modules.Module.{Module}
use Rattle.crash_model.specs.declared.modules.Module.TheVariants.{Async, Soft, Meta, Full}

unfoldable pub fault_text : Fault → List ℕ
fault_text (Dangling d k i) =
    codes "1 dangling entry: directory " ++ decimal d ++ codes " entry " ++ decimal k ++ codes " inode " ++ decimal i
fault_text (Twice b) = codes "2 block used twice: block " ++ decimal b
fault_text (Unwritten i s b) =
    codes "3 unwritten pointer: inode " ++ decimal i ++ codes " slot " ++ decimal s ++ codes " block " ++ decimal b
fault_text (LowLinks i e l) =
    codes "4 low link count: inode " ++ decimal i ++ codes " entries " ++ decimal e ++ codes " links " ++ decimal l
fault_text (MarkedFree i s b) =
    codes "5 used block marked free: inode " ++ decimal i ++ codes " slot " ++ decimal s ++ codes " block " ++ decimal b
fault_text (Wild i s b) =
    codes "6 wild pointer: inode " ++ decimal i ++ codes " slot " ++ decimal s ++ codes " block " ++ decimal b
fault_text (Lost i) = codes "7 lost inode: inode " ++ decimal i
fault_text (NoBlock i) = codes "8 directory without a block: inode " ++ decimal i
fault_text HalfDone = codes "9 half-done operation"
fault_text (BrokenPromise line) = codes "10 broken promise: line " ++ decimal line

abbrev pub module_text : Module → List ℕ
module_text Async = codes "async"
module_text Soft = codes "soft"
module_text Meta = codes "meta"
module_text Full = codes "full"
