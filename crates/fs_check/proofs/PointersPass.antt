-- A test that finds no fault of the wrong pointers finds none of any.
use Rattle.std.proofs.Common.{◌≡◌, [], sym, ◌∙◌}
use Rattle.std.specs.List.{filter_map}
use Rattle.crash_model.specs.Disk.{Disk}
use Rattle.crash_model.specs.Layout.{pointer_of}
use Rattle.crash_model.specs.Faults.{is_unwritten, is_marked_free, is_wild}
use Rattle.crash_model.specs.declared.fault.Fault.TheVariants.{Unwritten, MarkedFree, Wild}
use Rattle.fs_check.specs.Counted.{InNoSlot, fails}
use Rattle.fs_check.specs.References.{fault_of, wrong_pointers}
use Rattle.fs_check.specs.declared.list.Test.{Test}
use Rattle.fs_check.specs.declared.list.Test.TheVariants.{IsUnwritten, IsMarkedFree, IsWild}
use Rattle.fs_check.proofs.Found.{found-unwritten, found-marked_free, found-wild}
use Rattle.crash_model.proofs.Clean.{slots_none, none_slots}

pub passes-from_none : (d : Disk) (test : Test) → filter_map (fault_of d test) (wrong_pointers d) ≡ []
    → InNoSlot (fails d test)
passes-from_none d IsUnwritten none = slots_none (is_unwritten d) (λ i s. Unwritten i s (pointer_of d i s))
    (sym (found-unwritten d) ∙ none)
passes-from_none d IsMarkedFree none = slots_none (is_marked_free d) (λ i s. MarkedFree i s (pointer_of d i s))
    (sym (found-marked_free d) ∙ none)
passes-from_none d IsWild none = slots_none (is_wild d) (λ i s. Wild i s (pointer_of d i s))
    (sym (found-wild d) ∙ none)

pub none-from_passes : (d : Disk) (test : Test) → InNoSlot (fails d test)
    → filter_map (fault_of d test) (wrong_pointers d) ≡ []
none-from_passes d IsUnwritten none = found-unwritten d
    ∙ none_slots (is_unwritten d) (λ i s. Unwritten i s (pointer_of d i s)) none
none-from_passes d IsMarkedFree none = found-marked_free d
    ∙ none_slots (is_marked_free d) (λ i s. MarkedFree i s (pointer_of d i s)) none
none-from_passes d IsWild none = found-wild d ∙ none_slots (is_wild d) (λ i s. Wild i s (pointer_of d i s)) none
