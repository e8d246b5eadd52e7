-- An image is clean where its pointers and its entries are.
use Rattle.crash_model.specs.Disk.{Disk}
use Rattle.crash_model.specs.Faults.{IsClean}
use Rattle.crash_model.proofs.Clean.{no_fault_clean, clean_no_fault}
use Rattle.fs_check.specs.Passed.{HasCleanPointers, HasCleanEntries}

pub clean_halves : (d : Disk) → IsClean d → HasCleanPointers d × HasCleanEntries d
clean_halves d clean =
    let none = clean_no_fault d clean in (
      record {
        no_twice = none.no_twice;
        no_unwritten = none.no_unwritten;
        no_marked_free = none.no_marked_free;
        no_wild = none.no_wild;
      },
      record { no_dangling = none.no_dangling; no_low_links = none.no_low_links },
    )

pub halves_clean : (d : Disk) → HasCleanPointers d × HasCleanEntries d → IsClean d
halves_clean d halves = no_fault_clean d record {
  no_dangling = halves.1.no_dangling;
  no_twice = halves.0.no_twice;
  no_unwritten = halves.0.no_unwritten;
  no_low_links = halves.1.no_low_links;
  no_marked_free = halves.0.no_marked_free;
  no_wild = halves.0.no_wild;
}
