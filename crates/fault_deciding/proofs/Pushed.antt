-- What lists of faults keep that get more faults.
use Rattle.std.proofs.Common.{◌≡◌, ℕ, List, [], ◌∷◌, ◌++◌, sym, subst}
use Rattle.std.specs.List.{Contains}
use Rattle.std.proofs.lemmas.List.Elements.{Contains-append_left, Contains-push}
use Rattle.crash_model.specs.Disk.{Disk}
use Rattle.crash_model.specs.Layout.{pointer_of}
use Rattle.crash_model.specs.declared.fault.Fault.{Fault}
use Rattle.fault_deciding.specs.Listed.{IsWithin, HasDangling, HasSlot, HasFaultsOf, HasTwice, HasLow, HasStrict}

-- the list with one more fault has it and the others
pub pushed_has : (old new : List Fault) (x : Fault) → new ≡ old ++ x ∷ [] → Contains new x
pushed_has old new x is = subst (λ (xs : List Fault). Contains xs x) (sym is) (Contains-push old x)

pub pushed_keeps : (old new : List Fault) (x : Fault) → new ≡ old ++ x ∷ [] → IsWithin old new
pushed_keeps old new x is fault h = subst (λ (xs : List Fault). Contains xs fault) (sym is)
    (Contains-append_left old (x ∷ []) fault h)

pub then_within : (a b c : List Fault) → IsWithin b c → IsWithin a b → IsWithin a c
then_within a b c more kept fault h = more fault (kept fault h)

module _ (old new : List Fault) (more : IsWithin old new) where
  pub dangling_more : (dir k : ℕ) (d : Disk) → HasDangling old dir k d → HasDangling new dir k d
  dangling_more dir k d was is = let w = was is in (w.0, more _ w.1)

  pub slot_more : (inode slot block : ℕ) (d : Disk) → HasSlot old inode slot block d → HasSlot new inode slot block d
  slot_more inode slot block d was = record {
    tame = λ is. record { unwritten = more _ (was.tame is).unwritten; marked_free = more _ (was.tame is).marked_free };
    wild = λ is. more _ (was.wild is);
  }

  pub slots_more : (inode slot : ℕ) (d : Disk) → HasFaultsOf old inode slot d → HasFaultsOf new inode slot d
  slots_more inode slot d was some = slot_more inode slot (pointer_of d inode slot) d (was some)

  pub twice_more : (d : Disk) → HasTwice old d → HasTwice new d
  twice_more d was block is = more _ (was block is)

  pub low_more : (inode most : ℕ) (d : Disk) → HasLow old inode most d → HasLow new inode most d
  low_more inode most d was entries less few = more _ (was entries less few)

  pub strict_more : (kept inode : ℕ) → HasStrict old kept inode → HasStrict new kept inode
  strict_more kept inode was = record { lost = λ is. more _ (was.lost is); bare = more _ was.bare }
