-- What steps demand, with one more step.
use Rattle.std.proofs.Common.{◌≡◌, ℕ, List, [], ◌∷◌, ◌++◌, Bool, true, false, ◌&&◌, ◌||◌, refl, sym, ap, ◌∙◌}
use Rattle.std.specs.Prelude.{Option, Some, None, option_map}
use Rattle.std.proofs.Math.Bool.{and_assoc}
use Rattle.patch_sets.specs.Sets.{has}
use Rattle.crash_model.specs.Disk.{Disk}
use Rattle.crash_model.specs.Layout.{is_live}
use Rattle.crash_model.specs.Lists.{when}
use Rattle.crash_model.specs.Atomic.{with_disk, disks_from, disks_of}
use Rattle.crash_model.specs.Strict.{stays_live}
use Rattle.crash_model.specs.StepDisks.{disk_after}
use Rattle.crash_model.specs.Checker.{IsKeptIfStrict}
use Rattle.crash_model.specs.declared.steps.Step.{Step}
use Rattle.inode_fs.specs.Demanding.{disk_after_all, SoFar, IsSoFar, TakesStep, AreStillKept}

-- ---- one more step

after_more : (d : Disk) (steps : List Step) (x : Step)
    → disk_after_all d (steps ++ x ∷ []) ≡ disk_after (disk_after_all d steps) x.act
after_more d [] x = refl
after_more d (y ∷ ys) x = after_more (disk_after d y.act) ys x

stays_more : (d : Disk) (steps : List Step) (x : Step) (i : ℕ)
    → stays_live d (steps ++ x ∷ []) i ≡ (stays_live d steps i && is_live (disk_after (disk_after_all d steps) x.act) i)
stays_more d [] x i = refl
stays_more d (y ∷ ys) x i =
    ap (λ (b : Bool). is_live d i && b) (stays_more (disk_after d y.act) ys x i)
    ∙ sym (and_assoc (is_live d i) (stays_live (disk_after d y.act) ys i)
    (is_live (disk_after (disk_after_all (disk_after d y.act) ys) x.act) i))

disks_more : (disks : List Disk) (d : Disk) (steps : List Step) (x : Step)
    → disks_from disks d (steps ++ x ∷ [])
    ≡ with_disk (disks_from disks d steps) (disk_after (disk_after_all d steps) x.act)
disks_more disks d [] x = refl
disks_more disks d (y ∷ ys) x = disks_more (with_disk disks d) (disk_after d y.act) ys x

-- ---- what is demanded with it

module _ (base : Disk) (steps : List Step) (x : Step) (next : Disk)
    (after : next ≡ disk_after (disk_after_all base steps) x.act) where
  demanded_kept_more : (strict : Bool) (kept left : Option ℕ) → AreStillKept kept next left
      → IsKeptIfStrict strict base steps kept → IsKeptIfStrict strict base (steps ++ x ∷ []) left
  demanded_kept_more strict None None still old = old
  demanded_kept_more strict None (Some left) still old = absurd still
  demanded_kept_more strict (Some kept) None still old = absurd still
  demanded_kept_more strict (Some kept) (Some left) still (is, old) = (
    is,
    λ i. still i ∙ (ap (λ (b : Bool). b && is_live next i) (old i)
        ∙ (ap (λ (d : Disk). stays_live base steps i && is_live d i) after ∙ sym (stays_more base steps x i))),
  )

  demanded_disks_more : (atomic : Bool) (disks left : Option (List Disk))
      → left ≡ option_map (λ ds. with_disk ds next) disks → disks ≡ when atomic (disks_of base steps)
      → left ≡ when atomic (disks_of base (steps ++ x ∷ []))
  demanded_disks_more true disks left added old =
      added ∙ (ap (option_map (λ ds. with_disk ds next)) old
      ∙ ap (λ (ds : List Disk). Some ds)
      (ap (with_disk (disks_of base steps)) after ∙ sym (disks_more [] base steps x)))
  demanded_disks_more false disks left added old = added ∙ ap (option_map (λ ds. with_disk ds next)) old

-- with a disk
one_some : (a b : Disk) → Some a ≡ Some b → a ≡ b
one_some a b e = cc

some_when : (test : Bool) (a d next : Disk) → Some a ≡ when test d → (a ≡ d) × (Some next ≡ when test next)
some_when true a d next is = (one_some a d is, refl)
some_when false a d next is = absurd (let none : Some a ≡ None = is in cc)

pub taken : (x : Step) (old new : SoFar) (d next : Disk) → old.disk ≡ Some d → new.disk ≡ Some next
    → next ≡ disk_after d x.act → AreStillKept old.demands.kept next new.demands.kept
    → new.demands.disks ≡ option_map (λ ds. with_disk ds next) old.demands.disks → new.demands.promises ≡ None
    → new.demands.counted ≡ None → TakesStep x old new
taken x old new d next had has moved still added none all strict atomic base steps is =
    let (same, some) = some_when (strict || atomic) d (disk_after_all base steps) next (sym had ∙ is.disk) in
    let after = moved ∙ ap (λ (e : Disk). disk_after e x.act) same in
    record {
      disk = has ∙ (some ∙ ap (when (strict || atomic)) (after ∙ sym (after_more base steps x)));
      demands = record {
        kept =
            demanded_kept_more base steps x next after strict old.demands.kept new.demands.kept still is.demands.kept;
        disks = demanded_disks_more base steps x next after atomic old.demands.disks new.demands.disks added
            is.demands.disks;
        promises = none;
        counted = all;
      };
    }

-- without one nothing is demanded
neither : (strict atomic : Bool) (d : Disk) → None ≡ when (strict || atomic) d → (strict ≡ false) × (atomic ≡ false)
neither false false d is = (refl, refl)
neither true atomic d is = absurd (let some : None ≡ Some d = is in cc)
neither false true d is = absurd (let some : None ≡ Some d = is in cc)

demanded_none : (base : Disk) (steps more : List Step) (kept : Option ℕ) → IsKeptIfStrict false base steps kept
    → IsKeptIfStrict false base more kept
demanded_none base steps more None is = is
demanded_none base steps more (Some kept) (is, old) = absurd (let not : false ≡ true = is in cc)

pub passed_by : (x : Step) (old : SoFar) → old.disk ≡ None → TakesStep x old old
passed_by x old had strict atomic base steps is = go strict atomic (neither strict atomic _ (sym had ∙ is.disk)) is
  where
    go : (strict atomic : Bool) → (strict ≡ false) × (atomic ≡ false) → IsSoFar strict atomic base steps old
        → IsSoFar strict atomic base (steps ++ x ∷ []) old
    go false false none so_far = record {
      disk = so_far.disk;
      demands = record {
        kept = demanded_none base steps (steps ++ x ∷ []) old.demands.kept so_far.demands.kept;
        disks = so_far.demands.disks;
        promises = so_far.demands.promises;
        counted = so_far.demands.counted;
      };
    }
    go true atomic (is, none) so_far = absurd (let not : true ≡ false = is in cc)
    go false true (none, is) so_far = absurd (let not : true ≡ false = is in cc)
