-- What a mover keeps.
use Rattle.std.proofs.Common.{◌≡◌, ℕ, ◌<◌, List, sym, ◌∙◌, ap, subst}
use Rattle.std.specs.List.{All}
use Rattle.patch_sets.specs.Closed.{IsClosed}
use Rattle.patch_sets.specs.Ends.{IsDifference}
use Rattle.patch_sets.proofs.Successors.{empty_closed}
use Rattle.crash_model.specs.Disk.{Disk}
use Rattle.crash_model.specs.Patches.{deps_of, image_of}
use Rattle.crash_model.specs.declared.patches.Patch.{Patch}
use Rattle.crash_image.specs.Moves.{without_set, AreOver, Applied, applied_set, IsApplied}
use Rattle.crash_image.proofs.PutSteps.{image-empty, without_patches-empty}
use Rattle.crash_image.proofs.Moved.{without_patches-shape, moved_image, unmoved_image}

-- ---- the empty set

module _ (base : Disk) (ps : List Patch) where
  pub started_base : applied_set base ps 0 ≡ record { base = base; patches = ps; set = 0 }
  started_base = ap (λ (d : Disk). let a : Applied = record { base = d; patches = ps; set = 0 } in a)
      (without_patches-empty base ps)

  pub started : AreOver base ps → IsApplied (applied_set base ps 0) base
  started over = subst (λ (d : Disk). IsApplied record { base = d; patches = ps; set = 0 } base)
      (sym (without_patches-empty base ps))
      record { over = over; closed = empty_closed (deps_of ps); holds = sym (image-empty base ps) }

-- ---- another set

-- patches of the first blocks of one disk are that of another with as many
pub fits_again : (m n : ℕ) (ps : List Patch) → m ≡ n → All (λ p. p.block < m) ps → All (λ p. p.block < n) ps
fits_again m n ps same fits = subst (λ (k : ℕ). All (λ p. p.block < k) ps) same fits

pub fits_image : (image : Disk) (ps : List Patch) (set : ℕ) → All (λ p. p.block < (without_set image ps set).blocks) ps
    → All (λ p. p.block < image.blocks) ps
fits_image image ps set fits = fits_again (without_set image ps set).blocks image.blocks ps
    (without_patches-shape 0 image ps set).blocks fits

module _ (image after : Disk) (ps : List Patch) (set next back on : ℕ)
    (now : IsApplied (applied_set image ps set) image) (closed : IsClosed (deps_of ps) next)
    (less : IsDifference set next back) (more : IsDifference next set on)
    (is : after ≡ image_of (without_set image ps back) ps on) where
  is_image : after ≡ image_of (without_set image ps set) ps next
  is_image =
      is
      ∙ ap (λ (d : Disk). image_of (without_set d ps back) ps on) now.holds
      ∙ moved_image (without_set image ps set) ps now.over set next back on now.closed closed less more

  same_base : without_set after ps next ≡ without_set image ps set
  same_base = ap (λ (d : Disk). without_set d ps next) is_image
      ∙ unmoved_image (without_set image ps set) ps now.over next closed

  pub moved_base : applied_set after ps next ≡ record { base = without_set image ps set; patches = ps; set = next }
  moved_base = ap (λ (d : Disk). let a : Applied = record { base = d; patches = ps; set = next } in a) same_base

  pub moved : IsApplied (applied_set after ps next) after
  moved = subst (λ (d : Disk). IsApplied record { base = d; patches = ps; set = next } after) (sym same_base)
      record { over = now.over; closed = closed; holds = is_image }
