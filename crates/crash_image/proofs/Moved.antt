-- From the image of a closed set to that of another.
use Rattle.std.proofs.Common.{◌≡◌, ℕ, ◌+◌, ◌*◌, List, [], ◌∷◌, Bool, true, false, cond, not, ◌&&◌, refl, sym, ◌∙◌, ap}
use Rattle.std.proofs.lemmas.Grind.{same_number_lists}
use Rattle.patch_sets.specs.Sets.{has}
use Rattle.patch_sets.specs.Closed.{IsClosed}
use Rattle.patch_sets.specs.Ends.{IsDifference}
use Rattle.patch_sets.proofs.Bits.{none_in_empty}
use Rattle.patch_sets.proofs.Ids.{has_true, from_has}
use Rattle.patch_sets.proofs.Successors.{empty_closed}
use Rattle.crash_model.specs.Disk.{Disk}
use Rattle.crash_model.specs.Patches.{deps_of, places_of, image_from, image_of}
use Rattle.crash_model.specs.declared.patches.Patch.{Patch}
use Rattle.crash_image.specs.Moves.{with_patch, without_patch, without_patches_from, without_set, AreOver}
use Rattle.crash_image.proofs.Cells.{IsLess}
use Rattle.crash_image.proofs.ImageBytes.{AllFit, moved-byte}
use Rattle.crash_image.proofs.Fronts.{all_fit, front_of}
use Rattle.crash_image.proofs.PutSteps.{image-empty}

-- ---- the geometry stays

pub record SameShape (d e : Disk) : Type 0 where
  pub blocks : d.blocks ≡ e.blocks
  pub journal : d.journal ≡ e.journal
  pub generations : d.generations ≡ e.generations

same_shape : (d : Disk) → SameShape d d
same_shape d = record { blocks = refl; journal = refl; generations = refl }

like : {d e f : Disk} → SameShape d e → SameShape e f → SameShape d f
like one two = record {
  blocks = one.blocks ∙ two.blocks;
  journal = one.journal ∙ two.journal;
  generations = one.generations ∙ two.generations;
}

unlike : {d e : Disk} → SameShape d e → SameShape e d
unlike one = record {
  blocks = sym one.blocks;
  journal = sym one.journal;
  generations = sym one.generations;
}

-- whichever of two is chosen
either_shape : (b : Bool) (d e f : Disk) → SameShape d f → SameShape e f → SameShape (cond b d e) f
either_shape true d e f one two = one
either_shape false d e f one two = two

pub image-shape : (id : ℕ) (d : Disk) (ps : List Patch) (set : ℕ) → SameShape (image_from id d (places_of ps) set) d
image-shape id d [] set = same_shape d
image-shape id d (p ∷ ps) set =
    like (image-shape (id + 1) (cond (has set id) (with_patch p d) d) ps set)
    (either_shape (has set id) (with_patch p d) d d record { blocks = refl; journal = refl; generations = refl }
    (same_shape d))

pub without_patches-shape : (id : ℕ) (d : Disk) (ps : List Patch) (set : ℕ)
    → SameShape (without_patches_from id d ps set) d
without_patches-shape id d [] set = same_shape d
without_patches-shape id d (p ∷ ps) set =
    let rest = without_patches-shape (id + 1) d ps set in
    either_shape (has set id) (without_patch p (without_patches_from (id + 1) d ps set))
    (without_patches_from (id + 1) d ps set) d
    record { blocks = rest.blocks; journal = rest.journal; generations = rest.generations } rest

pub disk-same : (d e : Disk) → SameShape d e → d.bytes ≡ e.bytes → d ≡ e
disk-same d e shape bytes =
    ap (λ (n : ℕ). disk n d.journal d.generations d.bytes) shape.blocks
    ∙ ap (λ (n : ℕ). disk e.blocks n d.generations d.bytes) shape.journal
    ∙ ap (λ (g : Bool). disk e.blocks e.journal g d.bytes) shape.generations
    ∙ ap (λ (xs : List ℕ). disk e.blocks e.journal e.generations xs) bytes
  where
    disk : ℕ → ℕ → Bool → List ℕ → Disk
    disk blocks journal generations bytes = record {
      blocks = blocks;
      journal = journal;
      generations = generations;
      bytes = bytes;
    }

-- ---- what one set has and another hasn't

less_of : (a b d : ℕ) → IsDifference a b d → IsLess a b d
less_of a b d difference = record {
  is = λ q. by_bits (has a q) (has b q) (has d q)
      (λ is. let it = (difference.exactly q).0 (from_has d q is) in
      (has_true a q it.0, λ also. it.1 (from_has b q also)))
      (λ is alone. has_true d q ((difference.exactly q).1 (from_has a q is, λ also. alone (has_true b q also))));
}
  where
    by_bits : (x y z : Bool) → (z ≡ true → (x ≡ true) × (y ≡ true → ⊥)) → (x ≡ true → (y ≡ true → ⊥) → z ≡ true)
        → z ≡ (x && not y)
    by_bits true true true to from = absurd ((to refl).1 refl)
    by_bits true true false to from = refl
    by_bits true false z to from = from refl (λ e. cc)
    by_bits false y true to from = let no : false ≡ true = (to refl).0 in cc
    by_bits false y false to from = refl

-- ---- the image of a set

module _ (base : Disk) (ps : List Patch) (over : AreOver base ps) where
  -- undo of a without b and redo of b without a make of the image of a that of b
  pub moved_image : (a b back on : ℕ) → IsClosed (deps_of ps) a → IsClosed (deps_of ps) b → IsDifference a b back
      → IsDifference b a on
      → image_of (without_set (image_of base ps a) ps back) ps on ≡ image_of base ps b
  moved_image a b back on from to less more =
      let n : ℕ = 128 * base.blocks in
      let fit : AllFit n ps = all_fit base.blocks n ps refl over.graph.each over.fits in
      let bytes = λ (i : ℕ). moved-byte n base ps a b back on i over.disk.whole fit over.undo (less_of a b back less)
      (less_of b a on more)
      (front_of base ps a i over from) (front_of base ps b i over to) in
      disk-same _ _
      (like (image-shape 0 (without_set (image_of base ps a) ps back) ps on)
      (like (without_patches-shape 0 (image_of base ps a) ps back)
      (like (image-shape 0 base ps a) (unlike (image-shape 0 base ps b)))))
      (same_number_lists _ _ ((bytes 0).1.long ∙ sym (bytes 0).2.long)
      (λ i below. (bytes i).1.byte ∙ sym (bytes i).2.byte))

  -- the base is what is left where all of the set is taken back
  pub unmoved_image : (set : ℕ) → IsClosed (deps_of ps) set → without_set (image_of base ps set) ps set ≡ base
  unmoved_image set closed =
      sym (image-empty (without_set (image_of base ps set) ps set) ps)
      ∙ moved_image set 0 set 0 closed (empty_closed (deps_of ps))
      record { exactly = λ id. (λ is. (is, none_in_empty id), λ is. is.0) }
      record { exactly = λ id. (λ is. absurd (none_in_empty id is), λ is. absurd (none_in_empty id is.0)) }
      ∙ image-empty base ps
