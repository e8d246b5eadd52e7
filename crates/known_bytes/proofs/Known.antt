-- What the images of a family share.
use Rattle.std.proofs.Common.{◌≡◌, ℕ, ◌+◌, ◌*◌, ◌<◌, inl, inr, List, get_or, true, false, Option, Some, None}
use Rattle.std.proofs.Common.{arith, refl, sym, ◌∙◌, ap, subst, ◌≤◌}
use Rattle.std.proofs.lemmas.List.{length-map}
use Rattle.patch_sets.specs.Sets.{Has, has}
use Rattle.patch_sets.proofs.Ids.{has_true, from_has}
use Rattle.patch_graph.specs.Graph.{IsAt}
use Rattle.crash_model.specs.Disk.{byte}
use Rattle.crash_model.specs.Patches.{image_of}
use Rattle.crash_model.specs.declared.patches.Patch.{Patch}
use Rattle.crash_image.proofs.Moved.{image-shape}
use Rattle.crash_image.proofs.ImageBytes.{AllFit, cells, HasByte, image-byte}
use Rattle.crash_image.proofs.Cells.{value_from}
use Rattle.crash_image.proofs.Fronts.{all_fit}
use Rattle.known_bytes.specs.Family.{Family, IsMember, InEach, IsUndecided, IsLike, Covers, CoversAt, new_byte}
use Rattle.known_bytes.specs.Chains.{AreChains}
use Rattle.known_bytes.proofs.Values.{either_value, has_cell, no_cell, last_cell, cell_of}

module _ (f : Family) (sets : List ℕ) (chains : AreChains record { base = f.base; patches = f.patches } sets) where
  fit : AllFit (128 * f.base.blocks) f.patches
  fit = all_fit f.base.blocks (128 * f.base.blocks) f.patches refl chains.graph.each chains.fits

  -- a byte under the patches of a set
  byte_under : (set i : ℕ) → HasByte (128 * f.base.blocks) i (value_from 0 (get_or f.base.bytes i 0) (cells i f.patches)
      set) (image_of f.base f.patches set)
  byte_under set i = image-byte (128 * f.base.blocks) 0 f.base f.patches set i (get_or f.base.bytes i 0) fit
      record { long = chains.disk.whole; byte = refl }

  -- each image is a disk, of as many blocks
  pub like_base : (set : ℕ) → IsLike f.base (image_of f.base f.patches set)
  like_base set =
      let shape = image-shape 0 f.base f.patches set in
      record {
        disk = record {
          least = omega (arith, chains.disk.least, shape.blocks);
          most = omega (arith, chains.disk.most, shape.blocks);
          room = omega (arith, chains.disk.room, shape.blocks, shape.journal);
          whole = (byte_under set 0).long ∙ ap (λ (n : ℕ). 128 * n) (sym shape.blocks);
        };
        blocks = shape.blocks;
        journal = shape.journal;
        generations = shape.generations;
      }

  module _ (block offset : ℕ) (below : block < f.base.blocks) (within : offset < 128) where
    -- the cells of a byte are what the patches put there that cover it
    covers_from : (r z : ℕ) → get_or (cells (128 * block + offset) f.patches) r None ≡ Some z
        → CoversAt f.patches r block offset
    covers_from r z is =
        let cell = has_cell f.patches block offset r z within chains.graph.each is in
        record { patch = cell.patch; at = cell.at; covers = cell.covers }

    -- the byte where no patch of the set covers it
    pub byte_of_base : (set : ℕ) → ((id : ℕ) → CoversAt f.patches id block offset → Has set id → ⊥)
        → byte f.base block offset ≡ byte (image_of f.base f.patches set) block offset
    byte_of_base set none =
        sym ((byte_under set (128 * block + offset)).byte
        ∙ no_cell set 0 (byte f.base block offset) (cells (128 * block + offset) f.patches)
        (λ q z is member.
        let id : 0 + q ≡ q = omega arith in
        none q (covers_from q z is) (from_has set q (ap (λ (k : ℕ). has set k) (sym id) ∙ member))))

    -- the byte where a patch is the last one of the set that covers it
    pub byte_of_last : (set id : ℕ) (p : Patch) → IsAt f.patches id p → Covers p block offset → Has set id
        → ((q : ℕ) → CoversAt f.patches q block offset → Has set q → q ≤ id)
        → new_byte p offset ≡ byte (image_of f.base f.patches set) block offset
    byte_of_last set id p at covers member last =
        sym ((byte_under set (128 * block + offset)).byte
        ∙ last_cell set 0 (byte f.base block offset) id (new_byte p offset) (cells (128 * block + offset) f.patches)
        (cell_of f.patches block offset id p at covers)
        (let start : id ≡ 0 + id = omega arith in ap (λ (k : ℕ). has set k) (sym start) ∙ has_true set id member)
        (λ q z is more.
        let same : 0 + q ≡ q = omega arith in
        last q (covers_from q z is) (from_has set q (ap (λ (k : ℕ). has set k) (sym same) ∙ more))))

    -- what holds of the byte under the patches held and of each that an undecided patch puts there holds of all
    pub so_in_each : (P : ℕ → Type 0)
        → P (byte (image_of f.base f.patches f.held) block offset)
        → ((id : ℕ) (p : Patch) → IsUndecided f id → IsAt f.patches id p → Covers p block offset
        → P (new_byte p offset))
        → InEach f (λ d. P (byte d block offset))
    so_in_each P first put set m =
        let i : ℕ = 128 * block + offset in
        let v : ℕ = get_or f.base.bytes i 0 in
        let cs : List (Option ℕ) = cells i f.patches in
        let old : byte (image_of f.base f.patches f.held) block offset ≡ value_from 0 v cs f.held =
        (byte_under f.held i).byte in
        let new : byte (image_of f.base f.patches set) block offset ≡ value_from 0 v cs set = (byte_under set i).byte in
        subst P (sym new) (elim (either_value P f.held set
        (λ q held. has_true set q (m.held q (from_has f.held q held))) 0 v v cs
        (λ r z here out is_in.
        let cell = has_cell f.patches block offset r z within chains.graph.each here in
        let id : 0 + r ≡ r = omega arith in
        let out_here : has f.held r ≡ false = ap (λ (k : ℕ). has f.held k) (sym id) ∙ out in
        let in_here : has set r ≡ true = ap (λ (k : ℕ). has set k) (sym id) ∙ is_in in
        subst P cell.is (put r cell.patch (added set m r out_here in_here) cell.at cell.covers))
        (inl refl)) [
          | inl same ↦ subst P (old ∙ same) first
          | inr other ↦ other
        ])
      where
        -- what a member has more is undecided
        added : (set : ℕ) → IsMember f set → (id : ℕ) → has f.held id ≡ false → has set id ≡ true → IsUndecided f id
        added set m id out is_in = record {
          known = omega (arith, m.closed.known id (from_has set id is_in), length-map f.patches (λ p. p.deps));
          not_held = λ held. let no : true ≡ false = sym (has_true f.held id held) ∙ out in absurd (cc);
          not_barred = λ barred. m.barred id barred (from_has set id is_in);
        }
