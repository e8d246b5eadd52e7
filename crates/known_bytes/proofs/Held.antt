-- The byte of the image of the patches held.
use Rattle.std.proofs.Common.{◌≡◌, ◌<◌, ℕ, List, subst, sym, ◌∙◌, ap}
use Rattle.std.specs.Prelude.{◌↔◌, bit_and}
use Rattle.patch_sets.specs.Sets.{Has}
use Rattle.patch_sets.specs.Ends.{IsHighest}
use Rattle.patch_sets.proofs.Bits.{none_in_empty}
use Rattle.crash_model.specs.Disk.{Disk, byte}
use Rattle.crash_model.specs.Patches.{image_of}
use Rattle.crash_model.specs.declared.patches.Patch.{Patch}
use Rattle.patch_graph.specs.Graph.{IsAt}
use Rattle.known_bytes.specs.Family.{Family, CoversAt, new_byte}
use Rattle.known_bytes.specs.Chains.{IsSplit}
use Rattle.known_bytes.proofs.Undecided.{and_both, covers_same}
use Rattle.known_bytes.proofs.Known.{byte_of_base, byte_of_last}

module _ (inside f : Family) (view : inside ≡ f) (undecided : ℕ) (split : IsSplit inside undecided)
    (block offset : ℕ) (below : block < f.base.blocks) (within : offset < 128)
    (there : ℕ) (at_byte : (id : ℕ) → (Has there id ↔ CoversAt inside.patches id block offset)) where
  fits : block < inside.base.blocks
  fits = subst (λ (x : Family). block < x.base.blocks) (sym view) below

  pub base_held : (value : ℕ) (base : Disk) → base ≡ inside.base → value ≡ byte base block offset
      → bit_and inside.held there ≡ 0 → value ≡ byte (image_of f.base f.patches f.held) block offset
  base_held value base same is none =
      subst (λ (x : Family). value ≡ byte (image_of x.base x.patches x.held) block offset) view
      (is ∙ ap (λ (d : Disk). byte d block offset) same
      ∙ byte_of_base inside split.chains.sets split.chains.are block offset fits within inside.held
      (λ id covers held. none_in_empty id (subst (λ (s : ℕ). Has s id) none
      ((and_both inside.held there id).1 (held, (at_byte id).1 covers)))))

  pub last_held : (id : ℕ) (p : Patch) (ps : List Patch) → ps ≡ inside.patches → IsAt ps id p
      → IsHighest (bit_and inside.held there) id → (value : ℕ) → value ≡ new_byte p offset
      → value ≡ byte (image_of f.base f.patches f.held) block offset
  last_held id p ps same at high value is =
      let both = (and_both inside.held there id).0 high.inside in
      let here = (at_byte id).0 both.1 in
      subst (λ (x : Family). value ≡ byte (image_of x.base x.patches x.held) block offset) view
      (is ∙ byte_of_last inside split.chains.sets split.chains.are block offset fits within inside.held id p
      (subst (λ (xs : List Patch). IsAt xs id p) same at)
      (covers_same inside f view block offset ps id p same at here) both.0
      (λ q covers held. high.most q ((and_both inside.held there q).1 (held, (at_byte q).1 covers))))
