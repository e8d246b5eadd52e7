-- Labels of patches, if of the lines that wait only some do.
use Rattle.std.proofs.Common.{◌≡◌, ℕ, ◌+◌, ◌<◌, List, [], ◌∷◌, ◌++◌, length, map, take, refl, sym, ap, ◌∙◌}
use Rattle.std.specs.List.{slice_index_or}
use Rattle.std.proofs.lemmas.List.{map_more}
use Rattle.crash_model.specs.ChosenWaits.{emitted_waiting, forced_before}
use Rattle.crash_model.specs.Patches.{Place}
use Rattle.crash_model.specs.Trace.{Emitted}
use Rattle.crash_model.specs.Waiting.{Wait}
use Rattle.traced_patches.specs.Labels.{emitted_at, emitted_by}
use Rattle.traced_patches.specs.declared.labels.Label.{Label}

module _ (waits : List Wait) (chosen : ℕ) where
  -- the label with what the lines of the set force before it
  abbrev pub relabelled : Label → Label
  relabelled l = record l { origin = record l.origin { waits_for = forced_before waits chosen l.origin.line } }

  -- patches with these labels are those that wait so
  pub emitted_relabelled : (ps : List Place) (ls : List Label)
      → emitted_by ps (map relabelled ls) ≡ map (emitted_waiting waits chosen) (emitted_by ps ls)
  emitted_relabelled [] ls = refl
  emitted_relabelled (p ∷ ps) [] = refl
  emitted_relabelled (p ∷ ps) (l ∷ ls) =
      ap (λ (es : List Emitted). emitted_at p (relabelled l) ∷ es) (emitted_relabelled ps ls)

  -- one label more
  module _ (ls : List Label) (i : ℕ) (l : Label) (inside : i < length ls) (is : l ≡ slice_index_or ls i l) where
    abbrev with_forced : ℕ → Label
    with_forced n = record l { origin = record l.origin { waits_for = n } }

    pub relabelled_more : (before after : List Label) (n : ℕ) → before ≡ map relabelled (take i ls)
        → n ≡ forced_before waits chosen l.origin.line
        → after ≡ before ++ record l { origin = record l.origin { waits_for = n } } ∷ []
        → after ≡ map relabelled (take (i + 1) ls)
    relabelled_more before after n so_far forced more =
        more ∙ (ap (λ (xs : List Label). xs ++ with_forced n ∷ []) so_far
        ∙ (ap (λ (k : ℕ). map relabelled (take i ls) ++ with_forced k ∷ []) forced
        ∙ (ap (λ (x : Label). map relabelled (take i ls) ++ relabelled x ∷ []) is
        ∙ sym (map_more relabelled ls i l inside))))
