-- The lines of a set of those that wait, one place after another.
use Rattle.std.proofs.Common.{◌≡◌, ℕ, ◌+◌, ◌<◌, List, [], ◌∷◌, ◌++◌, length, get_or, map, Bool, true, false}
use Rattle.std.proofs.Common.{refl, sym, ap, ◌∙◌, Some, None}
use Rattle.std.specs.Prelude.{Option, option_map, option_to_list, slice_get, if◌then◌else◌}
use Rattle.std.proofs.lemmas.List.{append-nil, length-map, map_push}
use Rattle.std.proofs.lemmas.Option.{slice_get-get_or, slice_get-map}
use Rattle.patch_sets.specs.Sets.{Has, has}
use Rattle.patch_sets.proofs.Ids.{has_true, has_false}
use Rattle.crash_model.proofs.EachBelow.{some_below-zero, some_below-step}
use Rattle.crash_model.specs.Lists.{some_below}
use Rattle.crash_model.specs.Waiting as waiting
use Rattle.question_model.specs.EnoughLines.{waits_in}
use Rattle.traced_patches.specs.Labels.{wait_by, waits_by}
use Rattle.traced_patches.specs.declared.labels.Wait.{Wait}

-- the numbers of the lines of the set among the first n that wait
abbrev pub lines_to : ℕ → List waiting.Wait → ℕ → List ℕ
lines_to n waits set =
    map (λ wait. wait.line) (some_below n (λ place. if has set place then slice_get waits place else None))

pub no_line_yet : (waits : List waiting.Wait) (set : ℕ) → lines_to 0 waits set ≡ []
no_line_yet waits set =
    ap (map (λ (wait : waiting.Wait). wait.line))
    (some_below-zero (λ place. if has set place then slice_get waits place else None))

if_not : (b : Bool) (o : Option waiting.Wait) → b ≡ false → (if b then o else None) ≡ None
if_not true o e = absurd (cc)
if_not false o e = refl

if_so : (b : Bool) (o : Option waiting.Wait) (wait : waiting.Wait) → b ≡ true → o ≡ Some wait
    → (if b then o else None) ≡ Some wait
if_so true o wait t e = e
if_so false o wait t e = absurd (cc)

module _ (waits : List waiting.Wait) (set n : ℕ) where
  abbrev at_place : ℕ → Option waiting.Wait
  at_place place = if has set place then slice_get waits place else None

  abbrev number : waiting.Wait → ℕ
  number wait = wait.line

  -- a line that is not in the set
  pub no_line_more : (Has set n → ⊥) → lines_to (n + 1) waits set ≡ lines_to n waits set
  no_line_more lacks = ap (map number) (some_below-step n at_place
      ∙ (ap (λ (o : Option waiting.Wait). some_below n at_place ++ option_to_list o)
      (if_not (has set n) (slice_get waits n) (has_false set n lacks)) ∙ append-nil (some_below n at_place)))

  -- a line of the set
  pub one_line_more : (wait : waiting.Wait) → Has set n → slice_get waits n ≡ Some wait
      → lines_to (n + 1) waits set ≡ lines_to n waits set ++ wait.line ∷ []
  one_line_more wait inside is = ap (map number) (some_below-step n at_place
      ∙ ap (λ (o : Option waiting.Wait). some_below n at_place ++ option_to_list o)
      (if_so (has set n) (slice_get waits n) wait (has_true set n inside) is))
      ∙ map_push number (some_below n at_place) wait

-- the line at a place is put at the end
pub line_pushed : (waits : List Wait) (set n : ℕ) (wait : Wait) (old new : List ℕ) → n < length waits
    → wait ≡ get_or waits n wait → Has set n → old ≡ lines_to n (waits_by waits) set
    → new ≡ old ++ wait.step.now.line ∷ [] → new ≡ lines_to (n + 1) (waits_by waits) set
line_pushed waits set n wait old new within found inside was is =
    is ∙ (ap (λ (some : List ℕ). some ++ wait.step.now.line ∷ []) was
    ∙ sym (one_line_more (waits_by waits) set n (wait_by wait) inside (slice_get-map wait_by waits n
    ∙ (ap (option_map wait_by) (slice_get-get_or waits n wait within)
    ∙ ap (λ (one : Wait). Some (wait_by one)) (sym found)))))

-- all places were asked about
pub all_lines : (waits : List Wait) (set n : ℕ) (lines : List ℕ) → n ≡ length waits
    → lines ≡ lines_to n (waits_by waits) set → lines ≡ map (λ wait. wait.line) (waits_in (waits_by waits) set)
all_lines waits set n lines all is = is
    ∙ ap (λ (k : ℕ). lines_to k (waits_by waits) set) (all ∙ sym (length-map waits wait_by))
