-- Whether the patches between two places touch a path, and the ids that end its promise then.
use Rattle.std.proofs.Common.{◌≡◌, ℕ, List, [], ◌∷◌, length, drop, map, Bool, true, false, not, ◌||◌, refl, sym, ap}
use Rattle.std.proofs.Common.{◌∙◌, bit_or}
use Rattle.std.specs.Prelude.{if◌then◌else◌}
use Rattle.std.specs.List.{list_any}
use Rattle.std.specs.Int.Bits.{or_zero_r}
use Rattle.std.proofs.lemmas.List.{drop-map, length-map}
use Rattle.crash_model.specs.Patches.{Place}
use Rattle.crash_model.specs.Paths.{names_of, are_same_shown}
use Rattle.crash_model.specs.Promises.{way_shows, touches, ids_between}
use Rattle.crash_model.specs.Trace.{Emitted}
use Rattle.crash_model.specs.Tracing.{Tracing}
use Rattle.crash_model.specs.Waiting.{meets, meets_range}
use Rattle.crash_model.specs.declared.names.Path.{Path}
use Rattle.crash_model.specs.declared.ranges.Range.{Range}
use Rattle.crash_model.specs.declared.showing.Shown.{Shown}
use Rattle.kept_promises.specs.Watched.{ends_by}

any_meets : (ranges : List Range) (emitted : List Emitted)
    → list_any (λ place. list_any (meets_range place) ranges) (map (λ e. e.place) emitted)
    ≡ list_any (meets ranges) emitted
any_meets ranges [] = refl
any_meets ranges (e ∷ es) = ap (λ (b : Bool). list_any (meets_range e.place) ranges || b) (any_meets ranges es)

module _ (path : Path) (ranges : List Range) (way now : List Shown) (places : List Place) (known : ℕ) (s next : Tracing)
    (watched : way ≡ way_shows s.disk (names_of path)) (here : now ≡ way_shows next.disk (names_of path))
    (all : places ≡ map (λ e. e.place) next.emitted) (before : known ≡ length s.emitted) where
  abbrev is_touched : Bool
  is_touched =
      not (are_same_shown way now) || list_any (λ place. list_any (meets_range place) ranges) (drop known places)

  met_is : list_any (λ place. list_any (meets_range place) ranges) (drop known places)
      ≡ list_any (meets ranges) (drop (length s.emitted) next.emitted)
  met_is =
      ap (list_any (λ place. list_any (meets_range place) ranges))
      (ap (λ (n : ℕ). drop n places) before ∙ (ap (drop (length s.emitted)) all
      ∙ drop-map (λ (e : Emitted). e.place) (length s.emitted) next.emitted))
      ∙ any_meets ranges (drop (length s.emitted) next.emitted)

  touched_is : is_touched ≡ touches path ranges s next
  touched_is =
      ap (λ (shows : List Shown). not (are_same_shown shows now)
      || list_any (λ place. list_any (meets_range place) ranges) (drop known places)) watched
      ∙ (ap (λ (shows : List Shown). not (are_same_shown (way_shows s.disk (names_of path)) shows)
      || list_any (λ place. list_any (meets_range place) ranges) (drop known places)) here
      ∙ ap (λ (b : Bool). not (are_same_shown (way_shows s.disk (names_of path)) (way_shows next.disk (names_of path)))
      || b) met_is)

  pub ends_then : (ends number : ℕ) → is_touched ≡ true → number ≡ length places
      → bit_or ends (ids_between known number) ≡ bit_or ends (ends_by path ranges s next)
  ends_then ends number touched many =
      let long : number ≡ length next.emitted =
      many ∙ (ap (λ (ps : List Place). length ps) all ∙ length-map next.emitted (λ (e : Emitted). e.place)) in
      ap (bit_or ends)
      (ap (λ (n : ℕ). ids_between n number) before ∙ (ap (ids_between (length s.emitted)) long
      ∙ sym (ap (λ (b : Bool). if b then ids_between (length s.emitted) (length next.emitted) else 0)
      (sym touched_is ∙ touched))))

  pub ends_else : (ends : ℕ) → is_touched ≡ false → ends ≡ bit_or ends (ends_by path ranges s next)
  ends_else ends untouched =
      sym (ap (bit_or ends) (ap (λ (b : Bool). if b then ids_between (length s.emitted) (length next.emitted) else 0)
      (sym touched_is ∙ untouched)) ∙ or_zero_r ends)
