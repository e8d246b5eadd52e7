-- One item more of a list that a loop makes.
use Rattle.std.proofs.Common.{◌≡◌, ℕ, ◌+◌, ◌<◌, List, [], ◌∷◌, ◌++◌, length, map, All, get_or, take, sym}
use Rattle.std.proofs.Common.{subst, ap, ap₂, ◌∙◌}
use Rattle.std.proofs.lemmas.List.{map_more, map_push, take_more}
use Rattle.std.proofs.lemmas.List.Elements.{All-push}

-- each item is made of the next of a list
pub made_more : {X Y : Type 0} (f : X → Y) (of : List X) (i : ℕ) (d : X) (before after : List Y) (item : Y)
    → i < length of → before ≡ map f (take i of) → item ≡ f (get_or of i d) → after ≡ before ++ item ∷ []
    → after ≡ map f (take (i + 1) of)
made_more f of i d before after item within so_far is more =
    more ∙ (ap₂ (λ ys y. ys ++ y ∷ []) so_far is ∙ sym (map_more f of i d within))

-- each item has the next of a list
pub field_more : {X Y : Type 0} (f : X → Y) (of : List Y) (i : ℕ) (d : Y) (before after : List X) (item : X)
    → i < length of → map f before ≡ take i of → f item ≡ get_or of i d → after ≡ before ++ item ∷ []
    → map f after ≡ take (i + 1) of
field_more f of i d before after item within so_far is more =
    ap (map f) more ∙ (map_push f before item
    ∙ (ap₂ (λ ys y. ys ++ y ∷ []) so_far is ∙ sym (take_more of i d within)))

-- something holds of each item
pub all_more : {X : Type 0} (P : X → Type 0) (before after : List X) (item : X) → All P before → P item
    → after ≡ before ++ item ∷ [] → All P after
all_more P before after item so_far one more = subst (All P) (sym more) (All-push P before item so_far one)
