-- Steps on groups.
use Rattle.std.proofs.Common.{◌≡◌, ℕ, List, [], ◌∷◌, ◌++◌, Bool, true, false, ◌||◌, refl, sym, ◌∙◌, ap}
use Rattle.std.specs.Prelude.{Option, Some, None, is_some, Ok, Err, bytes_eq}
use Rattle.std.specs.Borrow.{Bor}
use Rattle.std.specs.List.{list_any}
use Rattle.std.proofs.lemmas.List.{map_push}
use Rattle.crash_model.specs.Plan.{unless}
use Rattle.crash_model.specs.Trace.{is_among}
use Rattle.crash_model.specs.declared.refusals.TraceFault.{TraceFault}
use Rattle.traced_patches.specs.Labels.{group_by}
use Rattle.order_modules.specs.Tracer.{Trace, names_by}

pub refused : {A : Type 0} (test : Bool) (f : TraceFault) (x : A) → test ≡ true → unless test f (Ok x) ≡ Err f
refused test f x t = rw t refl

pub accepted : {A : Type 0} (test : Bool) (f : TraceFault) (x : A) → test ≡ false → unless test f (Ok x) ≡ Ok x
accepted test f x t = rw t refl

pub or_first : (a b : Bool) → a ≡ true → (a || b) ≡ true
or_first true b t = refl
or_first false b t = absurd (cc)

pub or_second : (a b : Bool) → b ≡ true → (a || b) ≡ true
or_second true b t = refl
or_second false b t = t

pub or_neither : (a b : Bool) → a ≡ false → b ≡ false → (a || b) ≡ false
or_neither true b t f = absurd (cc)
or_neither false b t f = f

pub some_group : (group : Option (Bor (List ℕ))) → is_some (group_by group) ≡ is_some group
some_group None = refl
some_group (Some name) = refl

pub among_names : (name : List ℕ) (names : List (Bor (List ℕ)))
    → is_among name (names_by names) ≡ list_any (λ other. bytes_eq name other.now) names
among_names name [] = refl
among_names name (x ∷ xs) = ap (λ (t : Bool). bytes_eq name x.now || t) (among_names name xs)

-- what was found of a name among those kept
pub among_read : (t : Trace) (name : List ℕ) (kept read : List (Bor (List ℕ))) (found : Bool) (among : List (List ℕ))
    → found ≡ list_any (λ other. bytes_eq name other.now) read → read ≡ kept → names_by kept ≡ among
    → is_among name among ≡ found
among_read t name kept read found among is same all =
    sym (is ∙ ap (λ (xs : List (Bor (List ℕ))). list_any (λ other. bytes_eq name other.now) xs) same
    ∙ sym (among_names name kept) ∙ ap (λ (ns : List (List ℕ)). is_among name ns) all)

pub names_push : (names new : List (Bor (List ℕ))) (name : Bor (List ℕ)) → new ≡ names ++ name ∷ []
    → names_by new ≡ names_by names ++ name.now ∷ []
names_push names new name more = ap (λ (ns : List (Bor (List ℕ))). names_by ns) more
    ∙ map_push (λ (n : Bor (List ℕ)). n.now) names name
