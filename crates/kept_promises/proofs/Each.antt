-- Promises that are taken from a list one by one.
use Rattle.std.proofs.Common.{◌≡◌, List, [], ◌∷◌, ◌++◌, length, map, arith, refl, sym, ap, subst, ◌∙◌}
use Rattle.std.proofs.Common.{append-nil}
use Rattle.std.specs.Prelude.{Option, Some, None, option_map, option_to_list, MatchOption}
use Rattle.std.specs.List.{All}
use Rattle.std.proofs.lemmas.List.{map-append}
use Rattle.std.proofs.lemmas.List.Elements.{All-nil, All-cons, All-head, All-tail, All-append}
use Rattle.crash_model.specs.Promises.{Promise}
use Rattle.crash_model.specs.Tracing.{Tracing}
use Rattle.promise_steps.specs.Underway.{Under, all_ended}
use Rattle.kept_promises.specs.Watched.{IsAt, under_of}
use Rattle.kept_promises.specs.declared.underway.Underway.{Underway}

-- what holds of each element holds of those before the last, and of the last
split : {X : Type 0} (P : X → Type 0) (xs : List X) (x : X) → All P (xs ++ x ∷ []) → All P xs × P x
split P [] x all = (All-nil P, All-head P x [] all)
split P (y ∷ ys) x all =
    let more = split P ys x (All-tail P y (ys ++ x ∷ []) all) in
    (All-cons P y ys (All-head P y (ys ++ x ∷ []) all) more.0, more.1)

no_elements : {X : Type 0} (xs : List X) → length xs ≡ 0 → xs ≡ []
no_elements [] none = refl
no_elements (x ∷ xs) none = absurd (omega (arith, none))

-- all are taken where none is left
pub all_taken : {X : Type 0} (taken left all : List X) → length left ≡ 0 → taken ++ left ≡ all → taken ≡ all
all_taken taken left all none parts =
    sym (append-nil taken) ∙ (ap (λ (xs : List _). taken ++ xs) (sym (no_elements left none)) ∙ parts)

module _ {A : Type 0} where
  -- one more, after one more step
  pub map_pushed : (f : Under → Under) (xs : List (Underway A)) (x y : Underway A) (ys zs : List (Underway A))
      → zs ≡ ys ++ y ∷ [] → map under_of ys ≡ map f (map under_of xs) → under_of y ≡ f (under_of x)
      → map under_of zs ≡ map f (map under_of (xs ++ x ∷ []))
  map_pushed f xs x y ys zs pushed so_far one =
      ap (map under_of) pushed
      ∙ (map-append under_of ys (y ∷ [])
      ∙ (ap (λ (us : List Under). us ++ under_of y ∷ []) so_far
      ∙ (ap (λ (u : Under). map f (map under_of xs) ++ u ∷ []) one
      ∙ sym (ap (map f) (map-append under_of xs (x ∷ [])) ∙ map-append f (map under_of xs) (under_of x ∷ [])))))

  mapped_option : (o : Option (Underway A)) → map under_of (option_to_list o) ≡ option_to_list (option_map under_of o)
  mapped_option None = refl
  mapped_option (Some u) = refl

  -- with the promise of the step itself
  pub with_started : (ys : List (Underway A)) (o : Option (Underway A)) (us : List Under) (begins : Option Under)
      → map under_of ys ≡ us → option_map under_of o ≡ begins
      → map under_of (ys ++ option_to_list o) ≡ us ++ option_to_list begins
  with_started ys o us begins so_far is =
      map-append under_of ys (option_to_list o)
      ∙ (ap (λ (vs : List Under). vs ++ map under_of (option_to_list o)) so_far
      ∙ ap (λ (vs : List Under). us ++ vs) (mapped_option o ∙ ap (λ (b : Option Under). option_to_list b) is))

  option_at : (s : Tracing) (o : Option (Underway A)) → MatchOption o (Unit {0}) (λ u. IsAt u s)
      → All (λ (u : Underway A). IsAt u s) (option_to_list o)
  option_at s None at = All-nil (λ (u : Underway A). IsAt u s)
  option_at s (Some u) at = All-cons (λ (v : Underway A). IsAt v s) u [] at (All-nil (λ (v : Underway A). IsAt v s))

  pub split_at : (s : Tracing) (xs : List (Underway A)) (x : Underway A)
      → All (λ (u : Underway A). IsAt u s) (xs ++ x ∷ []) → All (λ (u : Underway A). IsAt u s) xs × IsAt x s
  split_at s xs x all = split (λ (u : Underway A). IsAt u s) xs x all

  pub at_pushed : (s : Tracing) (ys zs : List (Underway A)) (y : Underway A) → zs ≡ ys ++ y ∷ []
      → All (λ (u : Underway A). IsAt u s) ys → IsAt y s → All (λ (u : Underway A). IsAt u s) zs
  at_pushed s ys zs y pushed so_far one =
      let P : Underway A → Type 0 = λ u. IsAt u s in
      subst (All P) (sym pushed) (All-append P ys (y ∷ []) so_far (All-cons P y [] one (All-nil P)))

  pub at_last : (s : Tracing) (ys zs : List (Underway A)) (o : Option (Underway A)) → zs ≡ ys ++ option_to_list o
      → All (λ (u : Underway A). IsAt u s) ys → MatchOption o (Unit {0}) (λ u. IsAt u s)
      → All (λ (u : Underway A). IsAt u s) zs
  at_last s ys zs o last so_far at =
      let P : Underway A → Type 0 = λ u. IsAt u s in
      subst (All P) (sym last) (All-append P ys (option_to_list o) so_far (option_at s o at))

  pub at_taken : (s : Tracing) (xs ys : List (Underway A)) → xs ≡ ys → All (λ (u : Underway A). IsAt u s) ys
      → All (λ (u : Underway A). IsAt u s) xs
  at_taken s xs ys same all = subst (All (λ (u : Underway A). IsAt u s)) (sym same) all

  -- one more promise behind the last step
  pub ended_pushed : (s : Tracing) (xs : List (Underway A)) (x : Underway A) (p : Promise) (ps qs : List Promise)
      → qs ≡ ps ++ p ∷ [] → ps ≡ all_ended s (map under_of xs) → all_ended s (under_of x ∷ []) ≡ p ∷ []
      → qs ≡ all_ended s (map under_of (xs ++ x ∷ []))
  ended_pushed s xs x p ps qs pushed so_far one =
      pushed
      ∙ (ap (λ (rs : List Promise). rs ++ p ∷ []) so_far
      ∙ (ap (λ (rs : List Promise). all_ended s (map under_of xs) ++ rs) (sym one)
      ∙ sym (ap (all_ended s) (map-append under_of xs (x ∷ []))
      ∙ map-append _ (map under_of xs) (under_of x ∷ []))))
