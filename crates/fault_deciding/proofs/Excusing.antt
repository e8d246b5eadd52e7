-- What excuses each set that has some patches.
use Rattle.std.proofs.Common.{◌≡◌, ℕ, ◌<◌, ◌≤◌, ◌⊎◌, inl, inr, List, [], ◌∷◌, length, get_or, Bool, true, false}
use Rattle.std.proofs.Common.{◌&&◌, ◌||◌, arith, tests, refl, sym}
use Rattle.std.proofs.Common.{ap, ap₂, subst}
use Rattle.std.specs.Prelude.{bytes_eq, nat_le}
use Rattle.std.specs.List.{list_any}
use Rattle.std.proofs.lemmas.Bool.{false≢true, and_parts}
use Rattle.std.proofs.lemmas.Slice.Eq.{bytes_eq-Decides}
use Rattle.crash_model.specs.Disk.{Disk}
use Rattle.crash_model.specs.Paths.{names_of, are_same_names, is_same_path, names_show, path_shows, is_same_shown}
use Rattle.crash_model.specs.Paths.{are_same_shown}
use Rattle.crash_model.specs.Promises.{is_allowed, is_spared, paths_show}
use Rattle.crash_model.specs.declared.names.Path.{Path}
use Rattle.crash_model.specs.declared.promises.Allowance.{Allowance}
use Rattle.crash_model.specs.declared.promises.Spare.{Spare as StandIn}
use Rattle.crash_model.specs.declared.showing.Shown.{Shown}

-- ---- tests of the elements of a list

or_cases : (a b : Bool) → (a || b) ≡ true → (a ≡ true) ⊎ (b ≡ true)
or_cases true b is = inl refl
or_cases false b is = inr is

or_left : (a b : Bool) → a ≡ true → (a || b) ≡ true
or_left true b is = refl
or_left false b is = absurd (false≢true is)

or_right : (a b : Bool) → b ≡ true → (a || b) ≡ true
or_right true b is = refl
or_right false b is = is

any_weaker : {X : Type 0} (p q : X → Bool) → ((x : X) → p x ≡ true → q x ≡ true) → (xs : List X)
    → list_any p xs ≡ true → list_any q xs ≡ true
any_weaker p q weaker [] is = absurd (false≢true is)
any_weaker p q weaker (x ∷ xs) is = elim (or_cases (p x) (list_any p xs) is) [
  | inl here ↦ or_left (q x) (list_any q xs) (weaker x here)
  | inr there ↦ or_right (q x) (list_any q xs) (any_weaker p q weaker xs there)
]

-- ---- the same path

same_names : (xs ys : List (List ℕ)) → are_same_names xs ys ≡ true → xs ≡ ys
same_names [] [] is = refl
same_names [] (y ∷ ys) is = absurd (false≢true is)
same_names (x ∷ xs) [] is = absurd (false≢true is)
same_names (x ∷ xs) (y ∷ ys) is =
    let parts = and_parts (bytes_eq x y) (are_same_names xs ys) is in
    ap₂ (λ z zs. z ∷ zs) ((bytes_eq-Decides x y).0 parts.0) (same_names xs ys parts.1)

shows_same : (d : Disk) (p q : Path) → is_same_path p q ≡ true → path_shows d p ≡ path_shows d q
unfolding path_shows
shows_same d p q is = ap (names_show d)
    (same_names (names_of p) (names_of q) is)

-- ---- a path alone

pub only_path : (paths : List Path) (path : Path) → 1 ≤ length paths → length paths < 2 → path ≡ get_or paths 0 path
    → paths ≡ path ∷ []
only_path [] path least most is = absurd (omega (arith, least))
only_path (p ∷ []) path least most is = ap (λ (q : Path). q ∷ []) (sym is)
only_path (p ∷ q ∷ ps) path least most is = absurd (omega (arith, most))

-- ---- a set that has what is held

module _ (held : ℕ) (allowed : List Allowance) (spares : List StandIn) (only : Path) (d : Disk) (set : ℕ)
    (more : held ≤ set) where
  allows_more : (shown : List Shown)
      → list_any (λ a. nat_le a.least held && are_same_shown a.shows.items shown) allowed ≡ true
      → is_allowed allowed set shown ≡ true
  allows_more shown is = any_weaker _ (λ a. nat_le a.least set && are_same_shown a.shows.items shown)
      (λ a both. larger a.least (are_same_shown a.shows.items shown) both) allowed is
    where
      larger : (least : ℕ) (b : Bool) → (nat_le least held && b) ≡ true → (nat_le least set && b) ≡ true
      larger least b both = grind (arith, tests, more, and_parts (nat_le least held) b both)

  stands_in : list_any (λ s. is_same_shown s.shows (path_shows d only) && is_same_path s.path only) spares ≡ true
      → is_spared spares d ≡ true
  stands_in is = any_weaker _ (λ s. is_same_shown s.shows (path_shows d s.path)) (λ s both.
      let parts = and_parts (is_same_shown s.shows (path_shows d only)) (is_same_path s.path only) both in
      subst (λ (shown : Shown). is_same_shown s.shows shown ≡ true) (sym (shows_same d s.path only parts.1)) parts.0)
      spares is

  pub excused_of : (list_any (λ a. nat_le a.least held && are_same_shown a.shows.items (path_shows d only ∷ [])) allowed
      || list_any (λ s. is_same_shown s.shows (path_shows d only) && is_same_path s.path only) spares) ≡ true
      → (is_allowed allowed set (paths_show d (only ∷ [])) || is_spared spares d) ≡ true
  excused_of is = elim (or_cases _ _ is) [
    | inl allows ↦ or_left (is_allowed allowed set (paths_show d (only ∷ []))) (is_spared spares d)
        (allows_more (path_shows d only ∷ []) allows)
    | inr spared ↦ or_right (is_allowed allowed set (paths_show d (only ∷ []))) (is_spared spares d) (stands_in spared)
  ]
