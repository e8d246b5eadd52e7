-- Where paths lead, name by name.
use Rattle.std.proofs.Common.{◌≡◌, ℕ, suc, ◌+◌, ◌<◌, List, [], ◌∷◌, ◌++◌, length, take, drop, map, get_or, arith, refl}
use Rattle.std.proofs.Common.{sym, ap, ◌∙◌}
use Rattle.std.specs.Prelude.{Option, Some, None}
use Rattle.std.specs.List.{range_with_len}
use Rattle.std.proofs.Math.Seq.{drop-cons, take-suc}
use Rattle.std.proofs.lemmas.List.FromFn.{map-range_with_len_more}
use Rattle.crash_model.specs.Disk.{Disk}
use Rattle.crash_model.specs.Paths.{end_of, child_of, inode_shown, names_show}
use Rattle.crash_model.specs.declared.showing.Shown.{Shown}

-- names that lead nowhere
pub end_of-none : (d : Disk) (names : List (List ℕ)) → end_of d None names ≡ None
end_of-none d [] = refl
end_of-none d (name ∷ names) = refl

pub end_of-append : (d : Disk) (inode : Option ℕ) (xs ys : List (List ℕ))
    → end_of d inode (xs ++ ys) ≡ end_of d (end_of d inode xs) ys
end_of-append d inode [] ys = refl
end_of-append d None (x ∷ xs) ys = sym (end_of-none d ys)
end_of-append d (Some dir) (x ∷ xs) ys = end_of-append d (child_of d dir x) xs ys

-- the names from a place on begin with the name at that place
pub names_from : (names ends : List (List ℕ)) (i : ℕ) (name : List ℕ) → i < length names → name ≡ get_or names i name
    → drop i names ++ ends ≡ name ∷ (drop (i + 1) names ++ ends)
names_from names ends i name inside read =
    let next : suc i ≡ i + 1 = omega arith in
    ap (λ (xs : List (List ℕ)). xs ++ ends) (drop-cons names i name inside)
    ∙ (ap (λ (x : List ℕ). x ∷ (drop (suc i) names ++ ends)) (sym read)
    ∙ ap (λ (n : ℕ). name ∷ (drop n names ++ ends)) next)

-- where one more name leads, and what is shown there
module _ (d : Disk) (names : List (List ℕ)) where
  pub one_further : (i : ℕ) (name : List ℕ) → i < length names → name ≡ get_or names i name
      → end_of d (end_of d (Some 0) (take i names)) (name ∷ []) ≡ end_of d (Some 0) (take (i + 1) names)
  one_further i name inside read =
      let next : suc i ≡ i + 1 = omega arith in
      sym (end_of-append d (Some 0) (take i names) (name ∷ []))
      ∙ (ap (end_of d (Some 0)) (ap (λ (n : List ℕ). take i names ++ n ∷ []) read ∙ sym (take-suc names i name inside))
      ∙ ap (λ (n : ℕ). end_of d (Some 0) (take n names)) next)

  shown_further : (i : ℕ) → map (λ n. names_show d (take (n + 1) names)) (range_with_len 0 i)
      ++ inode_shown d (end_of d (Some 0) (take (i + 1) names)) ∷ []
      ≡ map (λ n. names_show d (take (n + 1) names)) (range_with_len 0 (i + 1))
  unfolding names_show
  shown_further i = sym (map-range_with_len_more (λ n. names_show d (take (n + 1) names)) 0 i i (omega arith))

  pub shown_after : (i : ℕ) (name : List ℕ) (inode : Option ℕ) (shows : List Shown) → i < length names
      → name ≡ get_or names i name → inode ≡ end_of d (Some 0) (take i names)
      → shows ≡ map (λ n. names_show d (take (n + 1) names)) (range_with_len 0 i)
      → shows ++ inode_shown d (end_of d inode (name ∷ [])) ∷ []
      ≡ map (λ n. names_show d (take (n + 1) names)) (range_with_len 0 (i + 1))
  shown_after i name inode shows inside read leads so_far =
      rw (so_far, leads, one_further i name inside read) (shown_further i)
