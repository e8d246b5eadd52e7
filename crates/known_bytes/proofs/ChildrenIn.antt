-- Where names lead by the entries of a directory's block.
use Rattle.std.proofs.Common.{◌≡◌, ℕ, zero, suc, ◌+◌, ◌-◌, ◌*◌, ◌<◌, ◌≤◌, inl, inr, List, [], ◌∷◌, ◌++◌, length}
use Rattle.std.proofs.Common.{take, drop, get_or, Bool, true, false, ◌&&◌, ◌==◌, not, Option, Some, None, arith}
use Rattle.std.proofs.Common.{refl, sym, ap, subst, ◌∙◌, add-one}
use Rattle.std.specs.Prelude.{◌≢◌, bytes_eq, option_map, is_some}
use Rattle.std.specs.Option.{option_or}
use Rattle.std.proofs.lemmas.Bool.{false≢true, cases_eq, and_parts, and_right, eq-eqb, ne_eqb, le-ltb}
use Rattle.std.proofs.lemmas.Grind.{same_number_lists}
use Rattle.std.proofs.lemmas.List.{length-take-le, length-drop, get_or-take, get_or-drop}
use Rattle.std.proofs.lemmas.Slice.Eq.{bytes_eq-Decides}
use Rattle.std.proofs.Math.Seq.{drop-cons}
use Rattle.patch_sets.proofs.Ids.{eq_from_true, true_from_eq}
use Rattle.crash_model.specs.Disk.{Disk, IsDisk, byte}
use Rattle.crash_model.specs.Layout.{is_live, counts, pointer_of, target_of}
use Rattle.crash_model.specs.Lists.{when, first_below}
use Rattle.crash_model.specs.Paths.{child_of, end_of}
use Rattle.crash_model.specs.Plan.{is_named, name_spelling}
use Rattle.crash_model.proofs.EachBelow.{first_below-none}
use Rattle.known_bytes.specs.NamedIn.{has_bytes, is_spelled_in, leads_in, end_in, child_in, first_child_in}

both : (a b : Bool) → a ≡ true → b ≡ true → (a && b) ≡ true
both true b e f = f
both false b e f = absurd (false≢true e)

-- ---- bytes of a block

module _ (block from : ℕ) (bytes : List ℕ) (d : Disk) where
  has_bytes-at : (n : ℕ) → has_bytes n block from bytes d ≡ true → (j : ℕ) → j < n
      → byte d block (from + j) ≡ get_or bytes j 0
  has_bytes-at zero has j less = absurd (omega arith)
  has_bytes-at (suc n) has j less =
      let parts = and_parts (has_bytes n block from bytes d) (byte d block (from + n) == get_or bytes n 0) has in
      elim (cases_eq j n) [
        | inl same ↦ subst (λ (m : ℕ). byte d block (from + m) ≡ get_or bytes m 0) (sym same)
            (eq_from_true (byte d block (from + n)) (get_or bytes n 0) parts.1)
        | inr other ↦ has_bytes-at n parts.0 j (omega (arith, less, other))
      ]

  has_bytes-all : (n : ℕ) → ((j : ℕ) → j < n → byte d block (from + j) ≡ get_or bytes j 0)
      → has_bytes n block from bytes d ≡ true
  has_bytes-all zero each = refl
  has_bytes-all (suc n) each = both (has_bytes n block from bytes d) (byte d block (from + n) == get_or bytes n 0)
      (has_bytes-all n (λ j less. each j (omega arith)))
      (true_from_eq (byte d block (from + n)) (get_or bytes n 0) (each n (omega arith)))

  pub has_bytes-more : (n : ℕ) → (has_bytes n block from bytes d && byte d block (from + n) == get_or bytes n 0)
      ≡ has_bytes (n + 1) block from bytes d
  has_bytes-more n = ap (λ (k : ℕ). has_bytes k block from bytes d) (sym (add-one n))

  module _ (at : ℕ) (here : at ≡ 128 * block + from) (n : ℕ) (long : length bytes ≡ n) (inside : from + n ≤ 128)
      (is : IsDisk d) (below : block < d.blocks) where
    piece : List ℕ
    piece = take n (drop at d.bytes)

    piece-long : length piece ≡ n
    unfolding piece
    piece-long = length-take-le n (drop at d.bytes)
        (omega (arith, length-drop at d.bytes, is.whole, here, inside, below))

    piece-at : (j : ℕ) → j < n → get_or piece j 0 ≡ byte d block (from + j)
    unfolding piece
    piece-at j less = get_or-take n (drop at d.bytes) j 0 less
        ∙ (get_or-drop at d.bytes j 0
        ∙ (let place : at + j ≡ 128 * block + (from + j) = omega (arith, here) in
        ap (λ (k : ℕ). get_or d.bytes k 0) place))

    pub has_bytes-whole : has_bytes n block from bytes d ≡ bytes_eq (take n (drop at d.bytes)) bytes
    unfolding piece
    has_bytes-whole = same_tests (has_bytes n block from bytes d) (bytes_eq piece bytes)
        (λ has. (bytes_eq-Decides piece bytes).1 (same_number_lists piece bytes (piece-long ∙ sym long) (λ j less.
        let few : j < n = omega (arith, less, piece-long) in
        piece-at j few ∙ has_bytes-at n has j few)))
        (λ same. has_bytes-all n (λ j less. sym (piece-at j less)
        ∙ ap (λ (xs : List ℕ). get_or xs j 0) ((bytes_eq-Decides piece bytes).0 same)))
      where
        same_tests : (a b : Bool) → (a ≡ true → b ≡ true) → (b ≡ true → a ≡ true) → a ≡ b
        same_tests true b to from = sym (to refl)
        same_tests false true to from = from refl
        same_tests false false to from = refl

-- ---- one entry

module _ (block k entry : ℕ) (d : Disk) (here : byte d block (8 + 12 * k) ≡ entry) where
  pub end_free : entry ≡ 0 → end_in block k d ≡ None
  end_free free = rw (here, eq-eqb entry 0 free) refl

  pub end_dead : is_live d (entry - 1) ≡ false → end_in block k d ≡ None
  end_dead dead = rw (here, dead, and_right (not (entry == 0)) false refl) refl

  -- no inode has such a number
  pub end_high : 16 < entry → end_in block k d ≡ None
  end_high high = end_dead (rw (le-ltb (entry - 1) 16 (omega arith)) refl)

  pub end_live : entry ≢ 0 → is_live d (entry - 1) ≡ true → end_in block k d ≡ Some (entry - 1)
  end_live some live = rw (here, ne_eqb entry 0 some, live) refl

module _ (block k : ℕ) (spelled : List ℕ) (d : Disk) where
  pub child_spelled : is_spelled_in block k spelled d ≡ true → end_in block k d ≡ child_in block k spelled d
  child_spelled is = rw is (with_true (leads_in block k d))
    where
      with_true : (b : Bool) → when b (byte d block (8 + 12 * k) - 1) ≡ when (b && true) (byte d block (8 + 12 * k) - 1)
      with_true true = refl
      with_true false = refl

  pub child_other : is_spelled_in block k spelled d ≡ false → child_in block k spelled d ≡ None
  child_other other = rw (other, and_right (leads_in block k d) false refl) refl

-- ---- the first entry of a name

module _ (block : ℕ) (spelled : List ℕ) (d : Disk) where
  pub first_none-start : first_child_in 0 block spelled d ≡ None
  unfolding first_child_in
  first_none-start = refl

  pub first_none-more : (k : ℕ) (found : Option ℕ) → child_in block k spelled d ≡ found → is_some found ≡ false
      → first_child_in k block spelled d ≡ None → first_child_in (k + 1) block spelled d ≡ None
  unfolding first_child_in
  first_none-more k None here none before = rw (add-one, before, here) refl
  first_none-more k (Some child) here none before = absurd (false≢true (sym none))

  pub first_found : (n k : ℕ) (found : Option ℕ) → k < n → child_in block k spelled d ≡ found → is_some found ≡ true
      → first_child_in k block spelled d ≡ None → first_child_in n block spelled d ≡ found
  unfolding first_child_in
  first_found zero k found less here some before = absurd (omega arith)
  first_found (suc n) k found less here some before = elim (cases_eq k n) [
    | inl same ↦ subst (λ (m : ℕ). option_or (first_child_in m block spelled d) (child_in block m spelled d) ≡ found)
        same (rw (before, here) refl)
    | inr other ↦ ap (λ (o : Option ℕ). option_or o (child_in block n spelled d))
        (first_found n k found (omega arith) here some before) ∙ stays found (child_in block n spelled d) some
  ]
    where
      stays : (found other : Option ℕ) → is_some found ≡ true → option_or found other ≡ found
      stays (Some child) other some = refl
      stays None other some = absurd (false≢true some)

-- ---- a directory that counts has its entries there

module _ (d : Disk) (dir block : ℕ) (name : List ℕ) (counted : counts d dir ≡ true) (at : pointer_of d dir 0 ≡ block)
  where
    spelled : List ℕ
    spelled = name_spelling name

    child_named : (k : ℕ) → when (is_named d dir name k) (target_of d dir k) ≡ child_in block k (name_spelling name) d
    child_named k = rw (counted, at) refl

    first_named : (n : ℕ) → option_map (target_of d dir) (first_below n (is_named d dir name))
        ≡ first_child_in n block (name_spelling name) d
    unfolding first_below first_child_in
    first_named zero = refl
    first_named (suc n) =
        mapped_or (target_of d dir) (first_below n (is_named d dir name)) (is_named d dir name n) n
        ∙ ap₂' (first_named n) (child_named n)
      where
        mapped_or : (f : ℕ → ℕ) (o : Option ℕ) (b : Bool) (n : ℕ)
            → option_map f (option_or o (when b n)) ≡ option_or (option_map f o) (when b (f n))
        mapped_or f (Some x) b n = refl
        mapped_or f None true n = refl
        mapped_or f None false n = refl

        ap₂' : {a b c e : Option ℕ} → a ≡ b → c ≡ e → option_or a c ≡ option_or b e
        ap₂' p q = rw (p, q) refl

    pub child_first : child_of d dir name ≡ first_child_in 10 block (name_spelling name) d
    child_first = first_named 10

-- a directory that does not count has none
pub child_none : (d : Disk) (dir : ℕ) (name : List ℕ) → counts d dir ≡ false → child_of d dir name ≡ None
child_none d dir name uncounted = ap (option_map (target_of d dir))
    (first_below-none 10 (is_named d dir name) (λ k less. rw uncounted refl))

-- ---- names one by one

-- names that lead nowhere
pub end_of-none : (d : Disk) (names : List (List ℕ)) → end_of d None names ≡ None
end_of-none d [] = refl
end_of-none d (name ∷ names) = refl

-- the names from a place on begin with the name at that place
pub names_from : (names ends : List (List ℕ)) (i : ℕ) (name : List ℕ) → i < length names → name ≡ get_or names i name
    → drop i names ++ ends ≡ name ∷ (drop (i + 1) names ++ ends)
names_from names ends i name inside read =
    let next : suc i ≡ i + 1 = omega arith in
    ap (λ (xs : List (List ℕ)). xs ++ ends) (drop-cons names i name inside)
    ∙ (ap (λ (x : List ℕ). x ∷ (drop (suc i) names ++ ends)) (sym read)
    ∙ ap (λ (n : ℕ). name ∷ (drop n names ++ ends)) next)
