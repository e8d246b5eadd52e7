-- One byte of an image under the patches of a set, and what undoing and redoing leave of it. A patch has one cell:
-- what it puts at the byte, or nothing.
use Rattle.std.proofs.Common.{◌≡◌, ℕ, suc, ◌+◌, ◌<◌, ◌⊎◌, inl, inr, List, [], ◌∷◌, length, get_or, Bool, true, false}
use Rattle.std.proofs.Common.{cond, not, ◌&&◌, Option, Some, None, arith, refl, sym, ◌∙◌, ap}
use Rattle.std.specs.Prelude.{unwrap_or, is_some}
use Rattle.patch_sets.specs.Sets.{has}

pub bool_is : (b : Bool) → (b ≡ true) ⊎ (b ≡ false)
bool_is true = inl refl
bool_is false = inr refl

-- the byte after the cells of a set, the first being that of `id`; a cell is what a patch puts there, or nothing
abbrev pub value_from : ℕ → ℕ → List (Option ℕ) → ℕ → ℕ
value_from id v [] set = v
value_from id v (c ∷ cs) set = value_from (id + 1) (cond (has set id) (unwrap_or c v) v) cs set

-- `v` with the cells of a set undone, the greatest first; `full` is the byte after all cells before the first
abbrev pub undo_from : ℕ → ℕ → ℕ → List (Option ℕ) → ℕ → ℕ
undo_from id full v [] set = v
undo_from id full v (c ∷ cs) set = cond (has set id && is_some c) full (undo_from (id + 1) (unwrap_or c full) v cs set)

-- a set has, of the cells that put something, none
abbrev pub HasNone : ℕ → List (Option ℕ) → ℕ → Type 0
HasNone id [] set = Unit {0}
HasNone id (c ∷ cs) set = ((has set id && is_some c) ≡ false) × HasNone (id + 1) cs set

-- each such cell of the set has all such cells before it in the set: the set has them up to some place, and none from
-- there on
abbrev pub HasFront : ℕ → List (Option ℕ) → ℕ → Type 0
HasFront id [] set = Unit {0}
HasFront id (c ∷ cs) set =
    ((has set id ≡ true) × HasFront (id + 1) cs set)
    ⊎ (((c ≡ None) × HasFront (id + 1) cs set)
    ⊎ ((has set id ≡ false) × HasNone (id + 1) cs set))

-- what is in one set and not in another
pub record IsLess (a b d : ℕ) : Type 0 where
  pub is : (q : ℕ) → has d q ≡ (has a q && not (has b q))

pub value-none : (id v : ℕ) (cs : List (Option ℕ)) (set : ℕ) → HasNone id cs set → value_from id v cs set ≡ v
value-none id v [] set none = refl
value-none id v (c ∷ cs) set none =
    ap (λ (m : ℕ). value_from (id + 1) m cs set) (stays (has set id) c v none.0)
    ∙ value-none (id + 1) v cs set none.1
  where
    stays : (b : Bool) (c : Option ℕ) (v : ℕ) → (b && is_some c) ≡ false → cond b (unwrap_or c v) v ≡ v
    stays true None v h = refl
    stays true (Some y) v h = absurd (cc)
    stays false c v h = refl

pub undo-none : (id full v : ℕ) (cs : List (Option ℕ)) (set : ℕ) → HasNone id cs set → undo_from id full v cs set ≡ v
undo-none id full v [] set none = refl
undo-none id full v (c ∷ cs) set none =
    ap (λ (b : Bool). cond b full (undo_from (id + 1) (unwrap_or c full) v cs set)) none.0
    ∙ undo-none (id + 1) (unwrap_or c full) v cs set none.1

none_less : (id : ℕ) (cs : List (Option ℕ)) (a b d : ℕ) → IsLess a b d → HasNone id cs a → HasNone id cs d
none_less id [] a b d less none = tt
none_less id (c ∷ cs) a b d less none = (
  ap (λ (x : Bool). x && is_some c) (less.is id) ∙ still (has a id) (not (has b id)) (is_some c) none.0,
  none_less (id + 1) cs a b d less none.1,
)
  where
    still : (x y z : Bool) → (x && z) ≡ false → ((x && y) && z) ≡ false
    still true true z h = h
    still true false z h = refl
    still false y z h = refl

-- where a has none of the cells, b and b without a put the same
value_same : (id v : ℕ) (cs : List (Option ℕ)) (a b d : ℕ) → IsLess b a d → HasNone id cs a
    → value_from id v cs d ≡ value_from id v cs b
value_same id v [] a b d less none = refl
value_same id v (c ∷ cs) a b d less none =
    value_same (id + 1) (cond (has d id) (unwrap_or c v) v) cs a b d less none.1
    ∙ ap (λ (m : ℕ). value_from (id + 1) m cs b) (one (has d id) (has a id) (has b id) c v (less.is id) none.0)
  where
    one : (d a b : Bool) (c : Option ℕ) (v : ℕ) → d ≡ (b && not a) → (a && is_some c) ≡ false
        → cond d (unwrap_or c v) v ≡ cond b (unwrap_or c v) v
    one d true true None v e h = rw e refl
    one d true true (Some y) v e h = absurd (cc)
    one d true false c v e h = rw e refl
    one d false true c v e h = rw e refl
    one d false false c v e h = rw e refl

none_front : (id : ℕ) (cs : List (Option ℕ)) (set : ℕ) → HasNone id cs set → HasFront id cs set
none_front id [] set none = tt
none_front id (None ∷ cs) set none = inr (inl (refl, none_front (id + 1) cs set none.1))
none_front id (Some y ∷ cs) set none = inr (inr (and_true (has set id) none.0, none.1))
  where
    and_true : (b : Bool) → (b && true) ≡ false → b ≡ false
    and_true true h = h
    and_true false h = h

front_tail : (id : ℕ) (cs : List (Option ℕ)) (set : ℕ) → HasFront id (None ∷ cs) set → HasFront (id + 1) cs set
front_tail id cs set p = elim p [
  | inl t ↦ t.1
  | inr r ↦
      elim r [ inl m ↦ m.1 | inr f ↦ none_front (id + 1) cs set f.1 ]
]

cond_same : (b : Bool) (v : ℕ) → cond b v v ≡ v
cond_same true v = refl
cond_same false v = refl

and_false : (b : Bool) → (b && false) ≡ false
and_false true = refl
and_false false = refl

both : (x y u w : Bool) → x ≡ u → y ≡ w → (x && not y) ≡ (u && not w)
both x y u w p q = rw (p, q) refl

module _ (a b back on : ℕ) (less : IsLess a b back) (more : IsLess b a on) where
  -- what the two differences have of an id
  back_is : (q : ℕ) (x y : Bool) → has a q ≡ x → has b q ≡ y → has back q ≡ (x && not y)
  back_is q x y p r = less.is q ∙ both (has a q) (has b q) x y p r

  on_is : (q : ℕ) (x y : Bool) → has a q ≡ x → has b q ≡ y → has on q ≡ (y && not x)
  on_is q x y p r = more.is q ∙ both (has b q) (has a q) y x r p

  -- undo of a without b, then redo of b without a
  pub moved : (id v : ℕ) (cs : List (Option ℕ)) → HasFront id cs a → HasFront id cs b
      → value_from id (undo_from id v (value_from id v cs a) cs back) cs on ≡ value_from id v cs b
  moved id v [] p q = refl
  moved id v (None ∷ cs) p q = simp (cond_same, and_false)
      (moved (id + 1) v cs (front_tail id cs a p) (front_tail id cs b q))
  moved id v (Some y ∷ cs) (inl t) (inl u) =
      rw (t.0, u.0, back_is id true true t.0 u.0, on_is id true true t.0 u.0) (moved (id + 1) y cs t.1 u.1)
  moved id v (Some y ∷ cs) (inl t) (inr (inl n)) = absurd (cc)
  moved id v (Some y ∷ cs) (inl t) (inr (inr f)) =
      rw (f.0, back_is id true false t.0 f.0, on_is id true false t.0 f.0)
      (value-none (id + 1) v cs on (none_less (id + 1) cs b a on more f.1) ∙ sym (value-none (id + 1) v cs b f.1))
  moved id v (Some y ∷ cs) (inr (inl n)) q = absurd (cc)
  moved id v (Some y ∷ cs) (inr (inr g)) (inl u) = rw (u.0, on_is id false true g.0 u.0)
      (value_same (id + 1) y cs a b on more g.1)
  moved id v (Some y ∷ cs) (inr (inr g)) (inr (inl n)) = absurd (cc)
  moved id v (Some y ∷ cs) (inr (inr g)) (inr (inr f)) =
      let stays : undo_from (id + 1) y (value_from (id + 1) v cs a) cs back ≡ v =
      undo-none (id + 1) y (value_from (id + 1) v cs a) cs back (none_less (id + 1) cs a b back less g.1)
      ∙ value-none (id + 1) v cs a g.1 in
      rw (g.0, f.0, back_is id false false g.0 f.0, on_is id false false g.0 f.0)
      (rw stays (value-none (id + 1) v cs on (none_less (id + 1) cs b a on more f.1)
      ∙ sym (value-none (id + 1) v cs b f.1)))

-- ---- sets with fronts

-- each cell of the set that puts something has those before it in the set
pub record HasEarlier (id : ℕ) (cs : List (Option ℕ)) (set : ℕ) : Type 0 where
  pub earlier : (q r : ℕ) → q < r → r < length cs → is_some (get_or cs q None) ≡ true
      → is_some (get_or cs r None) ≡ true
      → has set (id + r) ≡ true → has set (id + q) ≡ true

-- the id of a cell, counted from the next one
next_id : (id set k : ℕ) → has set (id + 1 + k) ≡ has set (id + suc k)
next_id id set k = let same : id + 1 + k ≡ id + suc k = omega arith in ap (λ (m : ℕ). has set m) same

first_id : (id set : ℕ) → has set (id + 0) ≡ has set id
first_id id set = let same : id + 0 ≡ id = omega arith in ap (λ (m : ℕ). has set m) same

earlier_tail : (id : ℕ) (c : Option ℕ) (cs : List (Option ℕ)) (set : ℕ) → HasEarlier id (c ∷ cs) set
    → HasEarlier (id + 1) cs set
earlier_tail id c cs set h = record {
  earlier = λ q r less long first second is. next_id id set q
      ∙ h.earlier (suc q) (suc r) (omega arith) (omega arith) first second (sym (next_id id set r) ∙ is);
}

-- a set has none where each cell that puts something is outside
none_from : (cs : List (Option ℕ)) (id set : ℕ) → ((r : ℕ) → r < length cs → is_some (get_or cs r None) ≡ true
    → has set (id + r) ≡ true → ⊥) → HasNone id cs set
none_from [] id set out = tt
none_from (c ∷ cs) id set out = (
  not_both (has set id) (is_some c) (λ is some. out 0 (omega arith) some (first_id id set ∙ is)),
  none_from cs (id + 1) set (λ r less some is. out (suc r) (omega arith) some (sym (next_id id set r) ∙ is)),
)
  where
    not_both : (x y : Bool) → (x ≡ true → y ≡ true → ⊥) → (x && y) ≡ false
    not_both true true h = absurd (h refl refl)
    not_both true false h = refl
    not_both false y h = refl

pub front_from : (cs : List (Option ℕ)) (id set : ℕ) → HasEarlier id cs set → HasFront id cs set
front_from [] id set h = tt
front_from (None ∷ cs) id set h = inr (inl (refl, front_from cs (id + 1) set (earlier_tail id None cs set h)))
front_from (Some y ∷ cs) id set h = elim (bool_is (has set id)) [
  | inl is ↦ inl (is, front_from cs (id + 1) set (earlier_tail id (Some y) cs set h))
  | inr out ↦ inr (inr (
    out,
    none_from cs (id + 1) set (λ r less some later.
        let is : has set id ≡ true = sym (first_id id set) ∙ h.earlier 0 (suc r) (omega arith) (omega arith) refl some
        (sym (next_id id set r) ∙ later) in
        absurd (cc)),
  ))
]
