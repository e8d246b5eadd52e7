-- The index after a step.
use Rattle.std.proofs.Common.{◌≡◌, ℕ, zero, suc, ◌+◌, ◌*◌, ◌/◌, ◌<◌, ◌≤◌, ◌≢◌, ◌⊎◌, List, [], ◌∷◌, ◌++◌, length, get_or}
use Rattle.std.proofs.Common.{set, sym, ap, ◌∙◌, subst, inl, inr, ⊎_elim, arith, length-append, get_or-set_other}
use Rattle.std.proofs.Common.{get_or-set_same}
use Rattle.std.proofs.Math.Nat.{mod-lt}
use mathlib.Core.Logic.{dite}
use native.Mathlib.Decide.{ℕ_discrete, dec_le}
use mathlib.Core.Option.{some, some-injective, some-ne-none}
use lib.ListN.{get_elem?}
use Rattle.atomic_table.proofs.Lists.{set_here, set_else}
use Rattle.board_rule.specs.Layout.{writer, index_word, slot, window}
use Rattle.board_rule.specs.Lists.{row_of}
use Rattle.board_rule.specs.Rule.{Stands, IsUnfiled, IndexOk, IsComplete}
use Rattle.board_rule.specs.declared.view.View.{View}
use Rattle.board_rule.proofs.Sums.{rows_cases, snoc_cases}

pub index_within : {A : Type 0} (l : List A) (i : ℕ) (a : A) → get_elem? l i ≡ some a → i < length l
index_within [] i a e = absurd (some-ne-none a (sym e))
index_within (x ∷ xs) zero a e = omega arith
index_within (x ∷ xs) (suc i) a e = omega (arith, index_within xs i a e)

pub slot_lt : (places x t : ℕ) → 0 < places → slot places x t < places
slot_lt places x t h = mod-lt (x / 13 + t) h

-- a debt after the step of a seat: paid, or still there
unfiled_turn : (P : Type 0) (views : List View) (i q k : ℕ) (v w : View) → get_elem? views i ≡ some v
    → (v.rows.held ≡ q → v.rows.right ≡ writer → v.rows.unfiled ≡ k + 1 → P
    ⊎ ((w.rows.held ≡ q) × (w.rows.right ≡ writer) × (w.rows.unfiled ≡ k + 1)))
    → IsUnfiled views q k → P ⊎ IsUnfiled (set views i w) q k
unfiled_turn P views i q k v w me mine d = let j = d.0 in let u = d.1 in dite (ℕ_discrete j i)
    (λ e. let same : u ≡ v = some-injective u v (sym d.2 ∙ ap (get_elem? views) e ∙ me) in
    ⊎_elim (λ p. inl p) (λ t. inr (i, w, set_here views i w (index_within views i v me), t.0, t.1, t.2))
    (mine (ap (λ (x : View). x.rows.held) (sym same) ∙ d.3) (ap (λ (x : View). x.rows.right) (sym same) ∙ d.4)
    (ap (λ (x : View). x.rows.unfiled) (sym same) ∙ d.5)))
    (λ ne. inr (j, u, set_else views i j w ne ∙ d.2, d.3, d.4, d.5))

-- marks that are as they were
pub stands_same : (places : ℕ) (f g : ℕ → ℕ) (x k : ℕ) → 0 < places → ((j : ℕ) → j < places → g j ≡ f j)
    → Stands places f x k → Stands places g x k
stands_same places f g x k wide same st t tw z = let s =
    st t tw (sym (same (slot places x t) (slot_lt places x t wide)) ∙ z) in
    (s.0, s.1, same (slot places x s.0) (slot_lt places x s.0 wide) ∙ s.2)

-- a zero mark becomes y: the other places stay as before
stands_on : (places : ℕ) (f g : ℕ → ℕ) (x k j y : ℕ) → f j ≡ 0 → g j ≡ y → 0 < y → ((a : ℕ) → a ≢ j → g a ≡ f a)
    → Stands places f x k → Stands places g x k
stands_on places f g x k j y was now positive same st t tw z = let away : slot places x t ≢ j =
    λ e. absurd (omega (arith, positive, now, z, ap g e)) in let s = st t tw (sym (same (slot places x t) away) ∙ z) in
    (s.0, s.1, same (slot places x s.0) (λ e. absurd (omega (arith, was, s.2, ap f e))) ∙ s.2)

-- and so does the place of which y is 1 more
stands_now : (places : ℕ) (f g : ℕ → ℕ) (x k t0 : ℕ) → ((u : ℕ) → u < t0 → f (slot places x u) ≢ 0)
    → g (slot places x t0) ≡ k + 1 → ((a : ℕ) → a ≢ slot places x t0 → g a ≡ f a) → Stands places g x k
stands_now places f g x k t0 full now same t tw z = dite (dec_le (suc t) t0)
    (λ h. absurd (dite (ℕ_discrete (slot places x t) (slot places x t0)) (λ e. omega (arith, now, z, ap g e))
    (λ ne. full t (omega (arith, h)) (sym (same (slot places x t) ne) ∙ z))))
    (λ n. dite (ℕ_discrete t t0) (λ e. absurd (omega (arith, now, z, ap (λ (a : ℕ). g (slot places x a)) e)))
    (λ ne. (t0, omega (arith, n, ne), now)))

-- a step that changes no row and no index word
pub index_stay : (places : ℕ) (rows : List (List ℕ)) (words words' : List ℕ) (views : List View) (i : ℕ) (v w : View)
    → 0 < places → IndexOk places rows words views → get_elem? views i ≡ some v
    → ((q j : ℕ) → q < 13 → j < places → get_or words' (index_word places q j) 0 ≡ get_or words (index_word places q j)
    0)
    → ((q k : ℕ) → q < 13 → k < length (row_of rows q) → v.rows.held ≡ q → v.rows.right ≡ writer
    → v.rows.unfiled ≡ k + 1 → Stands places (λ j. get_or words (index_word places q j) 0)
    (get_or (row_of rows q) k 0) k ⊎ ((w.rows.held ≡ q) × (w.rows.right ≡ writer) × (w.rows.unfiled ≡ k + 1)))
    → IndexOk places rows words' (set views i w)
index_stay places rows words words' views i v w wide o me same debt = record {
  named = λ q j h b. omega (arith, same q j h b, o.named q j h b);
  stands = λ q k h b. let x = get_or (row_of rows q) k 0 in let F = λ (j : ℕ). get_or words (index_word places q j) 0 in
      let G = λ (j : ℕ). get_or words' (index_word places q j) 0 in
      ⊎_elim (λ st. inl (stands_same places F G x k wide (λ j c. same q j h c) st)) (λ d. inr d)
      (⊎_elim {C = Stands places F x k ⊎ IsUnfiled (set views i w) q k} (λ st. inl st)
      (λ d. unfiled_turn (Stands places F x k) views i q k v w me (debt q k h b) d) (o.stands q k h b));
}

-- the writer stores its place + 1 at the first zero of its word's window
pub index_mark : (places : ℕ) (rows : List (List ℕ)) (words : List ℕ) (views : List View) (i : ℕ) (v w : View)
    (q k0 t0 : ℕ) → 0 < places → length words ≡ 216 + 52 * places → IndexOk places rows words views
    → get_elem? views i ≡ some v
    → q < 13 → k0 < length (row_of rows q) → v.rows.held ≡ q → v.rows.unfiled ≡ k0 + 1
    → ((u : ℕ) → u < t0 → get_or words (index_word places q (slot places (get_or (row_of rows q) k0 0) u)) 0 ≢ 0)
    → get_or words (index_word places q (slot places (get_or (row_of rows q) k0 0) t0)) 0 ≡ 0
    → IndexOk places rows (set words (index_word places q (slot places (get_or (row_of rows q) k0 0) t0)) (k0 + 1))
    (set views i w)
index_mark places rows words views i v w q k0 t0 wide long o me near inside held owes full empty =
    let x0 = get_or (row_of rows q) k0 0 in let j0 = slot places x0 t0 in let a0 = index_word places q j0 in
    let words' = set words a0 (k0 + 1) in
    let low : j0 < places = slot_lt places x0 t0 wide in
    let here : get_or words' a0 0 ≡ k0 + 1 = get_or-set_same words a0 (k0 + 1) 0 (omega (arith, long, low, near)) in
    let else : (p j : ℕ) → p < 13 → (p ≡ q → j ≢ j0) → get_or words' (index_word places p j) 0
    ≡ get_or words (index_word places p j) 0 = λ p j h ne. get_or-set_other words a0 (index_word places p j)
    (k0 + 1) 0 (λ e. ne (omega (arith, e, h, near)) (omega (arith, e, h, near))) in
    let F : ℕ → ℕ → ℕ = λ p j. get_or words (index_word places p j) 0 in let G : ℕ → ℕ
    → ℕ = λ p j. get_or words' (index_word places p j) 0 in record {
      named = λ p j h b. dite (ℕ_discrete p q)
          (λ e. dite (ℕ_discrete j j0) (λ d. rw e (rw d (omega (arith, here, inside))))
          (λ nd. omega (arith, else p j h (λ _. nd), o.named p j h b)))
          (λ ne. omega (arith, else p j h (λ e. absurd (ne e)), o.named p j h b));
      stands = λ p k h b. let x = get_or (row_of rows p) k 0 in
          let on : Stands places (F p) x k → Stands places (G p) x k = λ st. dite (ℕ_discrete p q)
          (λ e. stands_on places (F p) (G p) x k j0 (k0 + 1) (ap (λ (z : ℕ). F z j0) e ∙ empty)
          (ap (λ (z : ℕ). G z j0) e ∙ here) (omega arith) (λ a nd. else p a h (λ _. nd)) st)
          (λ ne. stands_same places (F p) (G p) x k wide (λ a c. else p a h (λ e. absurd (ne e))) st) in
          ⊎_elim {C = Stands places (G p) x k ⊎ IsUnfiled (set views i w) p k} (λ st. inl (on st))
          (λ d. unfiled_turn (Stands places (G p) x k) views i p k v w me
          (λ hp r ow. inl (let e : p ≡ q = sym hp ∙ held in let same : k ≡ k0 = omega (arith, ow, owes) in
          subst (λ (z : ℕ). Stands places (G z) (get_or (row_of rows z) k 0) k) (sym e)
          (subst (λ (z : ℕ). Stands places (G q) (get_or (row_of rows q) z 0) z) (sym same)
          (stands_now places (F q) (G q) x0 k0 t0 full here (λ a nd. else q a near (λ _. nd)))))) d)
          (o.stands p k h b);
    }

-- the row grows: the writer owes the new place to the index
pub index_grow : (places : ℕ) (rows : List (List ℕ)) (words words' : List ℕ) (views : List View) (i : ℕ) (v w : View)
    (q x : ℕ) → 0 < places → q < 13 → length rows ≡ 13 → IndexOk places rows words views → get_elem? views i ≡ some v
    → ((p j : ℕ) → p < 13 → j < places → get_or words' (index_word places p j) 0 ≡ get_or words (index_word places p j)
    0)
    → v.rows.unfiled ≡ 0 → w.rows.held ≡ q → w.rows.right ≡ writer → w.rows.unfiled ≡ length (row_of rows q) + 1
    → IndexOk places (set rows q (row_of rows q ++ x ∷ [])) words' (set views i w)
index_grow places rows words words' views i v w q x wide near all o me same none-unfiled held writes owes = let row =
    row_of rows q in let r' = row ++ x ∷ [] in
    let F : ℕ → ℕ → ℕ = λ p j. get_or words (index_word places p j) 0 in let G : ℕ → ℕ
    → ℕ = λ p j. get_or words' (index_word places p j) 0 in
    let before : (p k : ℕ) → p < 13 → k < length (row_of rows p) → Stands places (G p) (get_or (row_of rows p) k 0) k
    ⊎ IsUnfiled (set views i w) p k = λ p k h b.
    ⊎_elim {C = Stands places (G p) (get_or (row_of rows p) k 0) k ⊎ IsUnfiled (set views i w) p k}
    (λ st. inl (stands_same places (F p) (G p) (get_or (row_of rows p) k 0) k wide (λ j c. same p j h c) st))
    (λ d. unfiled_turn (Stands places (G p) (get_or (row_of rows p) k 0) k) views i p k v w me
    (λ hp r ow. absurd (omega (arith, ow, none-unfiled))) d) (o.stands p k h b) in record {
      named = λ p j h b. rows_cases rows q r' (λ p r. get_or words' (index_word places p j) 0 ≤ length r) all near
          (omega (arith, same q j near b, o.named q j near b, length-append row (x ∷ [])))
          (λ p h ne. omega (arith, same p j h b, o.named p j h b)) p h;
      stands = λ p k h. rows_cases rows q r' (λ p r. (k : ℕ) → k < length r → Stands places (G p) (get_or r k 0) k
          ⊎ IsUnfiled (set views i w) p k) all near
          (snoc_cases row x (λ k y. Stands places (G q) y k ⊎ IsUnfiled (set views i w) q k) (λ k b. before q k near b)
          (inr (i, w, set_here views i w (index_within views i v me), held, writes, owes)))
          (λ p h ne k b. before p k h b) p h k;
    }

-- what a window that ends in a zero shows
pub lacks : (places : ℕ) (row index : List ℕ) (x t : ℕ) → IsComplete places row index → t < window places
    → get_or index (slot places x t) 0 ≡ 0
    → ((u k : ℕ) → u < t → get_or index (slot places x u) 0 ≡ k + 1 → get_or row k 0 ≢ x) → (k : ℕ) → k < length row
    → get_or row k 0 ≢ x
lacks places row index x t whole tw empty missed k b e = let s =
    whole k b t tw (ap (λ (y : ℕ). get_or index (slot places y t) 0) e ∙ empty) in
    missed s.0 k s.1 (ap (λ (y : ℕ). get_or index (slot places y s.0) 0) (sym e) ∙ s.2) e
