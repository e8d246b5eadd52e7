-- A byte under the patches of a set and under those of a set that has more.
use Rattle.std.proofs.Common.{◌≡◌, ℕ, zero, suc, ◌+◌, ◌-◌, ◌*◌, ◌<◌, ◌≤◌, ◌⊎◌, inl, inr, List, [], ◌∷◌, length, get_or}
use Rattle.std.proofs.Common.{Bool, true, false, cond, Option, Some, None, arith, refl, sym, subst, ◌∙◌, ap}
use Rattle.std.specs.Prelude.{unwrap_or, slice_get}
use Rattle.std.specs.List.{All}
use Rattle.std.proofs.lemmas.List.Elements.{All-head, All-tail}
use Rattle.patch_sets.specs.Sets.{has}
use Rattle.patch_graph.specs.Graph.{IsPatch}
use Rattle.crash_model.specs.declared.patches.Patch.{Patch}
use Rattle.crash_image.proofs.Cells.{value_from}
use Rattle.crash_image.proofs.ImageBytes.{start_of, cells, new_cell, inside_or_not}
use Rattle.known_bytes.specs.Family.{Covers, new_byte}

-- A set and one that has more make the same of a byte, or the second makes what a patch puts there that it has more.
module _ (P : ℕ → Type 0) (a b : ℕ) (more : (q : ℕ) → has a q ≡ true → has b q ≡ true) where
  one : (x y : Bool) (c : Option ℕ) (v w : ℕ) → (x ≡ true → y ≡ true)
      → ((z : ℕ) → c ≡ Some z → x ≡ false → y ≡ true → P z) → (v ≡ w) ⊎ P w
      → (cond x (unwrap_or c v) v ≡ cond y (unwrap_or c w) w) ⊎ P (cond y (unwrap_or c w) w)
  one true true None v w sub put now = now
  one true true (Some z) v w sub put now = inl refl
  one true false c v w sub put now = let no : false ≡ true = sub refl in absurd (cc)
  one false true None v w sub put now = now
  one false true (Some z) v w sub put now = inr (put z refl refl refl)
  one false false c v w sub put now = now

  next : (set id r : ℕ) → has set (id + 1 + r) ≡ has set (id + suc r)
  next set id r = let same : id + 1 + r ≡ id + suc r = omega arith in ap (λ (m : ℕ). has set m) same

  here : (set id : ℕ) → has set (id + 0) ≡ has set id
  here set id = let same : id + 0 ≡ id = omega arith in ap (λ (m : ℕ). has set m) same

  pub either_value : (id v w : ℕ) (cs : List (Option ℕ))
      → ((r z : ℕ) → get_or cs r None ≡ Some z → has a (id + r) ≡ false → has b (id + r) ≡ true → P z)
      → (v ≡ w) ⊎ P w → (value_from id v cs a ≡ value_from id w cs b) ⊎ P (value_from id w cs b)
  either_value id v w [] put now = now
  either_value id v w (c ∷ cs) put now =
      either_value (id + 1) (cond (has a id) (unwrap_or c v) v) (cond (has b id) (unwrap_or c w) w) cs
      (λ r z is out member. put (suc r) z is (sym (next a id r) ∙ out) (sym (next b id r) ∙ member))
      (one (has a id) (has b id) c v w (more id)
      (λ z is out member. put 0 z is (here a id ∙ out) (here b id ∙ member)) now)

-- the patch whose cell has a value
pub record HasCell (ps : List Patch) (block offset r z : ℕ) : Type 0 where
  pub patch : Patch
  pub at : slice_get ps r ≡ Some patch
  pub covers : Covers patch block offset
  pub is : new_byte patch offset ≡ z

pub has_cell : (ps : List Patch) (block offset r z : ℕ) → offset < 128 → All IsPatch ps
    → get_or (cells (128 * block + offset) ps) r None ≡ Some z → HasCell ps block offset r z
has_cell [] block offset r z within each is = absurd (cc)
has_cell (p ∷ ps) block offset (suc r) z within each is =
    let rest = has_cell ps block offset r z within (All-tail IsPatch p ps each) is in
    record { patch = rest.patch; at = rest.at; covers = rest.covers; is = rest.is }
has_cell (p ∷ ps) block offset zero z within each is =
    elim (inside_or_not (start_of p) (length p.new.items) (128 * block + offset)) [
      | inr out ↦ let e = out.0 in absurd (cc (rw e at is))
      | inl t ↦
          let e = t.0 in
          let inside : p.offset + length p.new.items ≤ 128 = (All-head IsPatch p ps each).inside in
          let from : 128 * p.block + p.offset ≤ 128 * block + offset = t.1 in
          let to : 128 * block + offset < 128 * p.block + p.offset + length p.new.items = t.2 in
          let home : p.block ≡ block = omega arith in
          let place : 128 * block + offset - (128 * p.block + p.offset) ≡ offset - p.offset = omega arith in
          let value : Some (get_or p.new.items (128 * block + offset - (128 * p.block + p.offset)) 0) ≡ Some z =
          rw e at is in
          let which : get_or p.new.items (128 * block + offset - (128 * p.block + p.offset)) 0 ≡ z = cc in
          record {
            patch = p;
            at = refl;
            covers = record { home = home; from = omega arith; to = omega arith };
            is = ap (λ (k : ℕ). get_or p.new.items k 0) (sym place) ∙ which;
          }
    ]

-- ---- the last cell of a set

module _ (set : ℕ) where
  -- where no cell of the set puts something the byte stays
  pub no_cell : (id v : ℕ) (cs : List (Option ℕ))
      → ((q z : ℕ) → get_or cs q None ≡ Some z → has set (id + q) ≡ true → ⊥) → value_from id v cs set ≡ v
  no_cell id v [] out = refl
  no_cell id v (c ∷ cs) out =
      no_cell (id + 1) (cond (has set id) (unwrap_or c v) v) cs (λ q z is member. out (suc q) z is (sym (one_on id q)
      ∙ member))
      ∙ same (has set id) c refl (λ z is member. out 0 z is (at_first id ∙ member))
    where
      one_on : (id r : ℕ) → has set (id + 1 + r) ≡ has set (id + suc r)
      one_on id r = let same : id + 1 + r ≡ id + suc r = omega arith in ap (λ (m : ℕ). has set m) same

      at_first : (id : ℕ) → has set (id + 0) ≡ has set id
      at_first id = let same : id + 0 ≡ id = omega arith in ap (λ (m : ℕ). has set m) same

      same : (b : Bool) (c : Option ℕ) → has set id ≡ b → ((z : ℕ) → c ≡ Some z → has set id ≡ true → ⊥)
          → cond b (unwrap_or c v) v ≡ v
      same true None is never = refl
      same true (Some z) is never = absurd (never z refl is)
      same false c is never = refl

  -- the byte is that of the last cell of the set that puts something
  pub last_cell : (id v r z : ℕ) (cs : List (Option ℕ)) → get_or cs r None ≡ Some z → has set (id + r) ≡ true
      → ((q y : ℕ) → get_or cs q None ≡ Some y → has set (id + q) ≡ true → q ≤ r) → value_from id v cs set ≡ z
  last_cell id v r z [] is member above = absurd (cc)
  last_cell id v zero z (c ∷ cs) is member above =
      no_cell (id + 1) (cond (has set id) (unwrap_or c v) v) cs
      (λ q y at more. let less = above (suc q) y at (sym (one_on id q) ∙ more) in absurd (omega arith))
      ∙ rw (sym (at_first id) ∙ member, is) refl
    where
      one_on : (id r : ℕ) → has set (id + 1 + r) ≡ has set (id + suc r)
      one_on id r = let same : id + 1 + r ≡ id + suc r = omega arith in ap (λ (m : ℕ). has set m) same

      at_first : (id : ℕ) → has set (id + 0) ≡ has set id
      at_first id = let same : id + 0 ≡ id = omega arith in ap (λ (m : ℕ). has set m) same
  last_cell id v (suc r) z (c ∷ cs) is member above =
      last_cell (id + 1) (cond (has set id) (unwrap_or c v) v) r z cs is (one_on id r ∙ member)
      (λ q y at more. let less = above (suc q) y at (sym (one_on id q) ∙ more) in omega arith)
    where
      one_on : (id r : ℕ) → has set (id + 1 + r) ≡ has set (id + suc r)
      one_on id r = let same : id + 1 + r ≡ id + suc r = omega arith in ap (λ (m : ℕ). has set m) same

-- what a patch that covers a byte puts there
pub cell_of : (ps : List Patch) (block offset r : ℕ) (p : Patch) → slice_get ps r ≡ Some p → Covers p block offset
    → get_or (cells (128 * block + offset) ps) r None ≡ Some (new_byte p offset)
cell_of [] block offset r p at covers = absurd (cc)
cell_of (q ∷ ps) block offset (suc r) p at covers = cell_of ps block offset r p at covers
cell_of (q ∷ ps) block offset zero p at covers =
    let which : q ≡ p = cc in
    subst (λ (x : Patch). new_cell (128 * block + offset) x ≡ Some (new_byte p offset)) (sym which) here
  where
    here : new_cell (128 * block + offset) p ≡ Some (new_byte p offset)
    here =
        let home : p.block ≡ block = covers.home in
        let from : p.offset ≤ offset = covers.from in
        let to : offset < p.offset + length p.new.items = covers.to in
        elim (inside_or_not (start_of p) (length p.new.items) (128 * block + offset)) [
          | inl t ↦
              let e = t.0 in
              let place : 128 * block + offset - (128 * p.block + p.offset) ≡ offset - p.offset = omega arith in
              rw e (ap (λ (k : ℕ). Some (get_or p.new.items k 0)) place)
          | inr out ↦ absurd (omega (arith, out.1))
        ]
