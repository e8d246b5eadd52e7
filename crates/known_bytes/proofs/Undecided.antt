-- The undecided patches of a family, and a walk over those that cover a byte.
use Rattle.std.proofs.Common.{◌≡◌, ℕ, ◌<◌, ◌⊎◌, inl, inr, List, length, Some, arith, refl, sym}
use Rattle.std.proofs.Common.{◌∙◌, subst}
use Rattle.std.specs.Prelude.{◌↔◌, bit_and}
use Rattle.std.proofs.lemmas.Nat.Bits.{bit_at_and, bit_at-lt}
use Rattle.std.proofs.lemmas.Bool.{cases_eq}
use Rattle.patch_sets.specs.Sets.{Has}
use Rattle.patch_sets.specs.Ends.{IsDifference, IsWithout}
use Rattle.patch_sets.proofs.Bits.{none_in_empty}
use Rattle.crash_model.specs.declared.patches.Patch.{Patch}
use Rattle.patch_graph.specs.Graph.{IsAt}
use Rattle.std.proofs.lemmas.Option.{slice_get_within}
use Rattle.known_bytes.specs.Family.{Family, IsUndecided, Covers, CoversAt, new_byte}
use Rattle.known_bytes.specs.Chains.{IsSplit}

-- ---- the set of them

pub undecided_ids : (f : Family) (ids free undecided : ℕ) → ((id : ℕ) → (Has ids id ↔ (id < length f.patches)))
    → IsDifference ids f.held free → IsDifference free f.barred undecided
    → (id : ℕ) → (Has undecided id ↔ IsUndecided f id)
undecided_ids f ids free undecided known less_held less_barred id = (
  λ is.
      let one = (less_barred.exactly id).0 is in
      let two = (less_held.exactly id).0 one.0 in
      record { known = (known id).0 two.0; not_held = two.1; not_barred = one.1 },
  λ is. (less_barred.exactly id).1
      ((less_held.exactly id).1 ((known id).1 is.known, is.not_held), is.not_barred),
)

pub and_both : (a b id : ℕ) → (Has (bit_and a b) id ↔ (Has a id × Has b id))
and_both a b id = (
  λ is. (
    omega (arith, bit_at_and a b id, bit_at-lt a id, bit_at-lt b id, is),
    omega (arith, bit_at_and a b id, bit_at-lt a id, bit_at-lt b id, is),
  ),
  λ is. omega (arith, bit_at_and a b id, is.0, is.1),
)

-- ---- the walk

-- each undecided patch that covers the byte is left, or what it puts there passed
pub record IsPassing (f : Family) (block offset : ℕ) (P : ℕ → Type 0) (left : ℕ) : Type 0 where
  pub undecided : (id : ℕ) → Has left id → IsUndecided f id
  pub covers : (id : ℕ) → Has left id → CoversAt f.patches id block offset
  pub passed : (id : ℕ) (p : Patch) → IsUndecided f id → IsAt f.patches id p → Covers p block offset
      → Has left id ⊎ P (new_byte p offset)

module _ (f : Family) (block offset : ℕ) (P : ℕ → Type 0) where
  pub passing_starts : (undecided there : ℕ) → ((id : ℕ) → (Has undecided id ↔ IsUndecided f id))
      → ((id : ℕ) → (Has there id ↔ CoversAt f.patches id block offset))
      → IsPassing f block offset P (bit_and undecided there)
  passing_starts undecided there split at_byte = record {
    undecided = λ id is. (split id).0 ((and_both undecided there id).0 is).0;
    covers = λ id is. (at_byte id).0 ((and_both undecided there id).0 is).1;
    passed = λ id p is at covers. inl ((and_both undecided there id).1 (
      (split id).1 is,
      (at_byte id).1 record { patch = p; at = at; covers = covers },
    ));
  }

  module _ (left : ℕ) (walk : IsPassing f block offset P left) where
    pub passing_on : (rest id : ℕ) (p : Patch) → IsWithout left id rest → IsAt f.patches id p → P (new_byte p offset)
        → IsPassing f block offset P rest
    passing_on rest id p without here put = record {
      undecided = λ q is. walk.undecided q (still q is);
      covers = λ q is. walk.covers q (still q is);
      passed = λ q x is at covers. elim (cases_eq q id) [
        | inl same ↦
            let one : Some p ≡ Some x = sym here ∙ subst (λ (k : ℕ). IsAt f.patches k x) same at in
            let which : p ≡ x = cc in
            inr (subst (λ (y : Patch). P (new_byte y offset)) which put)
        | inr other ↦ elim (walk.passed q x is at covers) [
          | inl still_left ↦ inl ((without.others q other).1 still_left)
          | inr done ↦ inr done
        ]
      ];
    }
      where
        still : (q : ℕ) → Has rest q → Has left q
        still q is = elim (cases_eq q id) [
          | inl same ↦ absurd (without.gone (subst (λ (k : ℕ). Has rest k) same is))
          | inr other ↦ (without.others q other).0 is
        ]

    pub passing_ends : left ≡ 0 → (id : ℕ) (p : Patch) → IsUndecided f id → IsAt f.patches id p → Covers p block offset
        → P (new_byte p offset)
    passing_ends none id p is at covers = elim (walk.passed id p is at covers) [
      | inl still_left ↦ absurd (none_in_empty id (subst (λ (s : ℕ). Has s id) none still_left))
      | inr done ↦ done
    ]

    pub passing_more : (Q : ℕ → Type 0) → ((x : ℕ) → P x → Q x) → IsPassing f block offset Q left
    passing_more Q weaker = record {
      undecided = walk.undecided;
      covers = walk.covers;
      passed = λ id p is at covers. elim (walk.passed id p is at covers) [
        | inl still_left ↦ inl still_left
        | inr done ↦ inr (weaker (new_byte p offset) done)
      ];
    }

    -- the patch of an id that is left covers the byte
    pub covers_left : (id : ℕ) (p : Patch) → Has left id → IsAt f.patches id p → Covers p p.block offset
    covers_left id p is here =
        let at = walk.covers id is in
        let one : Some at.patch ≡ Some p = sym at.at ∙ here in
        let which : at.patch ≡ p = cc in
        let there = subst (λ (y : Patch). Covers y block offset) which at.covers in
        record { home = refl; from = there.from; to = there.to }

-- ---- the same by what a struct knows

-- the patch of an id, where the lists are the same
pub at_same : (a b c : List Patch) (id : ℕ) (p : Patch) → a ≡ b → b ≡ c → IsAt a id p → IsAt c id p
at_same a b c id p one two at = subst (λ (ps : List Patch). IsAt ps id p) (one ∙ two) at

module _ (inside f : Family) (view : inside ≡ f) (block offset : ℕ) where
  pub starts_here : (P : ℕ → Type 0) (undecided there : ℕ) → IsSplit inside undecided
      → ((id : ℕ) → (Has there id ↔ CoversAt inside.patches id block offset))
      → IsPassing f block offset P (bit_and undecided there)
  starts_here P undecided there split at_byte =
      subst (λ (x : Family). IsPassing x block offset P (bit_and undecided there)) view
      (passing_starts inside block offset P undecided there split.exactly at_byte)

  -- an id of a set that covers the byte is one of the patches
  pub id_known : (ps : List Patch) (id : ℕ) → ps ≡ inside.patches → CoversAt inside.patches id block offset
      → id < length ps
  id_known ps id same at =
      let here = subst (λ (xs : List Patch). IsAt xs id at.patch) (sym same) at.at in
      slice_get_within ps id at.patch here

  -- and its patch covers the byte
  pub covers_same : (ps : List Patch) (id : ℕ) (p : Patch) → ps ≡ inside.patches → IsAt ps id p
      → CoversAt inside.patches id block offset → Covers p block offset
  covers_same ps id p same at is =
      let here = subst (λ (xs : List Patch). IsAt xs id p) same at in
      let one : Some is.patch ≡ Some p = sym is.at ∙ here in
      let which : is.patch ≡ p = cc in
      subst (λ (y : Patch). Covers y block offset) which is.covers

pub own_block : (p : Patch) (block offset : ℕ) → Covers p block offset → Covers p p.block offset
own_block p block offset is = record { home = refl; from = is.from; to = is.to }
