-- Inodes that are new, gone, or have another link count.
use Rattle.std.proofs.Common.{◌≡◌, ◌≢◌, ℕ, ◌<◌, ◌≤◌, inl, inr, arith, refl, sym, ◌∙◌, ap, subst}
use Rattle.std.proofs.lemmas.Bool.{cases_eq, eq-eqb, ne_eqb}
use Rattle.soundness_laws.specs.Tables.{Tables, with_value, SoundInodes}
use Rattle.soundness_laws.proofs.Sums.{with_value-same, with_value-other}

-- ---- a new inode

pub record IsFresh (t : Tables) (i kind : ℕ) : Type 0 where
  pub below : i < 16
  pub free : t.kind i ≡ 0
  pub a_kind : (1 ≤ kind) × (kind < 3)

pub not-fresh : (t : Tables) (i kind j : ℕ) → IsFresh t i kind → t.kind j ≢ 0 → j ≢ i
not-fresh t i kind j fresh live e = live (subst (λ (x : ℕ). t.kind x ≡ 0) (sym e) fresh.free)

pub inodes-new : (t : Tables) (i kind : ℕ) → SoundInodes t.kind t.links → IsFresh t i kind
    → SoundInodes (with_value t.kind i kind) (with_value t.links i 1)
inodes-new t i kind sound fresh =
    let root_other : 0 ≢ i = not-fresh t i kind 0 fresh (λ z. omega (arith, sound.root.0)) in
    record {
      below = λ j live. elim (cases_eq j i) [
        | inl e ↦ rw e fresh.below
        | inr n ↦ sound.below j (rw (ne_eqb j i n) at live)
      ];
      root = (rw (ne_eqb 0 i root_other) sound.root.0, rw (ne_eqb 0 i root_other) sound.root.1);
      kinds = λ j. elim (cases_eq j i) [
        | inl e ↦ rw (eq-eqb j i e) fresh.a_kind.1
        | inr n ↦ rw (ne_eqb j i n) (sound.kinds j)
      ];
      one_name = λ j h. elim (cases_eq j i) [
        | inl e ↦ rw (eq-eqb j i e) refl
        | inr n ↦ rw (ne_eqb j i n) (sound.one_name j (rw (ne_eqb j i n) at h))
      ];
      few_names = λ j h. elim (cases_eq j i) [
        | inl e ↦ rw (eq-eqb j i e) (omega arith, omega arith)
        | inr n ↦ rw (ne_eqb j i n) (sound.few_names j (rw (ne_eqb j i n) at h))
      ];
    }

-- ---- an inode that goes

pub inodes-freed : (t : Tables) (i : ℕ) → SoundInodes t.kind t.links → i ≢ 0
    → SoundInodes (with_value t.kind i 0) (with_value t.links i 0)
inodes-freed t i sound not_root =
    let kind = with_value t.kind i 0 in
    let apart : (j : ℕ) → kind j ≢ 0 → j ≢ i = λ j live e. live (ap kind e ∙ with_value-same t.kind i 0) in
    let kinds : (j : ℕ) → j ≢ i → kind j ≡ t.kind j = λ j n. with_value-other t.kind i 0 j n in
    let links : (j : ℕ) → j ≢ i → with_value t.links i 0 j ≡ t.links j = λ j n. with_value-other t.links i 0 j n in
    let zero_other : 0 ≢ i = λ e. not_root (sym e) in
    record {
      below = λ j live. sound.below j (λ z. live (kinds j (apart j live) ∙ z));
      root = (kinds 0 zero_other ∙ sound.root.0, links 0 zero_other ∙ sound.root.1);
      kinds = λ j. elim (cases_eq j i) [
        | inl e ↦ rw (eq-eqb j i e) (omega arith)
        | inr n ↦ rw (ne_eqb j i n) (sound.kinds j)
      ];
      one_name = λ j two. let n = apart j (λ z. omega arith) in links j n ∙ sound.one_name j (sym (kinds j n) ∙ two);
      few_names = λ j one. let n = apart j (λ z. omega arith) in
          rw (ne_eqb j i n) (sound.few_names j (sym (kinds j n) ∙ one));
    }

-- ---- a file with another link count

pub inodes-tables_after_link : (t : Tables) (i links : ℕ) → SoundInodes t.kind t.links → t.kind i ≡ 1 → (1 ≤ links)
    × (links ≤ 8) → SoundInodes t.kind (with_value t.links i links)
inodes-tables_after_link t i links sound one few =
    let same : (j : ℕ) → j ≢ i → with_value t.links i links j ≡ t.links j =
    λ j n. with_value-other t.links i links j n in
    let apart : (j : ℕ) → t.kind j ≡ 2 → j ≢ i = λ j two e. let at : t.kind j ≡ t.kind i = ap t.kind e in omega arith in
    record {
      below = sound.below;
      root = (sound.root.0, same 0 (apart 0 sound.root.0) ∙ sound.root.1);
      kinds = sound.kinds;
      one_name = λ j two. same j (apart j two) ∙ sound.one_name j two;
      few_names = λ j file. elim (cases_eq j i) [
        | inl e ↦ rw (eq-eqb j i e) few
        | inr n ↦ rw (ne_eqb j i n) (sound.few_names j file)
      ];
    }
