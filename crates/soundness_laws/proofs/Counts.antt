-- Link counts after an entry is gained or lost.
use Rattle.std.proofs.Common.{◌≡◌, ◌≢◌, ℕ, ◌+◌, ◌<◌, inl, inr, List, arith, refl, sym, ◌∙◌, ap}
use Rattle.std.proofs.lemmas.Bool.{cases_eq, eq-eqb, ne_eqb}
use Rattle.soundness_laws.specs.Tables.{Place, with_place, leads, sum_below, count_to, SoundCounts}
use Rattle.soundness_laws.specs.Tables.Place.{Free, Leads}
use Rattle.soundness_laws.proofs.Sums.{count_to-with_value, changed_twice-other}
use Rattle.soundness_laws.proofs.Places.{sum_below-zero, sum_below-some}
use Rattle.soundness_laws.proofs.Names.{cases_place, left_back}

-- ---- one entry

leads-none : (place : Place) (i : ℕ) → ((spelling : List ℕ) → place ≢ Leads i spelling) → leads place i ≡ 0
leads-none Free i none = refl
leads-none (Leads j spelling) i none = elim (cases_eq j i) [
  | inl same ↦ absurd (none spelling (ap (λ (x : ℕ). Leads x spelling) same))
  | inr other ↦ rw (ne_eqb j i other) refl
]

leads-some : (place : Place) (i : ℕ) → leads place i ≢ 0 → (spelling : List ℕ) × (place ≡ Leads i spelling)
leads-some Free i some = absurd (some refl)
leads-some (Leads j spelling) i some = elim (cases_eq j i) [
  | inl same ↦ (spelling, ap (λ (x : ℕ). Leads x spelling) same)
  | inr other ↦ absurd (some (rw (ne_eqb j i other) refl))
]

pub count_to-none : (entry : ℕ → ℕ → Place) (i : ℕ) → ((d m : ℕ) (spelling : List ℕ) → entry d m ≢ Leads i spelling)
    → count_to entry i ≡ 0
count_to-none entry i none = sum_below-zero 16 _ (λ d _.
    sum_below-zero 10 _ (λ m _. leads-none (entry d m) i (none d m)))

pub leads-self : (i : ℕ) (spelling : List ℕ) → leads (Leads i spelling) i ≡ 1
leads-self i spelling = rw (eq-eqb i i refl) refl

pub leads-other : (i j : ℕ) (spelling : List ℕ) → j ≢ i → leads (Leads i spelling) j ≡ 0
leads-other i j spelling other = rw (ne_eqb i j (λ e. other (sym e))) refl

-- an entry more is one more for its inode, and none for another
count_to-gained : (entry : ℕ → ℕ → Place) (dir k i : ℕ) (spelling : List ℕ) (j : ℕ) → dir < 16 → k < 10
    → entry dir k ≡ Free
    → count_to (with_place entry dir k (Leads i spelling)) j ≡ count_to entry j + leads (Leads i spelling) j
count_to-gained entry dir k i spelling j in_dir in_place free =
    let both = count_to-with_value entry dir k (Leads i spelling) j in_dir in_place in
    let none : leads (entry dir k) j ≡ 0 = ap (λ (p : Place). leads p j) free in
    omega arith

-- an entry less is one less for its inode, and none for another
count_to-lost : (entry : ℕ → ℕ → Place) (dir k i : ℕ) (spelling : List ℕ) (j : ℕ) → dir < 16 → k < 10
    → entry dir k ≡ Leads i spelling
    → count_to (with_place entry dir k Free) j + leads (Leads i spelling) j ≡ count_to entry j
count_to-lost entry dir k i spelling j in_dir in_place there =
    let both = count_to-with_value entry dir k Free j in_dir in_place in
    let had : leads (entry dir k) j ≡ leads (Leads i spelling) j = ap (λ (p : Place). leads p j) there in
    omega arith

-- where the count is 1 there is no second entry
pub only_entry : (entry : ℕ → ℕ → Place) (dir k d m i : ℕ) (sp sq : List ℕ) → dir < 16 → k < 10 → d < 16 → m < 10
    → entry dir k ≡ Leads i sp → entry d m ≡ Leads i sq → count_to entry i ≡ 1 → (d ≡ dir) × (m ≡ k)
only_entry entry dir k d m i sp sq in_dir in_place in_d in_m e f one = elim (cases_place d m dir k) [
  | inl same ↦ same
  | inr other ↦ absurd (
      let new = with_place entry dir k Free in
      let without : count_to new i + leads (Leads i sp) i ≡ count_to entry i =
      count_to-lost entry dir k i sp i in_dir in_place e in
      let still : new d m ≡ Leads i sq = changed_twice-other entry dir k Free d m other ∙ f in
      let twice : count_to (with_place new d m Free) i + leads (Leads i sq) i ≡ count_to new i =
      count_to-lost new d m i sq i in_d in_m still in
      let a = leads-self i sp in
      let b = leads-self i sq in
      omega arith)
]

-- where the count is above 1 there is another entry
pub other_entry : (entry : ℕ → ℕ → Place) (dir k i : ℕ) (sp : List ℕ) → dir < 16 → k < 10 → entry dir k ≡ Leads i sp
    → 1 < count_to entry i
    → (d : ℕ) × (m : ℕ) × (sq : List ℕ) × (entry d m ≡ Leads i sq) × (d ≡ dir → m ≡ k → ⊥)
other_entry entry dir k i sp in_dir in_place e more =
    let new = with_place entry dir k Free in
    let without = count_to-lost entry dir k i sp i in_dir in_place e in
    let one = leads-self i sp in
    let row = sum_below-some 16 (λ d. sum_below 10 (λ m. leads (new d m) i)) (λ z. omega arith) in
    let place = sum_below-some 10 (λ m. leads (new row.0 m) i) row.2 in
    let at = leads-some (new row.0 place.0) i place.2 in
    let old = left_back entry dir k row.0 place.0 i at.0 at.1 in
    (row.0, place.0, at.0, old.1, old.0)

-- ---- all inodes

-- an inode with one entry more and one link more
pub record GainsLink (kind kind' links links' : ℕ → ℕ) (entry : ℕ → ℕ → Place) (dir k i : ℕ) : Type 0 where
  pub in_dir : dir < 16
  pub in_place : k < 10
  pub free : entry dir k ≡ Free
  pub others : (j : ℕ) → j ≢ i → kind' j ≢ 0 → (kind j ≢ 0) × (links' j ≡ links j)
  pub own : links' i ≡ count_to entry i + 1

pub counts-gained : (kind kind' links links' : ℕ → ℕ) (entry : ℕ → ℕ → Place) (dir k i : ℕ) (spelling : List ℕ)
    → SoundCounts kind links entry → GainsLink kind kind' links links' entry dir k i
    → SoundCounts kind' links' (with_place entry dir k (Leads i spelling))
counts-gained kind kind' links links' entry dir k i spelling sound g = record {
  counted = λ j not_root live.
      let more = count_to-gained entry dir k i spelling j g.in_dir g.in_place g.free in
      elim (cases_eq j i) [
        | inl e ↦
            let own = g.own in
            let one = leads-self i spelling in
            let at_i = count_to-gained entry dir k i spelling i g.in_dir g.in_place g.free in
            rw e (omega arith)
        | inr n ↦
            let old = g.others j n live in
            let before = sound.counted j not_root old.0 in
            let same = old.1 in
            let none = leads-other i j spelling n in
            omega arith
      ];
}

-- an inode with one entry less, and one link less if it stays
pub record LosesLink (kind kind' links links' : ℕ → ℕ) (entry : ℕ → ℕ → Place) (dir k i : ℕ) (spelling : List ℕ) : Type
    0 where
  pub in_dir : dir < 16
  pub in_place : k < 10
  pub there : entry dir k ≡ Leads i spelling
  pub others : (j : ℕ) → j ≢ i → kind' j ≢ 0 → (kind j ≢ 0) × (links' j ≡ links j)
  pub own : kind' i ≢ 0 → links' i + 1 ≡ count_to entry i

pub counts-lost : (kind kind' links links' : ℕ → ℕ) (entry : ℕ → ℕ → Place) (dir k i : ℕ) (spelling : List ℕ)
    → SoundCounts kind links entry → LosesLink kind kind' links links' entry dir k i spelling
    → SoundCounts kind' links' (with_place entry dir k Free)
counts-lost kind kind' links links' entry dir k i spelling sound l = record {
  counted = λ j not_root live.
      let less = count_to-lost entry dir k i spelling j l.in_dir l.in_place l.there in
      elim (cases_eq j i) [
        | inl e ↦
            let own = l.own (λ z. live (ap kind' e ∙ z)) in
            let one = leads-self i spelling in
            let at_i = count_to-lost entry dir k i spelling i l.in_dir l.in_place l.there in
            rw e (omega arith)
        | inr n ↦
            let old = l.others j n live in
            let before = sound.counted j not_root old.0 in
            let same = old.1 in
            let none = leads-other i j spelling n in
            omega arith
      ];
}
