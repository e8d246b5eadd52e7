-- Names after an entry is gained or lost.
use Rattle.std.proofs.Common.{◌≡◌, ◌≢◌, ℕ, zero, suc, ◌<◌, ◌⊎◌, inl, inr, List, arith, sym, ◌∙◌, ap, subst}
use Rattle.std.proofs.lemmas.Bool.{cases_eq}
use Rattle.crash_model.specs.Names.{IsName}
use Rattle.crash_model.specs.Plan.{name_spelling}
use Rattle.soundness_laws.specs.Tables.{Place, SoundNames, ReachedIn, with_place}
use Rattle.soundness_laws.specs.Tables.Place.{Free, Leads}
use Rattle.soundness_laws.proofs.Sums.{changed_twice-same, changed_twice-other}

pub cases_place : (d m dir k : ℕ) → ((d ≡ dir) × (m ≡ k)) ⊎ (d ≡ dir → m ≡ k → ⊥)
cases_place d m dir k = elim (cases_eq d dir) [
  | inl p ↦ elim (cases_eq m k) [ inl q ↦ inl (p, q) | inr n ↦ inr (λ _ q. n q) ]
  | inr n ↦ inr (λ p _. n p)
]

-- a new name for an inode that may be new too
pub record GainsName (kind kind' : ℕ → ℕ) (entry : ℕ → ℕ → Place) (dir k i : ℕ) (name : List ℕ) : Type 0 where
  pub free : entry dir k ≡ Free
  pub in_dir : dir < 16
  pub in_place : k < 10
  pub parent : kind dir ≡ 2
  pub is_name : IsName name
  pub absent : (m j : ℕ) → entry dir m ≢ Leads j (name_spelling name)
  pub target : kind' i ≢ 0
  pub not_root : i ≢ 0
  pub kept : (h : ℕ) → kind h ≢ 0 → kind' h ≡ kind h
  pub only : (h : ℕ) → kind' h ≢ 0 → (kind h ≢ 0) ⊎ (h ≡ i)

-- the place of the change
pub place_at_change : (entry : ℕ → ℕ → Place) (dir k : ℕ) (place : Place) (d m : ℕ) → (d ≡ dir) × (m ≡ k)
    → with_place entry dir k place d m ≡ place
place_at_change entry dir k place d m same =
    ap (λ (x : ℕ). with_place entry dir k place x m) same.0 ∙ ap (λ (y : ℕ). with_place entry dir k place dir y) same.1
    ∙ changed_twice-same entry dir k place

same_place : (entry : ℕ → ℕ → Place) (d m dir k : ℕ) → (d ≡ dir) × (m ≡ k) → entry d m ≡ entry dir k
same_place entry d m dir k same = ap (λ (x : ℕ). entry x m) same.0 ∙ ap (λ (y : ℕ). entry dir y) same.1

-- what an entry of the new directory is
pub entry_back : (entry : ℕ → ℕ → Place) (dir k i : ℕ) (spelling : List ℕ) (d m j : ℕ) (sp : List ℕ)
    → with_place entry dir k (Leads i spelling) d m ≡ Leads j sp
    → ((d ≡ dir) × (m ≡ k) × (j ≡ i) × (sp ≡ spelling)) ⊎ ((d ≡ dir → m ≡ k → ⊥) × (entry d m ≡ Leads j sp))
entry_back entry dir k i spelling d m j sp e = elim (cases_place d m dir k) [
  | inl same ↦
      let both : Leads i spelling ≡ Leads j sp = sym (place_at_change entry dir k (Leads i spelling) d m same) ∙ e in
      inl (same.0, same.1, cc, cc)
  | inr other ↦ inr (other, sym (changed_twice-other entry dir k (Leads i spelling) d m other) ∙ e)
]

pub entry_kept : (entry : ℕ → ℕ → Place) (dir k : ℕ) (place : Place) (d m : ℕ) (j : ℕ) (sp : List ℕ)
    → entry dir k ≡ Free → entry d m ≡ Leads j sp → with_place entry dir k place d m ≡ Leads j sp
entry_kept entry dir k place d m j sp free e = elim (cases_place d m dir k) [
  | inl same ↦ absurd (let no : Free ≡ Leads j sp = sym free ∙ sym (same_place entry d m dir k same) ∙ e in cc)
  | inr other ↦ changed_twice-other entry dir k place d m other ∙ e
]

-- what is left where an entry is free again
pub left_back : (entry : ℕ → ℕ → Place) (dir k d m j : ℕ) (sp : List ℕ) → with_place entry dir k Free d m ≡ Leads j sp
    → (d ≡ dir → m ≡ k → ⊥) × (entry d m ≡ Leads j sp)
left_back entry dir k d m j sp e = elim (cases_place d m dir k) [
  | inl same ↦ absurd (let gone : Free ≡ Leads j sp = sym (place_at_change entry dir k Free d m same) ∙ e in cc)
  | inr other ↦ (other, sym (changed_twice-other entry dir k Free d m other) ∙ e)
]

reached_more : (entry new : ℕ → ℕ → Place) → ((d m j : ℕ) (sp : List ℕ) → entry d m ≡ Leads j sp → new d m ≡ Leads j sp)
    → (n i : ℕ) → ReachedIn entry n i → ReachedIn new n i
reached_more entry new kept zero i h = h
reached_more entry new kept (suc n) i h = (h.0, h.1, h.2, kept h.0 h.1 i h.2 h.3, reached_more entry new kept n h.0 h.4)

pub names-gained : (kind kind' : ℕ → ℕ) (entry : ℕ → ℕ → Place) (dir k i : ℕ) (name : List ℕ) → SoundNames kind entry
    → GainsName kind kind' entry dir k i name
    → SoundNames kind' (with_place entry dir k (Leads i (name_spelling name)))
names-gained kind kind' entry dir k i name sound g =
    let new = with_place entry dir k (Leads i (name_spelling name)) in
    let back = entry_back entry dir k i (name_spelling name) in
    let kept : (d m j : ℕ) (sp : List ℕ) → entry d m ≡ Leads j sp
    → new d m ≡ Leads j sp = λ d m j sp e. entry_kept entry dir k (Leads i (name_spelling name)) d m j sp g.free
    e in
    let live : (h : ℕ) → kind h ≢ 0 → kind' h ≢ 0 = λ h l z. l (sym (g.kept h l) ∙ z) in
    let parent_live : kind dir ≢ 0 = λ z. omega (arith, g.parent) in
    record {
      places = λ d m j sp e. elim (back d m j sp e) [
        | inl w ↦ (rw w.0 g.in_dir, rw w.1 g.in_place)
        | inr w ↦ sound.places d m j sp w.1
      ];
      parents = λ d m j sp e. elim (back d m j sp e) [
        | inl w ↦ rw w.0 (g.kept dir parent_live ∙ g.parent)
        | inr w ↦ let p = sound.parents d m j sp w.1 in g.kept d (λ z. omega arith) ∙ p
      ];
      no_dangling = λ d m j sp e. elim (back d m j sp e) [
        | inl w ↦ rw w.2 g.target
        | inr w ↦ live j (sound.no_dangling d m j sp w.1)
      ];
      no_way_up = λ d m j sp e. elim (back d m j sp e) [
        | inl w ↦ rw w.2 g.not_root
        | inr w ↦ sound.no_way_up d m j sp w.1
      ];
      named = λ d m j sp e. elim (back d m j sp e) [
        | inl w ↦ (name, g.is_name, w.3)
        | inr w ↦ sound.named d m j sp w.1
      ];
      distinct = λ d m n j h sp e f. elim (back d m j sp e) [
        | inl w ↦ elim (back d n h sp f) [
          | inl v ↦ w.1 ∙ sym v.1
          | inr v ↦ absurd (g.absent n h (subst (λ (x : List ℕ). entry dir n ≡ Leads h x) w.3
              (subst (λ (x : ℕ). entry x n ≡ Leads h sp) w.0 v.1)))
        ]
        | inr w ↦ elim (back d n h sp f) [
          | inl v ↦ absurd (g.absent m j (subst (λ (x : List ℕ). entry dir m ≡ Leads j x) v.3
              (subst (λ (x : ℕ). entry x m ≡ Leads j sp) v.0 w.1)))
          | inr v ↦ sound.distinct d m n j h sp w.1 v.1
        ]
      ];
      reached = λ h l. elim (g.only h l) [
        | inl old ↦ let r = sound.reached h old in (r.0, reached_more entry new kept r.0 h r.1)
        | inr e ↦
            let r = sound.reached dir parent_live in (
              suc r.0,
              (
                dir,
                k,
                name_spelling name,
                rw e (changed_twice-same entry dir k (Leads i (name_spelling name))),
                reached_more entry new kept r.0 dir r.1,
              ),
            )
      ];
    }

-- ---- a name less

-- the inode keeps another name, or goes with this one; nothing is below it
pub record LosesName (kind kind' : ℕ → ℕ) (entry : ℕ → ℕ → Place) (dir k i : ℕ) (spelling : List ℕ) : Type 0 where
  pub there : entry dir k ≡ Leads i spelling
  pub leaf : (m j : ℕ) (sp : List ℕ) → entry i m ≢ Leads j sp
  pub kept : (h : ℕ) → h ≢ i → kind' h ≡ kind h
  pub stays : kind' i ≢ 0 → (d : ℕ) × (m : ℕ) × (sp : List ℕ) × (entry d m ≡ Leads i sp) × (d ≡ dir → m ≡ k → ⊥)
  pub goes : kind' i ≡ 0 → (d m : ℕ) (sp : List ℕ) → entry d m ≡ Leads i sp → (d ≡ dir) × (m ≡ k)

reached_less : (kind kind' : ℕ → ℕ) (entry : ℕ → ℕ → Place) (dir k i : ℕ) (spelling : List ℕ)
    → LosesName kind kind' entry dir k i spelling
    → (n h : ℕ) → h ≢ i → ReachedIn entry n h → ReachedIn (with_place entry dir k Free) n h
reached_less kind kind' entry dir k i spelling l zero h other r = r
reached_less kind kind' entry dir k i spelling l (suc n) h other r =
    let parent_other : r.0 ≢ i = λ e. l.leaf r.1 h r.2 (ap (λ (x : ℕ). entry x r.1) (sym e) ∙ r.3) in
    let not_lost : r.0 ≡ dir → r.1 ≡ k → ⊥ = λ p q.
    other (let same : Leads h r.2 ≡ Leads i spelling = sym r.3 ∙ ap (λ (x : ℕ). entry x r.1) p
    ∙ ap (λ (y : ℕ). entry dir y) q ∙ l.there in cc) in (
      r.0,
      r.1,
      r.2,
      changed_twice-other entry dir k Free r.0 r.1 not_lost ∙ r.3,
      reached_less kind kind' entry dir k i spelling l n r.0 parent_other r.4,
    )

pub names-lost : (kind kind' : ℕ → ℕ) (entry : ℕ → ℕ → Place) (dir k i : ℕ) (spelling : List ℕ) → SoundNames kind entry
    → LosesName kind kind' entry dir k i spelling
    → SoundNames kind' (with_place entry dir k Free)
names-lost kind kind' entry dir k i spelling sound l =
    let new = with_place entry dir k Free in
    let back = left_back entry dir k in
    let not_leaf : (d m j : ℕ) (sp : List ℕ) → entry d m ≡ Leads j sp
    → d ≢ i = λ d m j sp e same. l.leaf m j sp (ap (λ (x : ℕ). entry x m) (sym same) ∙ e) in
    let less = reached_less kind kind' entry dir k i spelling l in
    record {
      places = λ d m j sp e. sound.places d m j sp (back d m j sp e).1;
      parents = λ d m j sp e. let o = (back d m j sp e).1 in l.kept d (not_leaf d m j sp o) ∙ sound.parents d m j sp o;
      no_dangling = λ d m j sp e.
          let b = back d m j sp e in
          elim (cases_eq j i) [
            | inl same ↦ λ z.
                let at_i : entry d m ≡ Leads i sp = b.1 ∙ ap (λ (x : ℕ). Leads x sp) same in
                let place = l.goes (sym (ap kind' same) ∙ z) d m sp at_i in
                b.0 place.0 place.1
            | inr other ↦ λ z. sound.no_dangling d m j sp b.1 (sym (l.kept j other) ∙ z)
          ];
      no_way_up = λ d m j sp e. sound.no_way_up d m j sp (back d m j sp e).1;
      named = λ d m j sp e. sound.named d m j sp (back d m j sp e).1;
      distinct = λ d m n j h sp e f. sound.distinct d m n j h sp (back d m j sp e).1 (back d n h sp f).1;
      reached = λ h live. elim (cases_eq h i) [
        | inl same ↦
            let s = l.stays (λ z. live (ap kind' same ∙ z)) in
            let up = not_leaf s.0 s.1 i s.2 s.3 in
            let r = sound.reached s.0 (λ z. let two = sound.parents s.0 s.1 i s.2 s.3 in omega (arith, two)) in (
              suc r.0,
              (
                s.0,
                s.1,
                s.2,
                changed_twice-other entry dir k Free s.0 s.1 s.4 ∙ s.3
                    ∙ ap (λ (x : ℕ). Leads x s.2) (sym same),
                less r.0 s.0 up r.1,
              ),
            )
        | inr other ↦ let r = sound.reached h (λ z. live (l.kept h other ∙ z)) in (r.0, less r.0 h other r.1)
      ];
    }
