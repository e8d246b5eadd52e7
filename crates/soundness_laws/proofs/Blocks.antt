-- Blocks of inodes that are new, gone, or have a block more.
use Rattle.std.proofs.Common.{◌≡◌, ◌≢◌, ℕ, ◌+◌, ◌<◌, ◌≤◌, ◌⊎◌, inl, inr, Bool, true, false, arith, refl, sym, ◌∙◌, ap}
use Rattle.std.proofs.Common.{subst}
use Rattle.std.proofs.lemmas.Bool.{cases_eq, eq-eqb}
use Rattle.soundness_laws.specs.Tables.{Tables, Mark, with_value, HasPointer, SoundBlocks, KeepsMarks}
use Rattle.soundness_laws.specs.Tables.Mark.{FileOf, DirectoryOf}
use Rattle.soundness_laws.proofs.Sums.{with_value-same, with_value-other}
use Rattle.soundness_laws.proofs.Inodes.{IsFresh, not-fresh}

-- a new file has no pointer
pub blocks-new_file : (t : Tables) (i : ℕ) → SoundBlocks t.blocks t.journal t.kind t.pointer t.mark t.used
    → t.kind 0 ≡ 2 → IsFresh t i 1
    → SoundBlocks t.blocks t.journal (with_value t.kind i 1) (with_value t.pointer i (λ _. 0)) t.mark t.used
blocks-new_file t i sound root fresh =
    let kind = with_value t.kind i 1 in
    let pointer = with_value t.pointer i (λ _. 0) in
    let apart : (j s b : ℕ) → HasPointer kind pointer j s b
    → j ≢ i = λ j s b h e. h.2 (sym h.1 ∙ ap (λ (row : ℕ → ℕ). row s)
    (ap pointer e ∙ with_value-same t.pointer i (λ _. 0))) in
    let kinds : (j : ℕ) → j ≢ i → kind j ≡ t.kind j = λ j n. with_value-other t.kind i 1 j n in
    let pointers : (j s : ℕ) → j ≢ i → pointer j s ≡ t.pointer j s =
    λ j s n. ap (λ (row : ℕ → ℕ). row s) (with_value-other t.pointer i (λ _. 0) j n) in
    let back : (j s b : ℕ) → HasPointer kind pointer j s b → HasPointer t.kind t.pointer j s b =
    λ j s b h. let n = apart j s b h in (λ z. h.0 (kinds j n ∙ z), sym (pointers j s n) ∙ h.1, h.2) in
    let kept : (j s b : ℕ) → HasPointer t.kind t.pointer j s b → HasPointer kind pointer j s b =
    λ j s b h. let n = not-fresh t i 1 j fresh h.0 in (λ z. h.0 (sym (kinds j n) ∙ z), pointers j s n ∙ h.1, h.2) in
    let root_other : 0 ≢ i = not-fresh t i 1 0 fresh (λ z. omega (arith, root)) in
    record {
      slots = λ j s h. elim (cases_eq j i) [
        | inl e ↦ absurd (h (ap (λ (row : ℕ → ℕ). row s) (ap pointer e ∙ with_value-same t.pointer i (λ _. 0))))
        | inr n ↦ sound.slots j s (λ z. h (pointers j s n ∙ z))
      ];
      once = λ b j s h r p q. sound.once b j s h r (back j s b p) (back h r b q);
      file_blocks = λ j s b h f. sound.file_blocks j s b (back j s b h) (sym (kinds j (apart j s b h)) ∙ f);
      directory_blocks = λ j s b h f. sound.directory_blocks j s b (back j s b h) (sym (kinds j (apart j s b h)) ∙ f);
      in_data_area = λ j s b h. sound.in_data_area j s b (back j s b h);
      root_block = pointers 0 0 root_other ∙ sound.root_block;
      one_block = λ j h. elim (cases_eq j i) [
        | inl e ↦ absurd (let one : kind j ≡ 1 = ap kind e ∙ with_value-same t.kind i 1 in omega arith)
        | inr n ↦ let o = sound.one_block j (sym (kinds j n) ∙ h) in
            (λ z. o.0 (sym (pointers j 0 n) ∙ z), λ s m. pointers j s n ∙ o.1 s m)
      ];
      packed = λ j s h z. elim (cases_eq j i) [
        | inl e ↦ ap (λ (row : ℕ → ℕ). row (s + 1)) (ap pointer e ∙ with_value-same t.pointer i (λ _. 0))
        | inr n ↦ pointers j (s + 1) n ∙ sound.packed j s (sym (kinds j n) ∙ h) (sym (pointers j s n) ∙ z)
      ];
      low_used = sound.low_used;
      named_used = λ j s b h. sound.named_used j s b (back j s b h);
      used_named = λ b low h. let w = sound.used_named b low h in (w.0, w.1, kept w.0 w.1 b w.2);
    }

-- an inode goes with its blocks
pub record FreesBlocks (kind : ℕ → ℕ) (pointer : ℕ → ℕ → ℕ) (used used' : ℕ → Bool) (i : ℕ) : Type 0 where
  pub cleared : (b : ℕ) → used' b ≡ true → (used b ≡ true) × ((s : ℕ) → ¬ (HasPointer kind pointer i s b))
  pub kept : (b : ℕ) → used b ≡ true → ((s : ℕ) → ¬ (HasPointer kind pointer i s b)) → used' b ≡ true

pub blocks-freed : (t : Tables) (i : ℕ) (used' : ℕ → Bool) (mark' : ℕ → Mark)
    → SoundBlocks t.blocks t.journal t.kind t.pointer t.mark t.used → i ≢ 0
    → FreesBlocks t.kind t.pointer t.used used' i → KeepsMarks t.mark mark' i
    → SoundBlocks t.blocks t.journal (with_value t.kind i 0) (with_value t.pointer i (λ _. 0)) mark' used'
blocks-freed t i used' mark' sound not_root f keeps =
    let kind = with_value t.kind i 0 in
    let pointer = with_value t.pointer i (λ _. 0) in
    let apart : (j : ℕ) → kind j ≢ 0 → j ≢ i = λ j live e. live (ap kind e ∙ with_value-same t.kind i 0) in
    let kinds : (j : ℕ) → j ≢ i → kind j ≡ t.kind j = λ j n. with_value-other t.kind i 0 j n in
    let pointers : (j s : ℕ) → j ≢ i → pointer j s ≡ t.pointer j s =
    λ j s n. ap (λ (row : ℕ → ℕ). row s) (with_value-other t.pointer i (λ _. 0) j n) in
    let back : (j s b : ℕ) → HasPointer kind pointer j s b → HasPointer t.kind t.pointer j s b =
    λ j s b h. let n = apart j h.0 in (λ z. h.0 (kinds j n ∙ z), sym (pointers j s n) ∙ h.1, h.2) in
    record {
      slots = λ j s h. elim (cases_eq j i) [
        | inl e ↦ absurd (h (ap (λ (row : ℕ → ℕ). row s) (ap pointer e ∙ with_value-same t.pointer i (λ _. 0))))
        | inr n ↦ sound.slots j s (λ z. h (pointers j s n ∙ z))
      ];
      once = λ b j s h r p q. sound.once b j s h r (back j s b p) (back h r b q);
      file_blocks = λ j s b h one. let n = apart j h.0 in
          keeps.files b j n (sound.file_blocks j s b (back j s b h) (sym (kinds j n) ∙ one));
      directory_blocks = λ j s b h two. let n = apart j h.0 in
          keeps.directories b j n (sound.directory_blocks j s b (back j s b h) (sym (kinds j n) ∙ two));
      in_data_area = λ j s b h. sound.in_data_area j s b (back j s b h);
      root_block = pointers 0 0 (λ e. not_root (sym e)) ∙ sound.root_block;
      one_block = λ j h. let n = apart j (λ z. omega arith) in let o = sound.one_block j (sym (kinds j n) ∙ h) in
          (λ z. o.0 (sym (pointers j 0 n) ∙ z), λ s m. pointers j s n ∙ o.1 s m);
      packed = λ j s h z. let n = apart j (λ y. omega arith) in pointers j (s + 1) n
          ∙ sound.packed j s (sym (kinds j n) ∙ h) (sym (pointers j s n) ∙ z);
      low_used = λ b less. f.kept b (sound.low_used b less)
          (λ s h. let w = sound.in_data_area i s b h in absurd (omega (arith, w.0)));
      named_used = λ j s b h. f.kept b (sound.named_used j s b (back j s b h))
          (λ r own. apart j h.0 (sound.once b j s i r (back j s b h) own).0);
      used_named = λ b low u.
          let c = f.cleared b u in
          let w = sound.used_named b low c.0 in
          let n : w.0 ≢ i = λ e. c.1 w.1 (subst (λ (x : ℕ). HasPointer t.kind t.pointer x w.1 b) e w.2) in
          (w.0, w.1, (λ z. w.2.0 (sym (kinds w.0 n) ∙ z), pointers w.0 w.1 n ∙ w.2.1, w.2.2));
    }

-- a file loses its blocks
pub blocks-cut : (t : Tables) (i : ℕ) (used' : ℕ → Bool)
    → SoundBlocks t.blocks t.journal t.kind t.pointer t.mark t.used → i ≢ 0 → t.kind i ≡ 1
    → FreesBlocks t.kind t.pointer t.used used' i
    → SoundBlocks t.blocks t.journal t.kind (with_value t.pointer i (λ _. 0)) t.mark used'
blocks-cut t i used' sound not_root file f =
    let pointer = with_value t.pointer i (λ _. 0) in
    let none : (j s : ℕ) → j ≡ i → pointer j s ≡ 0 =
    λ j s e. ap (λ (row : ℕ → ℕ). row s) (ap pointer e ∙ with_value-same t.pointer i (λ _. 0)) in
    let apart : (j s b : ℕ) → HasPointer t.kind pointer j s b → j ≢ i = λ j s b h e. h.2 (sym h.1 ∙ none j s e) in
    let pointers : (j s : ℕ) → j ≢ i → pointer j s ≡ t.pointer j s =
    λ j s n. ap (λ (row : ℕ → ℕ). row s) (with_value-other t.pointer i (λ _. 0) j n) in
    let back : (j s b : ℕ) → HasPointer t.kind pointer j s b → HasPointer t.kind t.pointer j s b =
    λ j s b h. let n = apart j s b h in (h.0, sym (pointers j s n) ∙ h.1, h.2) in
    record {
      slots = λ j s h. elim (cases_eq j i) [
        | inl e ↦ absurd (h (none j s e))
        | inr n ↦ sound.slots j s (λ z. h (pointers j s n ∙ z))
      ];
      once = λ b j s h r p q. sound.once b j s h r (back j s b p) (back h r b q);
      file_blocks = λ j s b h one. sound.file_blocks j s b (back j s b h) one;
      directory_blocks = λ j s b h two. sound.directory_blocks j s b (back j s b h) two;
      in_data_area = λ j s b h. sound.in_data_area j s b (back j s b h);
      root_block = pointers 0 0 (λ e. not_root (sym e)) ∙ sound.root_block;
      one_block = λ j two. elim (cases_eq j i) [
        | inl e ↦ absurd (let both : t.kind j ≡ 1 = ap t.kind e ∙ file in omega arith)
        | inr n ↦ let o = sound.one_block j two in
            (λ z. o.0 (sym (pointers j 0 n) ∙ z), λ s m. pointers j s n ∙ o.1 s m)
      ];
      packed = λ j s one z. elim (cases_eq j i) [
        | inl e ↦ none j (s + 1) e
        | inr n ↦ pointers j (s + 1) n ∙ sound.packed j s one (sym (pointers j s n) ∙ z)
      ];
      low_used = λ b less. f.kept b (sound.low_used b less)
          (λ s h. let w = sound.in_data_area i s b h in absurd (omega (arith, w.0)));
      named_used = λ j s b h. f.kept b (sound.named_used j s b (back j s b h))
          (λ r own. apart j s b h (sound.once b j s i r (back j s b h) own).0);
      used_named = λ b low u.
          let c = f.cleared b u in
          let w = sound.used_named b low c.0 in
          let n : w.0 ≢ i = λ e. c.1 w.1 (subst (λ (x : ℕ). HasPointer t.kind t.pointer x w.1 b) e w.2) in
          (w.0, w.1, (w.2.0, pointers w.0 w.1 n ∙ w.2.1, w.2.2));
    }

-- ---- an inode gains a block

-- the inode is a file, or a directory that is new; the block was free, and is marked as the inode's
pub record GainsBlock (t : Tables) (kind' : ℕ → ℕ) (pointer' : ℕ → ℕ → ℕ) (mark : Mark) (i s b : ℕ) : Type 0 where
  pub kinds : (j : ℕ) → j ≢ i → kind' j ≡ t.kind j
  pub rows : (j r : ℕ) → j ≢ i → pointer' j r ≡ t.pointer j r
  pub here : pointer' i s ≡ b
  pub back : (r : ℕ) → r ≢ s → pointer' i r ≢ 0 → HasPointer t.kind t.pointer i r (pointer' i r)
  pub kept : (r c : ℕ) → HasPointer t.kind t.pointer i r c → pointer' i r ≡ c
  pub live : kind' i ≢ 0
  pub stays : t.kind i ≢ 0 → kind' i ≡ t.kind i
  pub not_root : i ≢ 0
  pub slot : s < 4
  pub free : t.used b ≡ false
  pub low : 4 + t.journal ≤ b
  pub high : b < t.blocks
  pub file : kind' i ≡ 1 → (mark ≡ FileOf i) × ((r : ℕ) → pointer' i r ≡ 0 → pointer' i (r + 1) ≡ 0)
  pub directory : kind' i ≡ 2 → (mark ≡ DirectoryOf i) × (s ≡ 0) × ((r : ℕ) → r ≢ 0 → pointer' i r ≡ 0)

pub pointer-back : (t : Tables) (kind' : ℕ → ℕ) (pointer' : ℕ → ℕ → ℕ) (mark : Mark) (i s b : ℕ)
    → GainsBlock t kind' pointer' mark i s b
    → (j r c : ℕ) → HasPointer kind' pointer' j r c → HasPointer t.kind t.pointer j r c ⊎ ((j ≡ i) × (r ≡ s) × (c ≡ b))
pointer-back t kind' pointer' mark i s b g j r c h = elim (cases_eq j i) [
  | inl same ↦ elim (cases_eq r s) [
    | inl at ↦ inr (same, at, sym h.1 ∙ ap (λ (x : ℕ). pointer' x r) same ∙ ap (pointer' i) at ∙ g.here)
    | inr other ↦
        let is : pointer' i r ≡ c = ap (λ (x : ℕ). pointer' x r) (sym same) ∙ h.1 in
        let old = g.back r other (λ z. h.2 (sym is ∙ z)) in
        inl (subst (λ (x : ℕ). HasPointer t.kind t.pointer x r c) (sym same) (old.0, old.1 ∙ is, h.2))
  ]
  | inr other ↦ inl ((λ z. h.0 (g.kinds j other ∙ z)), sym (g.rows j r other) ∙ h.1, h.2)
]

pub pointer-kept : (t : Tables) (kind' : ℕ → ℕ) (pointer' : ℕ → ℕ → ℕ) (mark : Mark) (i s b : ℕ)
    → GainsBlock t kind' pointer' mark i s b
    → (j r c : ℕ) → HasPointer t.kind t.pointer j r c → HasPointer kind' pointer' j r c
pointer-kept t kind' pointer' mark i s b g j r c h = elim (cases_eq j i) [
  | inl same ↦ subst (λ (x : ℕ). HasPointer kind' pointer' x r c) (sym same)
      (g.live, g.kept r c (subst (λ (x : ℕ). HasPointer t.kind t.pointer x r c) same h), h.2)
  | inr other ↦ ((λ z. h.0 (sym (g.kinds j other) ∙ z)), g.rows j r other ∙ h.1, h.2)
]

pub pointer-gained : (t : Tables) (kind' : ℕ → ℕ) (pointer' : ℕ → ℕ → ℕ) (mark : Mark) (i s b : ℕ)
    → GainsBlock t kind' pointer' mark i s b → HasPointer kind' pointer' i s b
pointer-gained t kind' pointer' mark i s b g = (g.live, g.here, λ z. let low = g.low in omega arith)

pub blocks-gained : (t : Tables) (kind' : ℕ → ℕ) (pointer' : ℕ → ℕ → ℕ) (mark : Mark) (i s b : ℕ)
    → SoundBlocks t.blocks t.journal t.kind t.pointer t.mark t.used → GainsBlock t kind' pointer' mark i s b
    → SoundBlocks t.blocks t.journal kind' pointer' (with_value t.mark b mark) (with_value t.used b true)
blocks-gained t kind' pointer' mark i s b sound g =
    let back = pointer-back t kind' pointer' mark i s b g in
    let used' = with_value t.used b true in
    -- no pointer named the block
    let apart : (j r c : ℕ) → HasPointer t.kind t.pointer j r c → c ≢ b = λ j r c h same.
    let one : t.used b ≡ true = ap t.used (sym same) ∙ sound.named_used j r c h in
    let both : true ≡ false = sym one ∙ g.free in cc in
    let old_mark : (j r c : ℕ) → HasPointer t.kind t.pointer j r c
    → with_value t.mark b mark c ≡ t.mark c = λ j r c h. with_value-other t.mark b mark c (apart j r c h) in
    let old_used : (c : ℕ) → t.used c ≡ true → used' c ≡ true =
    λ c u. elim (cases_eq c b) [
      | inl same ↦ rw (eq-eqb c b same) refl
      | inr other ↦ with_value-other t.used b true c other ∙ u
    ] in
    let old_kind : (j r c : ℕ) → HasPointer t.kind t.pointer j r c
    → kind' j ≡ t.kind j = λ j r c h. elim (cases_eq j i) [
      | inl same ↦ ap kind' same ∙ g.stays (λ z. h.0 (ap t.kind same ∙ z)) ∙ ap t.kind (sym same)
      | inr other ↦ g.kinds j other
    ] in
    let root_other : 0 ≢ i = λ e. g.not_root (sym e) in
    record {
      slots = λ j r some. elim (cases_eq j i) [
        | inl same ↦ elim (cases_eq r s) [
          | inl at ↦ subst (λ (x : ℕ). x < 4) (sym at) g.slot
          | inr other ↦
              let here : pointer' i r ≢ 0 = λ z. some (ap (λ (x : ℕ). pointer' x r) same ∙ z) in
              let old = g.back r other here in
              sound.slots i r (λ z. here (sym old.1 ∙ z))
        ]
        | inr other ↦ sound.slots j r (λ z. some (g.rows j r other ∙ z))
      ];
      once = λ c j r h q p o. elim (back j r c p) [
        | inl old ↦ elim (back h q c o) [
          | inl two ↦ sound.once c j r h q old two
          | inr new ↦ absurd (apart j r c old new.2)
        ]
        | inr new ↦ elim (back h q c o) [
          | inl old ↦ absurd (apart h q c old new.2)
          | inr two ↦ (new.0 ∙ sym two.0, new.1 ∙ sym two.1)
        ]
      ];
      file_blocks = λ j r c h one. elim (back j r c h) [
        | inl old ↦ old_mark j r c old ∙ sound.file_blocks j r c old (sym (old_kind j r c old) ∙ one)
        | inr new ↦ ap (with_value t.mark b mark) new.2 ∙ with_value-same t.mark b mark
            ∙ (g.file (ap kind' (sym new.0) ∙ one)).0 ∙ ap FileOf (sym new.0)
      ];
      directory_blocks = λ j r c h two. elim (back j r c h) [
        | inl old ↦ old_mark j r c old ∙ sound.directory_blocks j r c old (sym (old_kind j r c old) ∙ two)
        | inr new ↦ ap (with_value t.mark b mark) new.2 ∙ with_value-same t.mark b mark
            ∙ (g.directory (ap kind' (sym new.0) ∙ two)).0 ∙ ap DirectoryOf (sym new.0)
      ];
      in_data_area = λ j r c h. elim (back j r c h) [
        | inl old ↦ sound.in_data_area j r c old
        | inr new ↦ (
          subst (λ (x : ℕ). 4 + t.journal ≤ x) (sym new.2) g.low,
          subst (λ (x : ℕ). x < t.blocks) (sym new.2) g.high,
        )
      ];
      root_block = g.rows 0 0 root_other ∙ sound.root_block;
      one_block = λ j two. elim (cases_eq j i) [
        | inl same ↦
            let d = g.directory (ap kind' (sym same) ∙ two) in (
              λ z. let low = g.low in let at : b ≡ 0 = sym g.here ∙ ap (pointer' i) d.1
                  ∙ ap (λ (x : ℕ). pointer' x 0) (sym same) ∙ z in omega arith,
              λ r other. ap (λ (x : ℕ). pointer' x r) same ∙ d.2 r other,
            )
        | inr other ↦
            let o = sound.one_block j (sym (g.kinds j other) ∙ two) in
            (λ z. o.0 (sym (g.rows j 0 other) ∙ z), λ r some. g.rows j r other ∙ o.1 r some)
      ];
      packed = λ j r one none. elim (cases_eq j i) [
        | inl same ↦
            let f = g.file (ap kind' (sym same) ∙ one) in
            ap (λ (x : ℕ). pointer' x (r + 1)) same ∙ f.1 r (ap (λ (x : ℕ). pointer' x r) (sym same) ∙ none)
        | inr other ↦ g.rows j (r + 1) other ∙ sound.packed j r (sym (g.kinds j other) ∙ one)
            (sym (g.rows j r other) ∙ none)
      ];
      low_used = λ c low. old_used c (sound.low_used c low);
      named_used = λ j r c h. elim (back j r c h) [
        | inl old ↦ old_used c (sound.named_used j r c old)
        | inr new ↦ ap used' new.2 ∙ with_value-same t.used b true
      ];
      used_named = λ c low u. elim (cases_eq c b) [
        | inl same ↦ (
          i,
          s,
          subst (λ (x : ℕ). HasPointer kind' pointer' i s x) (sym same)
              (pointer-gained t kind' pointer' mark i s b g),
        )
        | inr other ↦
            let w = sound.used_named c low (sym (with_value-other t.used b true c other) ∙ u) in
            (w.0, w.1, pointer-kept t kind' pointer' mark i s b g w.0 w.1 c w.2)
      ];
    }
