-- What each change of a plan does to the tables.
use Rattle.std.proofs.Common.{◌≡◌, ◌≢◌, ℕ, zero, suc, ◌+◌, ◌-◌, ◌*◌, ◌/◌, ◌%◌, ◌<◌, ◌≤◌, ◌⊎◌, inl, inr, List, [], ◌∷◌}
use Rattle.std.proofs.Common.{Bool, true, false, ◌&&◌, not, eqb, leb, length, take, drop, get_or, replicate, arith}
use Rattle.std.proofs.Common.{refl, sym, ◌∙◌, ap, subst, add-one, take_all, cond}
use mathlib.Core.Path.{fun_ext}
use Rattle.std.proofs.lemmas.Bool.{cases_eq, cases_lt, cases_order, ne_eqb, lt-ltb, le-ltb, lt-leb}
use Rattle.std.proofs.lemmas.Bool.Decides.{nat_tests}
use Rattle.std.proofs.lemmas.Grind.{elements, same_number_lists}
use Rattle.crash_model.specs.Disk.{Disk, IsDisk, byte, overwrite}
use Rattle.crash_model.specs.Layout.{kind_of, links_of, pointer_of, map_of, is_data, counts, entry_of, spelling_of}
use Rattle.crash_model.specs.Generations.{generation_of, mark_generation, next_generation}
use Rattle.crash_model.specs.Plan.{inode_init, inode_free, entry_set, entry_clear, name_spelling, with_changes}
use Rattle.crash_model.proofs.Bytes.{length-overwrite, overwrite-inside}
use Rattle.soundness_laws.specs.Tables.{tables_of, place_at, place_of, with_value, with_inode, with_used, with_entry}
use Rattle.soundness_laws.specs.Tables.{within}
use Rattle.soundness_laws.specs.Tables.Place.{Free, Leads}
use Rattle.soundness_laws.proofs.Puts.{with_bytes_at, SameBlock, same-block, byte-outside, range-outside, place-same}
use Rattle.soundness_laws.proofs.Puts.{mark-same, mark-kept, data-block, within-with_value, within-same, same_tables}
use Rattle.soundness_laws.proofs.Puts.{tables-inode, marks-inode, generation-same, mark_generation-same}
use Rattle.soundness_laws.proofs.Puts.{with_value-kept}

pub byte-inside : (xs : List ℕ) (at : ℕ) (new : List ℕ) (o p : ℕ) → at + length new ≤ length xs → o < length new
    → p ≡ at + o → get_or (overwrite xs at new) p 0 ≡ get_or new o 0
byte-inside xs at new o p fits less e =
    let spot : p - at ≡ o = omega arith in
    overwrite-inside xs at new p fits (omega arith) (omega arith) ∙ ap (λ (x : ℕ). get_or new x 0) spot

pub zeros : (n o : ℕ) → get_or (replicate {A = ℕ} n 0) o 0 ≡ 0
zeros zero o = refl
zeros (suc n) zero = refl
zeros (suc n) (suc o) = zeros n o

pub behind_three : (a b c n o : ℕ) → 3 ≤ o → get_or (a ∷ b ∷ c ∷ replicate n 0) o 0 ≡ 0
behind_three a b c n zero h = absurd (omega arith)
behind_three a b c n (suc zero) h = absurd (omega arith)
behind_three a b c n (suc (suc zero)) h = absurd (omega arith)
behind_three a b c n (suc (suc (suc o))) h = zeros n o

pub place-no_directory : (d : Disk) (dir k : ℕ) → kind_of d dir ≢ 2 → place_of d dir k ≡ Free
place-no_directory d dir k other = rw (ne_eqb (kind_of d dir) 2 other) refl

pub place-no_block : (d : Disk) (dir k : ℕ) → pointer_of d dir 0 ≡ 0 → place_of d dir k ≡ Free
place-no_block d dir k none =
    let no_room : leb (4 + d.journal) 0 ≡ false = lt-leb (4 + d.journal) 0 (omega arith) in
    let outside : is_data d (pointer_of d dir 0) ≡ false = rw (none, no_room) refl in
    helper (eqb (kind_of d dir) 2) (is_data d (pointer_of d dir 0)) _ _ _ _ outside
  where
    helper : (a b c e : Bool) (n : ℕ) (sp : List ℕ) → b ≡ false → place_at (((a && b) && c) && e) n sp ≡ Free
    helper true b c e n sp h = rw h refl
    helper false b c e n sp h = refl

-- the generation is written as it is; without generations it is 0 whatever is written
pub generation-written : (d : Disk) (i : ℕ) (new : List ℕ)
    → get_or (overwrite d.bytes (256 + 16 * i + 0) new) (258 + 16 * i) 0 ≡ generation_of d i
    → generation_of (with_bytes_at d (256 + 16 * i + 0) new) i ≡ generation_of d i
unfolding generation_of
generation-written d i new written = go d.generations _ _ written
  where
    go : (g : Bool) (x y : ℕ) → x ≡ cond g y 0 → cond g x 0 ≡ cond g y 0
    go true x y w = w
    go false x y w = refl

pub tables-inode_init : (d : Disk) (i kind : ℕ) → IsDisk d → i < 16 → kind_of d i ≡ 0
    → tables_of (with_changes d (inode_init d i kind ∷ [])) ≡ with_inode (tables_of d) i kind 1
tables-inode_init d i kind disk below free =
    let new = kind ∷ 1 ∷ generation_of d i ∷ replicate 13 0 in
    let e = with_bytes_at d (256 + 16 * i + 0) new in
    let inside : 256 + 16 * i + 0 + length new ≤ length d.bytes = omega (arith, disk.whole, disk.least) in
    let spot : 128 * (2 + i / 8) + (16 * (i % 8) + 0) ≡ 256 + 16 * i + 0 = omega arith in
    let k : kind_of e i ≡ kind = byte-inside d.bytes (256 + 16 * i + 0) new 0 (256 + 16 * i) inside (omega arith)
    (omega arith) in
    let l : links_of e i ≡ 1 = byte-inside d.bytes (256 + 16 * i + 0) new 1 (257 + 16 * i) inside (omega arith)
    (omega arith) in
    let slot : (s : ℕ) → s < 4 → pointer_of e i s ≡ 0 = λ s less. byte-inside d.bytes (256 + 16 * i + 0) new (4 + s)
    (260 + 16 * i + s) inside (omega arith) (omega arith)
    ∙ behind_three kind 1 (generation_of d i) 13 (4 + s) (omega arith) in
    let p : within 0 4 (pointer_of e i) ≡ (λ _. 0) = fun_ext
    (λ s. elim (cases_lt s 4) [
      | inl less ↦ rw (lt-ltb s 4 less) (slot s less)
      | inr more ↦ rw (le-ltb s 4 more) refl
    ]) in
    let own : (m : ℕ) → m < 10 → place_of e i m ≡ place_of d i m =
    λ m small. place-no_block e i m (slot 0 (omega arith)) ∙ sym (place-no_directory d i m (λ h. omega arith)) in
    let generation : generation_of e i ≡ generation_of d i = generation-written d i new (byte-inside d.bytes
    (256 + 16 * i + 0) new 2 (258 + 16 * i) inside (omega arith) (omega arith)) in
    let marks = marks-inode d i 0 new disk below (omega arith) generation in
    ap (λ (at : ℕ). tables_of (with_bytes_at d at new)) spot
    ∙ tables-inode d i 0 new disk below (omega arith) own
    ∙ rw (k, l, p, marks) refl

-- ---- an entry

pub record Counts (d : Disk) (dir : ℕ) : Type 0 where
  pub directory : kind_of d dir ≡ 2
  pub low : 4 + d.journal ≤ pointer_of d dir 0
  pub high : pointer_of d dir 0 < d.blocks
  pub mark : byte d (pointer_of d dir 0) 0 ≡ 0x44
  pub owner : byte d (pointer_of d dir 0) 1 ≡ dir
  pub generation : mark_generation d (pointer_of d dir 0) ≡ generation_of d dir

pub counts-parts : (d : Disk) (dir : ℕ) → counts d dir ≡ true → Counts d dir
counts-parts d dir h = record {
  directory = grind (arith, nat_tests);
  low = grind (arith, nat_tests);
  high = grind (arith, nat_tests);
  mark = grind (arith, nat_tests);
  owner = grind (arith, nat_tests);
  generation = grind (arith, nat_tests);
}

pub counts-from : (d : Disk) (dir : ℕ) → Counts d dir → counts d dir ≡ true
counts-from d dir h = grind (arith, nat_tests, h.directory, h.low, h.high, h.mark, h.owner, h.generation)

pub place-no_owner : (d : Disk) (dir k : ℕ) → byte d (pointer_of d dir 0) 1 ≢ dir → place_of d dir k ≡ Free
place-no_owner d dir k other = rw (ne_eqb (byte d (pointer_of d dir 0) 1) dir other) (helper _ _ _)
  where
    helper : (a : Bool) (n : ℕ) (sp : List ℕ) → place_at (a && false) n sp ≡ Free
    helper true n sp = refl
    helper false n sp = refl

range-inside : (xs : List ℕ) (at : ℕ) (new : List ℕ) (o n p : ℕ) → at + length new ≤ length xs → o + n ≤ length new
    → p ≡ at + o → take n (drop p (overwrite xs at new)) ≡ take n (drop o new)
range-inside xs at new o n p fits less e =
    let same : length (overwrite xs at new) ≡ length xs = length-overwrite xs at new fits in
    same_number_lists _ _ (grind (arith, elements)) (λ k below.
    let least : k < n = grind (arith, elements) in
    let there : get_or (overwrite xs at new) (p + k) 0 ≡ get_or new (o + k) 0 =
    byte-inside xs at new (o + k) (p + k) fits (omega arith) (omega arith) in
    grind (arith, elements))

pub tables-entry : (d : Disk) (dir k : ℕ) (new : List ℕ) → IsDisk d → dir < 16 → k < 10 → counts d dir ≡ true
    → length new ≡ 12
    → tables_of (with_bytes_at d (128 * pointer_of d dir 0 + (8 + 12 * k)) new) ≡ with_entry (tables_of d) dir k
    (place_at true (get_or new 0 0) (take 11 (drop 1 new)))
unfolding tables_of
tables-entry d dir k new disk in_dir in_place holds twelve =
    let p = pointer_of d dir 0 in
    let at = 128 * p + (8 + 12 * k) in
    let e = with_bytes_at d at new in
    let own = counts-parts d dir holds in
    let low : 4 ≤ p = omega (arith, own.low) in
    let inside : at + length new ≤ length d.bytes = omega (arith, own.high, disk.whole) in
    let early : (j : ℕ) → j < 512 → get_or e.bytes j 0 ≡ get_or d.bytes j 0 =
    λ j less. byte-outside d.bytes at new j inside (inl (omega arith)) in
    let marks : (b o : ℕ) → o < 8 → byte e b o ≡ byte d b o = λ b o less. byte-outside d.bytes at new (128 * b + o)
    inside (elim (cases_lt p b) [ inl h ↦ inr (omega arith) | inr h ↦ inl (omega arith) ]) in
    let kinds : (j : ℕ) → j < 16 → kind_of e j ≡ kind_of d j = λ j less. early (256 + 16 * j) (omega arith) in
    let gens : (j : ℕ) → j < 16 → generation_of e j ≡ generation_of d j =
    λ j less. generation-same d e.bytes j (early (258 + 16 * j) (omega arith)) in
    let pointers : (j s : ℕ) → j < 16 → s < 4 → pointer_of e j s ≡ pointer_of d j s =
    λ j s less small. early (260 + 16 * j + s) (omega arith) in
    let blocks : (b : ℕ) → b ≢ p → SameBlock d e b = λ b other. same-block d at new b inside (elim (cases_order b p) [
      | inl h ↦ absurd (other h)
      | inr h ↦ elim h [ inl less ↦ inl (omega arith) | inr more ↦ inr (omega arith) ]
    ]) in
    let others : (j m : ℕ) → j < 16 → j ≢ dir → m < 10 → place_of e j m ≡ place_of d j m = λ j m less other small.
    elim (cases_eq (pointer_of d j 0) p) [
      | inl shared ↦
          let owner : byte d (pointer_of d j 0) 1 ≡ dir = ap (λ (x : ℕ). byte d x 1) shared ∙ own.owner in
          let owner_after : byte e (pointer_of e j 0) 1 ≡ dir =
          ap (λ (x : ℕ). byte e x 1) (pointers j 0 less (omega arith)) ∙ marks (pointer_of d j 0) 1 (omega arith)
          ∙ owner in
          place-no_owner e j m (λ h. other (sym h ∙ owner_after))
          ∙ sym (place-no_owner d j m (λ h. other (sym h ∙ owner)))
      | inr apart ↦ place-same d e.bytes j m small (kinds j less) (pointers j 0 less (omega arith)) (gens j less)
          (λ _. blocks (pointer_of d j 0) apart)
    ] in
    let here : pointer_of e dir 0 ≡ p = pointers dir 0 in_dir (omega arith) in
    let same_counts : counts e dir ≡ true = counts-from e dir (record {
      directory = kinds dir in_dir ∙ own.directory;
      low = subst (λ (x : ℕ). 4 + d.journal ≤ x) (sym here) own.low;
      high = subst (λ (x : ℕ). x < d.blocks) (sym here) own.high;
      mark = ap (λ (x : ℕ). byte e x 0) here ∙ marks p 0 (omega arith) ∙ own.mark;
      owner = ap (λ (x : ℕ). byte e x 1) here ∙ marks p 1 (omega arith) ∙ own.owner;
      generation = ap (mark_generation e) here ∙ mark_generation-same d e.bytes p (marks p 2 (omega arith))
          ∙ own.generation ∙ sym (gens dir in_dir);
    }) in
    let beside : (m : ℕ) → m < 10 → m ≢ k → place_of e dir m ≡ place_of d dir m = λ m small other.
    let side : (128 * p + (8 + 12 * m) + 12 ≤ at) ⊎ (at + length new ≤ 128 * p + (8 + 12 * m)) =
    elim (cases_order m k) [
      | inl h ↦ absurd (other h)
      | inr h ↦ elim h [ inl less ↦ inl (omega arith) | inr more ↦ inr (omega arith) ]
    ] in
    let first : entry_of e dir m ≡ entry_of d dir m = ap (λ (x : ℕ). byte e x (8 + 12 * m)) here
    ∙ byte-outside d.bytes at new (128 * p + (8 + 12 * m)) inside
    (elim side [ inl h ↦ inl (omega arith) | inr h ↦ inr h ]) in
    let rest : spelling_of e dir m ≡ spelling_of d dir m =
    ap (λ (x : ℕ). take 11 (drop (128 * x + (8 + 12 * m) + 1) e.bytes)) here
    ∙ range-outside d.bytes at new (128 * p + (8 + 12 * m) + 1) 11 inside
    (elim side [ inl h ↦ inl (omega arith) | inr h ↦ inr (omega arith) ]) in
    rw (same_counts, holds, first, rest) refl in
    let first : entry_of e dir k ≡ get_or new 0 0 = ap (λ (x : ℕ). byte e x (8 + 12 * k)) here
    ∙ byte-inside d.bytes at new 0 (128 * p + (8 + 12 * k)) inside (omega arith) (omega arith) in
    let rest : spelling_of e dir k ≡ take 11 (drop 1 new) =
    ap (λ (x : ℕ). take 11 (drop (128 * x + (8 + 12 * k) + 1) e.bytes)) here
    ∙ range-inside d.bytes at new 1 11 (128 * p + (8 + 12 * k) + 1) inside (omega arith) (omega arith) in
    let this : place_of e dir k ≡ place_at true (get_or new 0 0) (take 11 (drop 1 new)) =
    rw (same_counts, first, rest) refl in
    let rows = λ (x : Disk) (j : ℕ). within Free 10 (place_of x j) in
    same_tables _ _ _ _ _ _ _ _ _ _ _ _ _ _
    (within-same 0 16 (kind_of d) (kind_of e) kinds)
    (within-same 0 16 (links_of d) (links_of e) (λ j less. early (257 + 16 * j) (omega arith)))
    (within-same (λ _. 0) 16 (λ h. within 0 4 (pointer_of d h)) (λ h. within 0 4 (pointer_of e h))
    (λ j less. within-same 0 4 (pointer_of d j) (pointer_of e j) (λ s small. pointers j s less small)))
    (within-same false d.blocks (λ b. not (eqb (map_of d b) 0)) (λ b. not (eqb (map_of e b) 0))
    (λ b less. ap (λ (x : ℕ). not (eqb x 0)) (early (128 + b) (omega (arith, disk.most)))))
    (fun_ext (λ b. mark-kept d e.bytes b (λ less. gens (byte d b 1) less) (λ _ o less. marks b o (omega arith))))
    (within-with_value (λ _. Free) 16 dir (rows d) (rows e) in_dir
    (λ j less other. within-same Free 10 (place_of d j) (place_of e j) (λ m small. others j m less other small))
    ∙ rw (within-with_value Free 10 k (place_of d dir) (place_of e dir) in_place beside, this, lt-ltb dir 16 in_dir)
    refl)

pub tables-entry_set : (d : Disk) (dir k inode : ℕ) (name : List ℕ) → IsDisk d → dir < 16 → k < 10 → counts d dir ≡ true
    → length name ≤ 10
    → tables_of (with_changes d (entry_set d dir k inode name ∷ [])) ≡ with_entry (tables_of d) dir k
    (Leads inode (name_spelling name))
tables-entry_set d dir k inode name disk in_dir in_place holds short =
    let eleven : length (name_spelling name) ≡ 11 = grind (arith, elements) in
    let all : take 11 (name_spelling name) ≡ name_spelling name = take_all 11 (name_spelling name) (omega arith) in
    tables-entry d dir k ((inode + 1) ∷ name_spelling name) disk in_dir in_place holds (omega arith)
    ∙ rw (all, add-one) refl

pub tables-entry_clear : (d : Disk) (dir k : ℕ) → IsDisk d → dir < 16 → k < 10 → counts d dir ≡ true
    → tables_of (with_changes d (entry_clear d dir k ∷ [])) ≡ with_entry (tables_of d) dir k Free
tables-entry_clear d dir k disk in_dir in_place holds = tables-entry d dir k (replicate 12 0) disk in_dir in_place holds
    refl

-- ---- a byte of the map

pub tables-map : (d : Disk) (b v : ℕ) → IsDisk d → b < d.blocks
    → tables_of (with_bytes_at d (128 * 1 + b) (v ∷ [])) ≡ with_used (tables_of d) b (not (eqb v 0))
unfolding tables_of
tables-map d b v disk below =
    let at = 128 * 1 + b in
    let e = with_bytes_at d at (v ∷ []) in
    let inside : at + 1 ≤ length d.bytes = omega (arith, disk.whole, disk.most) in
    let late : (j : ℕ) → 256 ≤ j → get_or e.bytes j 0 ≡ get_or d.bytes j 0 =
    λ j more. byte-outside d.bytes at (v ∷ []) j inside (inr (omega (arith, disk.most))) in
    let gens : (j : ℕ) → j < 16 → generation_of e j ≡ generation_of d j =
    λ j less. generation-same d e.bytes j (late (258 + 16 * j) (omega arith)) in
    let blocks : (h : ℕ) → is_data d h ≡ true → SameBlock d e h = λ h data_area. same-block d at (v ∷ []) h inside
    (inr (let w = data-block d h data_area in omega (arith, disk.most))) in
    let this : map_of e b ≡ v = byte-inside d.bytes at (v ∷ []) 0 (128 + b) inside (omega arith) (omega arith) in
    same_tables _ _ _ _ _ _ _ _ _ _ _ _ _ _
    (within-same 0 16 (kind_of d) (kind_of e) (λ j less. late (256 + 16 * j) (omega arith)))
    (within-same 0 16 (links_of d) (links_of e) (λ j less. late (257 + 16 * j) (omega arith)))
    (within-same (λ _. 0) 16 (λ h. within 0 4 (pointer_of d h)) (λ h. within 0 4 (pointer_of e h))
    (λ j less. within-same 0 4 (pointer_of d j) (pointer_of e j)
    (λ s small. late (260 + 16 * j + s) (omega arith))))
    (within-with_value false d.blocks b (λ h. not (eqb (map_of d h) 0)) (λ h. not (eqb (map_of e h) 0)) below
    (λ h less other. ap (λ (x : ℕ). not (eqb x 0)) (byte-outside d.bytes at (v ∷ []) (128 + h) inside
    (elim (cases_order h b) [
      | inl same ↦ absurd (other same)
      | inr ne ↦ elim ne [ inl low ↦ inl (omega arith) | inr high ↦ inr (omega arith) ]
    ]))) ∙ rw this refl)
    (fun_ext (λ h. mark-same d e.bytes h gens (blocks h)))
    (within-same (λ _. Free) 16 (λ dir. within Free 10 (place_of d dir)) (λ dir. within Free 10 (place_of e dir))
    (λ dir less. within-same Free 10 (place_of d dir) (place_of e dir) (λ k small.
    place-same d e.bytes dir k small (late (256 + 16 * dir) (omega arith)) (late (260 + 16 * dir + 0) (omega arith))
    (gens dir less) (blocks (pointer_of d dir 0)))))

-- ---- an inode goes, which nothing is below

pub tables-inode_free : (d' d : Disk) (i : ℕ) → IsDisk d → i < 16 → ((m : ℕ) → m < 10 → place_of d i m ≡ Free)
    → tables_of (with_changes d (inode_free d' i ∷ [])) ≡ record (tables_of d) {
      kind = with_value (tables_of d).kind i 0;
      links = with_value (tables_of d).links i 0;
      pointer = with_value (tables_of d).pointer i (λ _. 0);
      mark = (tables_of (with_changes d (inode_free d' i ∷ []))).mark;
    }
tables-inode_free d' d i disk below empty =
    let new = 0 ∷ 0 ∷ next_generation d' i ∷ replicate 13 0 in
    let e = with_bytes_at d (256 + 16 * i + 0) new in
    let inside : 256 + 16 * i + 0 + length new ≤ length d.bytes = omega (arith, disk.whole, disk.least) in
    let spot : 128 * (2 + i / 8) + (16 * (i % 8) + 0) ≡ 256 + 16 * i + 0 = omega arith in
    let k : kind_of e i ≡ 0 = byte-inside d.bytes (256 + 16 * i + 0) new 0 (256 + 16 * i) inside (omega arith)
    (omega arith) in
    let l : links_of e i ≡ 0 = byte-inside d.bytes (256 + 16 * i + 0) new 1 (257 + 16 * i) inside (omega arith)
    (omega arith) in
    let slot : (s : ℕ) → s < 4 → pointer_of e i s ≡ 0 = λ s less. byte-inside d.bytes (256 + 16 * i + 0) new (4 + s)
    (260 + 16 * i + s) inside (omega arith) (omega arith)
    ∙ behind_three 0 0 (next_generation d' i) 13 (4 + s) (omega arith) in
    let p : within 0 4 (pointer_of e i) ≡ (λ _. 0) = fun_ext
    (λ s. elim (cases_lt s 4) [
      | inl less ↦ rw (lt-ltb s 4 less) (slot s less)
      | inr more ↦ rw (le-ltb s 4 more) refl
    ]) in
    let own : (m : ℕ) → m < 10 → place_of e i m ≡ place_of d i m =
    λ m small. place-no_block e i m (slot 0 (omega arith)) ∙ sym (empty m small) in
    let made = tables-inode d i 0 new disk below (omega arith) own ∙ rw (k, l, p) refl in
    subst (λ (at : ℕ). tables_of (with_bytes_at d at new) ≡ record (tables_of d) {
      kind = with_value (tables_of d).kind i 0;
      links = with_value (tables_of d).links i 0;
      pointer = with_value (tables_of d).pointer i (λ _. 0);
      mark = (tables_of (with_bytes_at d at new)).mark;
    }) (sym spot) made

-- ---- an inode loses its blocks

pub tables-pointers_clear : (d : Disk) (i : ℕ) → IsDisk d → i < 16 → kind_of d i ≢ 2
    → tables_of (with_bytes_at d (256 + 16 * i + 4) (replicate 4 0)) ≡ record (tables_of d) {
      pointer = with_value (tables_of d).pointer i (λ _. 0);
    }
unfolding tables_of
tables-pointers_clear d i disk below file =
    let t = tables_of d in
    let new = replicate {A = ℕ} 4 0 in
    let at = 256 + 16 * i + 4 in
    let e = with_bytes_at d at new in
    let inside : at + length new ≤ length d.bytes = omega (arith, disk.whole, disk.least) in
    let before : (o p : ℕ) → o < 4 → p ≡ 256 + 16 * i + o → get_or e.bytes p 0 ≡ get_or d.bytes p 0 =
    λ o p less same. byte-outside d.bytes at new p inside (inl (omega arith)) in
    let kind : kind_of e i ≡ kind_of d i = before 0 (256 + 16 * i) (omega arith) (omega arith) in
    let links : links_of e i ≡ links_of d i = before 1 (257 + 16 * i) (omega arith) (omega arith) in
    let slot : (s : ℕ) → s < 4 → pointer_of e i s ≡ 0 = λ s less. byte-inside d.bytes at new s (260 + 16 * i + s) inside
    less (omega arith) ∙ zeros 4 s in
    let p : within 0 4 (pointer_of e i) ≡ (λ _. 0) = fun_ext
    (λ s. elim (cases_lt s 4) [
      | inl less ↦ rw (lt-ltb s 4 less) (slot s less)
      | inr more ↦ rw (le-ltb s 4 more) refl
    ]) in
    let own : (m : ℕ) → m < 10 → place_of e i m ≡ place_of d i m =
    λ m small. place-no_block e i m (slot 0 (omega arith)) ∙ sym (place-no_directory d i m file) in
    let marks = marks-inode d i 4 new disk below (omega arith)
    (generation-same d e.bytes i (before 2 (258 + 16 * i) (omega arith) (omega arith))) in
    tables-inode d i 4 new disk below (omega arith) own
    ∙ same_tables t.blocks t.journal _ _ _ _ _ _ _ _ _ _ _ _
    (with_value-kept t.kind i (kind_of e i) (kind ∙ sym (kind_row d i below)))
    (with_value-kept t.links i (links_of e i) (links ∙ sym (links_row d i below)))
    (ap (with_value t.pointer i) p)
    refl marks refl
  where
    kind_row : (d : Disk) (i : ℕ) → i < 16 → within 0 16 (kind_of d) i ≡ kind_of d i
    kind_row d i below = rw (lt-ltb i 16 below) refl

    links_row : (d : Disk) (i : ℕ) → i < 16 → within 0 16 (links_of d) i ≡ links_of d i
    links_row d i below = rw (lt-ltb i 16 below) refl

-- ---- a byte that no table has: one of an inode, behind its pointers, or one of a block, before its entries

pub tables-touched : (d : Disk) (i v : ℕ) → IsDisk d → i < 16
    → tables_of (with_bytes_at d (256 + 16 * i + 8) (v ∷ [])) ≡ tables_of d
unfolding tables_of
tables-touched d i v disk below =
    let t = tables_of d in
    let new = v ∷ [] in
    let at = 256 + 16 * i + 8 in
    let e = with_bytes_at d at new in
    let inside : at + length new ≤ length d.bytes = omega (arith, disk.whole, disk.least) in
    let before : (o p : ℕ) → o < 8 → p ≡ 256 + 16 * i + o → get_or e.bytes p 0 ≡ get_or d.bytes p 0 =
    λ o p less same. byte-outside d.bytes at new p inside (inl (omega arith)) in
    let kind : kind_of e i ≡ kind_of d i = before 0 (256 + 16 * i) (omega arith) (omega arith) in
    let links : links_of e i ≡ links_of d i = before 1 (257 + 16 * i) (omega arith) (omega arith) in
    let slot : (s : ℕ) → s < 4 → pointer_of e i s ≡ pointer_of d i s =
    λ s less. before (4 + s) (260 + 16 * i + s) (omega arith) (omega arith) in
    let generation : generation_of e i ≡ generation_of d i =
    generation-same d e.bytes i (before 2 (258 + 16 * i) (omega arith) (omega arith)) in
    let own : (m : ℕ) → m < 10 → place_of e i m ≡ place_of d i m = λ m small.
    place-same d e.bytes i m small kind (slot 0 (omega arith)) generation
    (λ h. same-block d at new (pointer_of d i 0) inside
    (inr (let p = data-block d (pointer_of d i 0) h in omega arith))) in
    tables-inode d i 8 new disk below (omega arith) own
    ∙ same_tables t.blocks t.journal _ _ _ _ _ _ _ _ _ _ _ _
    (with_value-kept t.kind i (kind_of e i) (kind ∙ sym (kind_row d i below)))
    (with_value-kept t.links i (links_of e i) (links ∙ sym (links_row d i below)))
    (with_value-kept t.pointer i (within 0 4 (pointer_of e i))
    (within-same 0 4 (pointer_of d i) (pointer_of e i) slot ∙ sym (row d i below)))
    refl (marks-inode d i 8 new disk below (omega arith) generation) refl
  where
    kind_row : (d : Disk) (i : ℕ) → i < 16 → within 0 16 (kind_of d) i ≡ kind_of d i
    kind_row d i below = rw (lt-ltb i 16 below) refl

    links_row : (d : Disk) (i : ℕ) → i < 16 → within 0 16 (links_of d) i ≡ links_of d i
    links_row d i below = rw (lt-ltb i 16 below) refl

    row : (d : Disk) (i : ℕ) → i < 16 → within (λ _. 0) 16 (λ j. within 0 4 (pointer_of d j)) i
        ≡ within 0 4 (pointer_of d i)
    row d i below = rw (lt-ltb i 16 below) refl

pub tables-data : (d : Disk) (b v : ℕ) → IsDisk d → is_data d b ≡ true
    → tables_of (with_bytes_at d (128 * b + 3) (v ∷ [])) ≡ tables_of d
unfolding tables_of
tables-data d b v disk area =
    let new = v ∷ [] in
    let at = 128 * b + 3 in
    let e = with_bytes_at d at new in
    let own = data-block d b area in
    let inside : at + length new ≤ length d.bytes = omega (arith, own.1, disk.whole) in
    let early : (j : ℕ) → j < 512 → get_or e.bytes j 0 ≡ get_or d.bytes j 0 =
    λ j less. byte-outside d.bytes at new j inside (inl (omega (arith, own.0))) in
    let elsewhere : (c o : ℕ) → o < 128 → o ≢ 3 → byte e c o ≡ byte d c o = λ c o less other.
    byte-outside d.bytes at new (128 * c + o) inside (elim (cases_order (128 * c + o) at) [
      | inl h ↦ absurd (other (omega arith))
      | inr h ↦ elim h [ inl low ↦ inl low | inr high ↦ inr (omega arith) ]
    ]) in
    let kinds : (j : ℕ) → j < 16 → kind_of e j ≡ kind_of d j = λ j less. early (256 + 16 * j) (omega arith) in
    let gens : (j : ℕ) → j < 16 → generation_of e j ≡ generation_of d j =
    λ j less. generation-same d e.bytes j (early (258 + 16 * j) (omega arith)) in
    let pointers : (j s : ℕ) → j < 16 → s < 4 → pointer_of e j s ≡ pointer_of d j s =
    λ j s less small. early (260 + 16 * j + s) (omega arith) in
    let spelt : (c o : ℕ) → 8 ≤ o → o + 11 ≤ 128 → take 11 (drop (128 * c + o) e.bytes)
    ≡ take 11 (drop (128 * c + o) d.bytes) = λ c o from to. range-outside d.bytes at new (128 * c + o) 11 inside
    (elim (cases_lt c b) [
      | inl low ↦ inl (omega arith)
      | inr high ↦ inr (omega arith)
    ]) in
    same_tables _ _ _ _ _ _ _ _ _ _ _ _ _ _
    (within-same 0 16 (kind_of d) (kind_of e) kinds)
    (within-same 0 16 (links_of d) (links_of e) (λ j less. early (257 + 16 * j) (omega arith)))
    (within-same (λ _. 0) 16 (λ h. within 0 4 (pointer_of d h)) (λ h. within 0 4 (pointer_of e h))
    (λ j less. within-same 0 4 (pointer_of d j) (pointer_of e j) (λ s small. pointers j s less small)))
    (within-same false d.blocks (λ c. not (eqb (map_of d c) 0)) (λ c. not (eqb (map_of e c) 0))
    (λ c less. ap (λ (x : ℕ). not (eqb x 0)) (early (128 + c) (omega (arith, disk.most)))))
    (fun_ext (λ c. mark-kept d e.bytes c (λ less. gens (byte d c 1) less)
    (λ _ o less. elsewhere c o (omega arith) (λ z. omega arith))))
    (within-same (λ _. Free) 16 (λ dir. within Free 10 (place_of d dir)) (λ dir. within Free 10 (place_of e dir))
    (λ dir less. within-same Free 10 (place_of d dir) (place_of e dir) (λ k small.
    place-same d e.bytes dir k small (kinds dir less) (pointers dir 0 less (omega arith)) (gens dir less)
    (λ _. record { bytes = elsewhere (pointer_of d dir 0); spellings = spelt (pointer_of d dir 0) }))))
