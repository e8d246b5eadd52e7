-- Tests of faults by tests of single bytes.
use Rattle.std.proofs.Common.{◌≡◌, ◌≢◌, ℕ, ◌+◌, ◌-◌, ◌*◌, ◌≤◌, inl, inr, Bool, true, false, not, ◌&&◌}
use Rattle.std.proofs.Common.{arith, tests, refl, sym, ◌∙◌, ap}
use Rattle.std.specs.Prelude.{◌==◌, nat_le, nat_lt}
use Rattle.std.proofs.lemmas.Bool.{cases_eq, eq-eqb, ne_eqb}
use Rattle.journal_replay.proofs.Targets.{bool_is}
use Rattle.crash_model.specs.Disk.{Disk, byte}
use Rattle.crash_model.specs.Layout.{kind_of, pointer_of, entry_of, target_of, map_of, is_data, is_live, is_owned}
use Rattle.crash_model.specs.Layout.{counts}
use Rattle.crash_model.specs.Faults.{is_dangling, is_wild, is_unwritten, is_marked_free, names_block, leads_to}
use Rattle.fs_check.specs.Passed.{is_marked}
use Rattle.known_bytes.specs.Directories.{IsItsBlock, counts_at}
use Rattle.known_bytes.proofs.Answered.{and_false_right}

-- ---- directories

all_four : (a t m n p : Bool) → t ≡ true → p ≡ true → (a && t && m && n) ≡ ((a && p) && (m && n))
all_four a t m n p e h = grind (arith, tests)

none_of : (a p x : Bool) → p ≡ false → ((a && p) && x) ≡ false
none_of a p x h = grind (arith, tests)

pub counts_is : (d : Disk) (dir block : ℕ) → IsItsBlock dir block d → counts_at dir block d ≡ counts d dir
counts_is d dir block its = elim (cases_eq (pointer_of d dir 0) block) [
  | inl same ↦ sym (ap (λ (p : ℕ). (kind_of d dir == 2) && is_data d p && (byte d p 0 == 0x44) && is_owned d p dir)
      same
      ∙ all_four (kind_of d dir == 2) (is_data d block) (byte d block 0 == 0x44) (is_owned d block dir)
      (pointer_of d dir 0 == block) its.tame (eq-eqb (pointer_of d dir 0) block same))
  | inr other ↦
      none_of (kind_of d dir == 2) (pointer_of d dir 0 == block) ((byte d block 0 == 0x44) && is_owned d block dir)
      (ne_eqb (pointer_of d dir 0) block other)
      ∙ sym (elim (bool_is (counts d dir)) [
        | inl is ↦ absurd (other (its.only is))
        | inr none ↦ none
      ])
]

-- a number that a test of numbers in a range passes
test_at : (e n : ℕ) (live : ℕ → Bool) → ((e == n + 1) && not (live n))
    ≡ ((not (e == 0) && not (live (e - 1))) && (e - 1 == n))
test_at e n live = elim (cases_eq e (n + 1)) [
  | inl same ↦
      let zero_test : (e == 0) ≡ false = ne_eqb e 0 (λ h. omega arith) in
      let one_test : (e == n + 1) ≡ true = eq-eqb e (n + 1) same in
      let last : e - 1 ≡ n = omega arith in
      let last_test : (e - 1 == n) ≡ true = eq-eqb (e - 1) n last in
      rw (zero_test, one_test, last_test) (shape (live n) (live (e - 1)) (ap live last))
  | inr other ↦
      let one_test : (e == n + 1) ≡ false = ne_eqb e (n + 1) other in
      rw one_test (sym (elim (cases_eq e 0) [
        | inl none ↦ let zero_test : (e == 0) ≡ true = eq-eqb e 0 none in rw zero_test refl
        | inr some ↦
            let last_test : (e - 1 == n) ≡ false = ne_eqb (e - 1) n (λ h. other (omega arith)) in
            and_false_right (not (e == 0) && not (live (e - 1))) (e - 1 == n) last_test
      ]))
]
  where
    shape : (a b : Bool) → b ≡ a → (true && not a) ≡ ((true && not b) && true)
    shape a b h = grind (arith, tests)

spread : (c a b u v w : Bool) → (a && b) ≡ ((u && v) && w) → (c && (a && b)) ≡ (((c && u) && v) && w)
spread true a b u v w h = h
spread false a b u v w h = refl

entry_same : (d : Disk) (dir k block : ℕ) → IsItsBlock dir block d → counts d dir ≡ true
    → byte d block (8 + 12 * k) ≡ entry_of d dir k
entry_same d dir k block its is = ap (λ (p : ℕ). byte d p (8 + 12 * k)) (sym (its.only is))

pub dangling_is : (d : Disk) (dir k block inode : ℕ) → IsItsBlock dir block d
    → (counts_at dir block d && ((byte d block (8 + 12 * k) == inode + 1) && not (is_live d inode)))
    ≡ (is_dangling d dir k && (target_of d dir k == inode))
dangling_is d dir k block inode its =
    ap (λ (c : Bool). c && ((byte d block (8 + 12 * k) == inode + 1) && not (is_live d inode)))
    (counts_is d dir block its)
    ∙ elim (bool_is (counts d dir)) [
      | inl is ↦
          ap (λ (e : ℕ). counts d dir && ((e == inode + 1) && not (is_live d inode))) (entry_same d dir k block its is)
          ∙ spread (counts d dir) (entry_of d dir k == inode + 1) (not (is_live d inode)) (not (entry_of d dir k == 0))
          (not (is_live d (entry_of d dir k - 1))) (entry_of d dir k - 1 == inode)
          (test_at (entry_of d dir k) inode (λ i. is_live d i))
      | inr none ↦ rw none refl
    ]

pub no_dangling : (d : Disk) (dir k inode : ℕ) → counts d dir ≡ false
    → false ≡ (is_dangling d dir k && (target_of d dir k == inode))
no_dangling d dir k inode none = rw none refl

lead_at : (e n : ℕ) → (e == n + 1) ≡ (not (e == 0) && (e - 1 == n))
lead_at e n = grind (arith, tests)

pub leads_is : (d : Disk) (dir k block inode : ℕ) → IsItsBlock dir block d
    → (counts_at dir block d && (byte d block (8 + 12 * k) == inode + 1)) ≡ leads_to d dir k inode
leads_is d dir k block inode its =
    ap (λ (c : Bool). c && (byte d block (8 + 12 * k) == inode + 1)) (counts_is d dir block its)
    ∙ elim (bool_is (counts d dir)) [
      | inl is ↦
          ap (λ (e : ℕ). counts d dir && (e == inode + 1)) (entry_same d dir k block its is)
          ∙ ap (λ (b : Bool). counts d dir && b) (lead_at (entry_of d dir k) inode)
          ∙ three (counts d dir) (not (entry_of d dir k == 0)) (entry_of d dir k - 1 == inode)
      | inr none ↦ rw none refl
    ]
  where
    three : (a b c : Bool) → (a && (b && c)) ≡ ((a && b) && c)
    three true b c = refl
    three false b c = refl

pub no_lead : (d : Disk) (dir k inode : ℕ) → counts d dir ≡ false → leads_to d dir k inode ≡ false
no_lead d dir k inode none = rw none refl

-- ---- pointers

-- a value that a test passes, where the number is another or not
module _ (p b : ℕ) (live : Bool) (area : ℕ → Bool) where
  tame_at : area b ≡ true → b ≢ 0 → ((p == b) && live) ≡ (((live && not (p == 0)) && area p) && (p == b))
  tame_at is some = elim (cases_eq p b) [
    | inl same ↦
        let here : (p == b) ≡ true = eq-eqb p b same in
        let zero_test : (p == 0) ≡ false = ne_eqb p 0 (λ h. some (sym same ∙ h)) in
        let inside : area p ≡ true = ap area same ∙ is in
        rw (here, zero_test, inside) (shape live)
    | inr other ↦
        let here : (p == b) ≡ false = ne_eqb p b other in
        rw here (sym (and_false_right ((live && not (p == 0)) && area p) false refl))
  ]
    where
      shape : (a : Bool) → (true && a) ≡ (((a && true) && true) && true)
      shape true = refl
      shape false = refl

  not_tame_at : area b ≡ false → (((live && not (p == 0)) && area p) && (p == b)) ≡ false
  not_tame_at no_data = elim (cases_eq p b) [
    | inl same ↦
        let outside : area p ≡ false = ap area same ∙ no_data in
        rw outside (shape (live && not (p == 0)) (p == b))
    | inr other ↦ and_false_right ((live && not (p == 0)) && area p) (p == b) (ne_eqb p b other)
  ]
    where
      shape : (a c : Bool) → ((a && false) && c) ≡ false
      shape true c = refl
      shape false c = refl

  wild_at : area b ≡ false → b ≢ 0 → ((p == b) && live) ≡ (((live && not (p == 0)) && not (area p)) && (p == b))
  wild_at no_data some = elim (cases_eq p b) [
    | inl same ↦
        let here : (p == b) ≡ true = eq-eqb p b same in
        let zero_test : (p == 0) ≡ false = ne_eqb p 0 (λ h. some (sym same ∙ h)) in
        let outside : area p ≡ false = ap area same ∙ no_data in
        rw (here, zero_test, outside) (shape live)
    | inr other ↦
        let here : (p == b) ≡ false = ne_eqb p b other in
        rw here (sym (and_false_right ((live && not (p == 0)) && not (area p)) false refl))
  ]
    where
      shape : (a : Bool) → (true && a) ≡ (((a && true) && true) && true)
      shape true = refl
      shape false = refl

  not_wild_at : (area b ≡ true) → (((live && not (p == 0)) && not (area p)) && (p == b)) ≡ false
  not_wild_at is = elim (cases_eq p b) [
    | inl same ↦
        let inside : area p ≡ true = ap area same ∙ is in
        rw inside (shape (live && not (p == 0)) (p == b))
    | inr other ↦ and_false_right ((live && not (p == 0)) && not (area p)) (p == b) (ne_eqb p b other)
  ]
    where
      shape : (a c : Bool) → ((a && false) && c) ≡ false
      shape true c = refl
      shape false c = refl

  not_wild_zero : b ≡ 0 → (((live && not (p == 0)) && not (area p)) && (p == b)) ≡ false
  not_wild_zero none = elim (cases_eq p b) [
    | inl same ↦
        let zero_test : (p == 0) ≡ true = eq-eqb p 0 (same ∙ none) in
        rw zero_test (shape live (not (area p)) (p == b))
    | inr other ↦ and_false_right ((live && not (p == 0)) && not (area p)) (p == b) (ne_eqb p b other)
  ]
    where
      shape : (a c e : Bool) → (((a && false) && c) && e) ≡ false
      shape a c e = grind (arith, tests)

module _ (d : Disk) (inode slot block : ℕ) where
  data_some : is_data d block ≡ true → block ≢ 0
  data_some h e = let low : 4 + d.journal ≤ block = from_test (4 + d.journal) block (nat_lt block d.blocks) h in omega
      arith
    where
      from_test : (a b : ℕ) (c : Bool) → (nat_le a b && c) ≡ true → a ≤ b
      from_test a b c h = grind (arith, tests)

  pub names_is : is_data d block ≡ true
      → ((pointer_of d inode slot == block) && is_live d inode) ≡ names_block d inode slot block
  names_is is = tame_at (pointer_of d inode slot) block (is_live d inode) (λ b. is_data d b) is (data_some is)

  pub no_names : is_data d block ≡ false → names_block d inode slot block ≡ false
  no_names not_data = not_tame_at (pointer_of d inode slot) block (is_live d inode) (λ b. is_data d b) not_data

  pub wild_is : is_data d block ≡ false → block ≢ 0
      → ((pointer_of d inode slot == block) && is_live d inode)
      ≡ (is_wild d inode slot && (pointer_of d inode slot == block))
  wild_is not_data some = wild_at (pointer_of d inode slot) block (is_live d inode) (λ b. is_data d b) not_data some

  pub no_wild : is_data d block ≡ true → (is_wild d inode slot && (pointer_of d inode slot == block)) ≡ false
  no_wild is = not_wild_at (pointer_of d inode slot) block (is_live d inode) (λ b. is_data d b) is

  pub no_wild_zero : block ≡ 0 → (is_wild d inode slot && (pointer_of d inode slot == block)) ≡ false
  no_wild_zero none = not_wild_zero (pointer_of d inode slot) block (is_live d inode) (λ b. is_data d b) none

  -- a test of the block that a pointer names, of a block that it names
  moved_in : (tame : Bool) (P : ℕ → Bool) (p : ℕ) → ((tame && (p == block)) && P block)
      ≡ ((tame && P p) && (p == block))
  moved_in tame P p = elim (cases_eq p block) [
    | inl same ↦
        let here : (p == block) ≡ true = eq-eqb p block same in
        rw here (shape tame (P block) (P p) (ap P same))
    | inr other ↦
        let here : (p == block) ≡ false = ne_eqb p block other in
        rw here (none tame (P block) (P p))
  ]
    where
      shape : (a x y : Bool) → y ≡ x → ((a && true) && x) ≡ ((a && y) && true)
      shape a x y h = grind (arith, tests)

      none : (a x y : Bool) → ((a && false) && x) ≡ ((a && y) && false)
      none a x y = grind (arith, tests)

  pub unwritten_is : (names_block d inode slot block && not (is_marked d inode block))
      ≡ (is_unwritten d inode slot && (pointer_of d inode slot == block))
  unwritten_is = moved_in ((is_live d inode && not (pointer_of d inode slot == 0)) && is_data d
      (pointer_of d inode slot))
      (λ b. not (is_marked d inode b)) (pointer_of d inode slot)

  pub marked_free_is : (names_block d inode slot block && (map_of d block == 0))
      ≡ (is_marked_free d inode slot && (pointer_of d inode slot == block))
  marked_free_is = moved_in ((is_live d inode && not (pointer_of d inode slot == 0)) && is_data d
      (pointer_of d inode slot))
      (λ b. map_of d b == 0) (pointer_of d inode slot)

  pub none_tame : is_data d block ≡ false → (P : ℕ → Bool)
      → ((((is_live d inode && not (pointer_of d inode slot == 0)) && is_data d (pointer_of d inode slot))
      && P (pointer_of d inode slot)) && (pointer_of d inode slot == block)) ≡ false
  none_tame not_data P =
      sym (moved_in ((is_live d inode && not (pointer_of d inode slot == 0)) && is_data d (pointer_of d inode slot)) P
      (pointer_of d inode slot))
      ∙ ap (λ (b : Bool). b && P block) (no_names not_data)
