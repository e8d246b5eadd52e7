-- The blocks of a disk that are compared, found inode by inode.
use Rattle.std.proofs.Common.{◌≡◌, ℕ, ◌+◌, ◌<◌, ◌≤◌, ◌⊎◌, inl, inr, Bool, true, false, ◌==◌, not, arith, tests, refl}
use Rattle.std.proofs.Common.{sym, ap, subst}
use Rattle.std.proofs.Common.{◌∙◌}
use Rattle.std.specs.Prelude.{◌≢◌, bytes_eq}
use Rattle.std.proofs.lemmas.Bool.{false≢true, cases_eq, and_parts, ne_eqb}
use Rattle.patch_sets.specs.Sets.{Has, with_id}
use Rattle.patch_sets.proofs.Bits.{none_in_empty, in_with_same, in_with_old, in_with_cases}
use Rattle.crash_model.specs.Disk.{Disk, block_of}
use Rattle.crash_model.specs.Layout.{pointer_of, is_live, is_pointer}
use Rattle.crash_model.specs.Atomic.{shows}
use Rattle.crash_model.proofs.Shown.{compared_from, compared_low, compared_pointed, shows_from}
use Rattle.crash_model.proofs.Shown.{shows_to}
use Rattle.fs_check.specs.Compared.{AreCompared, IsInSlot, HasSlot, AreWithSlots, AreFound}

-- ---- one inode

in_slot-more : (d : Disk) (inode n block : ℕ) → IsInSlot d inode n block → IsInSlot d inode (n + 1) block
in_slot-more d inode n block is = record {
  slot = is.slot;
  less = omega (arith, is.less);
  points = is.points;
  at = is.at;
  below = is.below;
}

module _ (d : Disk) (inode : ℕ) where
  pub slots-start : (set : ℕ) → AreWithSlots d inode 0 set set
  slots-start set = record {
    only = λ block h. inl h;
    stays = λ block h. h;
    slots = λ slot less. absurd (omega arith);
  }

  -- a slot that names a block of the disk
  pub slots-one : (n block old now : ℕ) → is_pointer d inode n ≡ true → pointer_of d inode n ≡ block → block < d.blocks
      → AreWithSlots d inode n old now → AreWithSlots d inode (n + 1) old (with_id now block)
  slots-one n block old now points at below was = record {
    only = λ b h. elim (in_with_cases now block b h) [
      | inl same ↦ inr (record {
        slot = n;
        less = omega arith;
        points = points;
        at = at ∙ sym same;
        below = subst (λ (k : ℕ). k < d.blocks) (sym same) below;
      })
      | inr before ↦ elim (was.only b before) [
        | inl older ↦ inl older
        | inr slot ↦ inr (in_slot-more d inode n b slot)
      ]
    ];
    stays = λ b h. in_with_old now block b (was.stays b h);
    slots = λ slot less. elim (cases_eq slot n) [
      | inl same ↦ λ is within. subst (λ (k : ℕ). Has (with_id now block) k)
          (sym (ap (pointer_of d inode) same ∙ at)) (in_with_same now block)
      | inr other ↦ λ is within. in_with_old now block (pointer_of d inode slot)
          (was.slots slot (omega (arith, less, other)) is within)
    ];
  }

  -- one that names none
  pub slots-none : (n old now : ℕ) → (is_pointer d inode n ≡ true → pointer_of d inode n < d.blocks → ⊥)
      → AreWithSlots d inode n old now → AreWithSlots d inode (n + 1) old now
  slots-none n old now none was = record {
    only = λ b h. elim (was.only b h) [
      | inl older ↦ inl older
      | inr slot ↦ inr (in_slot-more d inode n b slot)
    ];
    stays = was.stays;
    slots = λ slot less. elim (cases_eq slot n) [
      | inl same ↦ λ is within. absurd (none (subst (λ (k : ℕ). is_pointer d inode k ≡ true) same is)
          (subst (λ (k : ℕ). pointer_of d inode k < d.blocks) same within))
      | inr other ↦ was.slots slot (omega (arith, less, other))
    ];
  }

-- a slot of a live inode is a pointer where it is not 0
pub is_pointer-some : (d : Disk) (inode slot block : ℕ) → is_live d inode ≡ true → pointer_of d inode slot ≡ block
    → block ≢ 0 → is_pointer d inode slot ≡ true
is_pointer-some d inode slot block live at some = rw (live, at, ne_eqb block 0 some) refl

pub is_pointer-not_zero : (d : Disk) (inode slot : ℕ) → is_pointer d inode slot ≡ true → pointer_of d inode slot ≢ 0
is_pointer-not_zero d inode slot is =
    let some : not (pointer_of d inode slot == 0) ≡ true = (and_parts (is_live d inode) _ is).1 in
    λ zero. not_zero (pointer_of d inode slot) some zero
  where
    not_zero : (n : ℕ) → not (n == 0) ≡ true → n ≡ 0 → ⊥
    not_zero n some zero = grind (arith, tests)

-- ---- all inodes

low_three : (block : ℕ) → Has (with_id (with_id (with_id 0 1) 2) 3) block → (1 ≤ block) × (block ≤ 3)
low_three block h = elim (in_with_cases (with_id (with_id 0 1) 2) 3 block h) [
  | inl three ↦ (omega (arith, three), omega (arith, three))
  | inr h ↦ elim (in_with_cases (with_id 0 1) 2 block h) [
    | inl two ↦ (omega (arith, two), omega (arith, two))
    | inr h ↦ elim (in_with_cases 0 1 block h) [
      | inl one ↦ (omega (arith, one), omega (arith, one))
      | inr none ↦ absurd (none_in_empty block none)
    ]
  ]
]

has_three : (block : ℕ) → 1 ≤ block → block ≤ 3 → Has (with_id (with_id (with_id 0 1) 2) 3) block
has_three block least most = elim (cases_eq block 3) [
  | inl three ↦ subst (λ (b : ℕ). Has (with_id (with_id (with_id 0 1) 2) 3) b) (sym three)
      (in_with_same (with_id (with_id 0 1) 2) 3)
  | inr not_three ↦ in_with_old (with_id (with_id 0 1) 2) 3 block (elim (cases_eq block 2) [
    | inl two ↦ subst (λ (b : ℕ). Has (with_id (with_id 0 1) 2) b) (sym two) (in_with_same (with_id 0 1) 2)
    | inr not_two ↦ in_with_old (with_id 0 1) 2 block (subst (λ (b : ℕ). Has (with_id 0 1) b)
        (let one : 1 ≡ block = omega (arith, least, most, not_three, not_two) in one) (in_with_same 0 1))
  ])
]

module _ (d : Disk) where
  pub found-start : AreFound d 0 (with_id (with_id (with_id 0 1) 2) 3)
  found-start = record {
    only = λ block h. inl (low_three block h);
    low = λ block least most. has_three block least most;
    slots = λ inode less. absurd (omega arith);
  }

  found_more : (n block : ℕ) → ((1 ≤ block) × (block ≤ 3)) ⊎ ((inode : ℕ) × (inode < n) × IsInSlot d inode 4 block)
      → ((1 ≤ block) × (block ≤ 3)) ⊎ ((inode : ℕ) × (inode < n + 1) × IsInSlot d inode 4 block)
  found_more n block was = elim was [
    | inl low ↦ inl low
    | inr r ↦ inr (r.0, omega (arith, r.1), r.2)
  ]

  pub found-live : (n old new : ℕ) → AreFound d n old → AreWithSlots d n 4 old new → AreFound d (n + 1) new
  found-live n old new was w = record {
    only = λ block h. elim (w.only block h) [
      | inl before ↦ found_more n block (was.only block before)
      | inr slot ↦ inr (n, omega arith, slot)
    ];
    low = λ block least most. w.stays block (was.low block least most);
    slots = λ inode less. elim (cases_eq inode n) [
      | inl same ↦ λ slot few. subst (λ (k : ℕ). HasSlot d k slot new) (sym same) (w.slots slot few)
      | inr other ↦ λ slot few is below. w.stays (pointer_of d inode slot)
          (was.slots inode (omega (arith, less, other)) slot few is below)
    ];
  }

  pub found-dead : (n set : ℕ) → is_live d n ≡ false → AreFound d n set → AreFound d (n + 1) set
  found-dead n set dead was = record {
    only = λ block h. found_more n block (was.only block h);
    low = was.low;
    slots = λ inode less. elim (cases_eq inode n) [
      | inl same ↦ λ slot few is below. absurd (false≢true (sym dead ∙ ap (is_live d) (sym same)
          ∙ (and_parts (is_live d inode) _ is).0))
      | inr other ↦ was.slots inode (omega (arith, less, other))
    ];
  }

  pub found-all : (set : ℕ) → 16 ≤ d.blocks → AreFound d 16 set → AreCompared d set
  found-all set least found block = (
    λ h. elim (found.only block h) [
      | inl low ↦ (omega (arith, low.1, least), compared_low d block low.0 low.1)
      | inr r ↦ (
        r.2.below,
        compared_pointed d block record {
          inode = r.0;
          few = r.1;
          slot = r.2.slot;
          less = r.2.less;
          points = r.2.points;
          at = r.2.at;
        },
      )
    ],
    λ is. elim (compared_from d block is.1) [
      | inl low ↦ found.low block low.0 low.1
      | inr p ↦ subst (λ (b : ℕ). Has set b) p.at (found.slots p.inode p.few p.slot p.less p.points
          (subst (λ (b : ℕ). b < d.blocks) (sym p.at) is.0))
    ],
  )

-- ---- an image that has them

module _ (image d : Disk) (set : ℕ) (compared : AreCompared d set) where
  pub shows-all : (n : ℕ) → d.blocks ≤ n
      → ((b : ℕ) → b < n → Has set b → bytes_eq (block_of image b) (block_of d b) ≡ true) → shows image d ≡ true
  shows-all n most each = shows_to image d (λ b below is. each b (omega (arith, below, most))
      ((compared b).1 (below, is)))

  pub shows-not : (b : ℕ) → ¬ (Has set b → bytes_eq (block_of image b) (block_of d b) ≡ true) → shows image d ≡ false
  shows-not b refuted = bool_not (shows image d) (λ is. refuted (λ h.
      let of = (compared b).0 h in
      shows_from image d is b of.0 of.1))
    where
      bool_not : (test : Bool) → (test ≡ true → ⊥) → test ≡ false
      bool_not true refuted = absurd (refuted refl)
      bool_not false refuted = refl

-- the first block of inodes is one of them
pub shows-not_two : (image d : Disk) → 16 ≤ d.blocks → bytes_eq (block_of image 2) (block_of d 2) ≡ false
    → shows image d ≡ false
shows-not_two image d least differ = bool_not (shows image d) (λ is.
    false≢true
    (sym differ ∙ shows_from image d is 2 (omega (arith, least)) (compared_low d 2 (omega arith) (omega arith))))
  where
    bool_not : (test : Bool) → (test ≡ true → ⊥) → test ≡ false
    bool_not true refuted = absurd (refuted refl)
    bool_not false refuted = refl
