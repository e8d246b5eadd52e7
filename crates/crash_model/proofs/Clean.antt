-- An image is clean exactly if no test finds a fault.
use Rattle.std.proofs.Common.{◌≡◌, ℕ, zero, suc, ◌<◌, ◌⊎◌, inl, inr, List, [], ◌∷◌, ◌++◌, Bool, true, false, arith}
use Rattle.std.proofs.Common.{refl, subst, sym, length}
use Rattle.std.specs.Prelude.{option_to_list}
use Rattle.crash_model.specs.Lists.{each_below, some_below, when}
use Rattle.crash_model.specs.Disk.{Disk}
use Rattle.crash_model.proofs.EachBelow.{each_below-none, some_below-none}
use Rattle.crash_model.specs.Layout.{target_of, pointer_of, links_of}
use Rattle.crash_model.specs.declared.fault.Fault.{Fault}
use Rattle.crash_model.specs.declared.fault.Fault.TheVariants.{Dangling, Twice, Unwritten, LowLinks, MarkedFree, Wild}
use Rattle.crash_model.specs.Faults.{IsClean, is_dangling, is_twice, is_unwritten, has_low_links, is_marked_free}
use Rattle.crash_model.specs.Faults.{is_wild, each_slot, each_entry, entries_to, faults}

-- what the tests say of a clean image
pub record HasNoFault (d : Disk) : Type 0 where
  pub no_dangling : (dir : ℕ) → dir < 16 → (k : ℕ) → k < 10 → is_dangling d dir k ≡ false
  pub no_twice : (block : ℕ) → block < d.blocks → is_twice d block ≡ false
  pub no_unwritten : (inode : ℕ) → inode < 16 → (slot : ℕ) → slot < 4 → is_unwritten d inode slot ≡ false
  pub no_low_links : (inode : ℕ) → inode < 16 → has_low_links d inode ≡ false
  pub no_marked_free : (inode : ℕ) → inode < 16 → (slot : ℕ) → slot < 4 → is_marked_free d inode slot ≡ false
  pub no_wild : (inode : ℕ) → inode < 16 → (slot : ℕ) → slot < 4 → is_wild d inode slot ≡ false

-- ---- empty lists

pub nil_left : {X : Type 0} (xs ys : List X) → xs ++ ys ≡ [] → xs ≡ []
nil_left [] ys e = refl
nil_left (x ∷ xs) ys e = cc

pub nil_right : {X : Type 0} (xs ys : List X) → xs ++ ys ≡ [] → ys ≡ []
nil_right [] ys e = e
nil_right (x ∷ xs) ys e = cc

pub nil_both : {X : Type 0} (xs ys : List X) → xs ≡ [] → ys ≡ [] → xs ++ ys ≡ []
nil_both xs ys p q = rw (p, q) refl

below_suc : (k n : ℕ) → k < suc n → (k < n) ⊎ (k ≡ n)
below_suc k n h = grind arith

each_none : {X : Type 0} (n : ℕ) (list : ℕ → List X) → each_below n list ≡ [] → (k : ℕ) → k < n → list k ≡ []
unfolding each_below
each_none zero list e k below = absurd (omega arith)
each_none (suc n) list e k below = elim (below_suc k n below) [
  | inl less ↦ each_none n list (nil_left (each_below n list) (list n) e) k less
  | inr same ↦ subst (λ (m : ℕ). list m ≡ []) (sym same) (nil_right (each_below n list) (list n) e)
]

no_option : {X : Type 0} (b : Bool) (x : X) → option_to_list (when b x) ≡ [] → b ≡ false
no_option true x e = cc
no_option false x e = refl

-- ---- tests that find nothing

module _ (test : ℕ → Bool) (make : ℕ → Fault) where
  pub some_none : (n : ℕ) → some_below n (λ k. when (test k) (make k)) ≡ [] → (k : ℕ) → k < n → test k ≡ false
  unfolding some_below
  some_none zero e k below = absurd (omega arith)
  some_none (suc n) e k below = elim (below_suc k n below) [
    | inl less ↦ some_none n (nil_left _ (option_to_list (when (test n) (make n))) e) k less
    | inr same ↦ subst (λ (m : ℕ). test m ≡ false) (sym same)
        (no_option (test n) (make n) (nil_right (some_below n (λ k. when (test k) (make k))) _ e))
  ]

  pub none_some : (n : ℕ) → ((k : ℕ) → k < n → test k ≡ false) → some_below n (λ k. when (test k) (make k)) ≡ []
  none_some n h = some_below-none n _ (λ k below. rw (h k below) refl)

module _ (test : ℕ → ℕ → Bool) (make : ℕ → ℕ → Fault) where
  pub slots_none : each_slot (λ i s. when (test i s) (make i s)) ≡ [] → (i : ℕ) → i < 16 → (s : ℕ) → s < 4
      → test i s ≡ false
  unfolding each_slot
  slots_none e i a = some_none (test i) (make i) 4 (each_none 16 (λ j. some_below 4 (λ s. when (test j s) (make j s))) e
      i a)

  pub none_slots : ((i : ℕ) → i < 16 → (s : ℕ) → s < 4 → test i s ≡ false)
      → each_slot (λ i s. when (test i s) (make i s)) ≡ []
  unfolding each_slot
  none_slots h = each_below-none 16 _ (λ i a. none_some (test i) (make i) 4 (h i a))

  pub entries_none : each_entry (λ dir k. when (test dir k) (make dir k)) ≡ [] → (dir : ℕ) → dir < 16 → (k : ℕ) → k < 10
      → test dir k ≡ false
  unfolding each_entry
  entries_none e dir a = some_none (test dir) (make dir) 10
      (each_none 16 (λ j. some_below 10 (λ k. when (test j k) (make j k))) e dir a)

  pub none_entries : ((dir : ℕ) → dir < 16 → (k : ℕ) → k < 10 → test dir k ≡ false)
      → each_entry (λ dir k. when (test dir k) (make dir k)) ≡ []
  unfolding each_entry
  none_entries h = each_below-none 16 _ (λ dir a. none_some (test dir) (make dir) 10 (h dir a))

-- ---- all six

module _ (d : Disk) where
  dangling : ℕ → ℕ → Fault
  dangling dir k = Dangling dir k (target_of d dir k)

  unwritten : ℕ → ℕ → Fault
  unwritten i s = Unwritten i s (pointer_of d i s)

  low_links : ℕ → Fault
  low_links i = LowLinks i (length (entries_to d i)) (links_of d i)

  marked_free : ℕ → ℕ → Fault
  marked_free i s = MarkedFree i s (pointer_of d i s)

  wild : ℕ → ℕ → Fault
  wild i s = Wild i s (pointer_of d i s)

  pub no_fault_clean : HasNoFault d → IsClean d
  unfolding faults dangling unwritten low_links marked_free wild
  no_fault_clean none = record {
    faultless =
        nil_both _ _ (nil_both _ _ (nil_both _ _ (nil_both _ _ (nil_both _ _
        (none_entries (is_dangling d) dangling none.no_dangling)
        (none_some (is_twice d) Twice d.blocks none.no_twice))
        (none_slots (is_unwritten d) unwritten none.no_unwritten))
        (none_some (has_low_links d) low_links 16 none.no_low_links))
        (none_slots (is_marked_free d) marked_free none.no_marked_free))
        (none_slots (is_wild d) wild none.no_wild);
  }

  pub clean_no_fault : IsClean d → HasNoFault d
  unfolding faults dangling unwritten low_links marked_free wild
  clean_no_fault clean =
      let e5 = nil_left _ (each_slot (λ i s. when (is_wild d i s) (wild i s))) clean.faultless in
      let e4 = nil_left _ (each_slot (λ i s. when (is_marked_free d i s) (marked_free i s))) e5 in
      let e3 = nil_left _ (some_below 16 (λ i. when (has_low_links d i) (low_links i))) e4 in
      let e2 = nil_left _ (each_slot (λ i s. when (is_unwritten d i s) (unwritten i s))) e3 in
      record {
        no_dangling = entries_none (is_dangling d) dangling
            (nil_left _ (some_below d.blocks (λ b. when (is_twice d b) (Twice b))) e2);
        no_twice = some_none (is_twice d) Twice d.blocks (nil_right
            (each_entry (λ dir k. when (is_dangling d dir k) (dangling dir k))) _ e2);
        no_unwritten = slots_none (is_unwritten d) unwritten (nil_right _ _ e3);
        no_low_links = some_none (has_low_links d) low_links 16 (nil_right _ _ e4);
        no_marked_free = slots_none (is_marked_free d) marked_free (nil_right _ _ e5);
        no_wild = slots_none (is_wild d) wild (nil_right _ _ clean.faultless);
      }
