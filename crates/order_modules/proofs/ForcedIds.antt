-- The ids that a line waits for, found one after another.
use Rattle.std.proofs.Common.{◌≡◌, ℕ, zero, suc, ◌+◌, ◌<◌, ◌≤◌, inl, inr, List, [], ◌∷◌, length, map, drop, Bool, true}
use Rattle.std.proofs.Common.{false, cond, max, bit_or, Some, refl, sym, ap, ◌∙◌, subst, arith}
use Rattle.std.specs.Prelude.{slice_get, ◌&&◌}
use Rattle.std.specs.Cmp.{nat_cmp_is}
use Rattle.std.specs.Ordering.{ord_max, nat_cmp, is_lt, MatchOrdering}
use Rattle.std.specs.declared.cmp.Ordering.{Ordering}
use Rattle.std.specs.declared.cmp.Ordering.TheVariants.{Less, Equal, Greater}
use Rattle.std.proofs.lemmas.Bool.{cases_lt}
use Rattle.std.specs.Int.Bits.{or_zero_l, or_zero_r}
use Rattle.patch_sets.specs.Sets.{Has, with_id}
use Rattle.patch_sets.proofs.Bits.{same_set, in_or_cases, in_or_left, in_or_right, in_with_cases, in_with_old}
use Rattle.patch_sets.proofs.Bits.{in_with_same}
use Rattle.crash_model.specs.Emitted.{Emitted}
use Rattle.crash_model.specs.Patches.{Place}
use Rattle.crash_model.specs.Waiting.{ids_from, last_op_number, sync_forces, fsync_forces}
use Rattle.crash_model.specs.declared.modules.Module.{Module}
use Rattle.crash_model.specs.declared.modules.Module.TheVariants.{Async, Soft, Meta, Full}
use Rattle.crash_model.specs.declared.ranges.Range.{Range}
use Rattle.traced_patches.specs.Labels.{emitted_at, emitted_by, emitted_of}
use Rattle.traced_patches.specs.declared.labels.Label.{Label}
use Rattle.order_modules.specs.Forcing.{has_contents, forces_with, is_data_part, is_commit_part}
use Rattle.order_modules.proofs.Grouping.{or_first}

-- ---- sets

put : (a b id x : ℕ) → Has (bit_or (with_id a id) b) x → Has (bit_or a (with_id b id)) x
put a b id x has = elim (in_or_cases (with_id a id) b x has) [
  | inl one ↦ elim (in_with_cases a id x one) [
    | inl e ↦ in_or_right a (with_id b id) x (subst (λ (y : ℕ). Has (with_id b id) y) (sym e) (in_with_same b id))
    | inr old ↦ in_or_left a (with_id b id) x old
  ]
  | inr other ↦ in_or_right a (with_id b id) x (in_with_old b id x other)
]

back : (a b id x : ℕ) → Has (bit_or a (with_id b id)) x → Has (bit_or (with_id a id) b) x
back a b id x has = elim (in_or_cases a (with_id b id) x has) [
  | inl one ↦ in_or_left (with_id a id) b x (in_with_old a id x one)
  | inr other ↦ elim (in_with_cases b id x other) [
    | inl e ↦ in_or_left (with_id a id) b x (subst (λ (y : ℕ). Has (with_id a id) y) (sym e) (in_with_same a id))
    | inr old ↦ in_or_right (with_id a id) b x old
  ]
]

or_swap : (a b id : ℕ) → bit_or (with_id a id) b ≡ bit_or a (with_id b id)
or_swap a b id = same_set _ _ (put a b id) (back a b id)

-- ---- ids

-- these ids, and those from one on, are all that pass
abbrev pub AreForced : (Emitted → Bool) → List Emitted → ℕ → ℕ → Type 0
AreForced test all i ids = bit_or ids (ids_from i test (drop i all)) ≡ ids_from 0 test all

rest_at : (all : List Emitted) (i : ℕ) (e : Emitted) → slice_get all i ≡ Some e → drop i all ≡ e ∷ drop (suc i) all
rest_at [] i e at = absurd (cc)
rest_at (x ∷ xs) zero e at = let same : x ≡ e = cc in ap (λ (y : Emitted). y ∷ xs) same
rest_at (x ∷ xs) (suc i) e at = rest_at xs i e at

rest_of : (all : List Emitted) (i : ℕ) (e : Emitted) → slice_get all i ≡ Some e → drop i all ≡ e ∷ drop (i + 1) all
rest_of all i e at = rest_at all i e at
    ∙ ap (λ (n : ℕ). e ∷ drop n all) (let next : suc i ≡ i + 1 = omega arith in next)

none_past : (all : List Emitted) (i : ℕ) → length all ≤ i → drop i all ≡ []
none_past [] zero past = refl
none_past [] (suc i) past = refl
none_past (x ∷ xs) zero past = absurd (omega arith)
none_past (x ∷ xs) (suc i) past = none_past xs i (omega arith)

pub forced_none : (test : Emitted → Bool) (all : List Emitted) → AreForced test all 0 0
forced_none test all = or_zero_l (ids_from 0 test all)

module _ (test : Emitted → Bool) (all : List Emitted) (i ids : ℕ) (so_far : AreForced test all i ids) where
  pub forced_one : (e : Emitted) → slice_get all i ≡ Some e → test e ≡ true → AreForced test all (i + 1) (with_id ids i)
  forced_one e at passes =
      let rest = ids_from (i + 1) test (drop (i + 1) all) in
      let here : ids_from i test (drop i all) ≡ with_id rest i =
      ap (ids_from i test) (rest_of all i e at) ∙ ap (λ (b : Bool). cond b (with_id rest i) rest) passes in
      or_swap ids rest i ∙ (ap (bit_or ids) (sym here) ∙ so_far)

  pub forced_skip : (e : Emitted) → slice_get all i ≡ Some e → test e ≡ false → AreForced test all (i + 1) ids
  forced_skip e at fails =
      let rest = ids_from (i + 1) test (drop (i + 1) all) in
      let here : ids_from i test (drop i all) ≡ rest =
      ap (ids_from i test) (rest_of all i e at) ∙ ap (λ (b : Bool). cond b (with_id rest i) rest) fails in
      ap (bit_or ids) (sym here) ∙ so_far

  pub forced_end : length all ≤ i → ids ≡ ids_from 0 test all
  forced_end past = sym (or_zero_r ids) ∙ (ap (λ (es : List Emitted). bit_or ids (ids_from i test es))
      (sym (none_past all i past)) ∙ so_far)

-- ---- the last operation

-- this one, and that of the patches from one on, give that of all
abbrev pub IsLast : (Emitted → Bool) → List Emitted → ℕ → ℕ → Type 0
IsLast test all i last = max last (last_op_number test (drop i all)) ≡ last_op_number test all

pub last_none : (test : Emitted → Bool) (all : List Emitted) → IsLast test all 0 0
last_none test all = omega arith

module _ (test : Emitted → Bool) (all : List Emitted) (i last : ℕ) (so_far : IsLast test all i last) where
  pub last_one : (e : Emitted) → slice_get all i ≡ Some e → test e ≡ true
      → IsLast test all (i + 1) (max last e.op_number)
  last_one e at passes =
      let rest = last_op_number test (drop (i + 1) all) in
      let here : last_op_number test (drop i all) ≡ max e.op_number rest =
      ap (last_op_number test) (rest_of all i e at) ∙ ap (λ (b : Bool). cond b (max e.op_number rest) rest) passes in
      omega (arith, here, so_far)

  pub last_skip : (e : Emitted) → slice_get all i ≡ Some e → test e ≡ false → IsLast test all (i + 1) last
  last_skip e at fails =
      let rest = last_op_number test (drop (i + 1) all) in
      let here : last_op_number test (drop i all) ≡ rest =
      ap (last_op_number test) (rest_of all i e at) ∙ ap (λ (b : Bool). cond b (max e.op_number rest) rest) fails in
      ap (max last) (sym here) ∙ so_far

  pub last_end : length all ≤ i → last ≡ last_op_number test all
  last_end past = let end : max last 0 ≡ last_op_number test all =
      ap (λ (es : List Emitted). max last (last_op_number test es)) (sym (none_past all i past)) ∙ so_far in
      omega (arith, end)

-- the larger of two
pub larger : (a b : ℕ) → ord_max nat_cmp a b ≡ max a b
larger a b = elim (cases_lt b a) [
  | inl less ↦ by Less less ∙ (let most : a ≡ max a b = omega arith in most)
  | inr up ↦ elim (cases_lt a b) [
    | inl more ↦ by Greater more ∙ (let most : b ≡ max a b = omega arith in most)
    | inr down ↦
        let same : b ≡ a = omega arith in
        by Equal same ∙ (let most : b ≡ max a b = omega arith in most)
  ]
]
  where
    by : (o : Ordering) → MatchOrdering o (b < a) (b ≡ a) (a < b) → cond (is_lt (nat_cmp b a)) a b ≡ cond (is_lt o) a b
    by o is = ap (λ (x : Ordering). cond (is_lt x) a b) (sym (nat_cmp_is b a o is))

-- ---- tests of two parts

pub both : (a b r : Bool) → a ≡ true → r ≡ b → r ≡ (a && b)
both true b r one two = two
both false b r one two = absurd (cc)

-- ---- labels alone

pub labelled_at : (labels : List Label) (i : ℕ) (label : Label) → slice_get labels i ≡ Some label
    → slice_get (map emitted_of labels) i ≡ Some (emitted_of label)
labelled_at [] i label at = absurd (cc)
labelled_at (l ∷ ls) zero label at = let same : l ≡ label = cc in ap (λ (m : Label). Some (emitted_of m)) same
labelled_at (l ∷ ls) (suc i) label at = labelled_at ls i label at

-- a sync forces file data
pub data_forced : (kind : Module) (label : Label) → is_data_part label.part ≡ true
    → sync_forces kind (emitted_of label) ≡ true
data_forced Async label is = refl
data_forced Soft label is = refl
data_forced Meta label is = or_first (is_data_part label.part) (is_commit_part label.part) is
data_forced Full label is = or_first (is_data_part label.part) (is_commit_part label.part) is

-- a sync looks at labels alone
sync_labels : (kind : Module) (p : Place) (label : Label)
    → sync_forces kind (emitted_of label) ≡ sync_forces kind (emitted_at p label)
sync_labels Async p label = refl
sync_labels Soft p label = refl
sync_labels Meta p label = refl
sync_labels Full p label = refl

pub sync_labelled : (kind : Module) (id : ℕ) (ps : List Place) (ls : List Label) → length ls ≡ length ps
    → ids_from id (sync_forces kind) (map emitted_of ls) ≡ ids_from id (sync_forces kind) (emitted_by ps ls)
sync_labelled kind id [] [] same = refl
sync_labelled kind id [] (l ∷ ls) same = absurd (omega arith)
sync_labelled kind id (p ∷ ps) [] same = absurd (omega arith)
sync_labelled kind id (p ∷ ps) (l ∷ ls) same =
    let rest = sync_labelled kind (id + 1) ps ls (omega arith) in
    ap (λ (n : ℕ). cond (sync_forces kind (emitted_of l)) (with_id n id) n) rest
    ∙ ap (λ (b : Bool). cond b (with_id (ids_from (id + 1) (sync_forces kind) (emitted_by ps ls)) id)
    (ids_from (id + 1) (sync_forces kind) (emitted_by ps ls))) (sync_labels kind p l)

-- ---- an fsync by its last operation

pub forces_same : (kind : Module) (ranges : List Range) (all : List Emitted) (p : Emitted)
    → forces_with kind ranges (last_op_number (has_contents ranges) all) p ≡ fsync_forces kind ranges all p
forces_same Async ranges all p = refl
forces_same Soft ranges all p = refl
forces_same Meta ranges all p = refl
forces_same Full ranges all p = refl

pub ids_same : (f g : Emitted → Bool) → ((p : Emitted) → f p ≡ g p) → (id : ℕ) (es : List Emitted)
    → ids_from id f es ≡ ids_from id g es
ids_same f g same id [] = refl
ids_same f g same id (e ∷ es) =
    let rest = ids_same f g same (id + 1) es in
    ap (λ (n : ℕ). cond (f e) (with_id n id) n) rest
    ∙ ap (λ (b : Bool). cond b (with_id (ids_from (id + 1) g es) id) (ids_from (id + 1) g es)) (same e)
