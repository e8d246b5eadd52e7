-- How many commits patches have, and how many of them a set has.
use Rattle.std.proofs.Common.{◌≡◌, ℕ, zero, suc, ◌+◌, ◌≤◌, inl, inr, List, [], ◌∷◌, ◌++◌, length, map, Bool, true}
use Rattle.std.proofs.Common.{false, ◌&&◌, Some, arith, refl, ◌∙◌, ap, subst}
use Rattle.std.specs.Prelude.{slice_get, if◌then◌else◌}
use Rattle.std.proofs.lemmas.Bool.{cases_Bool, and_parts}
use Rattle.patch_sets.specs.Sets.{Has, has, with_id}
use Rattle.patch_sets.proofs.Bits.{in_with_same, in_with_old}
use Rattle.crash_model.specs.Disk.{Disk}
use Rattle.crash_model.specs.Trace.{Emitted, Origin, part_of, in_place_patch, copies, journal_patches}
use Rattle.crash_model.specs.Waiting.{ids_from}
use Rattle.crash_model.specs.declared.plans.Change.{Change}
use Rattle.crash_model.specs.declared.rules.Part.TheVariants.{Commit, Done}
use Rattle.full_journal_laws.specs.Full.{is_commit, commits_from}

abbrev pub one_if : Bool → ℕ
one_if b = if b then 1 else 0

-- how many commits patches have
abbrev pub commits_of : List Emitted → ℕ
commits_of [] = 0
commits_of (e ∷ es) = one_if (is_commit e.part) + commits_of es

pub commits_of-append : (xs ys : List Emitted) → commits_of (xs ++ ys) ≡ commits_of xs + commits_of ys
commits_of-append [] ys = omega arith
commits_of-append (x ∷ xs) ys = let rest = commits_of-append xs ys in omega arith

pub no_copies : (after : Disk) (t j : ℕ) (g : Origin) (bs : List ℕ) → commits_of (copies after t j g bs) ≡ 0
no_copies after t j g [] = refl
no_copies after t j g (b ∷ bs) = let rest = no_copies after t (j + 1) g bs in omega arith

pub no_changes : (t : ℕ) (g : Origin) (cs : List Change) → commits_of (map (in_place_patch t g) cs) ≡ 0
no_changes t g [] = refl
no_changes t g (c ∷ cs) = let rest = no_changes t g cs in omega arith

-- a transaction has one
pub one_commit : (after : Disk) (t j : ℕ) (g : Origin) (targets : List ℕ) (cs : List Change)
    → commits_of (journal_patches after t j g targets cs) ≡ 1
one_commit after t j g targets cs =
    let commit : Emitted = part_of t g Commit j 0 (0xC7 ∷ t ∷ length targets ∷ targets) in
    let done : Emitted = part_of t g Done j 0 (0xC8 ∷ []) in
    let plain : List Emitted = map (in_place_patch t g) cs in
    let whole = commits_of-append (copies after t (j + 1) g targets) (commit ∷ (plain ++ (done ∷ []))) in
    let end = commits_of-append plain (done ∷ []) in
    let first = no_copies after t (j + 1) g targets in
    let behind = no_changes t g cs in
    omega arith

-- ---- those of a set

pub commits_from-append : (id : ℕ) (xs ys : List Emitted) (set : ℕ)
    → commits_from id (xs ++ ys) set ≡ commits_from id xs set + commits_from (id + length xs) ys set
commits_from-append id [] ys set =
    let none : List Emitted = [] in
    let at : id ≡ id + length none = omega arith in
    let there : commits_from id ys set ≡ commits_from (id + length none) ys set =
    ap (λ (m : ℕ). commits_from m ys set) at in
    omega arith
commits_from-append id (x ∷ xs) ys set =
    let rest = commits_from-append (id + 1) xs ys set in
    let at : id + 1 + length xs ≡ id + suc (length xs) = omega arith in
    let there = ap (λ (m : ℕ). commits_from m ys set) at in
    omega arith

pub commits_few : (id : ℕ) (es : List Emitted) (set : ℕ) → commits_from id es set ≤ commits_of es
commits_few id [] set = omega arith
commits_few id (e ∷ es) set =
    let rest = commits_few (id + 1) es set in
    let first : one_if (is_commit e.part && has set id) ≤ one_if (is_commit e.part) =
    less (is_commit e.part) (has set id) in
    omega arith
  where
    less : (a b : Bool) → one_if (a && b) ≤ one_if a
    less true true = omega arith
    less true false = omega arith
    less false b = omega arith

-- a set that has each of them
pub commits_all : (id : ℕ) (es : List Emitted) (set : ℕ)
    → ((i : ℕ) (e : Emitted) → slice_get es i ≡ Some e → is_commit e.part ≡ true → has set (id + i) ≡ true)
    → commits_of es ≤ commits_from id es set
commits_all id [] set every = omega arith
commits_all id (e ∷ es) set every =
    let rest = commits_all (id + 1) es set (λ i x at is. subst (λ (m : ℕ). has set m ≡ true) (next id i)
    (every (suc i) x at is)) in
    let first : one_if (is_commit e.part) ≤ one_if (is_commit e.part && has set id) =
    held (is_commit e.part) (has set id) (λ is. subst (λ (m : ℕ). has set m ≡ true) (none id) (every 0 e refl is)) in
    omega arith
  where
    next : (id i : ℕ) → id + suc i ≡ id + 1 + i
    next id i = omega arith

    none : (id : ℕ) → id + 0 ≡ id
    none id = omega arith

    held : (a b : Bool) → (a ≡ true → b ≡ true) → one_if a ≤ one_if (a && b)
    held true b is = rw (is refl) (omega arith)
    held false b is = omega arith

-- a set that has one
pub commits_one : (id : ℕ) (es : List Emitted) (set i : ℕ) (e : Emitted) → slice_get es i ≡ Some e
    → is_commit e.part ≡ true → has set (id + i) ≡ true → 1 ≤ commits_from id es set
commits_one id [] set i e at is held = absurd (cc)
commits_one id (x ∷ xs) set zero e at is held =
    let same : x ≡ e = cc in
    let here : (is_commit x.part && has set id) ≡ true = both (is_commit x.part) (has set id)
    (ap (λ (y : Emitted). is_commit y.part) same ∙ is) (subst (λ (m : ℕ). has set m ≡ true) (none id) held) in
    rw here (omega arith)
  where
    none : (id : ℕ) → id + 0 ≡ id
    none id = omega arith

    both : (a b : Bool) → a ≡ true → b ≡ true → (a && b) ≡ true
    both a b p q = rw (p, q) refl
commits_one id (x ∷ xs) set (suc i) e at is held =
    let rest = commits_one (id + 1) xs set i e at is (subst (λ (m : ℕ). has set m ≡ true) (next id i) held) in
    omega arith
  where
    next : (id i : ℕ) → id + suc i ≡ id + 1 + i
    next id i = omega arith

-- a commit that a set has
pub record HasCommit (id : ℕ) (es : List Emitted) (set : ℕ) : Type 0 where
  pub place : ℕ
  pub commit : Emitted
  pub at : slice_get es place ≡ Some commit
  pub is : is_commit commit.part ≡ true
  pub held : has set (id + place) ≡ true

pub some_commit : (id : ℕ) (es : List Emitted) (set : ℕ) → 1 ≤ commits_from id es set → HasCommit id es set
some_commit id [] set some = absurd (omega arith)
some_commit id (e ∷ es) set some = elim (cases_Bool (is_commit e.part && has set id)) [
  | inl here ↦
      let parts = and_parts (is_commit e.part) (has set id) here in
      record {
        place = 0;
        commit = e;
        at = refl;
        is = parts.0;
        held = subst (λ (m : ℕ). has set m ≡ true) (none id) parts.1;
      }
  | inr other ↦
      let more : one_if (is_commit e.part && has set id) ≡ 0 = ap one_if other in
      let rest = some_commit (id + 1) es set (omega arith) in
      record {
        place = suc rest.place;
        commit = rest.commit;
        at = rest.at;
        is = rest.is;
        held = subst (λ (m : ℕ). has set m ≡ true) (next id rest.place) rest.held;
      }
]
  where
    none : (id : ℕ) → id ≡ id + 0
    none id = omega arith

    next : (id i : ℕ) → id + 1 + i ≡ id + suc i
    next id i = omega arith

-- ---- ids of patches

pub in_ids : (id : ℕ) (test : Emitted → Bool) (es : List Emitted) (i : ℕ) (e : Emitted) → slice_get es i ≡ Some e
    → test e ≡ true → Has (ids_from id test es) (id + i)
in_ids id test [] i e at is = absurd (cc)
in_ids id test (x ∷ xs) zero e at is =
    let same : x ≡ e = cc in
    let here : test x ≡ true = ap test same ∙ is in
    rw here (subst (λ (m : ℕ). Has (with_id (ids_from (id + 1) test xs) id) m) (none id)
    (in_with_same (ids_from (id + 1) test xs) id))
  where
    none : (id : ℕ) → id ≡ id + 0
    none id = omega arith
in_ids id test (x ∷ xs) (suc i) e at is =
    let rest = subst (λ (m : ℕ). Has (ids_from (id + 1) test xs) m) (next id i) (in_ids (id + 1) test xs i e at is) in
    more (test x) rest
  where
    next : (id i : ℕ) → id + 1 + i ≡ id + suc i
    next id i = omega arith

    more : (b : Bool) → Has (ids_from (id + 1) test xs) (id + suc i)
        → Has (if b then with_id (ids_from (id + 1) test xs) id else ids_from (id + 1) test xs) (id + suc i)
    more true held = in_with_old (ids_from (id + 1) test xs) id (id + suc i) held
    more false held = held
