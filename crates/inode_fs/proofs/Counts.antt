-- How many changes a plan has: at least one, and at most nine.
use Rattle.std.proofs.Common.{ℕ, zero, suc, ◌+◌, ◌-◌, ◌≤◌, List, [], ◌∷◌, true, false, Option, Some, None}
use Rattle.std.proofs.Common.{Result, Ok}
use Rattle.std.proofs.Common.{Err, length, arith, length-append, subst, sym, ◌∙◌, ap, ◌↔◌, ◌≡◌, ◌⊎◌, inl, inr, refl}
use Rattle.std.specs.Prelude.{option_to_list, MatchResult, IfOk, nat_lt, if◌then◌else◌}
use Rattle.crash_model.specs.Disk.{Disk}
use Rattle.crash_model.specs.Lists.{some_below}
use Rattle.crash_model.specs.Layout.{target_of, links_of}
use Rattle.crash_model.specs.Plan.{plan_of, map_clear_at, map_clears, link_count, inode_free, name_dropped, new_data_at}
use Rattle.crash_model.specs.Plan.{new_data_in, touch, entry_set, entry_clear}
use Rattle.crash_model.specs.Slots.{slot_number}
use Rattle.crash_model.specs.declared.operations.Slot.{Slot}
use Rattle.crash_model.specs.declared.operations.Op.{Op}
use Rattle.crash_model.specs.declared.operations.Op.TheVariants.{Create, Write, Link, Unlink, Rename, Mkdir, Rmdir}
use Rattle.crash_model.specs.declared.operations.Op.TheVariants.{Overwrite, Truncate, Replace}
use Rattle.crash_model.specs.declared.plans.Change.{Change}
use Rattle.crash_model.specs.declared.plans.Role.TheVariants.{LinkUp, LinkDown}
use Rattle.inode_fs.proofs.Accepted.{create-ok, write-ok, link-ok, rename-ok, unlink-ok, mkdir-ok, rmdir-ok}
use Rattle.inode_fs.proofs.Accepted.{overwrite-ok, truncate-ok, replace-ok}

-- what follows of two facts on an answer that is accepted
pub ok-both : {X Y : Type 0} (r : Result X Y) {P Q R : X → Type 0} (E : Y → Type 0) → MatchResult r P E → IfOk r Q
    → ((x : X) → P x → Q x → R x) → IfOk r R
ok-both (Ok x) E first second both = both x first second
ok-both (Err y) E first second both = tt

-- two answers refuse alike
pub same-fault : {X Y E : Type 0} (r : Result X E) (s : Result Y E) (items : X → Y) (fault : E)
    → MatchResult r (λ x. s ≡ Ok (items x)) (λ e. s ≡ Err e) → ((r ≡ Err fault) ↔ (s ≡ Err fault))
same-fault {X = X} {Y = Y} {E = E} (Ok x) s items fault is = (
  λ e. absurd (let no : ◌≡◌ {A = Result X E} (Ok x) (Err fault) = e in cc),
  λ e. absurd (let no : ◌≡◌ {A = Result Y E} (Ok (items x)) (Err fault) = sym is ∙ e in cc),
)
same-fault {X = X} {Y = Y} {E = E} (Err g) s items fault is = (
  λ e. let same : ◌≡◌ {A = Result X E} (Err g) (Err fault) = e in let at : g ≡ fault = cc in is
      ∙ ap (λ (x : E). Err x) at,
  λ e. let same : ◌≡◌ {A = Result Y E} (Err g) (Err fault) = sym is ∙ e in let at : g ≡ fault = cc in
      ap (λ (x : E). Err x) at,
)

abbrev pub IsShort : List Change → Type 0
IsShort changes = (1 ≤ length changes) × (length changes ≤ 8)

-- four changes, of which the last is in the block of the first, and at most five more
pub record SharesBlock (changes : List Change) : Type 0 where
  pub first : Change
  pub second : Change
  pub third : Change
  pub fourth : Change
  pub rest : List Change
  pub are : changes ≡ first ∷ second ∷ third ∷ fourth ∷ rest
  pub same : fourth.block ≡ first.block
  pub few : length rest ≤ 5

-- one to five
abbrev pub IsFew : List Change → Type 0
IsFew changes = (1 ≤ length changes) × (length changes ≤ 5)

one_at_most : (o : Option Change) → length (option_to_list o) ≤ 1
one_at_most (Some c) = omega arith
one_at_most None = omega arith

some_below-short : (n : ℕ) (at : ℕ → Option Change) → length (some_below n at) ≤ n
unfolding some_below
some_below-short zero at = omega arith
some_below-short (suc n) at =
    let here = one_at_most (at n) in
    let before = some_below-short n at in
    let both = length-append (some_below n at) (option_to_list (at n)) in
    omega arith

-- a name that goes changes the inode, and the map for four blocks at most
pub dropped-short : (d : Disk) (i : ℕ) → IsFew (name_dropped d i)
dropped-short d i =
    let few = some_below-short 4 (map_clear_at d i) in
    elim (nat_lt 1 (links_of d i)) as (λ t. IsFew (if t then link_count LinkDown i (links_of d i - 1) ∷ []
    else (inode_free d i ∷ map_clears d i))) [
      | true ↦ (omega arith, omega arith)
      | false ↦ (omega arith, omega arith)
    ]

data-short : (d : Disk) (i : ℕ) (slot : Option Slot) → length (new_data_in d i slot) ≤ 4
data-short d i None = some_below-short 4 (new_data_at d i)
data-short d i (Some slot) = let one = one_at_most (new_data_at d i (slot_number slot)) in omega arith

-- one to eight changes, or up to nine of which the fourth is in the block of the first
pub plan-shape : (d : Disk) (op : Op) (changes : List Change) → plan_of d op ≡ Ok changes → IsShort changes
    ⊎ SharesBlock changes
plan-shape d (Create path) changes e = let f = create-ok d path changes e in
    inl (subst IsShort (sym f.are) (omega arith, omega arith))
plan-shape d (Write path) changes e = let f = write-ok d path changes e in
    inl (subst IsShort (sym f.are) (omega arith, omega arith))
plan-shape d (Link old new) changes e = let f = link-ok d old new changes e in
    inl (subst IsShort (sym f.are) (omega arith, omega arith))
plan-shape d (Rename old new) changes e = let f = rename-ok d old new changes e in
    inl (subst IsShort (sym f.are) (omega arith, omega arith))
plan-shape d (Mkdir path) changes e = let f = mkdir-ok d path changes e in
    inl (subst IsShort (sym f.are) (omega arith, omega arith))
plan-shape d (Rmdir path) changes e =
    let f = rmdir-ok d path changes e in
    let rest = one_at_most (map_clear_at d (target_of d f.dir f.k) 0) in
    inl (subst IsShort (sym f.are) (omega arith, omega arith))
plan-shape d (Unlink path) changes e =
    let f = unlink-ok d path changes e in
    let few = dropped-short d (target_of d f.dir f.k) in
    inl (subst IsShort (sym f.are) (omega arith, omega (arith, few.1)))
plan-shape d (Overwrite path slot) changes e =
    let f = overwrite-ok d path slot changes e in
    let target = target_of d f.dir f.k in
    let few = data-short d target slot in
    let both = length-append (new_data_in d target slot) (touch d target ∷ []) in
    inl (subst IsShort (sym f.are) (omega arith, omega arith))
plan-shape d (Truncate path) changes e =
    let f = truncate-ok d path changes e in
    let few = some_below-short 4 (map_clear_at d (target_of d f.dir f.k)) in
    inl (subst IsShort (sym f.are) (omega arith, omega arith))
plan-shape d (Replace old new) changes e =
    let f = replace-ok d old new changes e in
    let few = dropped-short d (target_of d f.dir f.k) in
    let target = target_of d f.old_dir f.old_k in
    inr (record {
      first = link_count LinkUp target (links_of d target + 1);
      second = entry_set d f.dir f.k target new.last;
      third = entry_clear d f.old_dir f.old_k;
      fourth = link_count LinkDown target (links_of d target);
      rest = name_dropped d (target_of d f.dir f.k);
      are = f.are;
      same = refl;
      few = few.1;
    })

pub plan-count : (d : Disk) (op : Op) (changes : List Change) → plan_of d op ≡ Ok changes → (1 ≤ length changes)
    × (length changes ≤ 9)
plan-count d op changes e = elim (plan-shape d op changes e) [
  | inl short ↦ (short.0, omega (arith, short.1))
  | inr s ↦ subst (λ (x : List Change). (1 ≤ length x) × (length x ≤ 9)) (sym s.are) (omega arith, omega (arith, s.few))
]
