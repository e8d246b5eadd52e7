-- The lists of rules against the tables, part by part.
use Rattle.std.proofs.Common.{◌≡◌, ℕ, zero, suc, ◌+◌, List, [], ◌∷◌, Bool, true, false, ◌&&◌, nat_lt, refl, sym}
use Rattle.std.proofs.Common.{◌∙◌}
use Rattle.std.specs.Prelude.{◌==◌, Option, Some, None, slice_get}
use Rattle.std.specs.List.{list_all, list_any}
use Rattle.crash_model.specs.Rules.{has_part, rules_of}
use Rattle.crash_model.specs.Trace.{Emitted, applies}
use Rattle.crash_model.specs.declared.plans.Role.TheVariants.{InodeInit, EntrySet, EntryClear, MapSet, MapClear}
use Rattle.crash_model.specs.declared.plans.Role.TheVariants.{InitFile, InitDir, Ptr, LinkUp, LinkDown, InodeFree}
use Rattle.crash_model.specs.declared.plans.Role.TheVariants.{PtrClear, NewData, Touch}
use Rattle.crash_model.specs.declared.rules.Part.{Part}
use Rattle.crash_model.specs.declared.rules.Part.TheVariants.{InPlace, FileData, Copy, Commit, Done}
use Rattle.crash_model.specs.declared.rules.Part.TheVariants as part
use Rattle.crash_model.specs.declared.rules.Rule.{Rule}
use Rattle.crash_model.specs.declared.rules.Scope.{Scope}
use Rattle.crash_model.specs.declared.rules.Scope.TheVariants.{Same, Previous, Before}
use Rattle.crash_model.specs.declared.modules.Module.{Module}
use Rattle.crash_model.specs.declared.modules.Module.TheVariants.{Async, Soft, Meta, Full}
use Rattle.rule_laws.specs.Tables.{row, are_in}

-- ---- what holds of every part

parts : List Part
parts =
    InPlace InodeInit ∷ InPlace EntrySet ∷ InPlace EntryClear ∷ InPlace MapSet ∷ InPlace MapClear ∷ InPlace InitFile
    ∷ InPlace InitDir ∷ InPlace Ptr
    ∷ InPlace LinkUp ∷ InPlace LinkDown ∷ InPlace InodeFree ∷ InPlace PtrClear ∷ InPlace NewData ∷ InPlace Touch
    ∷ FileData ∷ part.NewData ∷ Copy ∷ Commit ∷ Done ∷ []

at : (part : Part) → (k : ℕ) × (slice_get parts k ≡ Some part)
unfolding parts
at (InPlace InodeInit) = (0, refl)
at (InPlace EntrySet) = (1, refl)
at (InPlace EntryClear) = (2, refl)
at (InPlace MapSet) = (3, refl)
at (InPlace MapClear) = (4, refl)
at (InPlace InitFile) = (5, refl)
at (InPlace InitDir) = (6, refl)
at (InPlace Ptr) = (7, refl)
at (InPlace LinkUp) = (8, refl)
at (InPlace LinkDown) = (9, refl)
at (InPlace InodeFree) = (10, refl)
at (InPlace PtrClear) = (11, refl)
at (InPlace NewData) = (12, refl)
at (InPlace Touch) = (13, refl)
at FileData = (14, refl)
at part.NewData = (15, refl)
at Copy = (16, refl)
at Commit = (17, refl)
at Done = (18, refl)

and_left : (a b : Bool) → (a && b) ≡ true → a ≡ true
and_left true b h = refl
and_left false b h = h

and_right : (a b : Bool) → (a && b) ≡ true → b ≡ true
and_right true b h = h
and_right false b h = absurd (cc)

all_at : {X : Type 0} (test : X → Bool) (xs : List X) (k : ℕ) (x : X) → list_all test xs ≡ true
    → slice_get xs k ≡ Some x → test x ≡ true
all_at test [] k x all is = absurd (cc)
all_at test (y ∷ ys) zero x all is = let same : y ≡ x = cc in let here : test y ≡ true =
    and_left (test y) (list_all test ys) all in cc
all_at test (y ∷ ys) (suc k) x all is = all_at test ys k x (and_right (test y) (list_all test ys) all) is

-- ---- tests of how operations are placed

abbrev scoped : Bool → Bool → Bool → Scope → Bool
scoped is_same is_next is_before Same = is_same
scoped is_same is_next is_before Previous = is_next
scoped is_same is_next is_before Before = is_before

abbrev in_table : Bool → Bool → Bool → Option Scope → Bool
in_table is_same is_next is_before None = false
in_table is_same is_next is_before (Some scope) = scoped is_same is_next is_before scope

abbrev by_rules : Module → Part → Part → Bool → Bool → Bool → Bool
by_rules kind a b is_same is_next is_before = list_any (λ (rule : Rule). has_part rule.later a
    && (has_part rule.earlier b && scoped is_same is_next is_before rule.scope)) (rules_of kind)

abbrev agree : Bool → Bool → Bool
agree true b = b
agree false true = false
agree false false = true

abbrev agree_at : Module → Bool → Bool → Bool → Part → Part → Bool
agree_at kind is_same is_next is_before a b = agree (by_rules kind a b is_same is_next is_before)
    (in_table is_same is_next is_before (row kind a b))

abbrev agree_all : Module → Bool → Bool → Bool → Bool
agree_all kind is_same is_next is_before = list_all (λ a. list_all (agree_at kind is_same is_next is_before a) parts)
    parts

tables : (kind : Module) (is_same is_next is_before : Bool) → agree_all kind is_same is_next is_before ≡ true
unfolding parts
tables Async true true true = refl
tables Async true true false = refl
tables Async true false true = refl
tables Async true false false = refl
tables Async false true true = refl
tables Async false true false = refl
tables Async false false true = refl
tables Async false false false = refl
tables Soft true true true = refl
tables Soft true true false = refl
tables Soft true false true = refl
tables Soft true false false = refl
tables Soft false true true = refl
tables Soft false true false = refl
tables Soft false false true = refl
tables Soft false false false = refl
tables Meta true true true = refl
tables Meta true true false = refl
tables Meta true false true = refl
tables Meta true false false = refl
tables Meta false true true = refl
tables Meta false true false = refl
tables Meta false false true = refl
tables Meta false false false = refl
tables Full true true true = refl
tables Full true true false = refl
tables Full true false true = refl
tables Full true false false = refl
tables Full false true true = refl
tables Full false true false = refl
tables Full false false true = refl
tables Full false false false = refl

from_agree : (a b : Bool) → agree a b ≡ true → a ≡ b
from_agree true b h = sym h
from_agree false true h = h
from_agree false false h = refl

by_parts : (kind : Module) (a b : Part) (is_same is_next is_before : Bool)
    → by_rules kind a b is_same is_next is_before ≡ in_table is_same is_next is_before (row kind a b)
by_parts kind a b is_same is_next is_before =
    let of_a = all_at (λ x. list_all (agree_at kind is_same is_next is_before x) parts) parts (at a).0 a
    (tables kind is_same is_next is_before) (at a).1 in
    from_agree (by_rules kind a b is_same is_next is_before) (in_table is_same is_next is_before (row kind a b))
    (all_at (agree_at kind is_same is_next is_before a) parts (at b).0 b of_a (at b).1)

-- ---- the numbers of operations

in_numbers : (found : Option Scope) (later earlier : ℕ)
    → in_table (later == earlier) (later == earlier + 1) (nat_lt earlier later) found ≡ are_in found later earlier
in_numbers None later earlier = refl
in_numbers (Some Same) later earlier = refl
in_numbers (Some Previous) later earlier = refl
in_numbers (Some Before) later earlier = refl

rules_numbers : (kind : Module) (q p : Emitted) → list_any (λ rule. applies rule q p) (rules_of kind)
    ≡ by_rules kind q.part p.part (q.op_number == p.op_number) (q.op_number == p.op_number + 1)
    (nat_lt p.op_number q.op_number)
rules_numbers Async q p = refl
rules_numbers Soft q p = refl
rules_numbers Meta q p = refl
rules_numbers Full q p = refl

pub rules_are_rows : (kind : Module) (q p : Emitted) → list_any (λ rule. applies rule q p) (rules_of kind)
    ≡ are_in (row kind q.part p.part) q.op_number p.op_number
rules_are_rows kind q p =
    rules_numbers kind q p
    ∙ by_parts kind q.part p.part (q.op_number == p.op_number) (q.op_number == p.op_number + 1)
    (nat_lt p.op_number q.op_number)
    ∙ in_numbers (row kind q.part p.part) q.op_number p.op_number
