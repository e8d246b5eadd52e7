-- Which act words are, and which form of an act they have.
use Rattle.std.proofs.Common.{◌≡◌, ℕ, ◌≤◌, List, [], ◌∷◌, ◌++◌, length, Bool, true, false, ◌&&◌, nat_lt, nat_le, arith}
use Rattle.std.proofs.Common.{refl, sym, subst, ap, ◌∙◌}
use Rattle.std.specs.Prelude.{if◌then◌else◌, codes, map, Option, Some, None, option_map, bytes_eq}
use Rattle.std.specs.List.{All, list_all}
use Rattle.std.proofs.lemmas.Bool.{and_parts, lt-ltb, le-leb}
use Rattle.std.proofs.lemmas.List.Elements.{All-head, All-tail, All-push}
use Rattle.crash_model.proofs.Cuts.{Lacks}
use Rattle.crash_model.specs.Names.{IsWord, IsName, is_name_byte, is_group_byte}
use Rattle.crash_model.specs.Script.{Operand, PathOperand, TargetOperand, PathsOperand, GroupOperand, SlotOperand, said}
use Rattle.crash_model.specs.Script.{words_of, IsAct}
use Rattle.crash_model.specs.PathTexts.{IsPath, IsPathWord, path_text}
use Rattle.crash_model.specs.Targets.{target_text, IsTarget}
use Rattle.crash_model.specs.ScriptRefusals.{Fits, HasPaths, HasSlots}
use Rattle.crash_model.specs.Slots.{slot_text}
use Rattle.crash_model.specs.declared.operations.Slot.{Slot}
use Rattle.crash_model.specs.declared.operations.Slot.TheVariants.{Zero, One, Two, Three}
use Rattle.crash_model.specs.declared.operations.Op.TheVariants.{Create, Write, Link, Unlink, Rename, Mkdir, Rmdir}
use Rattle.crash_model.specs.declared.operations.Op.TheVariants.{Overwrite, Truncate, Replace}
use Rattle.crash_model.specs.declared.names.Path.{Path}
use Rattle.crash_model.specs.declared.steps.Act.{Act}
use Rattle.crash_model.specs.declared.steps.Act.TheVariants.{Do, Group, End, Depend, Sync, Fsync, Keep, Hold, Spare}
use Rattle.crash_model.specs.declared.steps.Target.{Target}
use Rattle.crash_model.specs.declared.steps.Target.TheVariants.{Root, At}
use Rattle.uniqueness_laws.specs.Words.{is_word}
use Rattle.uniqueness_laws.proofs.Pieces.{pieces, AreLacking, pieces_slashed}

-- ---- names

pub both : (a b : Bool) → a ≡ true → b ≡ true → (a && b) ≡ true
both a b p q = rw (p, q) refl

pub word_is : (passes : ℕ → Bool) (word : List ℕ) → IsWord passes word → is_word passes word ≡ true
word_is passes word is =
    both (nat_lt 0 (length word)) (nat_le (length word) 10 && list_all passes word) (lt-ltb 0 (length word) is.some)
    (both (nat_le (length word) 10) (list_all passes word) (le-leb (length word) 10 is.few) is.plain)

names_pass : (names : List (List ℕ)) → All IsName names → list_all (is_word is_name_byte) names ≡ true
names_pass [] all = refl
names_pass (name ∷ names) all =
    both (is_word is_name_byte name) (list_all (is_word is_name_byte) names)
    (word_is is_name_byte name (All-head IsName name names all)) (names_pass names (All-tail IsName name names all))

-- ---- paths

-- the path of one to four names
abbrev pub path_from : List (List ℕ) → Option Path
path_from (a ∷ []) = Some (record { through = record { items = [] }; last = a })
path_from (a ∷ b ∷ []) = Some (record { through = record { items = a ∷ [] }; last = b })
path_from (a ∷ b ∷ c ∷ []) = Some (record { through = record { items = a ∷ b ∷ [] }; last = c })
path_from (a ∷ b ∷ c ∷ d ∷ []) = Some (record { through = record { items = a ∷ b ∷ c ∷ [] }; last = d })
path_from _ = None

-- what follows the first slash
abbrev pub path_of_pieces : List (List ℕ) → Option Path
path_of_pieces ([] ∷ names) = if list_all (is_word is_name_byte) names then path_from names else None
path_of_pieces _ = None

abbrev pub path_of : List ℕ → Option Path
path_of word = path_of_pieces (pieces 47 word)

path_from_names : (items : List (List ℕ)) (last : List ℕ) → length items ≤ 3
    → path_from (items ++ last ∷ []) ≡ Some (record { through = record { items = items }; last = last })
path_from_names [] last few = refl
path_from_names (a ∷ []) last few = refl
path_from_names (a ∷ b ∷ []) last few = refl
path_from_names (a ∷ b ∷ c ∷ []) last few = refl
path_from_names (a ∷ b ∷ c ∷ d ∷ more) last few = absurd (omega arith)

pub name_lacks : (s : ℕ) (passes : ℕ → Bool) → passes s ≡ false → (word : List ℕ) → list_all passes word ≡ true
    → Lacks s word
name_lacks s passes none [] e = tt
name_lacks s passes none (c ∷ cs) e =
    let parts = and_parts (passes c) (list_all passes cs) e in
    ((λ same. let wrong : passes s ≡ true = ap passes (sym same) ∙ parts.0 in cc), name_lacks s passes none cs parts.1)

names_lack : (s : ℕ) → is_name_byte s ≡ false → (names : List (List ℕ)) → All IsName names → AreLacking s names
names_lack s none [] all = tt
names_lack s none (name ∷ names) all = (
  name_lacks s is_name_byte none name (All-head IsName name names all).plain,
  names_lack s none names (All-tail IsName name names all),
)

pub names_are : (path : Path) → IsPath path → All IsName (path.through.items ++ path.last ∷ [])
names_are path is = All-push IsName path.through.items path.last is.through is.last

pub path_is : (path : Path) → IsPath path → path_of (path_text path) ≡ Some path
path_is path is =
    ap path_of_pieces (pieces_slashed 47 (path.through.items ++ path.last ∷ [])
    (names_lack 47 refl (path.through.items ++ path.last ∷ []) (names_are path is)))
    ∙ (ap (λ b. if b then path_from (path.through.items ++ path.last ∷ []) else None)
    (names_pass (path.through.items ++ path.last ∷ []) (names_are path is))
    ∙ path_from_names path.through.items path.last is.few)

-- a word that is no path
pub no_path : (word : List ℕ) → path_of word ≡ None → ¬ (IsPathWord word)
no_path word none (path, is, spelt) = let one : path_of word ≡ Some path = ap path_of spelt ∙ path_is path is in cc

-- ---- targets, and lists of paths

abbrev pub target_by : Option Path → List ℕ → Option Target
target_by (Some path) word = Some (At path)
target_by None word = if bytes_eq word (codes "/") then Some Root else None

abbrev pub target_of : List ℕ → Option Target
target_of word = target_by (path_of word) word

target_is : (target : Target) → IsTarget target → target_of (target_text target) ≡ Some target
target_is Root is = refl
target_is (At path) is = ap (λ (o : Option Path). target_by o (path_text path)) (path_is path is)

abbrev pub path_before : Option Path → Option (List Path) → Option (List Path)
path_before (Some path) (Some paths) = Some (path ∷ paths)
path_before _ _ = None

abbrev pub paths_of : List (List ℕ) → Option (List Path)
paths_of [] = Some []
paths_of (word ∷ words) = path_before (path_of word) (paths_of words)

paths_are : (paths : List Path) → All IsPath paths → paths_of (map path_text paths ++ []) ≡ Some paths
paths_are [] all = refl
paths_are (path ∷ paths) all =
    rw (path_is path (All-head IsPath path paths all), paths_are paths (All-tail IsPath path paths all)) refl

-- ---- slots

abbrev pub slot_of : List ℕ → Option Slot
slot_of word =
    if bytes_eq word (codes "0") then Some Zero else
    if bytes_eq word (codes "1") then Some One else
    if bytes_eq word (codes "2") then Some Two else
    if bytes_eq word (codes "3") then Some Three else None

slot_is : (slot : Slot) → slot_of (slot_text slot) ≡ Some slot
slot_is Zero = refl
slot_is One = refl
slot_is Two = refl
slot_is Three = refl

-- ---- acts

abbrev pub with_path : (Path → Act) → List (List ℕ) → Option Act
with_path make (p ∷ []) = option_map make (path_of p)
with_path make _ = None

abbrev pub both_paths : (Path → Path → Act) → Option Path → Option Path → Option Act
both_paths make (Some p) (Some q) = Some (make p q)
both_paths make _ _ = None

abbrev pub with_paths : (Path → Path → Act) → List (List ℕ) → Option Act
with_paths make (p ∷ q ∷ []) = both_paths make (path_of p) (path_of q)
with_paths make _ = None

abbrev pub overwriting : Option Path → Option Slot → Option Act
overwriting (Some p) (Some slot) = Some (Do (Overwrite p (Some slot)))
overwriting _ _ = None

abbrev pub with_slot : List (List ℕ) → Option Act
with_slot (p ∷ []) = option_map (λ path. Do (Overwrite path None)) (path_of p)
with_slot (p ∷ slot ∷ []) = overwriting (path_of p) (slot_of slot)
with_slot _ = None

abbrev pub with_group : List (List ℕ) → Option Act
with_group (a ∷ []) = if is_word is_group_byte a then Some (Group a) else None
with_group _ = None

abbrev pub with_groups : List (List ℕ) → Option Act
with_groups (b ∷ a ∷ []) = if is_word is_group_byte b && is_word is_group_byte a then Some (Depend b a) else None
with_groups _ = None

abbrev pub with_none : Act → List (List ℕ) → Option Act
with_none act [] = Some act
with_none act _ = None

abbrev pub with_target : List (List ℕ) → Option Act
with_target (word ∷ []) = option_map Fsync (target_of word)
with_target _ = None

abbrev pub with_path_list : List (List ℕ) → Option Act
with_path_list words = option_map (λ paths. Keep (record { items = paths })) (paths_of words)

abbrev pub act_of : List (List ℕ) → Option Act
act_of [] = None
act_of (first ∷ args) =
    if bytes_eq first (codes "create") then with_path (λ p. Do (Create p)) args else
    if bytes_eq first (codes "write") then with_path (λ p. Do (Write p)) args else
    if bytes_eq first (codes "link") then with_paths (λ p q. Do (Link p q)) args else
    if bytes_eq first (codes "unlink") then with_path (λ p. Do (Unlink p)) args else
    if bytes_eq first (codes "rename") then with_paths (λ p q. Do (Rename p q)) args else
    if bytes_eq first (codes "mkdir") then with_path (λ p. Do (Mkdir p)) args else
    if bytes_eq first (codes "rmdir") then with_path (λ p. Do (Rmdir p)) args else
    if bytes_eq first (codes "overwrite") then with_slot args else
    if bytes_eq first (codes "truncate") then with_path (λ p. Do (Truncate p)) args else
    if bytes_eq first (codes "replace") then with_paths (λ p q. Do (Replace p q)) args else
    if bytes_eq first (codes "group") then with_group args else
    if bytes_eq first (codes "end") then with_none End args else
    if bytes_eq first (codes "depend") then with_groups args else
    if bytes_eq first (codes "sync") then with_none Sync args else
    if bytes_eq first (codes "fsync") then with_target args else
    if bytes_eq first (codes "keep") then with_path_list args else
    if bytes_eq first (codes "hold") then with_path (λ p. Hold p) args else
    if bytes_eq first (codes "spare") then with_paths (λ p q. Spare p q) args else None

pub act_is : (act : Act) → IsAct act → act_of (words_of act) ≡ Some act
act_is (Do (Create p)) is = rw (path_is p is.0) refl
act_is (Do (Write p)) is = rw (path_is p is.0) refl
act_is (Do (Link p q)) is = rw (path_is p is.0, path_is q is.1.0) refl
act_is (Do (Unlink p)) is = rw (path_is p is.0) refl
act_is (Do (Rename p q)) is = rw (path_is p is.0, path_is q is.1.0) refl
act_is (Do (Mkdir p)) is = rw (path_is p is.0) refl
act_is (Do (Rmdir p)) is = rw (path_is p is.0) refl
act_is (Do (Overwrite p None)) is = rw (path_is p is.0) refl
act_is (Do (Overwrite p (Some slot))) is = rw (path_is p is.0, slot_is slot) refl
act_is (Do (Truncate p)) is = rw (path_is p is.0) refl
act_is (Do (Replace p q)) is = rw (path_is p is.0, path_is q is.1.0) refl
act_is (Group a) is = rw (word_is is_group_byte a is.0) refl
act_is End is = refl
act_is (Depend b a) is = rw (word_is is_group_byte b is.0, word_is is_group_byte a is.1.0) refl
act_is Sync is = refl
act_is (Fsync target) is = rw (target_is target is.0) refl
act_is (Keep paths) is = rw (paths_are paths.items is.2) refl
act_is (Hold p) is = rw (path_is p is.0) refl
act_is (Spare p q) is = rw (path_is p is.0, path_is q is.1.0) refl

-- ---- forms

abbrev pub anywhere : Path
anywhere = record { through = record { items = [] }; last = [] }

-- an act of each form
abbrev pub samples : List Act
samples =
    Do (Create anywhere) ∷ Do (Write anywhere) ∷ Do (Link anywhere anywhere) ∷ Do (Unlink anywhere)
    ∷ Do (Rename anywhere anywhere) ∷ Do (Mkdir anywhere) ∷ Do (Rmdir anywhere) ∷ Do (Overwrite anywhere None)
    ∷ Do (Truncate anywhere) ∷ Do (Replace anywhere anywhere) ∷ Group [] ∷ End ∷ Depend [] [] ∷ Sync
    ∷ Fsync Root ∷ Keep (record { items = [] }) ∷ Hold anywhere ∷ Spare anywhere anywhere ∷ []

-- the first of these acts that begins with the word
abbrev pub begun_by : List ℕ → List Act → Option Act
begun_by first [] = None
begun_by first (act ∷ acts) = if bytes_eq first (said act).0 then Some act else begun_by first acts

abbrev pub like_of : List ℕ → Option Act
like_of first = begun_by first samples

-- both take the same words
abbrev pub AreAlike : List Operand → List Operand → Type 0
AreAlike operands others = (words : List (List ℕ))
    → (Fits operands words → Fits others words)
    × (HasPaths operands words → HasPaths others words) × (HasPaths others words → HasPaths operands words)
    × (HasSlots operands words → HasSlots others words) × (HasSlots others words → HasSlots operands words)

alike : (operands : List Operand) → AreAlike operands operands
alike operands words =
    ((λ fits. fits), (λ paths. paths), (λ paths. paths), (λ slots. slots), (λ slots. slots))

-- a sample of an act's form, to which the act's first word leads; and that word has small letters alone
abbrev HasSample : Act → Type 0
HasSample act =
    (sample : Act) × (like_of (said act).0 ≡ Some sample) × AreAlike (said act).1 (said sample).1
    × (list_all is_name_byte (said act).0 ≡ true)

pub sampled : (act : Act) → HasSample act
sampled (Do (Create p)) = (Do (Create anywhere), refl, alike (PathOperand p ∷ []), refl)
sampled (Do (Write p)) = (Do (Write anywhere), refl, alike (PathOperand p ∷ []), refl)
sampled (Do (Link p q)) = (Do (Link anywhere anywhere), refl, alike (PathOperand p ∷ PathOperand q ∷ []), refl)
sampled (Do (Unlink p)) = (Do (Unlink anywhere), refl, alike (PathOperand p ∷ []), refl)
sampled (Do (Rename p q)) = (Do (Rename anywhere anywhere), refl, alike (PathOperand p ∷ PathOperand q ∷ []), refl)
sampled (Do (Mkdir p)) = (Do (Mkdir anywhere), refl, alike (PathOperand p ∷ []), refl)
sampled (Do (Rmdir p)) = (Do (Rmdir anywhere), refl, alike (PathOperand p ∷ []), refl)
sampled (Do (Overwrite p slot)) =
    (Do (Overwrite anywhere None), refl, alike (PathOperand p ∷ SlotOperand slot ∷ []), refl)
sampled (Do (Truncate p)) = (Do (Truncate anywhere), refl, alike (PathOperand p ∷ []), refl)
sampled (Do (Replace p q)) = (Do (Replace anywhere anywhere), refl, alike (PathOperand p ∷ PathOperand q ∷ []), refl)
sampled (Group a) = (Group [], refl, alike (GroupOperand a ∷ []), refl)
sampled End = (End, refl, alike [], refl)
sampled (Depend b a) = (Depend [] [], refl, alike (GroupOperand b ∷ GroupOperand a ∷ []), refl)
sampled Sync = (Sync, refl, alike [], refl)
sampled (Fsync target) = (Fsync Root, refl, alike (TargetOperand target ∷ []), refl)
sampled (Keep paths) = (Keep (record { items = [] }), refl, alike (PathsOperand paths.items ∷ []), refl)
sampled (Hold p) = (Hold anywhere, refl, alike (PathOperand p ∷ []), refl)
sampled (Spare p q) = (Spare anywhere anywhere, refl, alike (PathOperand p ∷ PathOperand q ∷ []), refl)

-- acts with the same first word take the same paths
pub paths_alike : (act other : Act) → (said act).0 ≡ (said other).0 → (words : List (List ℕ))
    → HasPaths (said act).1 words → HasPaths (said other).1 words
paths_alike act other same words paths =
    let one = sampled act in
    let two = sampled other in
    let both : Some one.0 ≡ Some two.0 = sym one.1 ∙ (ap like_of same ∙ two.1) in
    let samples : one.0 ≡ two.0 = cc in
    (two.2 words).2 (subst (λ (a : Act). HasPaths (said a).1 words) samples ((one.2 words).1 paths))

-- and the same slots
pub slots_alike : (act other : Act) → (said act).0 ≡ (said other).0 → (words : List (List ℕ))
    → HasSlots (said act).1 words → HasSlots (said other).1 words
slots_alike act other same words slots =
    let one = sampled act in
    let two = sampled other in
    let both : Some one.0 ≡ Some two.0 = sym one.1 ∙ (ap like_of same ∙ two.1) in
    let samples : one.0 ≡ two.0 = cc in
    (two.2 words).4 (subst (λ (a : Act). HasSlots (said a).1 words) samples ((one.2 words).3 slots))
