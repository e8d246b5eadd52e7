-- The text of a path is cut into its names in one way.
use Rattle.std.proofs.Common.{◌≡◌, ◌≢◌, ℕ, ◌+◌, ◌<◌, ◌≤◌, take, drop, get_or, length-append, add-one, true, List, []}
use Rattle.std.proofs.Common.{◌∷◌, ◌++◌, length, refl, sym, ap, ◌∙◌, subst, arith, append_assoc}
use Rattle.std.specs.List.{flat_map, All, list_all}
use Rattle.std.proofs.lemmas.List.Elements.{All-head, All-tail, All-push, All-nil, All-cons}
use Rattle.std.proofs.lemmas.Bool.{and_parts}
use Rattle.std.proofs.lemmas.List.{take-append-drop, append-nil, length_push}
use Rattle.std.proofs.lemmas.List.Concat.{flat_map-append}
use Rattle.std.proofs.lemmas.Bool.Decides.{nat_tests}
use Rattle.crash_model.specs.Names.{is_name_byte, IsName}
use Rattle.crash_model.specs.FirstNames.{IsNothingOrSlash, HasFirstName}
use Rattle.crash_model.specs.PathTexts.{IsPath, IsPathWord, path_text}
use Rattle.crash_model.specs.declared.names.Path.{Path}
use Rattle.crash_model.specs.declared.names.Name.{Name}
use Rattle.arrayvec.specs.ArrayVec.{ArrayVec}
use Rattle.crash_model.proofs.Cuts.{Lacks, Begins, cut_once, front_lacks, rest_begins}

-- a slash before each name
abbrev pub slash_text : List (List ℕ) → List ℕ
slash_text names = flat_map (λ name. 47 ∷ name) names

no_slash : (c : ℕ) → is_name_byte c ≡ true → c ≢ 47
no_slash c e = grind (arith, nat_tests)

plain_lacks : (word : List ℕ) → list_all is_name_byte word ≡ true → Lacks 47 word
plain_lacks [] e = tt
plain_lacks (c ∷ cs) e = let both = and_parts (is_name_byte c) (list_all is_name_byte cs) e in
    (no_slash c both.0, plain_lacks cs both.1)

pub slash_text-begins : (names : List (List ℕ)) → Begins 47 (slash_text names)
slash_text-begins [] = tt
slash_text-begins (n ∷ ns) = refl

slash_text-rest : (names : List (List ℕ)) (rest : List ℕ) → Begins 47 rest → Begins 47 (slash_text names ++ rest)
slash_text-rest [] rest begins = begins
slash_text-rest (n ∷ ns) rest begins = refl

-- names that a text begins with are the first names of the path
pub names_follow : (ns ms : List (List ℕ)) (rest : List ℕ) → All IsName ns → All IsName ms → Begins 47 rest
    → slash_text ns ++ rest ≡ slash_text ms → (tail : List (List ℕ)) × (ms ≡ ns ++ tail) × (rest ≡ slash_text tail)
names_follow [] ms rest _ _ _ e = (ms, refl, e)
names_follow (n ∷ ns) [] rest _ _ _ e = cc
names_follow (n ∷ ns) (m ∷ ms) rest first second begins e =
    let n_lacks = plain_lacks n (All-head IsName n ns first).plain in
    let m_lacks = plain_lacks m (All-head IsName m ms second).plain in
    let texts : n ++ (slash_text ns ++ rest) ≡ m ++ slash_text ms = sym (append_assoc n (slash_text ns) rest)
    ∙ cc_tail e in
    let same = cut_once 47 n m (slash_text ns ++ rest) (slash_text ms) n_lacks m_lacks (slash_text-rest ns rest begins)
    (slash_text-begins ms) texts in
    let next = names_follow ns ms rest (All-tail IsName n ns first) (All-tail IsName m ms second) begins same.1 in
    (next.0, (let head = same.0 in let tails = next.1 in cc), next.2)
  where
    cc_tail : {x : ℕ} {xs ys : List ℕ} → x ∷ xs ≡ x ∷ ys → xs ≡ ys
    cc_tail e = cc

-- `IsNothingOrSlash` says the same
pub slash_begins : (rest : List ℕ) → IsNothingOrSlash rest → Begins 47 rest
slash_begins [] ends = tt
slash_begins (c ∷ cs) ends = ends

begins_slash : (rest : List ℕ) → Begins 47 rest → IsNothingOrSlash rest
begins_slash [] ends = tt
begins_slash (c ∷ cs) ends = ends

-- text that has no name up to its first slash has no first name
pub no_first_name : (text names : List ℕ) (n : ℕ) → names ≡ drop 1 text → n ≤ length names
    → ((k : ℕ) → k < n → get_or names k 0 ≢ 47) → (n < length names → get_or names n 0 ≡ 47) → ¬ (IsName (take n names))
    → ¬ (HasFirstName text)
no_first_name text names n after inside before found none first =
    let begins = first.2 in
    let parts : take n names ++ drop n names ≡ first.0 ++ first.1 = take-append-drop n names
    ∙ (after ∙ ap (drop 1) begins.whole) in
    let same = cut_once 47 (take n names) first.0 (drop n names) first.1 (front_lacks 47 names n inside before)
    (plain_lacks first.0 begins.is_name.plain) (rest_begins 47 names n inside found)
    (slash_begins first.1 begins.ends) parts in
    none (subst IsName (sym same.0) begins.is_name)

abbrev pub names_of : Path → List (List ℕ)
names_of path = path.through.items ++ path.last ∷ []

pub names_are : (path : Path) → IsPath path → All IsName (names_of path)
names_are path is = All-push IsName path.through.items path.last is.through is.last

first_of : (names : List (List ℕ)) (last : List ℕ) → All IsName (names ++ last ∷ [])
    → HasFirstName (slash_text (names ++ last ∷ []))
first_of [] last are = (last, [], record { is_name = All-head IsName last [] are; whole = refl; ends = tt })
first_of (n ∷ ns) last are = (
  n,
  slash_text (ns ++ last ∷ []),
  record {
    is_name = All-head IsName n (ns ++ last ∷ []) are;
    whole = refl;
    ends = begins_slash _ (slash_text-begins (ns ++ last ∷ []));
  },
)

pub path_has_first : (text : List ℕ) → ¬ (HasFirstName text) → ¬ (IsPathWord text)
path_has_first text none (path, is, spelt) =
    none (subst HasFirstName (sym spelt) (first_of path.through.items path.last (names_are path is)))

All-drop-front : (xs ys : List (List ℕ)) → All IsName (xs ++ ys) → All IsName ys
All-drop-front [] ys all = all
All-drop-front (x ∷ xs) ys all = All-drop-front xs ys (All-tail IsName x (xs ++ ys) all)

All-front : (xs ys : List (List ℕ)) → All IsName (xs ++ ys) → All IsName xs
All-front [] ys all = All-nil IsName
All-front (x ∷ xs) ys all = All-cons IsName x xs (All-head IsName x (xs ++ ys) all)
    (All-front xs ys (All-tail IsName x (xs ++ ys) all))

-- where a path's text goes on after some of its names, the path has one more
pub path_goes_on : (text : List ℕ) (names : List (List ℕ)) (rest : List ℕ) → All IsName names
    → text ≡ slash_text names ++ rest → IsNothingOrSlash rest → rest ≢ [] → IsPathWord text → HasFirstName rest
    × (length names ≤ 3)
path_goes_on text names rest are whole ends more (path, is, spelt) =
    let follow = names_follow names (names_of path) rest are (names_are path is) (slash_begins rest ends)
    (sym whole ∙ spelt) in
    ends_in follow.0 follow.1 follow.2
  where
    ends_in : (tail : List (List ℕ)) → names_of path ≡ names ++ tail → rest ≡ slash_text tail → HasFirstName rest
        × (length names ≤ 3)
    ends_in [] all nothing = absurd (more nothing)
    ends_in (m ∷ ms) all is_rest =
        let tail_are : All IsName (names ++ m ∷ ms) = subst (All IsName) all (names_are path is) in
        let m_is = All-head IsName m ms (All-drop-front names (m ∷ ms) tail_are) in
        let lengths : length path.through.items + 1 ≡ length names + (length ms + 1) =
        sym (length_push path.through.items path.last) ∙ (ap length all ∙ simp (length-append, add-one)) in
        let few : length path.through.items ≤ 3 = is.few in (
          (m, slash_text ms, record { is_name = m_is; whole = is_rest; ends = begins_slash _ (slash_text-begins ms) }),
          omega arith,
        )

pub slash_text-push : (names : List (List ℕ)) (name rest text after : List ℕ) → text ≡ slash_text names ++ rest
    → rest ≡ 47 ∷ (name ++ after) → text ≡ slash_text (names ++ name ∷ []) ++ after
slash_text-push names name rest text after whole begins =
    let more = flat_map-append (λ (n : List ℕ). 47 ∷ n) names (name ∷ []) in
    whole ∙ (ap (λ (t : List ℕ). slash_text names ++ t) begins
    ∙ (sym (append_assoc (slash_text names) (47 ∷ name) after)
    ∙ ap (λ (t : List ℕ). t ++ after) (rest_same ∙ sym more)))
  where
    rest_same : slash_text names ++ (47 ∷ name) ≡ slash_text names ++ slash_text (name ∷ [])
    rest_same = ap (λ (t : List ℕ). slash_text names ++ t) (sym (append-nil (47 ∷ name)))

-- the names that a text was cut into are those of a path
pub path_ends : (through : ArrayVec Name) (last : List ℕ) (rest text : List ℕ) → length through.items ≤ 3
    → All IsName (through.items ++ last ∷ []) → text ≡ slash_text (through.items ++ last ∷ []) ++ rest → rest ≡ []
    → IsPath (record { through = through; last = last }) × (text
    ≡ path_text (record { through = through; last = last }))
path_ends through last rest text few are whole ends = (
  record {
    few = few;
    through = All-front through.items (last ∷ []) are;
    last = All-head IsName last [] (All-drop-front through.items (last ∷ []) are);
  },
  whole ∙ (ap (λ (t : List ℕ). slash_text (through.items ++ last ∷ []) ++ t) ends
      ∙ append-nil (slash_text (through.items ++ last ∷ []))),
)
