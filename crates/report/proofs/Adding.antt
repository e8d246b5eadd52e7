-- What is added by one call after another.
use Rattle.std.proofs.Common.{◌≡◌, ◌≢◌, ℕ, List, [], ◌∷◌, ◌++◌, true, length, map, decimal, refl, sym, ap, ◌∙◌}
use Rattle.std.proofs.Common.{cond, ◌+◌, ◌<◌, append_assoc, append-nil, arith, get_or, subst, take}
use Rattle.std.proofs.lemmas.List.{take_more}
use Rattle.std.proofs.lemmas.Simd.{map-map}
use Rattle.std.specs.Prelude.{Result, Ok, Err, OnOk}
use Rattle.std.specs.Result.{is_ok}
use Rattle.std.specs.List.{flat_map}
use Rattle.std.proofs.lemmas.List.Concat.{flat_map-append}
use Rattle.std.proofs.lemmas.Result.{on_ok_weaker}
use Rattle.json.specs.Token as tokens
use Rattle.json.specs.Token.{Token, begin_object, end_object, begin_array, end_array, key}
use Rattle.json.specs.Tree.{items_tokens, members_tokens}
use Rattle.json.specs.Written.{Written, Writes}
use Rattle.serde_json.specs.Data.{Data, array, boolean, string}
use Rattle.serde_json.specs.View.{items_of}
use Rattle.serde_json.specs.Written.{items_outline, members_outline}
use Rattle.report.specs.Fields.{field, list_of, natural, words_if_any, words_json, members_of, object_of}
use Rattle.report.specs.Written.{Adds, AddsTokens, AddsJson, AddsFields, tokens_of, field_tokens}

-- ---- the last call of a function

pub ends : {E P Q : Type 0} (r : Result (Unit {0}) E) → OnOk r P → (P → Q) → OnOk r Q
ends r last whole = on_ok_weaker r whole last

-- where it is `push_str`
pub pushed : {E : Type 0} (r : Result (Unit {0}) E) (all old : List ℕ) {new : List ℕ}
    → new ≡ cond (is_ok r) all old → OnOk r (new ≡ all)
pushed (Ok done) all old e = e
pushed (Err failed) all old e = tt

-- ---- texts

pub added : {a b s : List ℕ} → b ≡ a ++ s → Adds a b s
added e = record { whole = e }

pub then : {a b c s t : List ℕ} → Adds a b s → Adds b c t → Adds a c (s ++ t)
then {a} {b} {c} {s} {t} first next = record {
  whole = next.whole ∙ (ap (λ (x : List ℕ). x ++ t) first.whole ∙ append_assoc a s t);
}

pub nothing : {a : List ℕ} → Adds a a []
nothing {a} = record { whole = sym (append-nil a) }

-- ---- tokens

pub one_token : {E : Type 0} (r : Result (Unit {0}) E) {a b : Written} {t : Token} → Writes r a b t
    → OnOk r (AddsTokens a b (t ∷ []))
one_token r w = on_ok_weaker r (λ e. record { whole = e; before = w.room.0 }) w.ok

pub token : {a b : Written} {t : Token} → b.tokens ≡ a.tokens ++ t ∷ [] → b.before ≡ a.before
    → AddsTokens a b (t ∷ [])
token e same = record { whole = e; before = same }

pub no_tokens : {a : Written} → AddsTokens a a []
no_tokens {a} = record { whole = sym (append-nil a.tokens); before = refl }

pub tokens_then : {a b c : Written} {s t : List Token} → AddsTokens a b s → AddsTokens b c t → AddsTokens a c (s ++ t)
tokens_then {a} {b} {c} {s} {t} first next = record {
  whole = next.whole ∙ (ap (λ (x : List Token). x ++ t) first.whole ∙ append_assoc a.tokens s t);
  before = next.before ∙ first.before;
}

same_tokens : {a b : Written} {s t : List Token} → s ≡ t → AddsTokens a b s → AddsTokens a b t
same_tokens {a} e adds = record {
  whole = adds.whole ∙ ap (λ (x : List Token). a.tokens ++ x) e;
  before = adds.before;
}

-- ---- values

pub json_of : {a b : Written} (d : Data) → AddsTokens a b (tokens_of d) → AddsJson a b d
json_of d adds = record { added = adds }

pub string_json : {a b : Written} {s : List ℕ} → b.tokens ≡ a.tokens ++ tokens.string s ∷ [] → b.before ≡ a.before
    → AddsJson a b (string s)
unfolding tokens_of
string_json e same = record { added = token e same }

pub number_json : {a b : Written} {n : ℕ} → b.tokens ≡ a.tokens ++ tokens.number (decimal n) ∷ [] → b.before ≡ a.before
    → AddsJson a b (natural n)
unfolding tokens_of
number_json e same = record { added = token e same }

pub true_json : {a b : Written} → b.tokens ≡ a.tokens ++ tokens.boolean true ∷ [] → b.before ≡ a.before
    → AddsJson a b (boolean true)
unfolding tokens_of
true_json e same = record { added = token e same }

-- ---- fields

pub no_fields : {a : Written} → AddsFields a a []
unfolding field_tokens
no_fields = record { added = no_tokens }

pub keyed : {a b c : Written} {k : List ℕ} {d : Data} → AddsTokens a b (key k ∷ []) → AddsJson b c d
    → AddsFields a c (field k d)
unfolding field_tokens field
keyed {k = k} {d = d} first next = record {
  added = same_tokens (sym (append-nil (key k ∷ tokens_of d))) (tokens_then first next.added);
}

pub fields_then : {a b c : Written} {fs gs : List (List ℕ × Data)} → AddsFields a b fs → AddsFields b c gs
    → AddsFields a c (fs ++ gs)
unfolding field_tokens
fields_then {fs = fs} {gs = gs} first next = record {
  added = same_tokens (sym (flat_map-append (λ (f : List ℕ × Data). key f.0 ∷ tokens_of f.1) fs gs))
      (tokens_then first.added next.added);
}

members : (fs : List (List ℕ × Data))
    → field_tokens fs ++ end_object ∷ [] ≡ members_tokens (members_outline (members_of fs))
unfolding field_tokens tokens_of
members [] = refl
members (f ∷ fs) = ap (λ (ts : List Token). key f.0 ∷ ts)
    (append_assoc (tokens_of f.1) (field_tokens fs) (end_object ∷ [])
    ∙ ap (λ (ts : List Token). tokens_of f.1 ++ ts) (members fs))

pub object_written : {a b c d : Written} {fs : List (List ℕ × Data)} → AddsTokens a b (begin_object ∷ [])
    → AddsFields b c fs → AddsTokens c d (end_object ∷ []) → AddsJson a d (object_of fs)
unfolding tokens_of object_of
object_written {fs = fs} first fields last = record {
  added = same_tokens (ap (λ (ts : List Token). begin_object ∷ ts) (members fs))
      (tokens_then (tokens_then first fields.added) last);
}

-- ---- arrays

items : {X : Type 0} (json : X → Data) (xs : List X)
    → flat_map (λ x. tokens_of (json x)) xs ++ end_array ∷ []
    ≡ items_tokens (items_outline (items_of (map json xs)))
unfolding tokens_of
items json [] = refl
items json (x ∷ xs) =
    append_assoc (tokens_of (json x)) (flat_map (λ y. tokens_of (json y)) xs) (end_array ∷ [])
    ∙ ap (λ (ts : List Token). tokens_of (json x) ++ ts) (items json xs)

pub array_written : {X : Type 0} (json : X → Data) (xs : List X) {a b c d : Written} → AddsTokens a b (begin_array ∷ [])
    → AddsTokens b c (flat_map (λ x. tokens_of (json x)) xs) → AddsTokens c d (end_array ∷ [])
    → AddsJson a d (list_of json xs)
unfolding tokens_of
array_written json xs first all last = record {
  added = same_tokens (ap (λ (ts : List Token). begin_array ∷ ts) (items json xs))
      (tokens_then (tokens_then first all) last);
}

module _ {X : Type 0} (k : List ℕ) (word : X → List ℕ) where
  pub none_listed : (xs : List X) {a : Written} → length xs ≡ 0 → AddsFields a a (words_if_any k word xs)
  none_listed [] none = no_fields
  none_listed (x ∷ xs) none = absurd (omega arith)

  pub some_listed : (xs : List X) {a b : Written} → length xs ≢ 0 → AddsFields a b (field k (words_json word xs))
      → AddsFields a b (words_if_any k word xs)
  some_listed [] some adds = absurd (some refl)
  some_listed (x ∷ xs) some adds = adds

-- ---- loops

pub one_more : {X : Type 0} (each : X → List Token) (xs : List X) (x : X) (all : List X) {a b c : Written}
    → all ≡ xs ++ x ∷ [] → AddsTokens a b (flat_map each xs) → AddsTokens b c (each x)
    → AddsTokens a c (flat_map each all)
one_more each xs x all is so_far more =
    same_tokens (sym (ap (flat_map each) is
    ∙ (flat_map-append each xs (x ∷ []) ∙ ap (λ (ts : List Token). flat_map each xs ++ ts) (append-nil (each x)))))
    (tokens_then so_far more)

pub fields_more : {X : Type 0} (fields : X → List (List ℕ × Data)) (xs : List X) (i : ℕ) (d : X) {a b c : Written}
    → i < length xs → AddsFields a b (flat_map fields (take i xs)) → AddsFields b c (fields (get_or xs i d))
    → AddsFields a c (flat_map fields (take (i + 1) xs))
fields_more fields xs i d {a} {c = c} within all more =
    subst (AddsFields a c) (sym (ap (flat_map fields) (take_more xs i d within)
    ∙ (flat_map-append fields (take i xs) (get_or xs i d ∷ [])
    ∙ ap (λ (fs : List (List ℕ × Data)). flat_map fields (take i xs) ++ fs) (append-nil (fields (get_or xs i d))))))
    (fields_then all more)

pub mapped_fields : {X Y : Type 0} (fields : Y → List (List ℕ × Data)) (f : X → Y) (xs : List X)
    → flat_map (λ x. fields (f x)) xs ≡ flat_map fields (map f xs)
mapped_fields fields f [] = refl
mapped_fields fields f (x ∷ xs) =
    ap (λ (fs : List (List ℕ × Data)). fields (f x) ++ fs) (mapped_fields fields f xs)

pub mapped_texts : {X Y : Type 0} (text : Y → List ℕ) (f : X → Y) (xs : List X)
    → flat_map (λ x. text (f x)) xs ≡ flat_map text (map f xs)
mapped_texts text f [] = refl
mapped_texts text f (x ∷ xs) = ap (λ (t : List ℕ). text (f x) ++ t) (mapped_texts text f xs)

pub mapped_list : {X Y : Type 0} (json : Y → Data) (f : X → Y) (xs : List X)
    → list_of (λ x. json (f x)) xs ≡ list_of json (map f xs)
mapped_list json f xs = ap (λ (ds : List Data). array (items_of ds)) (sym (map-map json f xs))

-- ---- what is shown

nested : {X : Type 0} (list : X → List Data) (xs : List X)
    → flat_map (λ x. flat_map tokens_of (list x)) xs ≡ flat_map tokens_of (flat_map list xs)
nested list [] = refl
nested list (x ∷ xs) =
    ap (λ (ts : List Token). flat_map tokens_of (list x) ++ ts) (nested list xs)
    ∙ sym (flat_map-append tokens_of (list x) (flat_map list xs))

items_all : (ds : List Data) → flat_map tokens_of ds ++ end_array ∷ [] ≡ items_tokens (items_outline (items_of ds))
unfolding tokens_of
items_all [] = refl
items_all (d ∷ ds) =
    append_assoc (tokens_of d) (flat_map tokens_of ds) (end_array ∷ [])
    ∙ ap (λ (ts : List Token). tokens_of d ++ ts) (items_all ds)

pub all_written : {X : Type 0} (list : X → List Data) (xs : List X) {a b c d : Written}
    → AddsTokens a b (begin_array ∷ []) → AddsTokens b c (flat_map (λ x. flat_map tokens_of (list x)) xs)
    → AddsTokens c d (end_array ∷ []) → AddsJson a d (array (items_of (flat_map list xs)))
unfolding tokens_of
all_written list xs first all last = record {
  added = same_tokens (ap (λ (ts : List Token). begin_array ∷ ts)
      (ap (λ (ts : List Token). ts ++ end_array ∷ []) (nested list xs) ∙ items_all (flat_map list xs)))
      (tokens_then (tokens_then first all) last);
}
