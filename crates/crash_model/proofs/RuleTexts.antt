-- The text of a rule is read in one way.
use Rattle.std.proofs.Common.{◌≡◌, ◌≢◌, ℕ, List, [], ◌∷◌, ◌++◌, Bool, true, false, not, ◌&&◌, ◌==◌, nat_lt, get_or}
use Rattle.std.proofs.Common.{drop, refl, sym, ap, ◌∙◌, subst, codes, arith, append_assoc}
use Rattle.std.specs.List.{list_all}
use Rattle.std.proofs.lemmas.Bool.{and_parts}
use Rattle.std.proofs.lemmas.Bool.Decides.{nat_tests}
use Rattle.crash_model.specs.RuleTexts.{rule_part_text, scope_text, rule_text}
use Rattle.crash_model.specs.RuleFacts.{IsNoRulePart, IsNoRule, HasNoScope}
use Rattle.crash_model.specs.declared.plans.Role.TheVariants.{InodeInit, EntrySet, EntryClear, MapSet, MapClear}
use Rattle.crash_model.specs.declared.plans.Role.TheVariants.{InitFile, InitDir, Ptr, LinkUp, LinkDown, InodeFree}
use Rattle.crash_model.specs.declared.plans.Role.TheVariants.{PtrClear, NewData, Touch}
use Rattle.crash_model.specs.declared.rules.RulePart.{RulePart}
use Rattle.crash_model.specs.declared.rules.RulePart.TheVariants.{Change, InPlace, FileData, Copy, Commit, Done}
use Rattle.crash_model.specs.declared.rules.Scope.{Scope}
use Rattle.crash_model.specs.declared.rules.Scope.TheVariants.{Same, Previous, Before}
use Rattle.crash_model.specs.declared.rules.Rule.{Rule}
use Rattle.crash_model.proofs.Cuts.{Lacks}

-- ---- lists with one such byte

lacks_none : (s : ℕ) (xs us : List ℕ) → ¬ (Lacks s (xs ++ s ∷ us))
lacks_none s [] us lacks = lacks.0 refl
lacks_none s (x ∷ xs) us lacks = lacks_none s xs us lacks.1

-- a list that has the byte once is cut there in one way
pub cut_at_only : (s : ℕ) (xs ys us vs : List ℕ) → Lacks s ys → Lacks s vs → xs ++ s ∷ us ≡ ys ++ s ∷ vs → (xs ≡ ys)
    × (us ≡ vs)
cut_at_only s [] [] us vs lacks others e = (refl, cc)
cut_at_only s [] (y ∷ ys) us vs lacks others e = absurd (lacks.0 (let head : y ≡ s = cc in head))
cut_at_only s (x ∷ xs) [] us vs lacks others e =
    let tails : xs ++ s ∷ us ≡ vs = cc in
    absurd (lacks_none s xs us (subst (Lacks s) (sym tails) others))
cut_at_only s (x ∷ xs) (y ∷ ys) us vs lacks others e =
    let heads : x ≡ y = cc in
    let tails : xs ++ s ∷ us ≡ ys ++ s ∷ vs = cc in
    let same = cut_at_only s xs ys us vs lacks.1 others tails in
    (let rest = same.0 in cc, same.1)

lacks_append : (s : ℕ) (xs ys : List ℕ) → Lacks s xs → Lacks s ys → Lacks s (xs ++ ys)
lacks_append s [] ys first second = second
lacks_append s (x ∷ xs) ys first second = (first.0, lacks_append s xs ys first.1 second)

-- ---- the texts of parts

-- a part's first letter is a capital, and no colon is in it
abbrev is_plain : List ℕ → Bool
is_plain text = nat_lt (get_or text 0 0) 98 && list_all (λ c. not (c == 58)) text

parts_are_plain : (part : RulePart) → is_plain (rule_part_text part) ≡ true
parts_are_plain (Change InodeInit) = refl
parts_are_plain (Change EntrySet) = refl
parts_are_plain (Change EntryClear) = refl
parts_are_plain (Change MapSet) = refl
parts_are_plain (Change MapClear) = refl
parts_are_plain (Change InitFile) = refl
parts_are_plain (Change InitDir) = refl
parts_are_plain (Change Ptr) = refl
parts_are_plain (Change LinkUp) = refl
parts_are_plain (Change LinkDown) = refl
parts_are_plain (Change InodeFree) = refl
parts_are_plain (Change PtrClear) = refl
parts_are_plain (Change NewData) = refl
parts_are_plain (Change Touch) = refl
parts_are_plain InPlace = refl
parts_are_plain FileData = refl
parts_are_plain Copy = refl
parts_are_plain Commit = refl
parts_are_plain Done = refl

no_colon : (c : ℕ) → not (c == 58) ≡ true → c ≢ 58
no_colon c e = grind (arith, nat_tests)

plain_lacks : (text : List ℕ) → list_all (λ c. not (c == 58)) text ≡ true → Lacks 58 text
plain_lacks [] e = tt
plain_lacks (c ∷ cs) e = let both = and_parts (not (c == 58)) (list_all (λ c. not (c == 58)) cs) e in
    (no_colon c both.0, plain_lacks cs both.1)

part_lacks : (part : RulePart) → Lacks 58 (rule_part_text part)
part_lacks part = plain_lacks (rule_part_text part) (and_parts (nat_lt (get_or (rule_part_text part) 0 0) 98)
    _ (parts_are_plain part)).1

scope_lacks : (scope : Scope) → Lacks 58 (scope_text scope)
scope_lacks Same = tt
scope_lacks Previous = plain_lacks (codes "previous-") refl
scope_lacks Before = plain_lacks (codes "before-") refl

-- no part's text begins with a small letter
no_small : (part : RulePart) (letter : ℕ) (rest : List ℕ) → nat_lt letter 98 ≡ false
    → letter ∷ rest ≢ rule_part_text part
no_small part letter rest small e =
    let plain = (and_parts (nat_lt (get_or (rule_part_text part) 0 0) 98) _ (parts_are_plain part)).0 in
    let first : letter ≡ get_or (rule_part_text part) 0 0 = ap (λ (t : List ℕ). get_or t 0 0) e in
    let less : nat_lt letter 98 ≡ true = subst (λ (n : ℕ). nat_lt n 98 ≡ true) (sym first) plain in
    (let bad : false ≡ true = sym small ∙ less in cc)

other_letter : (a b : ℕ) → (a == b) ≡ false → a ≢ b
other_letter a b other same = grind (arith, nat_tests)

-- ---- the texts of rules

regroup : (later colon scope earlier : List ℕ) → later ++ colon ++ scope ++ earlier ≡ later
    ++ (colon ++ (scope ++ earlier))
regroup later colon scope earlier = simp append_assoc

-- a text without a colon is no rule
pub needs_colon : (text : List ℕ) → ((xs ys : List ℕ) → text ≢ xs ++ (codes ":" ++ ys)) → IsNoRule text
needs_colon text none rule e =
    none (rule_part_text rule.later) (scope_text rule.scope ++ rule_part_text rule.earlier)
    (e ∙ regroup (rule_part_text rule.later) (codes ":") (scope_text rule.scope) (rule_part_text rule.earlier))

module _ (text later rest : List ℕ) (whole : text ≡ later ++ (codes ":" ++ rest)) where
  parts : (rule : Rule) → text ≡ rule_text rule → (later ≡ rule_part_text rule.later)
      × (rest ≡ scope_text rule.scope ++ rule_part_text rule.earlier)
  parts rule e =
      cut_at_only 58 later (rule_part_text rule.later) rest (scope_text rule.scope ++ rule_part_text rule.earlier)
      (part_lacks rule.later) (lacks_append 58 (scope_text rule.scope) (rule_part_text rule.earlier)
      (scope_lacks rule.scope) (part_lacks rule.earlier))
      (sym whole ∙ (e ∙ regroup (rule_part_text rule.later) (codes ":") (scope_text rule.scope)
      (rule_part_text rule.earlier)))

  -- what is before the colon is a part
  pub needs_later : IsNoRulePart later → IsNoRule text
  needs_later none rule e = none rule.later (parts rule e).0

  -- what is after the colon and the scope is a part
  pub needs_earlier : (scope : Scope) (earlier : List ℕ) → rest ≡ scope_text scope ++ earlier
      → (scope ≡ Same → HasNoScope rest) → IsNoRulePart earlier → IsNoRule text
  needs_earlier scope earlier scoped unscoped none rule e =
      by_scope rule.scope scope scoped unscoped (parts rule e).1
    where
      by_scope : (scope found : Scope) → rest ≡ scope_text found ++ earlier → (found ≡ Same → HasNoScope rest)
          → rest ≡ scope_text scope ++ rule_part_text rule.earlier → ⊥
      by_scope Same Same here unscoped is = none rule.earlier (sym here ∙ is)
      by_scope Previous Same here unscoped is = (unscoped refl (rule_part_text rule.earlier)).0 is
      by_scope Before Same here unscoped is = (unscoped refl (rule_part_text rule.earlier)).1 is
      by_scope Same Previous here unscoped is =
          no_small rule.earlier 112 (codes "revious-" ++ earlier) refl (sym here ∙ is)
      by_scope Previous Previous here unscoped is = none rule.earlier (ap (drop 9) (sym here ∙ is))
      by_scope Before Previous here unscoped is =
          other_letter 112 98 refl (ap (λ (t : List ℕ). get_or t 0 0) (sym here ∙ is))
      by_scope Same Before here unscoped is =
          no_small rule.earlier 98 (codes "efore-" ++ earlier) refl (sym here ∙ is)
      by_scope Previous Before here unscoped is =
          other_letter 98 112 refl (ap (λ (t : List ℕ). get_or t 0 0) (sym here ∙ is))
      by_scope Before Before here unscoped is = none rule.earlier (ap (drop 7) (sym here ∙ is))
