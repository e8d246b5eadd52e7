-- Which rules a sublist has.
use Rattle.std.proofs.Common.{◌≡◌, ℕ, zero, suc, ◌<◌, List, [], ◌∷◌, ◌++◌, length, Bool, true, false, Some, None, arith}
use Rattle.std.proofs.Common.{refl, sym, ap, ◌∙◌, ◌+◌, subst, inl, inr, get_or}
use Rattle.std.specs.Prelude.{◌↔◌, Option, option_to_list, slice_get, if◌then◌else◌}
use Rattle.std.specs.List.{Contains}
use Rattle.std.proofs.lemmas.List.{append-nil}
use Rattle.std.proofs.lemmas.List.Elements.{Contains-append_left, Contains-append_right, Contains-append_cases}
use Rattle.std.proofs.lemmas.List.Elements.{Contains-get_or}
use Rattle.std.proofs.lemmas.Option.{slice_get_within, slice_get-get_or}
use Rattle.patch_sets.specs.Sets.{Has, has, IsSubset, with_id}
use Rattle.patch_sets.proofs.Bits.{eq_or_not}
use Rattle.patch_sets.proofs.Bits.{in_with_same, in_with_old, in_with_cases}
use Rattle.patch_sets.proofs.Ids.{has_true, has_false, from_has}
use Rattle.patch_sets.proofs.Lists.{in_front, front_or_rest, in_none}
use Rattle.crash_model.proofs.EachBelow.{some_below-zero, some_below-step}
use Rattle.crash_model.specs.Lists.{some_below}
use Rattle.crash_model.specs.RuleFacts.{AreAmong}
use Rattle.crash_model.specs.declared.rules.Rule.{Rule}
use Rattle.question_model.specs.Enough.{rules_in}

module _ {X : Type 0} (at : ℕ → Option X) where
  in_option : (o : Option X) (x : X) → o ≡ Some x → Contains (option_to_list o) x
  in_option None x e = absurd (cc)
  in_option (Some y) x e = let same : y ≡ x = cc in subst (λ (z : X). Contains (y ∷ []) z) same (in_front y [])

  from_option : (o : Option X) (x : X) → Contains (option_to_list o) x → o ≡ Some x
  from_option None x is = absurd (in_none x is)
  from_option (Some y) x is = elim (front_or_rest y [] x is) [
    | inl e ↦ ap Some e
    | inr rest ↦ absurd (in_none x rest)
  ]

  pub in_some_below : (n k : ℕ) (x : X) → k < n → at k ≡ Some x → Contains (some_below n at) x
  unfolding some_below
  in_some_below zero k x less is = absurd (omega arith)
  in_some_below (suc n) k x less is = elim (eq_or_not k n) [
    | inl e ↦ Contains-append_right (some_below n at) (option_to_list (at n)) x
        (in_option (at n) x (subst (λ (j : ℕ). at j ≡ Some x) e is))
    | inr ne ↦ Contains-append_left (some_below n at) (option_to_list (at n)) x
        (in_some_below n k x (omega (arith, less, ne)) is)
  ]

  pub from_some_below : (n : ℕ) (x : X) → Contains (some_below n at) x → (k : ℕ) × (k < n) × (at k ≡ Some x)
  unfolding some_below
  from_some_below zero x is = absurd (in_none x is)
  from_some_below (suc n) x is = elim (Contains-append_cases (some_below n at) (option_to_list (at n)) x is) [
    | inl before ↦ let it = from_some_below n x before in (it.0, omega (arith, it.1), it.2)
    | inr last ↦ (n, omega arith, from_option (at n) x last)
  ]

-- ---- the rules of a set

some_if : (b : Bool) (o : Option Rule) (rule : Rule) → (if b then o else None) ≡ Some rule
    → (b ≡ true) × (o ≡ Some rule)
some_if true o rule e = (refl, e)
some_if false o rule e = absurd (cc)

then_some : (b : Bool) (o : Option Rule) (rule : Rule) → b ≡ true → o ≡ Some rule
    → (if b then o else None) ≡ Some rule
then_some true o rule t e = e
then_some false o rule t e = absurd (cc)

pub in_rules : (rules : List Rule) (set place : ℕ) (rule : Rule) → Has set place → slice_get rules place ≡ Some rule
    → Contains (rules_in rules set) rule
in_rules rules set place rule is found =
    in_some_below (λ p. if has set p then slice_get rules p else None) (length rules) place rule
    (slice_get_within rules place rule found)
    (then_some (has set place) (slice_get rules place) rule (has_true set place is) found)

pub from_rules : (rules : List Rule) (set : ℕ) (rule : Rule) → Contains (rules_in rules set) rule
    → (place : ℕ) × Has set place × (slice_get rules place ≡ Some rule)
from_rules rules set rule is =
    let it = from_some_below (λ p. if has set p then slice_get rules p else None) (length rules) rule is in
    let both = some_if (has set it.0) (slice_get rules it.0) rule it.2 in
    (it.0, from_has set it.0 both.0, both.1)

pub fewer_among : (rules : List Rule) (set more : ℕ) → IsSubset set more
    → AreAmong (rules_in rules set) (rules_in rules more)
fewer_among rules set more inside k d within =
    let rule = get_or (rules_in rules set) k d in
    let it = from_rules rules set rule (Contains-get_or (rules_in rules set) k d within) in
    in_rules rules more it.0 rule (inside it.0 it.1) it.2

-- ---- rule by rule

abbrev pub rules_to : ℕ → List Rule → ℕ → List Rule
rules_to n rules set = some_below n (λ place. if has set place then slice_get rules place else None)

pub none_yet : (rules : List Rule) (set : ℕ) → rules_to 0 rules set ≡ []
none_yet rules set = some_below-zero (λ place. if has set place then slice_get rules place else None)

if_not : (b : Bool) (o : Option Rule) → b ≡ false → (if b then o else None) ≡ None
if_not true o e = absurd (cc)
if_not false o e = refl

module _ (rules : List Rule) (set n : ℕ) where
  abbrev at_place : ℕ → Option Rule
  at_place place = if has set place then slice_get rules place else None

  pub one_rule_more : (rule : Rule) → Has set n → slice_get rules n ≡ Some rule
      → rules_to (n + 1) rules set ≡ rules_to n rules set ++ rule ∷ []
  one_rule_more rule inside is = some_below-step n at_place
      ∙ ap (λ (o : Option Rule). some_below n at_place ++ option_to_list o)
      (then_some (has set n) (slice_get rules n) rule (has_true set n inside) is)

  pub no_rule_more : (Has set n → ⊥) → rules_to (n + 1) rules set ≡ rules_to n rules set
  no_rule_more lacks = some_below-step n at_place
      ∙ (ap (λ (o : Option Rule). some_below n at_place ++ option_to_list o)
      (if_not (has set n) (slice_get rules n) (has_false set n lacks)) ∙ append-nil (some_below n at_place))

-- a rule of the set is put at the end
pub rule_pushed : (rules : List Rule) (set n : ℕ) (d : Rule) (old new : List Rule) → n < length rules → Has set n
    → old ≡ rules_to n rules set → new ≡ old ++ get_or rules n d ∷ [] → new ≡ rules_to (n + 1) rules set
rule_pushed rules set n d old new within inside was is = is
    ∙ (ap (λ (some : List Rule). some ++ get_or rules n d ∷ []) was
    ∙ sym (one_rule_more rules set n (get_or rules n d) inside (slice_get-get_or rules n d within)))

-- ---- place by place

module _ (P : ℕ → Type 0) (n found : ℕ) (before : (place : ℕ) → Has found place ↔ ((place < n) × P place)) where
  pub place_more : P n → (place : ℕ) → Has (with_id found n) place ↔ ((place < n + 1) × P place)
  place_more holds place = (
    λ is. elim (in_with_cases found n place is) [
      | inl e ↦ (omega (arith, e), subst P (sym e) holds)
      | inr old ↦ let it = (before place).0 old in (omega (arith, it.0), it.1)
    ],
    λ it. elim (eq_or_not place n) [
      | inl e ↦ subst (λ (i : ℕ). Has (with_id found n) i) (sym e) (in_with_same found n)
      | inr ne ↦ in_with_old found n place ((before place).1 (omega (arith, it.0, ne), it.1))
    ],
  )

  pub place_less : (P n → ⊥) → (place : ℕ) → Has found place ↔ ((place < n + 1) × P place)
  place_less fails place = (
    λ is. let it = (before place).0 is in (omega (arith, it.0), it.1),
    λ it. elim (eq_or_not place n) [
      | inl e ↦ absurd (fails (subst P e it.1))
      | inr ne ↦ (before place).1 (omega (arith, it.0, ne), it.1)
    ],
  )
