-- The reasons one by one.
use Rattle.std.proofs.Common.{◌≡◌, ℕ, suc, List, [], ◌∷◌, ◌++◌, length, map, Bool, true, false, codes, refl, ap, ◌∙◌}
use Rattle.std.proofs.Common.{arith}
use Rattle.std.specs.Prelude.{filter, cond, if◌then◌else◌, not, ◌==◌, ◌||◌}
use Rattle.std.specs.List.{list_any}
use Rattle.std.proofs.lemmas.Bool.Decides.{nat_tests}
use Rattle.crash_model.specs.Reasons.{reasons}
use Rattle.crash_model.specs.RuleTexts.{rule_text}
use Rattle.crash_model.specs.Trace.{Emitted, applies, depends}
use Rattle.crash_model.specs.declared.rules.Rule as rules
use Rattle.traced_patches.specs.Reasons.{reason_text, first_reasons}
use Rattle.traced_patches.specs.Traced.{TracedPatches, AreReasons}
use Rattle.traced_patches.specs.declared.reasons.Reason.{Reason}
use Rattle.traced_patches.specs.declared.reasons.Reason.TheVariants.{Block, Group, Wait, Rule}
use Rattle.traced_patches.specs.declared.reasons.Reasons.{Reasons}

-- ---- their texts

rule_texts : (some : List rules.Rule) → map reason_text (map Rule some) ≡ map rule_text some
rule_texts [] = refl
rule_texts (r ∷ rs) = ap (λ (ts : List (List ℕ)). rule_text r ∷ ts) (rule_texts rs)

after_group : (wait : Bool) (some : List rules.Rule)
    → map reason_text ((if wait then Wait ∷ [] else []) ++ map Rule some)
    ≡ (if wait then codes "wait" ∷ [] else []) ++ map rule_text some
after_group true some = ap (λ (ts : List (List ℕ)). codes "wait" ∷ ts) (rule_texts some)
after_group false some = rule_texts some

after_block : (group wait : Bool) (some : List rules.Rule)
    → map reason_text (((if group then Group ∷ [] else []) ++ (if wait then Wait ∷ [] else [])) ++ map Rule some)
    ≡ (if group then codes "group" ∷ [] else []) ++ (if wait then codes "wait" ∷ [] else []) ++ map rule_text some
after_block true wait some = ap (λ (ts : List (List ℕ)). codes "group" ∷ ts) (after_group wait some)
after_block false wait some = after_group wait some

after_overlap : (block group wait : Bool) (some : List rules.Rule)
    → map reason_text (((if block then Block ∷ [] else []) ++ (if group then Group ∷ [] else [])
    ++ (if wait then Wait ∷ [] else [])) ++ map Rule some)
    ≡ (if block then codes "block" ∷ [] else []) ++ (if group then codes "group" ∷ [] else [])
    ++ (if wait then codes "wait" ∷ [] else []) ++ map rule_text some
after_overlap true group wait some = ap (λ (ts : List (List ℕ)). codes "block" ∷ ts) (after_block group wait some)
after_overlap false group wait some = after_block group wait some

texts_of : (overlap block group wait : Bool) (some : List rules.Rule)
    → map reason_text (first_reasons overlap block group wait ++ map Rule some)
    ≡ (if overlap then codes "overlap" ∷ [] else []) ++ (if block then codes "block" ∷ [] else [])
    ++ (if group then codes "group" ∷ [] else []) ++ (if wait then codes "wait" ∷ [] else []) ++ map rule_text some
texts_of true block group wait some =
    ap (λ (ts : List (List ℕ)). codes "overlap" ∷ ts) (after_overlap block group wait some)
texts_of false block group wait some = after_overlap block group wait some

pub texts_are : (t : TracedPatches) (q : Emitted) (id : ℕ) (p : Emitted) (r : Reasons) (items : List Reason)
    → items ≡ first_reasons r.overlap r.block r.group r.wait ++ map Rule r.rules.items → AreReasons t q id p r
    → map reason_text items ≡ reasons t.rules t.whole t.links q id p
texts_are t q id p r items is are = ap (map reason_text) is
    ∙ (texts_of r.overlap r.block r.group r.wait r.rules.items
    ∙ rw (are.overlap, are.block, are.group, are.wait, are.rules) refl)

-- ---- there is one where a patch depends on the earlier one

none_is_not : (n : ℕ) → true ≡ not (suc n == 0)
none_is_not n = grind (arith, nat_tests)

any_applies : (test : rules.Rule → Bool) (some : List rules.Rule)
    → list_any test some ≡ not (length (map Rule (filter test some)) == 0)
any_applies test [] = refl
any_applies test (r ∷ rs) = by_test (test r) (any_applies test rs)
  where
    by_test : (b : Bool) → list_any test rs ≡ not (length (map Rule (filter test rs)) == 0)
        → (b || list_any test rs) ≡ not (length (map Rule (cond b (r ∷ filter test rs) (filter test rs))) == 0)
    by_test true rest = none_is_not _
    by_test false rest = rest

some_of : (overlap block group wait : Bool) (test : rules.Rule → Bool) (some : List rules.Rule)
    → (overlap || block || group || wait || list_any test some) ≡ not (length
    (first_reasons overlap block group wait ++ map Rule (filter test some)) == 0)
some_of true block group wait test some = none_is_not _
some_of false true group wait test some = none_is_not _
some_of false false true wait test some = none_is_not _
some_of false false false true test some = none_is_not _
some_of false false false false test some = any_applies test some

pub some_are : (t : TracedPatches) (q : Emitted) (id : ℕ) (p : Emitted) (r : Reasons) (items : List Reason)
    → items ≡ first_reasons r.overlap r.block r.group r.wait ++ map Rule r.rules.items → AreReasons t q id p r
    → depends t.rules t.whole t.links q id p ≡ not (length items == 0)
some_are t q id p r items is are =
    rw (is, are.rules, are.overlap, are.block, are.group, are.wait)
    (some_of _ _ _ _ (λ rule. applies rule q p) t.rules)
