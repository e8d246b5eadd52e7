-- Which dependencies more rules keep.
use Rattle.std.proofs.Common.{◌≡◌, List, Bool, true, false, ◌||◌, ℕ, refl, ap, ◌∙◌}
use Rattle.std.specs.List.{Contains, list_any}
use Rattle.std.proofs.lemmas.List.Elements.{All-contains}
use Rattle.std.proofs.lemmas.List.Folds.{Any-from_list_any, list_any_at}
use Rattle.crash_model.specs.Patches.{overlap}
use Rattle.crash_model.specs.RuleFacts.{AreAmong}
use Rattle.crash_model.specs.Trace.{Emitted, applies, depends, groups_depend, waits_for}
use Rattle.crash_model.specs.WholeBlocks.{shares_block}
use Rattle.crash_model.specs.declared.rules.Rule.{Rule}

any-among : (p : Rule → Bool) (some all : List Rule) → AreAmong some all → list_any p some ≡ true
    → list_any p all ≡ true
any-among p some all among any =
    let found = Any-from_list_any p some any in
    let there : Contains all found.1 = All-contains (Contains all) some found.1 among (found.0, found.2, found.3) in
    list_any_at p all there.0 found.1 there.1 (ap p there.2 ∙ found.4)

or-more : (a b c : Bool) → (b ≡ true → c ≡ true) → (a || b) ≡ true → (a || c) ≡ true
or-more true b c more h = refl
or-more false b c more h = more h

-- what depends on an earlier patch by some of the rules does so by all of them
pub depends-among : (some all : List Rule) (whole : Bool) (links : List (List ℕ × List ℕ)) (q : Emitted) (id : ℕ)
    (p : Emitted) → AreAmong some all
    → depends some whole links q id p ≡ true → depends all whole links q id p ≡ true
depends-among some all whole links q id p among =
    or-more (overlap q.place p.place || shares_block whole q p || groups_depend links q p || waits_for q id)
    (list_any (λ rule. applies rule q p) some)
    (list_any (λ rule. applies rule q p) all)
    (any-among (λ rule. applies rule q p) some all among)
