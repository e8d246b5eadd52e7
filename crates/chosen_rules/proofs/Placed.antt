-- Which rules of a list exclude a set.
use Rattle.std.proofs.Common.{◌≡◌, ℕ, ◌<◌, ◌≤◌, List, length, get_or, arith, sym, subst}
use Rattle.std.specs.Prelude.{◌↔◌}
use Rattle.std.proofs.lemmas.Option.{slice_get_within, slice_get-get_or, get_or_from_slice_get}
use Rattle.patch_sets.specs.Sets.{Has}
use Rattle.crash_model.specs.Trace.{Emitted}
use Rattle.crash_model.specs.declared.rules.Rule.{Rule}
use Rattle.chosen_rules.specs.Excluded.{Excludes, ExcludesAt}

module _ (emitted : List Emitted) (rules : List Rule) (set n : ℕ) where
  pub excludes_at : (d : Rule) → n < length rules → Excludes emitted (get_or rules n d) set
      → ExcludesAt emitted rules set n
  excludes_at d within excludes = (get_or rules n d, slice_get-get_or rules n d within, excludes)

  pub excludes_not : (d : Rule) → (Excludes emitted (get_or rules n d) set → ⊥) → ExcludesAt emitted rules set n → ⊥
  excludes_not d none (rule, at, excludes) = none (subst (λ (r : Rule). Excludes emitted r set)
      (sym (get_or_from_slice_get rules n rule d at)) excludes)

  -- all places were asked about
  pub all_placed : (all : List Rule) (found : ℕ) → rules ≡ all → length rules ≤ n
      → ((place : ℕ) → Has found place ↔ ((place < n) × ExcludesAt emitted rules set place))
      → (place : ℕ) → Has found place ↔ ExcludesAt emitted all set place
  all_placed all found same long is =
      subst (λ (rs : List Rule). (place : ℕ) → Has found place ↔ ExcludesAt emitted rs set place) same
      (λ place. (
        λ has. ((is place).0 has).1,
        λ at. (is place).1 (omega (arith, long, slice_get_within rules place at.0 at.1), at),
      ))
