-- Which of the lines that wait exclude a fault, as they are found.
use Rattle.std.proofs.Common.{◌≡◌, ℕ, ◌+◌, ◌<◌, ◌≤◌, List, length, Some, arith, refl, sym, ◌∙◌, ap, subst, inl, inr}
use Rattle.std.specs.Prelude.{◌↔◌, slice_get, option_map}
use Rattle.std.specs.List.{slice_index_or}
use Rattle.std.proofs.lemmas.List.{length-map}
use Rattle.std.proofs.lemmas.Option.{slice_get_within, slice_get_read, slice_get-map}
use Rattle.patch_sets.specs.Ends.{IsDifference, IsLowest}
use Rattle.patch_sets.specs.Sets.{Has}
use Rattle.patch_sets.proofs.Bits.{eq_or_not, none_in_empty}
use Rattle.crash_model.specs.Emitted.{Emitted}
use Rattle.crash_model.specs.Waiting as waiting
use Rattle.crash_model.specs.declared.fault.Fault.{Fault}
use Rattle.rule_laws.proofs.Closed.{get_some}
use Rattle.traced_patches.specs.Labels.{emitted_at, wait_by, waits_by}
use Rattle.traced_patches.specs.declared.labels.Label.{Label}
use Rattle.traced_patches.specs.declared.labels.Wait.{Wait}
use Rattle.chosen_rules.specs.ExcludedBy.{HasBehind, HoldsBack, ExcludesFault, ExcludesFaultAt}

-- ---- a patch behind another

pub none_so_far : (emitted : List Emitted) (set id line n : ℕ) → (Has set n → id < n → ⊥)
    → (b : HasBehind emitted set id line) → n ≤ b.q → n + 1 ≤ b.q
none_so_far emitted set id line n not b least = elim (eq_or_not b.q n) [
  | inl e ↦ absurd (not (subst (Has set) e b.inside) (omega (arith, e, b.order)))
  | inr ne ↦ omega (arith, least, ne)
]

module _ (emitted : List Emitted) (set id line n : ℕ) (label : Label)
    (read : (e : Emitted) → slice_get emitted n ≡ Some e → e ≡ emitted_at e.place label) where
  same_line : (e : Emitted) → slice_get emitted n ≡ Some e → e.origin.line ≡ label.origin.line
  same_line e at = ap (λ (x : Emitted). x.origin.line) (read e at)

  pub is_behind : n < length emitted → Has set n → id < n → line < label.origin.line → HasBehind emitted set id line
  is_behind within inside order before =
      let it = get_some emitted n within in
      let same = same_line it.0 it.1 in
      record {
        q = n;
        later = it.0;
        inside = inside;
        order = order;
        later_at = it.1;
        before = omega (arith, same, before);
      }

  pub none_behind : (Has set n → id < n → line < label.origin.line → ⊥) → (b : HasBehind emitted set id line)
      → n ≤ b.q → n + 1 ≤ b.q
  none_behind not b least = elim (eq_or_not b.q n) [
    | inl e ↦
        let at : slice_get emitted n ≡ Some b.later = ap (slice_get emitted) (sym e) ∙ b.later_at in
        let same = same_line b.later at in
        absurd (not (subst (Has set) e b.inside) (omega (arith, e, b.order)) (omega (arith, same, b.before)))
    | inr ne ↦ omega (arith, least, ne)
  ]

pub no_more : (emitted : List Emitted) (set id line n : ℕ) (b : HasBehind emitted set id line) → length emitted ≤ n
    → n ≤ b.q → ⊥
no_more emitted set id line n b all least =
    let within = slice_get_within emitted b.q b.later b.later_at in omega (arith, all, least, within)

-- ---- what a set lacks

module _ (emitted : List Emitted) (set missing : ℕ) (wait : waiting.Wait)
    (apart : IsDifference wait.ids set missing) where
  pub lacks_none : missing ≡ 0 → HoldsBack emitted set wait → ⊥
  lacks_none none holds = none_in_empty holds.p
      (subst (λ (m : ℕ). Has m holds.p) none ((apart.exactly holds.p).1 (holds.forced, holds.lacks)))

  pub holds_by_lowest : (id : ℕ) → IsLowest missing id
      → HasBehind emitted set id wait.line ↔ HoldsBack emitted set wait
  holds_by_lowest id low = (
    λ behind.
        let both = (apart.exactly id).0 low.inside in
        record { p = id; forced = both.0; lacks = both.1; behind = behind },
    λ holds.
        let b = holds.behind in
        let least = low.least holds.p ((apart.exactly holds.p).1 (holds.forced, holds.lacks)) in
        record {
          q = b.q;
          later = b.later;
          inside = b.inside;
          order = omega (arith, least, b.order);
          later_at = b.later_at;
          before = b.before;
        },
  )

-- ---- one line after another

module _ (emitted : List Emitted) (waits : List Wait) (set : ℕ) (fault : Fault) (n : ℕ) where
  module _ (wait : Wait) (within : n < length waits) (is : wait ≡ slice_index_or waits n wait) where
    wait_there : slice_get (waits_by waits) n ≡ Some (wait_by wait)
    wait_there = slice_get-map wait_by waits n
        ∙ ap (option_map wait_by) (slice_get_read waits (length waits) n wait refl within is)

    pub excludes_at : ExcludesFault emitted set fault (wait_by wait)
        → ExcludesFaultAt emitted (waits_by waits) set fault n
    excludes_at excludes = (wait_by wait, wait_there, excludes)

    pub excludes_not : (ExcludesFault emitted set fault (wait_by wait) → ⊥)
        → ExcludesFaultAt emitted (waits_by waits) set fault n → ⊥
    excludes_not none (other, at, excludes) =
        let here = wait_there in
        let same : other ≡ wait_by wait = cc in
        none (subst (ExcludesFault emitted set fault) same excludes)

  -- all lines were asked about
  pub all_placed : (all : List waiting.Wait) (found : ℕ) → waits_by waits ≡ all → length waits ≤ n
      → ((place : ℕ) → Has found place ↔ ((place < n) × ExcludesFaultAt emitted (waits_by waits) set fault place))
      → (place : ℕ) → Has found place ↔ ExcludesFaultAt emitted all set fault place
  all_placed all found same long is =
      subst (λ ws. (place : ℕ) → Has found place ↔ ExcludesFaultAt emitted ws set fault place) same
      (λ place. (
        λ has. ((is place).0 has).1,
        λ at.
            let within = slice_get_within (waits_by waits) place at.0 at.1 in
            let as_many = length-map waits wait_by in
            (is place).1 (omega (arith, long, within, as_many), at),
      ))
