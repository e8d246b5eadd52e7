-- Which lines are broken, and the next of them.
use Rattle.std.proofs.Common.{◌≡◌, ℕ, ◌+◌, ◌<◌, ◌≤◌, ◌⊎◌, inl, inr, List, [], ◌∷◌, ◌++◌, length, get_or}
use Rattle.std.proofs.Common.{take}
use Rattle.std.proofs.Common.{Bool, true}
use Rattle.std.proofs.Common.{false, ◌&&◌, ◌||◌, ◌==◌, not, Option, Some, None, arith, refl, sym, ap, ◌∙◌}
use Rattle.std.specs.Prelude.{IfSome}
use Rattle.std.specs.List.{list_any}
use Rattle.std.proofs.lemmas.Bool.{false≢true, cases_Bool, eq-eqb, and_parts, and_right}
use Rattle.std.proofs.lemmas.List.Folds.{list_any_more}
use Rattle.patch_sets.proofs.Ids.{eq_from_true}
use Rattle.crash_model.specs.Disk.{Disk}
use Rattle.crash_model.specs.Lists.{some_below, when}
use Rattle.crash_model.specs.Promises.{Promise, is_broken, breaks_line}
use Rattle.crash_model.specs.BrokenLines.{lines_end, broken_lines}
use Rattle.crash_model.specs.declared.fault.Fault.{Fault}
use Rattle.crash_model.specs.declared.fault.Fault.TheVariants.{BrokenPromise}
use Rattle.crash_model.proofs.Clean.{some_none}
use Rattle.crash_model.proofs.EachBelow.{some_below-none}
use Rattle.fs_check.specs.Broken.{IsNextBroken}
use Rattle.fs_check.proofs.NoneFound.{none_between}
use Rattle.fs_check.proofs.Found.{pushed}

or_cases : (a b : Bool) → (a || b) ≡ true → (a ≡ true) ⊎ (b ≡ true)
or_cases true b is = inl refl
or_cases false b is = inr is

or_none : (a b : Bool) → (a || b) ≡ false → (a ≡ false) × (b ≡ false)
or_none false b is = (refl, is)
or_none true b is = absurd (false≢true (sym is))

or_right : (a b : Bool) → b ≡ true → (a || b) ≡ true
or_right true b is = refl
or_right false b is = is

pub is_false : (b : Bool) → not b ≡ true → b ≡ false
is_false true is = absurd (false≢true is)
is_false false is = refl

pub not_false : (b : Bool) → b ≡ false → not b ≡ true
not_false true is = absurd (false≢true (sym is))
not_false false is = refl

module _ (set : ℕ) (d : Disk) where
  abbrev pub broken : Promise → Bool
  broken p = is_broken p set d

  -- ---- whether any is

  none_broken : (ps : List Promise) (line : ℕ) → list_any broken ps ≡ false → breaks_line ps set d line ≡ false
  none_broken [] line none = refl
  none_broken (p ∷ ps) line none =
      let both = or_none (broken p) (list_any broken ps) none in
      rw (both.0, and_right (p.line == line) false refl) (none_broken ps line both.1)

  some_broken : (ps : List Promise) → list_any broken ps ≡ true
      → (line : ℕ) × ((line < lines_end ps) × (breaks_line ps set d line ≡ true))
  some_broken [] some = absurd (false≢true some)
  some_broken (p ∷ ps) some = elim (or_cases (broken p) (list_any broken ps) some) [
    | inl here ↦ (p.line, (omega arith, rw (here, eq-eqb p.line p.line refl) refl))
    | inr there ↦ let it = some_broken ps there in
        (it.0, (omega (arith, it.1.0), or_right (p.line == it.0 && broken p) _ it.1.1))
  ]

  pub broken_below : (ps : List Promise) (line : ℕ) → breaks_line ps set d line ≡ true → line < lines_end ps
  broken_below [] line is = absurd (false≢true is)
  broken_below (p ∷ ps) line is = elim (or_cases (p.line == line && broken p) (breaks_line ps set d line) is) [
    | inl here ↦ omega (arith, eq_from_true p.line line (and_parts (p.line == line) (broken p) here).0)
    | inr there ↦ omega (arith, broken_below ps line there)
  ]

  abbrev pub broken_at : List Promise → ℕ → Option Fault
  broken_at ps line = when (breaks_line ps set d line) (BrokenPromise line)

  pub kept_from_none : (ps : List Promise) → list_any broken ps ≡ false → broken_lines ps set d ≡ []
  unfolding broken_lines
  kept_from_none ps none = some_below-none (lines_end ps) _ (λ line below. rw (none_broken ps line none) refl)

  pub none_from_kept : (ps : List Promise) → broken_lines ps set d ≡ [] → list_any broken ps ≡ false
  unfolding broken_lines
  none_from_kept ps kept = elim (cases_Bool (list_any broken ps)) [
    | inl some ↦ let it = some_broken ps some in
        absurd (false≢true (sym (some_none (λ line. breaks_line ps set d line) BrokenPromise (lines_end ps) kept it.0
        it.1.0) ∙ it.1.1))
    | inr none ↦ none
  ]

  -- ---- the next

  -- what a promise more breaks
  pub more : (ps : List Promise) (i : ℕ) (p : Promise) → i < length ps → p ≡ get_or ps i p → (line : ℕ)
      → breaks_line (take (i + 1) ps) set d line ≡ (breaks_line (take i ps) set d line || (p.line == line && broken p))
  more ps i p below is line = list_any_more (λ (q : Promise). q.line == line && broken q) ps i p below
      ∙ ap (λ (q : Promise). breaks_line (take i ps) set d line || (q.line == line && broken q)) (sym is)

  module _ (ps : List Promise) (i : ℕ) (p : Promise) (below : i < length ps) (is : p ≡ get_or ps i p) where
    also_none : (line : ℕ) → (p.line ≡ line → broken p ≡ true → ⊥) → breaks_line (take i ps) set d line ≡ false
        → breaks_line (take (i + 1) ps) set d line ≡ false
    also_none line never none = more ps i p below is line ∙ rw none (elim (cases_Bool (p.line == line && broken p)) [
      | inl both ↦
          let parts = and_parts (p.line == line) (broken p) both in
          absurd (never (eq_from_true p.line line parts.0) parts.1)
      | inr not ↦ not
    ])

    module _ (from : ℕ) where
      -- those before it are behind the next
      passed_none : (next : Option ℕ) (line : ℕ) → from ≤ line → IfSome next (λ other. line < other)
          → IsNextBroken (take i ps) set d from next → breaks_line (take i ps) set d line ≡ false
      passed_none None line behind before old = old line behind
      passed_none (Some next) line behind before old = old.2 line behind before

      before_too : (next : Option ℕ) (line : ℕ) → line < p.line → IfSome next (λ other. p.line < other)
          → IfSome next (λ other. line < other)
      before_too None line less before = tt
      before_too (Some next) line less before = omega (arith, less, before)

      pub next_taken : (next : Option ℕ) → from ≤ p.line → IfSome next (λ other. p.line < other) → broken p ≡ true
          → IsNextBroken (take i ps) set d from next → IsNextBroken (take (i + 1) ps) set d from (Some p.line)
      next_taken next behind before breaks old = (
        behind,
        more ps i p below is p.line
            ∙ or_right (breaks_line (take i ps) set d p.line) _ (rw (breaks, eq-eqb p.line p.line refl) refl),
        λ line from_it less. also_none line (λ same _. absurd (omega (arith, same, less)))
            (passed_none next line from_it (before_too next line less before) old),
      )

      pub next_left : (next : Option ℕ)
          → ¬ ((from ≤ p.line) × (IfSome next (λ other. p.line < other)) × (broken p ≡ true))
          → IsNextBroken (take i ps) set d from next → IsNextBroken (take (i + 1) ps) set d from next
      next_left None never old = λ line behind. also_none line
          (λ same breaks. never (omega (arith, same, behind), tt, breaks)) (old line behind)
      next_left (Some next) never old = (
        old.0,
        more ps i p below is next ∙ rw old.1 refl,
        λ line behind less. also_none line
            (λ same breaks. never (omega (arith, same, behind), omega (arith, same, less), breaks))
            (old.2 line behind less),
      )

  -- ---- all of them

  pub all_listed : (ps : List Promise) (from : ℕ) (old found : List Fault) → from ≤ lines_end ps
      → IsNextBroken ps set d from None → found ≡ old ++ some_below from (broken_at ps)
      → found ≡ old ++ broken_lines ps set d
  unfolding broken_lines
  all_listed ps from old found within none listed = listed ∙ ap (λ (fs : List Fault). old ++ fs)
      (sym (none_between (broken_at ps) from (lines_end ps) within (λ line behind below. rw (none line behind) refl)))

  pub one_listed : (ps : List Promise) (from next : ℕ) (old found now : List Fault)
      → IsNextBroken ps set d from (Some next)
      → now ≡ found ++ BrokenPromise next ∷ [] → found ≡ old ++ some_below from (broken_at ps)
      → now ≡ old ++ some_below (next + 1) (broken_at ps)
  one_listed ps from next old found now is push listed = pushed (broken_at ps) next (BrokenPromise next) old found now
      (rw is.1 refl) push (listed ∙ ap (λ (fs : List Fault). old ++ fs)
      (sym (none_between (broken_at ps) from next is.0 (λ line behind below. rw (is.2 line behind below) refl))))
