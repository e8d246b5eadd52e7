use Rattle.std.proofs.Common.{◌≡◌, ◌+◌, ◌++◌, ◌∷◌, [], ℕ, List, Bool, true, false, cond, length, length-append, sym, ap}
use Rattle.std.proofs.Common.{◌∙◌, arith, append-nil}
use Rattle.std.specs.Prelude.{◌==◌}
use Rattle.std.specs.List.{list_any}
use Rattle.crash_model.specs.declared.plans.Change.{Change}
use Rattle.crash_model.specs.declared.modules.Module.{Module}
use Rattle.patch_sets.proofs.Ids.{ids_more}
use Rattle.order_modules.specs.Transactions.{changes_in_place, targets_of}
use Rattle.order_modules.proofs.transactions.touched.Goals as goal
use Rattle.order_modules.proofs.transactions.touched.Goals.{then-is_touched, else-is_touched}

module _ (kind : Module) (n : ℕ) (changes : List Change) where
  abbrev is_touched : ℕ → Bool
  is_touched b = list_any (λ c. c.block == b) (changes_in_place kind changes)

  one_more : (old new : List ℕ) → old ≡ targets_of kind n changes → is_touched n ≡ true → new ≡ old ++ n ∷ []
      → new ≡ targets_of kind (n + 1) changes
  one_more old new so t more =
      let tail : cond (is_touched n) (n ∷ []) [] ≡ n ∷ [] = ap (λ (b : Bool). cond b (n ∷ []) []) t in
      more ∙ ap (λ (xs : List ℕ). xs ++ n ∷ []) so ∙ ap (λ (xs : List ℕ). targets_of kind n changes ++ xs) (sym tail)
      ∙ sym (ids_more n is_touched)

  no_more : (old new : List ℕ) → old ≡ targets_of kind n changes → is_touched n ≡ false → new ≡ old
      → new ≡ targets_of kind (n + 1) changes
  no_more old new so f same =
      let tail : cond (is_touched n) (n ∷ []) [] ≡ [] = ap (λ (b : Bool). cond b (n ∷ []) []) f in
      same ∙ so ∙ sym (append-nil (targets_of kind n changes))
      ∙ ap (λ (xs : List ℕ). targets_of kind n changes ++ xs) (sym tail) ∙ sym (ids_more n is_touched)

pub loop-block-preserved : goal.loop-block-preserved
loop-block-preserved c =
    let old = c.loop-block.targets.items in
    elim c.if-is_touched.branch [
      | then-is_touched w ↦
          let is : c.if-is_touched.targets.items ≡ old ++ c.loop-block.block ∷ [] = ap (λ xs. xs.items) w.targets-is
          ∙ w.push.ensures.items in
          record {
            targets = one_more c.args.module c.loop-block.block c.args.changes.now old c.if-is_touched.targets.items
                c.loop-block.invariant.targets (sym c.is_touched.ensures ∙ w.if-is_touched.true) is;
            few = omega (
              arith,
              ap (λ (xs : List ℕ). length xs) is,
              length-append old (c.loop-block.block ∷ []),
              c.loop-block.invariant.few,
            );
          }
      | else-is_touched w ↦
          let is : c.if-is_touched.targets.items ≡ old = ap (λ xs. xs.items) w.targets-is in
          record {
            targets = no_more c.args.module c.loop-block.block c.args.changes.now old c.if-is_touched.targets.items
                c.loop-block.invariant.targets (sym c.is_touched.ensures ∙ w.if-is_touched.false) is;
            few = omega (arith, ap (λ (xs : List ℕ). length xs) is, c.loop-block.invariant.few);
          }
    ]
