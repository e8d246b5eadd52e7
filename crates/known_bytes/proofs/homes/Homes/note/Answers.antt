use Rattle.std.proofs.Common.{◌≡◌, ℕ, ◌<◌, Bool, inl, inr, subst, ◌∙◌, ap, arith}
use Rattle.std.specs.Prelude.{Result, Ok, Err, IfErr, slice_index}
use Rattle.known_bytes.proofs.Noting.{noted_copied, noted_left, noted_open}
use Rattle.known_bytes.proofs.homes.Homes.note.Goals as goal

pub returns-in-Ok-true-clause-noted : goal.returns-in-Ok-true-clause-noted
returns-in-Ok-true-clause-noted c =
    let was = c.args.self.now in
    noted_copied c.args.copied was.blocks was.others c.set_homes.new.homes c.settle.new.others c.args.first
    c.args.targets.now (c.in-Ok-true.is ∙ ap (λ (b : Bool). Ok b) c.in-Ok-true.field-0-test) c.set_homes.ensures
    c.settle.ensures.settled c.settle.ensures.kept

pub returns-in-Ok-false-clause-noted : goal.returns-in-Ok-false-clause-noted
returns-in-Ok-false-clause-noted c =
    let was = c.args.self.now in
    noted_left c.args.copied was.blocks was.others c.args.first c.args.targets.now
    (c.in-Ok-false.is ∙ ap (λ (b : Bool). Ok b) c.in-Ok-false.field-0-test)

pub returns-in-Err-clause-noted : goal.returns-in-Err-clause-noted
returns-in-Err-clause-noted c =
    let was = c.args.self.now in
    noted_open c.args.copied was.blocks was.others c.add_homes.new.others c.args.first c.args.targets.now
    c.add_homes.ensures

pub returns-in-Err-clause-asks : goal.returns-in-Err-clause-asks
returns-in-Err-clause-asks c = λ b some.
    let was = c.args.self.now in
    let small : c.in-Err.id < 128 = subst (λ (r : Result Bool ℕ). IfErr r (λ id. id < 128)) c.in-Err.is
    c.requires.patch in
    elim (c.ask.ensures.kept b) [
      | inl among ↦
          let asked = c.ask.ensures.new b among in
          let which : c.in-Err.id ≡ slice_index c.ask.new.asks b = omega (arith, asked) in
          inr (c.in-Err.is ∙ ap (λ (k : ℕ). Err k) which)
      | inr same ↦ elim (c.add_homes.ensures.others b) [
        | inl among ↦
            let asked = c.ask.ensures.new b among in
            let which : c.in-Err.id ≡ slice_index c.ask.new.asks b = omega (arith, asked) in
            inr (c.in-Err.is ∙ ap (λ (k : ℕ). Err k) which)
        | inr kept ↦ inl (λ none. some (kept ∙ none), same)
      ]
    ]
