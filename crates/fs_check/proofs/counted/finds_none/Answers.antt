use Rattle.std.proofs.Common.{sym, ap, ◌∙◌}
use Rattle.std.specs.Prelude.{is_some}
use Rattle.std.proofs.lemmas.Bool.{false≢true}
use Rattle.fs_check.specs.References.{fault_of}
use Rattle.fs_check.proofs.NoneFound.{mapped_found, mapped_none}
use Rattle.fs_check.proofs.counted.finds_none.Goals as goal

pub returns-then-is_some : goal.returns-then-is_some
returns-then-is_some g c = (
  λ is. absurd (false≢true is),
  λ none. absurd
      (mapped_found (fault_of c.args.image.now c.args.test) c.args.pointers.now c.loop-pointer.pointer-index _
      c.loop-pointer-test.true (sym (c.is_some.ensures ∙ ap is_some c.fault_of.ensures) ∙ c.if-is_some.true) none),
)

pub loop-pointer-preserved : goal.loop-pointer-preserved
loop-pointer-preserved g c =
    mapped_none (fault_of c.args.image.now c.args.test) c.args.pointers.now c.loop-pointer.pointer-index _
    c.loop-pointer-test.true (sym (c.is_some.ensures ∙ ap is_some c.fault_of.ensures) ∙ c.if-is_some.false)
    c.loop-pointer.invariant
