use Rattle.std.proofs.Common.{ℕ, List, take_all}
use Rattle.std.specs.Borrow.{Bor}
use Rattle.report.specs.Fields.{field, natural}
use Rattle.report.proofs.Adding.{ends, fields_more, mapped_fields, no_fields, object_written}
use Rattle.report.proofs.fields.write_numbers.Goals as goal

pub loop-key-init : goal.loop-key-init
loop-key-init c = no_fields

pub loop-key-preserved : goal.loop-key-preserved
loop-key-preserved c =
    fields_more (λ (n : Bor (List ℕ) × ℕ). field n.0.now (natural n.1)) c.args.numbers.now c.loop-key.key-index _
    c.loop-key-test.true c.loop-key.invariant c.in_ok-write_number.ensures

pub returns : goal.returns
returns c = ends c.end_object.result c.end_object.ensures (λ last. object_written c.in_ok-begin_object.ensures
    (rw (
      take_all c.loop-key.key-index c.args.numbers.now c.loop-key-test.false,
      mapped_fields (λ (n : List ℕ × ℕ). field n.0 (natural n.1)) (λ (n : Bor (List ℕ) × ℕ). (n.0.now, n.1))
          c.args.numbers.now,
    ) at c.loop-key.invariant) last)
