use Rattle.std.proofs.Common.{◌≢◌, sym, ◌∙◌, length, map, arith}
use Rattle.std.proofs.lemmas.Bool.{eqb-true, eqb-false}
use Rattle.traced_patches.proofs.Explained.{emitted_is, no_dependency, dependency_is}
use Rattle.traced_patches.specs.Reasons.{reason_text}
use Rattle.report.proofs.explaining.dependency.Goals as goal

pub returns-then-is_empty : goal.returns-then-is_empty
returns-then-is_empty g c = λ q at.
    let t = c.args.traced.now in
    let there = emitted_is t.emitted c.args.earlier c.requires.emitted in
    let are = c.reasons.ensures q there.0 at there.1 in
    sym (no_dependency t q there.0 c.args.earlier (length c.list-reasons.result.items) there.1
    (c.list-reasons.ensures.some t q c.args.earlier there.0 are)
    (eqb-true (length c.list-reasons.result.items) 0 (sym c.is_empty.ensures ∙ c.if-is_empty.true)))

pub returns : goal.returns
returns g c = λ q at.
    let t = c.args.traced.now in
    let there = emitted_is t.emitted c.args.earlier c.requires.emitted in
    let are = c.reasons.ensures q there.0 at there.1 in
    sym (dependency_is t q there.0 c.args.earlier (length c.list-reasons.result.items)
    (map reason_text c.list-reasons.result.items) there.1 (c.list-reasons.ensures.some t q c.args.earlier there.0 are)
    (let some : length c.list-reasons.result.items ≢ 0 = eqb-false (length c.list-reasons.result.items) 0
    (sym c.is_empty.ensures ∙ c.if-is_empty.false) in omega arith)
    (c.list-reasons.ensures.texts t q c.args.earlier there.0 are))
