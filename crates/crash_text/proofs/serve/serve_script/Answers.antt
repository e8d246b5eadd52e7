use Rattle.std.proofs.Common.{rules, ◌≡◌, Some, Err, IfErr, refl, subst, sym, ◌∙◌}
use Rattle.std.specs.Prelude.{string_bytes}
use Rattle.std.specs.Io.KnownBytes.{Appends}
use Rattle.report.specs.Answers.{Reported, IsAnswerTo}
use Rattle.crash_model.specs.declared.refusals.RunFault.TheVariants.{CannotRead, CannotWrite, ScriptTooLong}
use Rattle.crash_text.specs.Served.{IsRefusedBy}
use Rattle.crash_text.proofs.Serving.{not_of_device}
use Rattle.crash_text.proofs.serve.serve_script.Goals as goal

pub returns-in_err-outcome-clause-refused : goal.returns-in_err-outcome-clause-refused
returns-in_err-outcome-clause-refused g c =
    let fault = c.in_err-outcome.field-0.0 in
    let bytes = c.args.script.now in
    let same : c.from_residual.result ≡ Err fault = search rules in
    subst (λ r. IfErr r (IsRefusedBy (Some bytes) c.args.request.now)) (sym same)
    (λ _ _ _ memory. (bytes, refl, c.in_err-outcome.ensures.refused memory))

pub returns-in_err-outcome-clause-read : goal.returns-in_err-outcome-clause-read
returns-in_err-outcome-clause-read g c = λ is.
    not_of_device c.from_residual.result c.args.script.now c.args.request.now c.in_err-outcome.field-0.0 CannotRead
    c.in_err-outcome.ensures.refused refl (search rules) is

pub returns-in_err-outcome-clause-short : goal.returns-in_err-outcome-clause-short
returns-in_err-outcome-clause-short g c = λ is.
    not_of_device c.from_residual.result c.args.script.now c.args.request.now c.in_err-outcome.field-0.0 ScriptTooLong
    c.in_err-outcome.ensures.refused refl (search rules) is

pub returns-in_err-outcome-clause-unwritten : goal.returns-in_err-outcome-clause-unwritten
returns-in_err-outcome-clause-unwritten g c = λ is.
    absurd (not_of_device c.from_residual.result c.args.script.now c.args.request.now c.in_err-outcome.field-0.0
    CannotWrite c.in_err-outcome.ensures.refused refl (search rules) is)

pub returns-in_err-outcome-clause-cut : goal.returns-in_err-outcome-clause-cut
returns-in_err-outcome-clause-cut g c = λ is.
    absurd (not_of_device c.from_residual.result c.args.script.now c.args.request.now c.in_err-outcome.field-0.0
    CannotWrite c.in_err-outcome.ensures.refused refl (search rules) is)

pub returns-in-Ok-clause-served : goal.returns-in-Ok-clause-served
returns-in-Ok-clause-served g c =
    let bytes = c.args.script.now in
    let text = string_bytes c.in_ok-outcome.outcome.text in
    let same : c.as_bytes.result.now ≡ text = search rules in
    record {
      bytes = bytes;
      read = refl;
      text = text;
      answer = c.in_ok-outcome.ensures.reported;
      taken = subst (λ xs. Appends (g.K.Sink.taken c.args.sink.now) (g.K.Sink.taken c.write_all.new.sink) xs) same
          c.in-Ok.ensures.taken;
    }

pub returns-clause-cut : goal.returns-clause-cut
returns-clause-cut g c = λ _.
    let asked = c.args.request.now in
    let bytes = c.args.script.now in
    let text = string_bytes c.in_ok-outcome.outcome.text in
    let begun = c.in-Err.ensures.begun in
    let same : c.as_bytes.result.now ≡ text = search rules in
    record {
      bytes = bytes;
      read = refl;
      front = begun.0;
      rest = begun.1;
      number = c.in_ok-outcome.outcome.number;
      answer = subst (λ t. IsAnswerTo asked.question bytes asked.settings
          (Reported t c.in_ok-outcome.outcome.number)) (sym same ∙ begun.2) c.in_ok-outcome.ensures.reported;
      taken = begun.3;
    }
