use Rattle.std.proofs.Common.{rules, ◌≡◌, ◌<◌, length, Some, Err, IfErr, subst, sym}
use Rattle.std.specs.Prelude.{IsErrAnd}
use Rattle.byte_io.specs.Counted.{IsReadFault}
use Rattle.crash_text.specs.Served.{IsRefusedBy}
use Rattle.crash_text.proofs.Serving.{whole, known-any, unread_refused, refused_on}
use Rattle.crash_text.proofs.serve.serve.Goals as goal

pub returns-in_err-script-clause-refused : goal.returns-in_err-script-clause-refused
returns-in_err-script-clause-refused g c =
    let fault = c.in_err-script.field-0.0 in
    let coming = g.S.Source.coming c.args.source.now in
    let same : c.from_residual.result ≡ Err fault = search rules in
    subst (λ r. IfErr r (IsRefusedBy coming c.args.request.now)) (sym same)
    (unread_refused coming c.args.request.now fault c.in_err-script.ensures.kinds)

pub returns-in_err-script-clause-bounded : goal.returns-in_err-script-clause-bounded
returns-in_err-script-clause-bounded g c =
    let fault = c.in_err-script.field-0.0 in
    let same : c.from_residual.result ≡ Err fault = search rules in
    known-any (λ bytes. 1048576 < length bytes → IsErrAnd c.from_residual.result IsReadFault)
    (g.S.Source.coming c.args.source.now)
    (λ bytes more. subst (λ r. IsErrAnd r IsReadFault) (sym same) c.in_err-script.ensures.kinds)

pub returns-clause-refused : goal.returns-clause-refused
returns-clause-refused g c =
    let bytes = c.in_ok-script.script.items in
    let coming = g.S.Source.coming c.args.source.now in
    refused_on coming bytes c.args.request.now c.serve_script.result
    (whole coming _ bytes c.in_ok-script.ensures.whole)
    (subst (λ xs. IfErr c.serve_script.result (IsRefusedBy (Some xs) c.args.request.now))
    c.as_slice.ensures.value c.serve_script.ensures.refused)
