use Rattle.std.proofs.Common.{Option, List, ℕ, subst}
use Rattle.std.proofs.lemmas.Result.{err_from_is_err_and}
use denote.Ref.{Bor}
use Rattle.script_text.specs.Parts.{IsPart}
use Rattle.script_text.proofs.Scripts.{base_refused, trace_refused, no_start_line, stopped_at_start, stopped_at_end}
use Rattle.script_text.proofs.script.read_script.Goals as goal

pub returns-in_err-base-clause-refused : goal.returns-in_err-base-clause-refused
returns-in_err-base-clause-refused g c =
    let exit = err_from_is_err_and c.from_residual.result c.from_residual.ensures.1 in
    rw (exit.1, exit.2) (λ other. base_refused c.args.bytes.now _ (c.in_err-base.ensures.refused other))

pub returns-in_default-clause-refused : goal.returns-in_default-clause-refused
returns-in_default-clause-refused g c memory =
    let base = c.in_ok-base.base in
    let part = subst (λ (after : Option (Bor (List ℕ))). IsPart c.args.bytes.now 1 base.steps.items base.line after)
    c.in_default.is c.in_ok-base.ensures.ok in
    no_start_line c.args.bytes.now base.steps.items base.line part

pub returns-in_err-traced-clause-refused : goal.returns-in_err-traced-clause-refused
returns-in_err-traced-clause-refused g c =
    let base = c.in_ok-base.base in
    let part = subst (λ (after : Option (Bor (List ℕ))). IsPart c.args.bytes.now 1 base.steps.items base.line after)
    c.in-Some.is c.in_ok-base.ensures.ok in
    let exit = err_from_is_err_and c.from_residual-in_err-traced.result c.from_residual-in_err-traced.ensures.1 in
    rw (exit.1, exit.2) (λ other. trace_refused c.args.bytes.now base.steps.items base.line c.in-Some.after _ part
    (c.in_err-traced.ensures.refused other))

pub returns-then-is_some-clause-refused : goal.returns-then-is_some-clause-refused
returns-then-is_some-clause-refused g c memory =
    let base = c.in_ok-base.base in
    let part = subst (λ (after : Option (Bor (List ℕ))). IsPart c.args.bytes.now 1 base.steps.items base.line after)
    c.in-Some.is c.in_ok-base.ensures.ok in
    stopped_at_start c.args.bytes.now base.steps.items base.line c.in-Some.after _ _ _ part c.in_ok-traced.ensures.ok
    c.if-is_some.ensures

pub returns-clause-ok : goal.returns-clause-ok
returns-clause-ok g c =
    let base = c.in_ok-base.base in
    let part = subst (λ (after : Option (Bor (List ℕ))). IsPart c.args.bytes.now 1 base.steps.items base.line after)
    c.in-Some.is c.in_ok-base.ensures.ok in
    stopped_at_end c.args.bytes.now base.steps.items base.line c.in-Some.after _ _ _ part c.in_ok-traced.ensures.ok
    c.if-is_some.ensures
