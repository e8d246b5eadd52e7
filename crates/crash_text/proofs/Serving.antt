-- What is served, and which refusals are not a run's.
use Rattle.std.proofs.Common.{◌≡◌, ℕ, ◌<◌, ◌≤◌, List, ◌++◌, length, Option, Some, None, IfSome, Bool, true, false, refl}
use Rattle.std.proofs.Common.{sym, subst, ap, ◌∙◌, append-nil, arith}
use Rattle.std.specs.Prelude.{◌≢◌, Result, Ok, Err, IfErr}
use Rattle.std.specs.Io.KnownBytes.{Consumes, IsAtEnd}
use Rattle.report.specs.Answers.{Refused, IsAnswerTo}
use Rattle.question_model.specs.Refusals.{IsSetsRefusal, untraced, too_many}
use Rattle.question_model.specs.Refusals.{IsUntraced, bad_script, bad_geometry, bad_base, bad_trace}
use Rattle.crash_model.specs.Refusals.{run_of_script, run_of_trace}
use Rattle.crash_model.specs.declared.refusals.RunFault.{RunFault}
use Rattle.crash_model.specs.declared.refusals.RunFault.TheVariants.{CannotRead, CannotWrite, ScriptTooLong}
use Rattle.crash_model.specs.declared.refusals.RunFault.TheVariants.{OutOfMemory}
use Rattle.crash_model.specs.declared.refusals.ScriptFault.{ScriptFault}
use Rattle.crash_model.specs.declared.refusals.ScriptFault.TheVariants as script
use Rattle.crash_model.specs.declared.refusals.TraceFault.{TraceFault}
use Rattle.crash_model.specs.declared.refusals.TraceFault.TheVariants as trace
use Rattle.crash_model.specs.declared.settings.Settings.{Settings}
use Rattle.byte_io.specs.Counted.{IsReadFault}
use Rattle.question_model.specs.declared.question.Question.{Question}
use Rattle.question_model.specs.declared.question.Question.TheVariants.{FailingSets, Decide, Enough}
use Rattle.question_model.specs.declared.question.Question.TheVariants.{EnoughLines, Search, SearchRules}
use Rattle.question_model.specs.declared.question.Request.{Request}
use Rattle.question_model.specs.SearchRefusal.{IsSearchRefusal, before_the_pool, no_operation}
use Rattle.question_model.specs.LinesRefusal as lines
use Rattle.question_model.specs.LinesRefusal.{IsLinesRefusal}
use Rattle.crash_text.specs.Served.{IsWhole, IsRefusedBy}

-- a source that was read to its end had these bytes
pub whole : (old new : Option (List ℕ)) (bytes : List ℕ) → Consumes old new bytes × IsAtEnd new → IsWhole old bytes
whole None new bytes read = tt
whole (Some xs) None bytes (all, end) = absurd all
whole (Some xs) (Some ys) bytes (all, end) = sym (all ∙ ap (λ zs. bytes ++ zs) end ∙ append-nil bytes)

pub known-any : (P : List ℕ → Type 0) (old : Option (List ℕ)) → ((bytes : List ℕ) → P bytes) → IfSome old P
known-any P None all = tt
known-any P (Some xs) all = all xs

-- a source that was read whole was not too long
pub not_longer : (P : Type 0) (old new : Option (List ℕ)) (bytes : List ℕ) (most : ℕ)
    → Consumes old new bytes × IsAtEnd new → length bytes ≤ most → IfSome old (λ all. most < length all → P)
not_longer P None new bytes most read few = tt
not_longer P (Some all) new bytes most read few = λ more.
    let same : length bytes ≡ length all = ap (λ (xs : List ℕ). length xs) (whole (Some all) new bytes read) in
    absurd (omega arith)

-- why a source was not read is no script's answer
pub unread_refused : (coming : Option (List ℕ)) (request : Request) (fault : RunFault) → IsReadFault fault
    → IsRefusedBy coming request fault
unread_refused coming request CannotRead is = λ a b c d. absurd (a refl)
unread_refused coming request ScriptTooLong is = λ a b c d. absurd (c refl)
unread_refused coming request OutOfMemory is = λ a b c d. absurd (d refl)
unread_refused coming request _ is = absurd is

-- a refusal of a script's bytes is one of a source that had these
pub refused_on : {X : Type 0} (coming : Option (List ℕ)) (bytes : List ℕ) (request : Request)
    (result : Result X RunFault) → IsWhole coming bytes → IfErr result (IsRefusedBy (Some bytes) request)
    → IfErr result (IsRefusedBy coming request)
refused_on coming bytes request (Ok value) read refused = tt
refused_on coming bytes request (Err fault) read refused = λ a b c d.
    let given = refused a b c d in
    (given.0, subst (λ xs. IsWhole coming xs) (sym given.1) read, given.2)

-- whether a run itself can refuse so
abbrev pub is_of_run : RunFault → Bool
is_of_run CannotRead = false
is_of_run CannotWrite = false
is_of_run ScriptTooLong = false
is_of_run _ = true

script_is_of_run : (fault : ScriptFault) → is_of_run (run_of_script fault) ≡ true
script_is_of_run (script.BadUtf8 line) = refl
script_is_of_run _ = refl

trace_is_of_run : (fault : TraceFault) → is_of_run (run_of_trace fault) ≡ true
trace_is_of_run (trace.NotFound line) = refl
trace_is_of_run _ = refl

untraced_is_of_run : {bytes : List ℕ} {settings : Settings} {fault : RunFault} → IsUntraced bytes settings fault
    → is_of_run fault ≡ true
untraced_is_of_run (bad_script fault refused) = script_is_of_run fault
untraced_is_of_run (bad_geometry before steps read none) = refl
untraced_is_of_run (bad_base before steps fault read geometry is) = trace_is_of_run fault
untraced_is_of_run (bad_trace base steps fault start is) = trace_is_of_run fault

sets_is_of_run : {limit : ℕ} {bytes : List ℕ} {settings : Settings} {fault : RunFault}
    → IsSetsRefusal limit bytes settings fault → is_of_run fault ≡ true
sets_is_of_run (untraced fault is) = untraced_is_of_run is
sets_is_of_run (too_many base last patches has more) = refl

search_is_of_run : {bytes : List ℕ} {settings : Settings} {fault : RunFault} → IsSearchRefusal bytes settings fault
    → is_of_run fault ≡ true
search_is_of_run (before_the_pool fault is none) = untraced_is_of_run is
search_is_of_run (no_operation base front rest step start operations first) = refl

lines_is_of_run : {bytes : List ℕ} {settings : Settings} {fault : RunFault} → IsLinesRefusal bytes settings fault
    → is_of_run fault ≡ true
lines_is_of_run (lines.before_the_trace fault is none) = untraced_is_of_run is
lines_is_of_run (lines.bad_trace base steps fault start is) = trace_is_of_run fault
lines_is_of_run (lines.too_many base steps last wait start is past) = refl

refusal_is_of_run : (question : Question) (bytes : List ℕ) (settings : Settings) (fault : RunFault)
    → IsAnswerTo question bytes settings (Refused fault) → is_of_run fault ≡ true
refusal_is_of_run (FailingSets limit) bytes settings fault is = sets_is_of_run is
refusal_is_of_run Decide bytes settings fault is = untraced_is_of_run is
refusal_is_of_run Enough bytes settings fault is = untraced_is_of_run is
refusal_is_of_run EnoughLines bytes settings fault is = lines_is_of_run is
refusal_is_of_run (Search longest) bytes settings fault is = search_is_of_run is
refusal_is_of_run (SearchRules longest) bytes settings fault is = search_is_of_run is

-- where a run refused, the refusal is no device's
pub not_of_device : {X : Type 0} (result : Result X RunFault) (bytes : List ℕ) (request : Request)
    (fault device : RunFault)
    → (fault ≢ OutOfMemory → IsAnswerTo request.question bytes request.settings (Refused fault))
    → is_of_run device ≡ false → result ≡ Err fault → result ≡ Err device → ⊥
not_of_device result bytes request fault device answers is ran refused =
    let same : fault ≡ device = cc in
    let memory : fault ≢ OutOfMemory = λ e. let yes : is_of_run device ≡ true =
    subst (λ f. is_of_run f ≡ true) (sym e ∙ same) refl in cc in
    let yes : is_of_run device ≡ true = subst (λ f. is_of_run f ≡ true) same
    (refusal_is_of_run request.question bytes request.settings fault (answers memory)) in
    cc
