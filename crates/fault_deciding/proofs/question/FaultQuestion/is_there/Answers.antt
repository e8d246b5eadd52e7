use Rattle.std.proofs.Common.{List, sym, ap, ◌∙◌}
use Rattle.crash_model.specs.Promises.{Promise, breaks_line}
use Rattle.known_bytes.specs.SetFaults.{is_of_set}
use Rattle.known_bytes.specs.Texts.{has_fault}
use Rattle.fault_deciding.specs.Asked.{family_of}
use Rattle.fault_deciding.proofs.Promised.{known_as, of_disk}
use Rattle.fault_deciding.proofs.question.FaultQuestion.is_there.Goals as goal

pub returns-in-BrokenPromise : goal.returns-in-BrokenPromise
returns-in-BrokenPromise g c =
    let self = c.args.self.now in
    let demands = self.demands.now in
    let line = c.in-BrokenPromise.line in
    known_as (family_of self.chains.now c.args.family) (λ set d. breaks_line c.promises.result.now set d line)
    (λ set d. is_of_set demands set d self.fault) c.breaks_line.result
    (λ set d. ap (λ (ps : List Promise). breaks_line ps set d line) c.promises.ensures
    ∙ sym (ap (is_of_set demands set d) c.in-BrokenPromise.is)) c.breaks_line.ensures

pub returns-in_default : goal.returns-in_default
returns-in_default g c =
    let self = c.args.self.now in
    let demands = self.demands.now in
    known_as (family_of self.chains.now c.args.family) (λ set d. has_fault demands d self.fault)
    (λ set d. is_of_set demands set d self.fault) c.is_on_disk.result
    (λ set d. of_disk demands set d self.fault c.in_default.not-BrokenPromise) c.is_on_disk.ensures
