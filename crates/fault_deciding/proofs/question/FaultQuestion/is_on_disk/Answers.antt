use Rattle.std.proofs.Common.{true, ap, ◌∙◌}
use Rattle.known_bytes.specs.Family.{Family}
use Rattle.known_bytes.specs.Reading.{Reading}
use Rattle.known_bytes.specs.Texts.{has_fault}
use Rattle.fault_deciding.specs.Asked.{family_of}
use Rattle.fault_deciding.proofs.Promised.{of_replayed, read_of_disks}
use Rattle.fault_deciding.proofs.question.FaultQuestion.is_on_disk.Goals as goal

pub returns : goal.returns
returns g c =
    let self = c.args.self.now in
    let demands = self.demands.now in
    let disk = c.in_ok-disk.disk in
    let replayed : Family → Reading = λ f. record { family = f; replayed = true } in
    of_replayed (family_of self.chains.now c.args.family) disk (λ set d. has_fault demands d self.fault) c.has.result
    (c.in_ok-disk.ensures.ok ∙ ap replayed c.new-bytes.ensures)
    (read_of_disks disk (λ d. has_fault demands d self.fault) c.has.result c.has.ensures)
