use Rattle.std.proofs.Common.{ℕ, subst, ◌∙◌}
use Rattle.crash_model.specs.Disk.{byte}
use Rattle.known_bytes.specs.Family.{HasValue}
use Rattle.known_bytes.specs.Reading.{InEachDisk}
use Rattle.known_bytes.proofs.disk.KnownDisk.entries.Goals as goal

pub returns : goal.returns
returns g c =
    let r = c.args.self.now in
    let values = c.values.result in
    let one = subst (λ (n : ℕ). InEachDisk r (λ d. HasValue values.low values.high (byte d n c.from-2.result)))
    c.from.ensures c.values.ensures in
    subst (λ (n : ℕ). InEachDisk r (λ d. HasValue values.low values.high (byte d c.args.block n)))
    (c.from-2.ensures ∙ c.entry_offset.ensures) one
