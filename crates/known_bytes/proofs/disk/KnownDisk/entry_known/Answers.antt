use Rattle.std.proofs.Common.{ℕ, subst, ◌∙◌}
use Rattle.crash_model.specs.Disk.{byte}
use Rattle.known_bytes.specs.Reading.{IsKnown}
use Rattle.known_bytes.proofs.disk.KnownDisk.entry_known.Goals as goal

pub returns : goal.returns
returns g c =
    let r = c.args.self.now in
    let one = subst (λ (n : ℕ). IsKnown r (λ d. byte d n c.from-2.result) c.known.result) c.from.ensures
    c.known.ensures in
    subst (λ (n : ℕ). IsKnown r (λ d. byte d c.args.block n) c.known.result)
    (c.from-2.ensures ∙ c.entry_offset.ensures) one
