use Rattle.std.proofs.Common.{ℕ, arith, sym, ap, ◌∙◌}
use Rattle.crash_model.specs.Disk.{byte}
use Rattle.crash_model.specs.Patches.{image_of}
use Rattle.known_bytes.specs.Reading.{disk_of}
use Rattle.known_bytes.proofs.Beginnings.{begins_are}
use Rattle.known_bytes.proofs.disk.KnownDisk.begins.Goals as goal

pub returns : goal.returns
returns g c = λ set m.
    let r = c.args.self.now in
    let d = disk_of r (image_of r.family.base r.family.patches set) in
    let like = c.base.ensures.alike set m in
    let same = sym c.from-block.ensures in
    begins_are d c.args.block c.in_ok-first.first c.in_ok-second.second c.in_ok-third.third c.in_ok-fourth.fourth
    like.disk (omega (arith, like.blocks, c.requires)) (ap (λ (n : ℕ). byte d n 0) same ∙ c.in_ok-first.ensures set m)
    (ap (λ (n : ℕ). byte d n 1) same ∙ c.in_ok-second.ensures set m)
    (ap (λ (n : ℕ). byte d n 2) same ∙ c.in_ok-third.ensures set m)
    (ap (λ (n : ℕ). byte d n 3) same ∙ c.in_ok-fourth.ensures set m)
