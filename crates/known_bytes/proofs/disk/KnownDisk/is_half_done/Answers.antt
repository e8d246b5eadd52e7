use Rattle.std.proofs.Common.{List, Option, not, sym, ap}
use Rattle.std.specs.List.{list_any}
use Rattle.crash_model.specs.Atomic.{shows}
use Rattle.crash_model.specs.Disk.{Disk}
use Rattle.crash_model.specs.Patches.{image_of}
use Rattle.known_bytes.specs.Reading.{disk_of}
use Rattle.known_bytes.specs.Texts.{half_done_there}
use Rattle.known_bytes.proofs.Answered.{known_as}
use Rattle.known_bytes.proofs.disk.KnownDisk.is_half_done.Goals as goal

pub returns-in-Some : goal.returns-in-Some
returns-in-Some g c =
    let r = c.args.self.now in
    let disks = c.in-Some.disks.now in
    known_as r (λ d. not (list_any (shows d) disks)) (λ d. half_done_there c.args.demands.now.disks d) c.negation.result
    (λ set. ap (λ (o : Option (List Disk)). half_done_there o (disk_of r (image_of r.family.base r.family.patches set)))
    (sym c.in-Some.ensures))
    (c.negation.ensures r (λ d. list_any (shows d) disks) c.shows_any.ensures)

pub returns-in-None : goal.returns-in-None
returns-in-None g c = λ set m.
    let r = c.args.self.now in
    ap (λ (o : Option (List Disk)). half_done_there o (disk_of r (image_of r.family.base r.family.patches set)))
    c.in-None.ensures
