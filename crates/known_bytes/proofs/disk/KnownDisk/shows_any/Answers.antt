use Rattle.std.proofs.Common.{◌+◌, ◌||◌, take, sym, ap, ◌∙◌}
use Rattle.std.specs.List.{list_any}
use Rattle.std.proofs.lemmas.List.{take_all}
use Rattle.std.proofs.lemmas.List.Folds.{list_any_more}
use Rattle.crash_model.specs.Atomic.{shows}
use Rattle.crash_model.specs.Disk.{Disk}
use Rattle.crash_model.specs.Patches.{image_of}
use Rattle.known_bytes.specs.Reading.{disk_of}
use Rattle.known_bytes.proofs.Answered.{known_as}
use Rattle.known_bytes.proofs.disk.KnownDisk.shows_any.Goals as goal

pub loop-disk-preserved : goal.loop-disk-preserved
loop-disk-preserved g c =
    let r = c.args.self.now in
    let disks = c.args.disks.now in
    let i = c.loop-disk.disk-index in
    let x = c.disk-item.result in
    known_as r (λ d. list_any (shows d) (take i disks) || shows d x) (λ d. list_any (shows d) (take (i + 1) disks))
    c.either-answer.result
    (λ set.
    let d = disk_of r (image_of r.family.base r.family.patches set) in
    ap (λ (y : Disk). list_any (shows d) (take i disks) || shows d y) c.disk-item.is
    ∙ sym (list_any_more (shows d) disks i x c.loop-disk-test.true))
    (c.either-answer.ensures r (λ d. list_any (shows d) (take i disks)) (λ d. shows d x) c.loop-disk.invariant
    c.shows.ensures)

pub returns : goal.returns
returns g c =
    let r = c.args.self.now in
    let disks = c.args.disks.now in
    let i = c.loop-disk.disk-index in
    known_as r (λ d. list_any (shows d) (take i disks)) (λ d. list_any (shows d) disks) c.loop-disk.answer
    (λ set. ap (list_any (shows (disk_of r (image_of r.family.base r.family.patches set))))
    (take_all i disks c.loop-disk-test.false))
    c.loop-disk.invariant
