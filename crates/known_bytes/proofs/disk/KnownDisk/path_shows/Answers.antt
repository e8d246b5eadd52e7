use Rattle.std.proofs.Common.{sym, ap, ◌∙◌}
use Rattle.std.specs.Prelude.{Some}
use Rattle.crash_model.specs.Patches.{image_of}
use Rattle.crash_model.specs.Paths.{path_shows, names_show, inode_shown}
use Rattle.known_bytes.specs.Reading.{disk_of}
use Rattle.known_bytes.proofs.Answered.{known_in}
use Rattle.known_bytes.proofs.disk.KnownDisk.path_shows.Goals as goal

pub returns-in-Some : goal.returns-in-Some
unfolding path_shows names_show
returns-in-Some g c =
    let r = c.args.self.now in
    known_in r (λ d. inode_shown d (Some c.in-Some.inode)) (λ d. path_shows d c.args.path.now) c.inode_shows.result
    (λ set m. ap (inode_shown (disk_of r (image_of r.family.base r.family.patches set)))
    (sym (c.in_ok-inode.ensures.known set m ∙ c.in-Some.is))) c.inode_shows.ensures

pub returns-in-None : goal.returns-in-None
unfolding path_shows names_show
returns-in-None g c = λ set m.
    let r = c.args.self.now in
    ap (inode_shown (disk_of r (image_of r.family.base r.family.patches set)))
    (c.in_ok-inode.ensures.known set m ∙ c.in-None.is)
