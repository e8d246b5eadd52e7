use Rattle.std.proofs.Common.{◌≡◌, ◌<◌, ℕ, Bool, ◌&&◌, length, arith, tests}
use Rattle.std.specs.Prelude.{◌==◌, nat_lt}
use Rattle.crash_model.specs.Patches.{image_of}
use Rattle.crash_model.specs.Layout.{is_live, links_of}
use Rattle.crash_model.specs.Faults.{entries_to, has_low_links}
use Rattle.known_bytes.specs.Reading.{disk_of}
use Rattle.known_bytes.proofs.Answered.{known_as}
use Rattle.known_bytes.proofs.disk.KnownDisk.has_low_links.Goals as goal

low_is : (live : Bool) (l n links entries : ℕ) → links < entries
    → ((live && (l == links)) && (n == entries)) ≡ ((live && nat_lt l n) && ((n == entries) && (l == links)))
low_is live l n links entries less = grind (arith, tests)

pub returns : goal.returns
returns g c =
    let r = c.args.self.now in
    let i = c.args.inode in
    let less : c.args.links < c.args.entries = omega arith in
    known_as r (λ d. (is_live d i && (links_of d i == c.args.links)) && (length (entries_to d i) == c.args.entries))
    (λ d. has_low_links d i && (length (entries_to d i) == c.args.entries && links_of d i == c.args.links))
    c.both.result
    (λ set.
    let d = disk_of r (image_of r.family.base r.family.patches set) in
    low_is (is_live d i) (links_of d i) (length (entries_to d i)) c.args.links c.args.entries less)
    (c.both.ensures r (λ d. is_live d i && (links_of d i == c.args.links))
    (λ d. length (entries_to d i) == c.args.entries)
    (c.both-is_used.ensures r (λ d. is_live d i) (λ d. links_of d i == c.args.links) c.is_live.ensures
    c.links_are.ensures)
    c.entries_are.ensures)
