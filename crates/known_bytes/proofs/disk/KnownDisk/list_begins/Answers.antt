use Rattle.std.proofs.Common.{◌+◌, ◌*◌, ℕ, List, sym, subst}
use Rattle.std.specs.Prelude.{slice_range}
use Rattle.std.specs.List.{Contains}
use Rattle.crash_model.specs.Patches.{image_of}
use Rattle.known_bytes.specs.Reading.{disk_of}
use Rattle.known_bytes.proofs.disk.KnownDisk.list_begins.Goals as goal

pub returns-in-Some-clause-begins : goal.returns-in-Some-clause-begins
returns-in-Some-clause-begins g c = λ listed set m.
    let r = c.args.self.now in
    let d = disk_of r (image_of r.family.base r.family.patches set) in
    let word : List ℕ = slice_range d.bytes (128 * c.args.block) (128 * c.args.block + 4) in
    c.push_begins.ensures.pushed listed word
    (subst (λ (words : List (List ℕ)). Contains words word) (sym c.as_slice.ensures.value) (c.in-Some.ensures set m))
