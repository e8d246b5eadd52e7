use Rattle.std.proofs.Common.{◌≡◌, ℕ, Bool, true, false, refl, sym, subst, ◌∙◌}
use Rattle.std.specs.Prelude.{MatchOption, Option, Result}
use Rattle.crash_model.specs.Layout.{counts}
use Rattle.crash_model.specs.Patches.{image_of}
use Rattle.known_bytes.specs.Reading.{InEachDisk, IsKnown, disk_of}
use Rattle.known_bytes.specs.Directories.{IsFound, counts_at}
use Rattle.known_bytes.specs.declared.directories.Directory.{Directory}
use Rattle.known_bytes.proofs.FaultTests.{counts_is}
use Rattle.known_bytes.proofs.disk.KnownDisk.directory_shows.Goals as goal

pub returns-in_default : goal.returns-in_default
returns-in_default g c = λ set m.
    let r = c.args.self.now in
    let none = subst (λ (o : Option Directory). MatchOption o (InEachDisk r (λ d. counts d c.args.dir ≡ false))
    (λ it. IsFound r c.args.dir it.block it.counts)) c.in_default.is c.in_ok-directory.ensures.ok in
    rw (none set m) refl

pub returns-then-counts : goal.returns-then-counts
returns-then-counts g c = λ set m.
    let r = c.args.self.now in
    let dir = c.args.dir in
    let block = c.in-Some.directory.block in
    let d = disk_of r (image_of r.family.base r.family.patches set) in
    let found = subst (λ (o : Option Directory). MatchOption o (InEachDisk r (λ d. counts d dir ≡ false))
    (λ it. IsFound r dir it.block it.counts)) c.in-Some.is c.in_ok-directory.ensures.ok in
    let known = subst (λ (a : Result Bool ℕ). IsKnown r (counts_at dir block) a) c.in_ok-counts.was found.known in
    let counted : counts d dir ≡ true =
    sym (counts_is d dir block (found.its set m)) ∙ (known set m ∙ c.if-counts.true) in
    rw counted refl

pub returns-else-counts : goal.returns-else-counts
returns-else-counts g c = λ set m.
    let r = c.args.self.now in
    let dir = c.args.dir in
    let block = c.in-Some.directory.block in
    let d = disk_of r (image_of r.family.base r.family.patches set) in
    let found = subst (λ (o : Option Directory). MatchOption o (InEachDisk r (λ d. counts d dir ≡ false))
    (λ it. IsFound r dir it.block it.counts)) c.in-Some.is c.in_ok-directory.ensures.ok in
    let known = subst (λ (a : Result Bool ℕ). IsKnown r (counts_at dir block) a) c.in_ok-counts.was found.known in
    let never : counts d dir ≡ false =
    sym (counts_is d dir block (found.its set m)) ∙ (known set m ∙ c.if-counts.false) in
    rw never refl
