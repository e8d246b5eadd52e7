use Rattle.std.proofs.Common.{◌≡◌, ℕ, Bool, true, false, sym, subst, ◌∙◌}
use Rattle.std.specs.Prelude.{MatchOption, Option, Result}
use Rattle.crash_model.specs.Layout.{counts}
use Rattle.crash_model.specs.Paths.{child_of}
use Rattle.crash_model.specs.Plan.{name_spelling}
use Rattle.crash_model.specs.Patches.{image_of}
use Rattle.known_bytes.specs.Reading.{InEachDisk, IsKnown, disk_of}
use Rattle.known_bytes.specs.Directories.{IsFound, counts_at}
use Rattle.known_bytes.specs.NamedIn.{first_child_in}
use Rattle.known_bytes.specs.declared.directories.Directory.{Directory}
use Rattle.known_bytes.proofs.Answered.{known_in}
use Rattle.known_bytes.proofs.ChildrenIn.{child_first, child_none}
use Rattle.known_bytes.proofs.FaultTests.{counts_is}
use Rattle.known_bytes.proofs.disk.KnownDisk.child.Goals as goal

pub returns-in_default-clause-known : goal.returns-in_default-clause-known
returns-in_default-clause-known g c = λ set m.
    let r = c.args.self.now in
    let d = disk_of r (image_of r.family.base r.family.patches set) in
    let none = subst (λ (o : Option Directory). MatchOption o (InEachDisk r (λ d. counts d c.args.dir ≡ false))
    (λ it. IsFound r c.args.dir it.block it.counts)) c.in_default.is c.in_ok-directory.ensures.ok in
    child_none d c.args.dir c.args.name.now (none set m)

pub returns-then-counts-clause-known : goal.returns-then-counts-clause-known
returns-then-counts-clause-known g c =
    let r = c.args.self.now in
    let dir = c.args.dir in
    let block = c.in-Some.directory.block in
    let found = subst (λ (o : Option Directory). MatchOption o (InEachDisk r (λ d. counts d dir ≡ false))
    (λ it. IsFound r dir it.block it.counts)) c.in-Some.is c.in_ok-directory.ensures.ok in
    let known = subst (λ (a : Result Bool ℕ). IsKnown r (counts_at dir block) a) c.in_ok-counts.was found.known in
    known_in r (first_child_in 10 block (name_spelling c.args.name.now)) (λ d. child_of d dir c.args.name.now)
    c.first_child.result
    (λ set m.
    let d = disk_of r (image_of r.family.base r.family.patches set) in
    let counted : counts d dir ≡ true = sym (counts_is d dir block (found.its set m))
    ∙ (known set m ∙ c.if-counts.true) in
    sym (child_first d dir block c.args.name.now counted ((found.its set m).only counted)))
    c.first_child.ensures.known

pub returns-else-counts-clause-known : goal.returns-else-counts-clause-known
returns-else-counts-clause-known g c = λ set m.
    let r = c.args.self.now in
    let dir = c.args.dir in
    let block = c.in-Some.directory.block in
    let d = disk_of r (image_of r.family.base r.family.patches set) in
    let found = subst (λ (o : Option Directory). MatchOption o (InEachDisk r (λ d. counts d dir ≡ false))
    (λ it. IsFound r dir it.block it.counts)) c.in-Some.is c.in_ok-directory.ensures.ok in
    let known = subst (λ (a : Result Bool ℕ). IsKnown r (counts_at dir block) a) c.in_ok-counts.was found.known in
    child_none d dir c.args.name.now (sym (counts_is d dir block (found.its set m)) ∙ (known set m ∙ c.if-counts.false))
