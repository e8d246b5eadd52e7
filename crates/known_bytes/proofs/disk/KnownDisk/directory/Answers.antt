use Rattle.std.proofs.Common.{◌≡◌, ℕ, Bool, false, Option, Result, subst, sym, ◌∙◌}
use Rattle.std.specs.Prelude.{MatchOption}
use Rattle.crash_model.specs.Patches.{image_of}
use Rattle.crash_model.specs.Layout.{counts}
use Rattle.known_bytes.specs.Reading.{IsKnown, InEachDisk, disk_of}
use Rattle.known_bytes.specs.Directories.{IsItsBlock, counts_at}
use Rattle.known_bytes.proofs.FaultTests.{counts_is}
use Rattle.known_bytes.proofs.disk.KnownDisk.directory.Goals as goal

pub returns-in_default-clause-ok : goal.returns-in_default-clause-ok
returns-in_default-clause-ok g c =
    let r = c.args.self.now in
    subst (λ (o : Option ℕ). MatchOption o (InEachDisk r (λ d. counts d c.args.dir ≡ false))
    (λ block. InEachDisk r (IsItsBlock c.args.dir block))) c.in_default.is c.in_ok-block.ensures.ok

pub returns-then-never_holds-clause-ok : goal.returns-then-never_holds-clause-ok
returns-then-never_holds-clause-ok g c = λ set m.
    let r = c.args.self.now in
    let dir = c.args.dir in
    let block = c.in-Some.block in
    let its = subst (λ (o : Option ℕ). MatchOption o (InEachDisk r (λ d. counts d dir ≡ false))
    (λ block. InEachDisk r (IsItsBlock dir block))) c.in-Some.is c.in_ok-block.ensures.ok in
    let none = subst (λ (a : Result Bool ℕ). IsKnown r (counts_at dir block) a)
    (c.never_holds.ensures c.if-never_holds.true) c.counts_at-counts.ensures in
    sym (counts_is (disk_of r (image_of r.family.base r.family.patches set)) dir block (its set m)) ∙ none set m

pub returns-clause-ok : goal.returns-clause-ok
returns-clause-ok g c =
    let r = c.args.self.now in
    let dir = c.args.dir in
    let its = subst (λ (o : Option ℕ). MatchOption o (InEachDisk r (λ d. counts d dir ≡ false))
    (λ block. InEachDisk r (IsItsBlock dir block))) c.in-Some.is c.in_ok-block.ensures.ok in
    record { its = its; known = c.counts_at-counts.ensures }
