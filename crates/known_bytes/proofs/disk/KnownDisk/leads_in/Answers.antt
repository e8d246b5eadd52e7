use Rattle.std.proofs.Common.{◌≡◌, false, Option, subst}
use Rattle.std.specs.Prelude.{MatchOption}
use Rattle.crash_model.specs.Layout.{counts}
use Rattle.known_bytes.specs.Reading.{InEachDisk}
use Rattle.known_bytes.specs.Directories.{IsFound}
use Rattle.known_bytes.specs.declared.directories.Directory.{Directory}
use Rattle.known_bytes.proofs.Counted.{entries_none}
use Rattle.known_bytes.proofs.disk.KnownDisk.leads_in.Goals as goal

pub returns-in-None-clause-count : goal.returns-in-None-clause-count
returns-in-None-clause-count g c =
    let r = c.args.self.now in
    let none = subst (λ (o : Option Directory). MatchOption o (InEachDisk r (λ d. counts d c.args.dir ≡ false))
    (λ it. IsFound r c.args.dir it.block it.counts)) c.in-None.is c.requires.found in
    entries_none r c.args.inode c.args.dir c.none.result.least c.none.result.most c.none.result.ask none
    (c.none.ensures.counted r)
