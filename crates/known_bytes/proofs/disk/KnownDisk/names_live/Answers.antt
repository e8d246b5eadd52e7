use Rattle.std.proofs.Common.{ℕ, Bool, Result, Option, ◌&&◌, ap, sym, subst}
use Rattle.std.specs.Prelude.{nat_le, IfErr}
use Rattle.crash_model.specs.Layout.{is_live}
use Rattle.crash_model.specs.Patches.{image_of}
use Rattle.known_bytes.specs.Counts.{entries_in}
use Rattle.known_bytes.specs.Family.{IsUndecided}
use Rattle.known_bytes.specs.Reading.{IsKnown, disk_of}
use Rattle.known_bytes.specs.declared.directories.Directory.{Directory}
use Rattle.known_bytes.specs.Reached.{names_live}
use Rattle.crash_model.specs.Strict.{has_entry_to}
use Rattle.known_bytes.proofs.Answered.{known_as, both_none}
use Rattle.known_bytes.proofs.Named.{entry_there}
use Rattle.known_bytes.proofs.disk.KnownDisk.names_live.Goals as goal
use Rattle.known_bytes.proofs.disk.KnownDisk.names_live.Goals.{in-Ok, in-Err}

pub returns-then-never_holds : goal.returns-then-never_holds
returns-then-never_holds g c =
    let r = c.args.self.now in
    let i = c.args.inode in
    both_none r (λ d. is_live d i) (λ d. has_entry_to d c.args.dir i)
    (subst (λ (a : Result Bool ℕ). IsKnown r (λ d. is_live d i) a) (c.never_holds.ensures c.if-never_holds.true)
    c.is_live-is_live.ensures)

pub returns : goal.returns
returns g c =
    let r = c.args.self.now in
    let dir = c.args.dir in
    let i = c.args.inode in
    let there : IsKnown r (λ d. nat_le 1 (entries_in 10 d i dir)) c.match-found.is_named =
    elim c.match-found.branch [
      | in-Ok w ↦ subst (λ (a : Result Bool ℕ). IsKnown r (λ d. nat_le 1 (entries_in 10 d i dir)) a) (sym w.is_named-is)
          (w.reach-is_named.ensures r (λ d. entries_in 10 d i dir) w.leads_in.ensures.count)
      | in-Err w ↦ subst (λ (a : Result Bool ℕ). IsKnown r (λ d. nat_le 1 (entries_in 10 d i dir)) a)
          (sym w.is_named-is)
          (subst (λ (a : Result (Option Directory) ℕ). IfErr a (IsUndecided r.family)) w.in-Err.is c.requires.err)
    ] in
    known_as r (λ d. is_live d i && nat_le 1 (entries_in 10 d i dir)) (names_live dir i) c.both.result
    (λ set. ap (λ (b : Bool). is_live (disk_of r (image_of r.family.base r.family.patches set)) i && b)
    (entry_there (disk_of r (image_of r.family.base r.family.patches set)) dir i))
    (c.both.ensures r (λ d. is_live d i) (λ d. nat_le 1 (entries_in 10 d i dir)) c.is_live-is_live.ensures there)
