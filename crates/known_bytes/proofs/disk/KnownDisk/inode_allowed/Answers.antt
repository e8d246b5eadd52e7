use Rattle.std.proofs.Common.{true, false, sym, ◌∙◌}
use Rattle.std.specs.Prelude.{◌==◌}
use Rattle.std.proofs.lemmas.Bool.{false≢true}
use Rattle.crash_model.specs.Layout.{kind_of}
use Rattle.crash_model.specs.Patches.{image_of}
use Rattle.known_bytes.specs.Reading.{disk_of}
use Rattle.known_bytes.proofs.MaybeEnds.{surely}
use Rattle.known_bytes.proofs.WhatIsShown.{so_of_inode}
use Rattle.known_bytes.proofs.disk.KnownDisk.inode_allowed.Goals as goal

pub returns-then-never_holds : goal.returns-then-never_holds
returns-then-never_holds g c = λ allowed set m.
    let r = c.args.self.now in
    let never = surely r (λ d. kind_of d c.args.inode == 2) c.kind_is-is_directory.result false
    (c.never_holds.ensures c.if-never_holds.true) c.kind_is-is_directory.ensures set m in
    so_of_inode (λ shown. g.S.Showing.excuses c.args.showing.now shown)
    (disk_of r (image_of r.family.base r.family.patches set)) c.args.inode
    (λ is. absurd (false≢true (sym never ∙ is))) (λ is. c.file_allowed.ensures allowed set m)

pub returns-then-always_holds : goal.returns-then-always_holds
returns-then-always_holds g c = λ allowed set m.
    let r = c.args.self.now in
    let always = surely r (λ d. kind_of d c.args.inode == 2) c.kind_is-is_directory.result true
    (c.always_holds.ensures c.if-always_holds.true) c.kind_is-is_directory.ensures set m in
    so_of_inode (λ shown. g.S.Showing.excuses c.args.showing.now shown)
    (disk_of r (image_of r.family.base r.family.patches set)) c.args.inode
    (λ is. c.directory_allowed.ensures c.if-not-directory_allowed.false set m)
    (λ is. absurd (false≢true (sym is ∙ always)))

pub returns : goal.returns
returns g c = λ allowed set m.
    let r = c.args.self.now in
    so_of_inode (λ shown. g.S.Showing.excuses c.args.showing.now shown)
    (disk_of r (image_of r.family.base r.family.patches set)) c.args.inode
    (λ is. c.directory_allowed.ensures c.if-not-directory_allowed.false set m)
    (λ is. c.file_allowed-2.ensures allowed set m)
