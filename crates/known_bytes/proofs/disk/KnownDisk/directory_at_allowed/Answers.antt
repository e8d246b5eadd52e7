use Rattle.std.proofs.Common.{true, false, sym, ◌∙◌}
use Rattle.std.proofs.lemmas.Bool.{false≢true}
use Rattle.crash_model.specs.Patches.{image_of}
use Rattle.known_bytes.specs.Directories.{counts_at}
use Rattle.known_bytes.specs.Reading.{disk_of}
use Rattle.known_bytes.proofs.FaultTests.{counts_is}
use Rattle.known_bytes.proofs.MaybeEnds.{surely, no_directory, its_block}
use Rattle.known_bytes.proofs.WhatIsShown.{so_of_directory}
use Rattle.known_bytes.proofs.disk.KnownDisk.directory_at_allowed.Goals as goal

pub returns-then-not-is_data : goal.returns-then-not-is_data
returns-then-not-is_data g c = λ allowed set m at.
    let r = c.args.self.now in
    let d = disk_of r (image_of r.family.base r.family.patches set) in
    let none = no_directory d c.args.dir c.args.block (c.is_data.ensures.value set m ∙ c.if-not-is_data.true) at in
    so_of_directory (λ shown. g.S.Showing.excuses c.args.showing.now shown) d c.args.dir
    (λ counted. absurd (false≢true (sym none ∙ counted))) (λ never. c.allows.ensures allowed)

pub returns-then-never_holds : goal.returns-then-never_holds
returns-then-never_holds g c = λ allowed set m at.
    let r = c.args.self.now in
    let d = disk_of r (image_of r.family.base r.family.patches set) in
    let its = its_block d c.args.dir c.args.block (c.is_data.ensures.value set m ∙ c.if-not-is_data.false) at in
    let none = sym (counts_is d c.args.dir c.args.block its)
    ∙ surely r (counts_at c.args.dir c.args.block) c.counts_at-counts.result false
    (c.never_holds.ensures c.if-never_holds.true) c.counts_at-counts.ensures set m in
    so_of_directory (λ shown. g.S.Showing.excuses c.args.showing.now shown) d c.args.dir
    (λ counted. absurd (false≢true (sym none ∙ counted))) (λ never. c.allows-then-never_holds.ensures allowed)

pub returns-then-always_holds : goal.returns-then-always_holds
returns-then-always_holds g c = λ allowed set m at.
    let r = c.args.self.now in
    let d = disk_of r (image_of r.family.base r.family.patches set) in
    let its = its_block d c.args.dir c.args.block (c.is_data.ensures.value set m ∙ c.if-not-is_data.false) at in
    let always = sym (counts_is d c.args.dir c.args.block its)
    ∙ surely r (counts_at c.args.dir c.args.block) c.counts_at-counts.result true
    (c.always_holds.ensures c.if-always_holds.true) c.counts_at-counts.ensures set m in
    so_of_directory (λ shown. g.S.Showing.excuses c.args.showing.now shown) d c.args.dir
    (λ counted. c.allows-2.ensures c.if-not-allows.false) (λ never. absurd (false≢true (sym never ∙ always)))

pub returns : goal.returns
returns g c = λ allowed set m at.
    let r = c.args.self.now in
    so_of_directory (λ shown. g.S.Showing.excuses c.args.showing.now shown)
    (disk_of r (image_of r.family.base r.family.patches set)) c.args.dir
    (λ counted. c.allows-2.ensures c.if-not-allows.false) (λ never. c.allows-3.ensures allowed)
