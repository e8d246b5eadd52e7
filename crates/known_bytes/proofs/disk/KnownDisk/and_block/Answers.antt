use Rattle.std.proofs.Common.{◌≡◌, ◌+◌, ◌&&◌, ℕ, Bool, true, false, refl, sym, ◌∙◌, subst}
use Rattle.std.specs.Prelude.{bytes_eq, Result, Ok}
use Rattle.std.proofs.lemmas.Bool.{false≢true}
use Rattle.crash_model.specs.Atomic.{is_compared}
use Rattle.crash_model.specs.Disk.{Disk, block_of}
use Rattle.crash_model.specs.Patches.{image_of}
use Rattle.known_bytes.specs.Reading.{IsKnown, disk_of}
use Rattle.known_bytes.specs.Shown.{shows_below}
use Rattle.known_bytes.proofs.Answered.{known_as, both_none}
use Rattle.known_bytes.proofs.ShownDisks.{shows-more, shows-same}
use Rattle.known_bytes.proofs.disk.KnownDisk.and_block.Goals as goal

not_true : (b : Bool) → (b ≡ true → ⊥) → b ≡ false
not_true true refuted = absurd (refuted refl)
not_true false refuted = refl

pub returns-then-not-has : goal.returns-then-not-has
returns-then-not-has g c = λ known.
    let r = c.args.self.now in
    let disk = c.args.disk.now in
    let block = c.args.block in
    let out : is_compared disk block ≡ false = not_true (is_compared disk block) (λ is.
    false≢true (sym c.if-not-has.true ∙ c.has.ensures.1 ((c.requires.compared block).1 (c.requires.block, is)))) in
    known_as r (λ d. shows_below block disk d) (λ d. shows_below (block + 1) disk d) c.args.before
    (λ set. shows-same block disk (disk_of r (image_of r.family.base r.family.patches set)) out) known

pub returns-then-never_holds : goal.returns-then-never_holds
returns-then-never_holds g c = λ known.
    let r = c.args.self.now in
    let disk = c.args.disk.now in
    let block = c.args.block in
    let P : Disk → Bool = λ d. shows_below block disk d in
    let Q : Disk → Bool = λ d. bytes_eq (block_of d block) (block_of disk block) in
    let is : is_compared disk block ≡ true =
    ((c.requires.compared block).0 (c.has.ensures.0 c.if-not-has.false)).1 in
    known_as r (λ d. P d && Q d) (λ d. shows_below (block + 1) disk d) (Ok false)
    (λ set. shows-more block disk (disk_of r (image_of r.family.base r.family.patches set)) is)
    (both_none r P Q (subst (λ (a : Result Bool ℕ). IsKnown r P a) (c.never_holds.ensures c.if-never_holds.true) known))

pub returns : goal.returns
returns g c = λ known.
    let r = c.args.self.now in
    let disk = c.args.disk.now in
    let block = c.args.block in
    let P : Disk → Bool = λ d. shows_below block disk d in
    let Q : Disk → Bool = λ d. bytes_eq (block_of d block) (block_of disk block) in
    let is : is_compared disk block ≡ true =
    ((c.requires.compared block).0 (c.has.ensures.0 c.if-not-has.false)).1 in
    known_as r (λ d. P d && Q d) (λ d. shows_below (block + 1) disk d) c.both.result
    (λ set. shows-more block disk (disk_of r (image_of r.family.base r.family.patches set)) is)
    (c.both.ensures r P Q known c.has_block.ensures)
