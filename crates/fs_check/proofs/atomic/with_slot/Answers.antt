use Rattle.std.proofs.Common.{◌≡◌, ◌+◌, ℕ, arith, sym, subst, ◌∙◌}
use Rattle.crash_model.specs.Layout.{pointer_of}
use Rattle.fs_check.specs.Compared.{AreWithSlots}
use Rattle.fs_check.proofs.ComparedBlocks.{slots-one, slots-none, is_pointer-some, is_pointer-not_zero}
use Rattle.fs_check.proofs.atomic.with_slot.Goals as goal

pub returns-then-block-eq0 : goal.returns-then-block-eq0
returns-then-block-eq0 g c = λ old was.
    let d = c.args.disk.now in
    let named : c.from-block.result ≡ pointer_of d c.args.inode c.args.slot =
    c.from-block.ensures ∙ c.pointer.ensures in
    slots-none d c.args.inode c.args.slot old c.args.blocks
    (λ is below. is_pointer-not_zero d c.args.inode c.args.slot is (sym named ∙ c.if-block-eq0.true)) was

pub returns-then-block-most : goal.returns-then-block-most
returns-then-block-most g c = λ old was.
    let d = c.args.disk.now in
    let named : c.from-block.result ≡ pointer_of d c.args.inode c.args.slot =
    c.from-block.ensures ∙ c.pointer.ensures in
    slots-none d c.args.inode c.args.slot old c.args.blocks
    (λ is below. absurd (omega (arith, named, below, c.blocks-most.ensures.value, c.if-block-most.true))) was

pub returns : goal.returns
returns g c = λ old was.
    let d = c.args.disk.now in
    let named : c.from-block.result ≡ pointer_of d c.args.inode c.args.slot =
    c.from-block.ensures ∙ c.pointer.ensures in
    subst (λ (s : ℕ). AreWithSlots d c.args.inode (c.args.slot + 1) old s) (sym c.with.ensures)
    (slots-one d c.args.inode c.args.slot c.from-block.result old c.args.blocks
    (is_pointer-some d c.args.inode c.args.slot c.from-block.result c.requires.live (sym named) c.if-block-eq0.false)
    (sym named) (omega (arith, c.blocks-most.ensures.value, c.if-block-most.false)) was)
