use Rattle.std.proofs.Common.{◌≡◌, ◌+◌, ◌*◌, ◌&&◌, ℕ, get_or, arith, ap, subst, ◌∙◌}
use Rattle.std.specs.Prelude.{◌==◌}
use Rattle.crash_model.specs.Disk.{byte}
use Rattle.crash_model.specs.Patches.{image_of}
use Rattle.known_bytes.specs.NamedIn.{has_bytes, is_spelled_in}
use Rattle.known_bytes.specs.Reading.{IsKnown, disk_of}
use Rattle.known_bytes.proofs.Answered.{known_as, known_in}
use Rattle.known_bytes.proofs.ChildrenIn.{has_bytes-more, has_bytes-whole}
use Rattle.known_bytes.proofs.disk.KnownDisk.is_spelled.Goals as goal

pub loop-at-preserved : goal.loop-at-preserved
loop-at-preserved g c =
    let r = c.args.self.now in
    let block = c.args.block in
    let spelled = c.args.spelled.now in
    let from = c.from-from.result + 1 in
    let at = c.loop-at.at in
    let there = subst (λ (n : ℕ). IsKnown r (λ d. byte d n (from + at) == get_or spelled at 0) c.byte_is.result)
    c.from.ensures c.byte_is.ensures in
    known_as r (λ d. has_bytes at block from spelled d && byte d block (from + at) == get_or spelled at 0)
    (λ d. has_bytes (at + 1) block from spelled d) c.both-answer.result
    (λ set. has_bytes-more block from spelled (disk_of r (image_of r.family.base r.family.patches set)) at)
    (c.both-answer.ensures r (λ d. has_bytes at block from spelled d)
    (λ d. byte d block (from + at) == get_or spelled at 0) c.loop-at.invariant there)

pub returns : goal.returns
returns g c =
    let r = c.args.self.now in
    let block = c.args.block in
    let k = c.args.k in
    let spelled = c.args.spelled.now in
    let from = c.from-from.result + 1 in
    let end : c.loop-at.at ≡ 11 = omega arith in
    let place : c.from-from.result ≡ 8 + 12 * k = c.from-from.ensures ∙ c.entry_offset.ensures in
    known_in r (λ d. has_bytes c.loop-at.at block from spelled d) (is_spelled_in block k spelled) c.loop-at.answer
    (λ set m.
    let d = disk_of r (image_of r.family.base r.family.patches set) in
    let like = c.base.ensures.alike set m in
    ap (λ (n : ℕ). has_bytes n block from spelled d) end
    ∙ has_bytes-whole block from spelled d (128 * block + (8 + 12 * k) + 1) (omega (arith, place)) 11
    c.requires.spelled (omega (arith, place, c.requires.k)) like.disk (omega (arith, like.blocks, c.requires.block)))
    c.loop-at.invariant
