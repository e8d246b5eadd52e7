use Rattle.std.proofs.Common.{◌≡◌, ◌<◌, ◌⊎◌, inl, inr, arith}
use Rattle.crash_model.specs.Disk.{Disk}
use Rattle.crash_model.specs.Patches.{image_of}
use Rattle.known_bytes.proofs.HeaderBytes.{no_header_by, targets_are}
use Rattle.known_bytes.proofs.bytes.KnownBytes.targets.Goals as goal
use Rattle.known_bytes.proofs.bytes.KnownBytes.targets.Goals.{then-count-eq0-via-then-count-eq0}
use Rattle.known_bytes.proofs.bytes.KnownBytes.targets.Goals.{then-count-eq0-via-else-count-eq0+then-count-gt8}

pub returns-then-count-eq0-clause-ok : goal.returns-then-count-eq0-clause-ok
returns-then-count-eq0-clause-ok g c = λ set m transaction.
    let f = c.args.self.now in
    let d : Disk = image_of f.base f.patches set in
    let like = c.base-base.ensures.alike set m in
    let bad : (c.in_ok-count.count ≡ 0) ⊎ (8 < c.in_ok-count.count) = elim c.then-count-eq0.branch [
      | then-count-eq0-via-then-count-eq0 w ↦ inl w.if-count-eq0.true
      | then-count-eq0-via-else-count-eq0+then-count-gt8 w ↦ inr w.if-count-gt8.true
    ] in
    no_header_by d c.args.at like.disk (omega (arith, like.blocks, c.requires)) transaction c.in_ok-count.count
    (c.in_ok-count.ensures.ok set m) bad

pub returns-clause-ok : goal.returns-clause-ok
returns-clause-ok g c = λ set m transaction is.
    let f = c.args.self.now in
    let d : Disk = image_of f.base f.patches set in
    let like = c.base-base.ensures.alike set m in
    let end : c.loop-k.k ≡ c.in_ok-count.count = omega (arith, c.from-k-end.ensures) in
    targets_are d c.args.at like.disk (omega (arith, like.blocks, c.requires)) transaction c.in_ok-count.count
    c.loop-k.targets.items is (c.in_ok-count.ensures.ok set m) (omega (arith, c.loop-k.invariant.long, end))
    (λ k less. c.loop-k.invariant.each k (omega (arith, end)) set m)
