use Rattle.std.proofs.Common.{Bool, true, false, ◌&&◌, length, subst}
use Rattle.std.specs.Prelude.{◌==◌, Ok}
use Rattle.crash_model.specs.Disk.{byte, block_of}
use Rattle.crash_model.specs.Patches.{image_of}
use Rattle.crash_model.specs.Replay.{is_header}
use Rattle.known_bytes.specs.Family.{is_one_of}
use Rattle.known_bytes.specs.Reading.{IsKnown, left}
use Rattle.known_bytes.specs.Headers.{has_first}
use Rattle.known_bytes.proofs.Answered.{known_in, both_first, both_none}
use Rattle.known_bytes.proofs.HeaderBytes.{header_is}
use Rattle.known_bytes.proofs.bytes.KnownBytes.has_header.Goals as goal

pub returns-then-not-is_marked : goal.returns-then-not-is_marked
returns-then-not-is_marked g c =
    let f = c.args.self.now in
    let at = c.args.at in
    let ts = c.args.targets.now in
    let none : IsKnown (left f) (λ d. is_one_of 0xC7 0xC8 (byte d at 0)) (Ok false) =
    subst (λ (b : Bool). IsKnown (left f) (λ d. is_one_of 0xC7 0xC8 (byte d at 0)) (Ok b)) c.if-not-is_marked.true
    c.in_ok-is_marked.ensures in
    known_in (left f)
    (λ d. is_one_of 0xC7 0xC8 (byte d at 0) && (byte d at 1 == c.args.transaction && has_first (length ts) d at ts))
    (λ d. is_header d at c.args.transaction (block_of d at)) (Ok false)
    (λ set m. header_is f.base (image_of f.base f.patches set) at c.args.transaction ts
    (c.base-base.ensures.alike set m)
    c.requires.block c.requires.few.0 c.requires.few.1 c.requires.may (c.requires.targets set m c.args.transaction))
    (both_none (left f) (λ d. is_one_of 0xC7 0xC8 (byte d at 0))
    (λ d. byte d at 1 == c.args.transaction && has_first (length ts) d at ts) none)

pub returns : goal.returns
returns g c =
    let f = c.args.self.now in
    let at = c.args.at in
    let ts = c.args.targets.now in
    let rest = c.both.ensures (left f) (λ d. byte d at 1 == c.args.transaction) (λ d. has_first (length ts) d at ts)
    c.byte_is-number.ensures c.has_targets.ensures in
    let marked : IsKnown (left f) (λ d. is_one_of 0xC7 0xC8 (byte d at 0)) (Ok true) =
    subst (λ (b : Bool). IsKnown (left f) (λ d. is_one_of 0xC7 0xC8 (byte d at 0)) (Ok b)) c.if-not-is_marked.false
    c.in_ok-is_marked.ensures in
    known_in (left f)
    (λ d. is_one_of 0xC7 0xC8 (byte d at 0) && (byte d at 1 == c.args.transaction && has_first (length ts) d at ts))
    (λ d. is_header d at c.args.transaction (block_of d at)) c.both.result
    (λ set m. header_is f.base (image_of f.base f.patches set) at c.args.transaction ts
    (c.base-base.ensures.alike set m)
    c.requires.block c.requires.few.0 c.requires.few.1 c.requires.may (c.requires.targets set m c.args.transaction))
    (both_first (left f) (λ d. is_one_of 0xC7 0xC8 (byte d at 0))
    (λ d. byte d at 1 == c.args.transaction && has_first (length ts) d at ts) c.both.result marked rest)
