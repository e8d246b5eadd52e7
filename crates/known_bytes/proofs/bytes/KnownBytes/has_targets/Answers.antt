use Rattle.std.proofs.Common.{◌+◌, ◌&&◌, length, sym}
use Rattle.std.specs.Prelude.{◌==◌, slice_index}
use Rattle.crash_model.specs.Disk.{byte}
use Rattle.crash_model.specs.Patches.{image_of}
use Rattle.known_bytes.specs.Reading.{left}
use Rattle.known_bytes.specs.Headers.{has_first}
use Rattle.known_bytes.proofs.Answered.{known_as}
use Rattle.known_bytes.proofs.HeaderBytes.{first_start, first_step}
use Rattle.known_bytes.proofs.bytes.KnownBytes.has_targets.Goals as goal

pub loop-k-init : goal.loop-k-init
loop-k-init g c =
    let f = c.args.self.now in
    let ts = c.args.targets.now in
    known_as (left f) (λ d. byte d c.args.at 2 == length ts) (λ d. has_first 0 d c.args.at ts) c.byte_is-all.result
    (λ set. sym (first_start (image_of f.base f.patches set) c.args.at ts)) c.byte_is-all.ensures

pub loop-k-preserved : goal.loop-k-preserved
loop-k-preserved g c =
    let f = c.args.self.now in
    let ts = c.args.targets.now in
    let k = c.loop-k.k in
    known_as (left f) (λ d. has_first k d c.args.at ts && byte d c.args.at (3 + k) == slice_index ts k)
    (λ d. has_first (k + 1) d c.args.at ts) c.both-all.result
    (λ set. sym (first_step k (image_of f.base f.patches set) c.args.at ts))
    (c.both-all.ensures (left f) (λ d. has_first k d c.args.at ts)
    (λ d. byte d c.args.at (3 + k) == slice_index ts k) c.loop-k.invariant c.byte_is.ensures)
