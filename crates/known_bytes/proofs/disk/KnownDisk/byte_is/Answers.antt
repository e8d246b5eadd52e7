use Rattle.std.proofs.Common.{◌<◌, ℕ, Bool, Result, inl, ap, sym, subst}
use Rattle.std.specs.Prelude.{◌==◌, slice_index}
use Rattle.crash_model.specs.Disk.{byte}
use Rattle.known_bytes.specs.Family.{Family, InEach, IsLike}
use Rattle.known_bytes.specs.Reading.{Reading, AreHomes, IsKnown, left}
use Rattle.known_bytes.proofs.AtHomes.{known_at_homes, seen_more, seen_all}
use Rattle.known_bytes.proofs.disk.KnownDisk.byte_is.Goals as goal

pub byte_is-answer-requires-clause-block : goal.byte_is-answer-requires-clause-block
byte_is-answer-requires-clause-block g c = c.self.invariant.within c.args.block c.from-home.result
    (subst (λ (r : Reading). c.args.block < r.family.base.blocks) (sym c.self.view_is) c.requires.block)
    (inl c.from-home.ensures)

pub loop-other-preserved : goal.loop-other-preserved
loop-other-preserved g c =
    let r = c.args.self.now in
    let other = c.in-Some.other in
    let P : ℕ → Type 0 = λ home.
    IsKnown (left r.family) (λ d. byte d home c.args.offset == c.args.value) c.byte_is-answer.result in
    let there = subst (λ (f : Family). IsKnown (left f) (λ d. byte d other c.args.offset == c.args.value)
    c.byte_is.result)
    (ap (λ (x : Reading). x.family) c.self.view_is) c.byte_is.ensures in
    let here = subst (λ (a : Result Bool ℕ). IsKnown (left r.family) (λ d. byte d other c.args.offset == c.args.value)
    a)
    (sym (c.are_alike.ensures c.if-not-are_alike.false)) there in
    seen_more P P _ c.loop-other.left c.without_lowest-left.result other (λ o p. p)
    (c.without_lowest-left.ensures.others other c.in-Some.ensures.found) here c.loop-other.invariant

pub returns : goal.returns
returns g c =
    let r = c.args.self.now in
    let inside = c.self.inside.homes in
    let answer = c.byte_is-answer.result in
    let family = ap (λ (x : Reading). x.family) c.self.view_is in
    let P : ℕ → Type 0 = λ home. IsKnown (left r.family) (λ d. byte d home c.args.offset == c.args.value) answer in
    let first = subst (λ (f : Family). IsKnown (left f) (λ d. byte d c.from-home.result c.args.offset == c.args.value)
    answer)
    family c.byte_is-answer.ensures in
    known_at_homes r inside.blocks inside.others inside.asks
    (subst (λ (x : Reading). AreHomes x inside.blocks inside.others inside.asks) c.self.view_is c.self.invariant)
    (subst (λ (f : Family). InEach f (λ d. IsLike f.base d)) family c.base.ensures.alike) c.args.block c.args.offset
    c.requires.block c.requires.offset (λ x. x == c.args.value) answer
    (subst P c.from-home.ensures first)
    (seen_all P (slice_index inside.others c.args.block) c.loop-other.left c.in_default.ensures.found
    c.loop-other.invariant)
