use Rattle.std.proofs.Common.{◌<◌, ℕ, inl, ap, sym, subst}
use Rattle.std.specs.Prelude.{slice_index}
use Rattle.crash_model.specs.Disk.{byte}
use Rattle.known_bytes.specs.Family.{Family, InEach, IsLike, HasValue}
use Rattle.known_bytes.specs.Reading.{Reading, AreHomes}
use Rattle.known_bytes.proofs.AtHomes.{so_at_homes, seen_more, seen_all}
use Rattle.known_bytes.proofs.disk.KnownDisk.values.Goals as goal

pub values-values-requires-clause-block : goal.values-values-requires-clause-block
values-values-requires-clause-block g c = c.self.invariant.within c.args.block c.from-home.result
    (subst (λ (r : Reading). c.args.block < r.family.base.blocks) (sym c.self.view_is) c.requires.block)
    (inl c.from-home.ensures)

pub loop-other-preserved : goal.loop-other-preserved
loop-other-preserved g c =
    let f = c.args.self.now.family in
    let other = c.in-Some.other in
    let old = c.loop-other.values in
    let more = c.values-more.result in
    let new = c.union-values.result in
    let P : ℕ → Type 0 = λ home. InEach f (λ d. HasValue old.low old.high (byte d home c.args.offset)) in
    let Q : ℕ → Type 0 = λ home. InEach f (λ d. HasValue new.low new.high (byte d home c.args.offset)) in
    let here = subst (λ (x : Family). InEach x (λ d. HasValue more.low more.high (byte d other c.args.offset)))
    (ap (λ (x : Reading). x.family) c.self.view_is) c.values-more.ensures in
    record {
      first = λ set m. c.union-values.ensures.first _ (c.loop-other.invariant.first set m);
      seen = seen_more P Q _ c.loop-other.left c.without_lowest-left.result other
          (λ o p set m. c.union-values.ensures.first _ (p set m))
          (c.without_lowest-left.ensures.others other c.in-Some.ensures.found)
          (λ set m. c.union-values.ensures.second _ (here set m)) c.loop-other.invariant.seen;
    }

pub returns : goal.returns
returns g c =
    let r = c.args.self.now in
    let inside = c.self.inside.homes in
    let family = ap (λ (x : Reading). x.family) c.self.view_is in
    let all = c.loop-other.values in
    let P : ℕ → Type 0 = λ home. InEach r.family (λ d. HasValue all.low all.high (byte d home c.args.offset)) in
    so_at_homes r inside.blocks inside.others inside.asks
    (subst (λ (x : Reading). AreHomes x inside.blocks inside.others inside.asks) c.self.view_is c.self.invariant)
    (subst (λ (x : Family). InEach x (λ d. IsLike x.base d)) family c.base.ensures.alike) c.args.block c.args.offset
    c.requires.block c.requires.offset (λ x. HasValue all.low all.high x)
    (subst P c.from-home.ensures c.loop-other.invariant.first)
    (seen_all P (slice_index inside.others c.args.block) c.loop-other.left c.in_default.ensures.found
    c.loop-other.invariant.seen)
