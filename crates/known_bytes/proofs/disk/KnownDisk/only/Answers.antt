use Rattle.std.proofs.Common.{◌≡◌, ◌<◌, ℕ, inl, ap, sym, subst}
use Rattle.std.specs.Prelude.{slice_index, true}
use Rattle.crash_model.specs.Disk.{byte}
use Rattle.known_bytes.specs.Family.{Family, InEach, IsLike, is_one_of}
use Rattle.known_bytes.specs.Reading.{Reading, AreHomes}
use Rattle.known_bytes.proofs.AtHomes.{so_at_homes, seen_more, seen_all}
use Rattle.known_bytes.proofs.disk.KnownDisk.only.Goals as goal

pub only-requires-clause-block : goal.only-requires-clause-block
only-requires-clause-block g c = c.self.invariant.within c.args.block c.from-home.result
    (subst (λ (r : Reading). c.args.block < r.family.base.blocks) (sym c.self.view_is) c.requires.block)
    (inl c.from-home.ensures)

pub loop-other-preserved : goal.loop-other-preserved
loop-other-preserved g c =
    let f = c.args.self.now.family in
    let other = c.in-Some.other in
    let both = c.in-Some-only_one.both in
    let wider = c.in-Some-only_one.ensures in
    let P : ℕ → Type 0 = λ home. InEach f (λ d. is_one_of 0 c.loop-other.value (byte d home c.args.offset) ≡ true) in
    let Q : ℕ → Type 0 = λ home. InEach f (λ d. is_one_of 0 both (byte d home c.args.offset) ≡ true) in
    let here = subst (λ (x : Family). InEach x (λ d. is_one_of 0 c.in_ok-more.more (byte d other c.args.offset) ≡ true))
    (ap (λ (x : Reading). x.family) c.self.view_is) c.in_ok-more.ensures.ok in
    record {
      first = λ set m. (wider _).0 (c.loop-other.invariant.first set m);
      seen = seen_more P Q _ c.loop-other.left c.without_lowest-left.result other (λ o p set m. (wider _).0 (p set m))
          (c.without_lowest-left.ensures.others other c.in-Some.ensures.found) (λ set m. (wider _).1 (here set m))
          c.loop-other.invariant.seen;
    }

pub returns-clause-ok : goal.returns-clause-ok
returns-clause-ok g c =
    let r = c.args.self.now in
    let inside = c.self.inside.homes in
    let family = ap (λ (x : Reading). x.family) c.self.view_is in
    let P : ℕ → Type 0 = λ home.
    InEach r.family (λ d. is_one_of 0 c.loop-other.value (byte d home c.args.offset) ≡ true) in
    so_at_homes r inside.blocks inside.others inside.asks
    (subst (λ (x : Reading). AreHomes x inside.blocks inside.others inside.asks) c.self.view_is c.self.invariant)
    (subst (λ (x : Family). InEach x (λ d. IsLike x.base d)) family c.base.ensures.alike) c.args.block c.args.offset
    c.requires.block c.requires.offset (λ x. is_one_of 0 c.loop-other.value x ≡ true)
    (subst P c.from-home.ensures c.loop-other.invariant.first)
    (seen_all P (slice_index inside.others c.args.block) c.loop-other.left c.in_default.ensures.found
    c.loop-other.invariant.seen)
