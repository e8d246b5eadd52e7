use Rattle.std.proofs.Common.{◌≡◌, ◌+◌, ℕ, Bool, true, false, not, arith, refl, sym, subst}
use Rattle.std.specs.Prelude.{Option, bit_or}
use Rattle.std.proofs.lemmas.Bool.{false≢true}
use Rattle.patch_sets.proofs.Bits.{none_in_empty}
use Rattle.crash_model.specs.Patches.{image_of}
use Rattle.known_bytes.specs.NamedIn.{IsEnd, AreEnds, child_in, first_child_in}
use Rattle.known_bytes.specs.Reading.{disk_of}
use Rattle.known_bytes.proofs.ChildrenIn.{first_none-start}
use Rattle.known_bytes.proofs.MaybeEnds.{within_either, first_end_more, first_end_sure}
use Rattle.known_bytes.proofs.disk.KnownDisk.ends_at.Goals as goal

none_if_not : (nowhere : Bool) → not nowhere ≡ true → nowhere ≡ false
none_if_not true is = absurd (false≢true is)
none_if_not false is = refl

some_if_not : (nowhere : Bool) → not nowhere ≡ false → nowhere ≡ true
some_if_not true is = refl
some_if_not false is = absurd (false≢true (sym is))

pub loop-k-init : goal.loop-k-init
loop-k-init g c = record {
  within = λ inode is. absurd (none_in_empty inode is);
  ends = λ set m.
      let r = c.args.self.now in
      let d = disk_of r (image_of r.family.base r.family.patches set) in
      subst (λ (o : Option ℕ). IsEnd o 0 true) (sym (first_none-start c.args.block c.args.spelled.now d)) refl;
}

pub loop-k-preserved : goal.loop-k-preserved
loop-k-preserved g c = record {
  within = within_either c.loop-k.inodes c.ends_named-more.result.inodes
      (bit_or c.loop-k.inodes c.ends_named-more.result.inodes) 16 refl c.loop-k.invariant.within
      c.ends_named-more.ensures.within;
  ends = λ set m.
      let r = c.args.self.now in
      let d = disk_of r (image_of r.family.base r.family.patches set) in
      let more = c.ends_named-more.result in
      first_end_more c.args.block c.args.spelled.now d c.loop-k.k c.loop-k.inodes more.inodes
      (bit_or c.loop-k.inodes more.inodes) true refl (c.loop-k.invariant.ends set m)
      (subst (λ (b : Bool). IsEnd (child_in c.args.block c.loop-k.k c.args.spelled.now d) more.inodes b)
      (some_if_not more.nowhere c.if-not-more.false) (c.ends_named-more.ensures.ends set m));
}

pub returns-then-not-more-clause-within : goal.returns-then-not-more-clause-within
returns-then-not-more-clause-within g c =
    within_either c.loop-k.inodes c.ends_named-more.result.inodes
    (bit_or c.loop-k.inodes c.ends_named-more.result.inodes) 16 refl c.loop-k.invariant.within
    c.ends_named-more.ensures.within

pub returns-then-not-more-clause-ends : goal.returns-then-not-more-clause-ends
returns-then-not-more-clause-ends g c = λ set m.
    let r = c.args.self.now in
    let d = disk_of r (image_of r.family.base r.family.patches set) in
    let more = c.ends_named-more.result in
    first_end_sure c.args.block c.args.spelled.now d 10 (c.loop-k.k + 1) (bit_or c.loop-k.inodes more.inodes)
    (omega arith)
    (first_end_more c.args.block c.args.spelled.now d c.loop-k.k c.loop-k.inodes more.inodes
    (bit_or c.loop-k.inodes more.inodes) false refl (c.loop-k.invariant.ends set m)
    (subst (λ (b : Bool). IsEnd (child_in c.args.block c.loop-k.k c.args.spelled.now d) more.inodes b)
    (none_if_not more.nowhere c.if-not-more.true) (c.ends_named-more.ensures.ends set m)))

pub returns-clause-ends : goal.returns-clause-ends
returns-clause-ends g c =
    let all : c.loop-k.k ≡ 10 = omega arith in
    subst (λ (n : ℕ). AreEnds c.args.self.now (first_child_in n c.args.block c.args.spelled.now) c.loop-k.inodes true)
    all c.loop-k.invariant.ends
