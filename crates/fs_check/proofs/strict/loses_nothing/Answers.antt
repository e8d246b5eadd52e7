use Rattle.std.proofs.Common.{◌≡◌, ℕ, sym, subst, ◌∙◌}
use Rattle.std.proofs.lemmas.Bool.{false≢true}
use Rattle.patch_sets.specs.Sets.{IsSubset}
use Rattle.crash_model.specs.Layout.{pointer_of}
use Rattle.fs_check.specs.Strict.{IsNamedBy}
use Rattle.fs_check.proofs.Reaching.{AreDirectoriesBelow, and_in, reaching-root, reaching-none, walking-start}
use Rattle.fs_check.proofs.Reaching.{walking-below, walking-step, walked, bare_found}
use Rattle.fs_check.proofs.strict.loses_nothing.Goals as goal
use Rattle.fs_check.proofs.strict.loses_nothing.Goals.{then-kind-eq-DIRECTORY_KIND, else-kind-eq-DIRECTORY_KIND}

pub loop-next-init : goal.loop-next-init
loop-next-init g c =
    let d = c.args.image.now in
    let inodes = c.from-unread.result in
    let are = subst (λ (s : ℕ). AreDirectoriesBelow d 16 s) (sym c.from-unread.ensures) c.requires.inodes in
    elim c.if-kind-eq-DIRECTORY_KIND.branch [
      | then-kind-eq-DIRECTORY_KIND w ↦ rw w.reached-is (walking-start d 1 inodes are
          (reaching-root d (sym c.kind.ensures ∙ w.if-kind-eq-DIRECTORY_KIND.true)))
      | else-kind-eq-DIRECTORY_KIND w ↦ rw w.reached-is (walking-start d 0 inodes are
          (reaching-none d (λ e. w.if-kind-eq-DIRECTORY_KIND.false (c.kind.ensures ∙ e))))
    ]

pub pointer-requires-clause-inode : goal.pointer-requires-clause-inode
pointer-requires-clause-inode g c = walking-below c.args.image.now c.loop-next.reached c.loop-next.unread c.in-Some.next
    c.in-Some.ensures.found.inside c.loop-next.invariant

pub returns-then-pointer-eq0 : goal.returns-then-pointer-eq0
returns-then-pointer-eq0 g c = (
  λ is. absurd (false≢true is),
  λ loses. absurd (bare_found c.args.image.now c.args.kept c.loop-next.reached c.loop-next.unread c.in-Some.next
      c.in-Some.ensures.found.inside
      (sym c.pointer.ensures ∙ c.if-pointer-eq0.true) c.loop-next.invariant loses),
)

pub bounds-found-next : goal.bounds-found-next
bounds-found-next g c = walking-below c.args.image.now c.loop-next.reached c.loop-next.unread c.in-Some.next
    c.in-Some.ensures.found.inside c.loop-next.invariant

pub loop-next-smaller : goal.loop-next-smaller
loop-next-smaller g c = c.without-unread.ensures.smaller
    (and_in c.loop-next.reached c.loop-next.unread c.in-Some.next c.in-Some.ensures.found.inside).1

pub loop-next-preserved : goal.loop-next-preserved
loop-next-preserved g c =
    let d = c.args.image.now in
    let next = c.in-Some.next in
    let there = c.in-Some.ensures.found.inside in
    let below = walking-below d c.loop-next.reached c.loop-next.unread next there c.loop-next.invariant in
    walking-step d c.loop-next.reached c.loop-next.unread next c.without-unread.result c.from-reached.result there
    c.without-unread.ensures.others
    (λ (e : pointer_of d next 0 ≡ 0). c.if-pointer-eq0.false (c.pointer.ensures ∙ e))
    (subst (λ (s : ℕ). IsNamedBy d next s) (sym c.from-reached.ensures) (c.requires.named next below))
    c.loop-next.invariant

pub returns : goal.returns
returns g c =
    let reached = c.loop-next.reached in
    let both = walked c.args.image.now c.args.kept reached c.loop-next.unread c.ranges.kept.fits
    c.in_default.ensures.found c.loop-next.invariant in (
      λ is. both.0 (subst (λ (s : ℕ). IsSubset s reached) c.from.ensures (c.is_subset.ensures.0 is)),
      λ loses. c.is_subset.ensures.1 (subst (λ (s : ℕ). IsSubset s reached) (sym c.from.ensures) (both.1 loses)),
    )
