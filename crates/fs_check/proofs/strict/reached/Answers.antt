use Rattle.std.proofs.Common.{sym, ◌∙◌}
use Rattle.patch_sets.proofs.Ids.{has_true}
use Rattle.fs_check.proofs.Reaching.{and_in, reaching-root, reaching-none, reaching-step, reached-all}
use Rattle.fs_check.proofs.strict.reached.Goals as goal
use Rattle.fs_check.proofs.strict.reached.Goals.{then-kind-eq-DIRECTORY_KIND, else-kind-eq-DIRECTORY_KIND}

pub loop-dir-init : goal.loop-dir-init
loop-dir-init g c = elim c.if-kind-eq-DIRECTORY_KIND.branch [
  | then-kind-eq-DIRECTORY_KIND w ↦ rw w.reached-is (reaching-root c.args.image.now
      (sym c.kind.ensures ∙ w.if-kind-eq-DIRECTORY_KIND.true))
  | else-kind-eq-DIRECTORY_KIND w ↦ rw w.reached-is (reaching-none c.args.image.now
      (λ e. w.if-kind-eq-DIRECTORY_KIND.false (c.kind.ensures ∙ e)))
]

pub named_by-reached-requires : goal.named_by-reached-requires
named_by-reached-requires g c =
    let both = and_in c.loop-dir.reached c.loop-dir.unread c.in-Some.dir c.in-Some.ensures.found.inside in
    c.loop-dir.invariant.few c.in-Some.dir (has_true c.loop-dir.unread c.in-Some.dir both.1)

pub loop-dir-smaller : goal.loop-dir-smaller
loop-dir-smaller g c =
    c.without-unread.ensures.smaller (and_in c.loop-dir.reached c.loop-dir.unread c.in-Some.dir
    c.in-Some.ensures.found.inside).1

pub loop-dir-preserved : goal.loop-dir-preserved
loop-dir-preserved g c =
    let both = and_in c.loop-dir.reached c.loop-dir.unread c.in-Some.dir c.in-Some.ensures.found.inside in
    reaching-step c.args.image.now c.loop-dir.reached c.loop-dir.unread c.in-Some.dir c.without-unread.result
    c.named_by-reached.result
    (has_true c.loop-dir.reached c.in-Some.dir both.0) c.without-unread.ensures.others c.named_by-reached.ensures
    c.loop-dir.invariant

pub returns : goal.returns
returns g c = reached-all c.args.image.now c.loop-dir.reached c.loop-dir.unread c.in_default.ensures.found
    c.loop-dir.invariant
