use Rattle.std.proofs.Common.{◌≡◌, ℕ, arith, sym, subst, ◌∙◌}
use Rattle.crash_model.specs.Layout.{kind_of}
use Rattle.fs_check.specs.Passed.{entries_of}
use Rattle.fs_check.proofs.Passed.{passed-start}
use Rattle.fs_check.proofs.Entries.{entries-uncounted, entries-all}
use Rattle.fs_check.proofs.Reaching.{AreDirectoriesBelow, directories-start, directories-one, directories-none}
use Rattle.fs_check.proofs.Reaching.{sets-start, sets-one, sets-none, counts-directory}
use Rattle.fs_check.proofs.clean.clean_directories.Goals as goal
use Rattle.fs_check.proofs.clean.clean_directories.Goals.{then-kind-eq-DIRECTORY_KIND+then-counts+in_ok-named}
use Rattle.fs_check.proofs.clean.clean_directories.Goals.{then-kind-eq-DIRECTORY_KIND+else-counts}
use Rattle.fs_check.proofs.clean.clean_directories.Goals.{else-kind-eq-DIRECTORY_KIND}

pub loop-dir-init : goal.loop-dir-init
loop-dir-init g c = (
  passed-start (entries_of c.args.image.now),
  sets-start c.args.image.now,
  directories-start c.args.image.now,
)

pub loop-dir-preserved : goal.loop-dir-preserved
loop-dir-preserved g c =
    let d = c.args.image.now in
    let dir = c.loop-dir.dir in
    let all = c.loop-dir.invariant in
    elim c.if-kind-eq-DIRECTORY_KIND.branch [
      | then-kind-eq-DIRECTORY_KIND+then-counts+in_ok-named w ↦
          let inodes = directories-one d dir c.loop-dir.inodes (sym c.kind.ensures ∙ w.if-kind-eq-DIRECTORY_KIND.true)
          all.2 in (
            rw w.entries-is (w.in_ok-named.ensures.1),
            rw w.named-is (sets-one d dir _ c.loop-dir.named c.loop-dir-test.true w.in_ok-named.ensures.0 all.1),
            rw (w.inodes-is, w.with_inode-inodes.ensures) inodes,
          )
      | then-kind-eq-DIRECTORY_KIND+else-counts w ↦
          let not_so = sym w.counts.ensures ∙ w.if-counts.false in
          let inodes = directories-one d dir c.loop-dir.inodes (sym c.kind.ensures ∙ w.if-kind-eq-DIRECTORY_KIND.true)
          all.2 in (
            rw w.entries-is (entries-uncounted d dir c.loop-dir.entries not_so all.0),
            rw w.named-is (sets-none d dir c.loop-dir.named not_so all.1),
            rw (w.inodes-is, w.with_inode-inodes.ensures) inodes,
          )
      | else-kind-eq-DIRECTORY_KIND w ↦
          let is_not = λ (e : kind_of d dir ≡ 2). w.if-kind-eq-DIRECTORY_KIND.false (c.kind.ensures ∙ e) in
          let not_so = counts-directory d dir is_not in (
            rw w.entries-is (entries-uncounted d dir c.loop-dir.entries not_so all.0),
            rw w.named-is (sets-none d dir c.loop-dir.named not_so all.1),
            rw w.inodes-is (directories-none d dir c.loop-dir.inodes is_not all.2),
          )
    ]

pub returns : goal.returns
returns g c =
    let end : c.loop-dir.dir ≡ 16 = omega arith in (
      entries-all c.args.image.now c.loop-dir.dir c.loop-dir.entries end c.loop-dir.invariant.0,
      record {
        named = λ e below. c.loop-dir.invariant.1.before e (omega (arith, end));
        inodes = subst (λ (n : ℕ). AreDirectoriesBelow c.args.image.now n c.loop-dir.inodes) end c.loop-dir.invariant.2;
      },
    )
