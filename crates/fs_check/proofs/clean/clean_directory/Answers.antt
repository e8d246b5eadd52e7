use Rattle.std.proofs.Common.{arith, sym, ap, subst, ◌∙◌, ◌≡◌, ◌-◌, ℕ}
use Rattle.patch_sets.specs.Sets.{with_id}
use Rattle.crash_model.specs.Layout.{entry_of}
use Rattle.fs_check.specs.Passed.{entries_of}
use Rattle.fs_check.proofs.Passed.{passed-row}
use Rattle.fs_check.proofs.Entries.{live-below, entries-free, entries-leading, faulty-dangling, faulty-links}
use Rattle.fs_check.proofs.Reaching.{AreNamed, named-start, named-step, adds-live, adds-free}
use Rattle.fs_check.proofs.clean.clean_directory.Goals as goal
use Rattle.fs_check.proofs.clean.clean_directory.Goals.{then-not-is_live-via-then-not-is_live}
use Rattle.fs_check.proofs.clean.clean_directory.Goals.{then-not-is_live-via-else-not-is_live+then-entries-inode}
use Rattle.fs_check.proofs.clean.clean_directory.Goals.{then-entry-ne0+else-not-is_live+else-entries-inode}
use Rattle.fs_check.proofs.clean.clean_directory.Goals.{else-entry-ne0}

pub returns-then-not-is_live : goal.returns-then-not-is_live
returns-then-not-is_live g c =
    let some = λ (e : entry_of c.args.image.now c.args.dir c.loop-k.k ≡ 0).
    c.if-entry-ne0.true (c.entry-entry.ensures ∙ e) in
    let leads = ap (λ (e : ℕ). e - 1) (sym c.entry-entry.ensures) in
    elim c.then-not-is_live.branch [
      | then-not-is_live-via-then-not-is_live w ↦
          faulty-dangling c.args.image.now c.args.dir c.loop-k.k (c.entry-entry.result - 1) c.requires.dir
          c.loop-k-test.true c.requires.counts some leads (sym c.is_live.ensures ∙ w.if-not-is_live.true)
      | then-not-is_live-via-else-not-is_live+then-entries-inode w ↦
          faulty-links c.args.image.now c.args.dir c.loop-k.k (c.entry-entry.result - 1) c.loop-k.entries c.requires.dir
          c.loop-k-test.true c.requires.counts some leads (sym c.is_live.ensures ∙ w.if-not-is_live.false)
          (omega (arith, w.links.ensures, w.if-entries-inode.true)) c.loop-k.invariant.0
    ]

pub loop-k-init : goal.loop-k-init
loop-k-init g c = (c.requires.passed, named-start c.args.image.now c.args.dir)

pub loop-k-preserved : goal.loop-k-preserved
loop-k-preserved g c =
    let d = c.args.image.now in
    let dir = c.args.dir in
    let k = c.loop-k.k in
    let entry = c.entry-entry.result in
    let named = c.loop-k.named in
    let is = sym c.entry-entry.ensures in
    let leads = ap (λ (e : ℕ). e - 1) is in
    elim c.if-entry-ne0.branch [
      | then-entry-ne0+else-not-is_live+else-entries-inode w ↦
          let some = λ (e : entry_of d dir k ≡ 0). w.if-entry-ne0.true (c.entry-entry.ensures ∙ e) in
          let live = sym w.is_live.ensures ∙ w.if-not-is_live.false in (
            rw w.entries-is (entries-leading d dir k (entry - 1) c.loop-k.entries c.requires.counts some leads live
                (omega (
                  arith,
                  c.loop-k.invariant.0.few (entry - 1) (live-below d (entry - 1) live),
                  w.links.ensures,
                  w.if-entries-inode.false,
                )) c.loop-k.invariant.0),
            rw (w.named-is, w.with_inode-named.ensures) (named-step d dir k named (with_id named (entry - 1))
                (adds-live d dir k entry named c.requires.counts is w.if-entry-ne0.true live) c.loop-k.invariant.1),
          )
      | else-entry-ne0 w ↦
          let free = is ∙ w.if-entry-ne0.false in (
            rw w.entries-is (entries-free d dir k c.loop-k.entries free c.loop-k.invariant.0),
            rw w.named-is (named-step d dir k named named (adds-free d dir k named free) c.loop-k.invariant.1),
          )
    ]

pub returns : goal.returns
returns g c =
    let end : c.loop-k.k ≡ 10 = omega arith in (
      subst (λ (n : ℕ). AreNamed c.args.image.now c.args.dir n c.loop-k.named) end c.loop-k.invariant.1,
      passed-row (entries_of c.args.image.now) c.args.dir c.loop-k.k c.loop-k.entries end c.loop-k.invariant.0,
    )
