use Rattle.std.proofs.Common.{◌≡◌, ℕ, ◌-◌, arith, sym, ap, subst, ◌∙◌}
use Rattle.patch_sets.specs.Sets.{with_id}
use Rattle.fs_check.proofs.Reaching.{AreNamed, named-step, adds-live, adds-free, adds-dead}
use Rattle.fs_check.proofs.strict.named_by.Goals as goal
use Rattle.fs_check.proofs.strict.named_by.Goals.{then-entry-ne0+then-is_live, else-entry-ne0}
use Rattle.fs_check.proofs.strict.named_by.Goals.{else-entry-ne0-via-then-entry-ne0+else-is_live}
use Rattle.fs_check.proofs.strict.named_by.Goals.{else-entry-ne0-via-else-entry-ne0}

pub loop-k-preserved : goal.loop-k-preserved
loop-k-preserved g c =
    let d = c.args.image.now in
    let k = c.loop-k.k in
    let named = c.loop-k.named in
    let entry = c.entry-entry.result in
    let is = sym c.entry-entry.ensures in
    elim c.if-entry-ne0.branch [
      | then-entry-ne0+then-is_live w ↦
          let live = sym w.is_live.ensures ∙ w.if-is_live.true in
          let more : w.with-named.result ≡ with_id named (entry - 1) = w.with-named.ensures
          ∙ ap (λ (b : ℕ). with_id named b) w.from.ensures in
          rw (w.named-is, more) (named-step d c.args.dir k named (with_id named (entry - 1))
          (adds-live d c.args.dir k entry named (sym c.counts.ensures ∙ c.if-not-counts.false) is w.if-entry-ne0.true
          live) c.loop-k.invariant)
      | else-entry-ne0 w ↦ rw w.named-is (named-step d c.args.dir k named named (elim w.else-entry-ne0.branch [
        | else-entry-ne0-via-then-entry-ne0+else-is_live v ↦
            adds-dead d c.args.dir k entry named is (sym v.is_live.ensures ∙ v.if-is_live.false)
        | else-entry-ne0-via-else-entry-ne0 v ↦ adds-free d c.args.dir k named (is ∙ v.if-entry-ne0.false)
      ]) c.loop-k.invariant)
    ]

pub returns : goal.returns
returns g c =
    let end : c.loop-k.k ≡ 10 = omega arith in
    subst (λ (n : ℕ). AreNamed c.args.image.now c.args.dir n c.loop-k.named) end c.loop-k.invariant
