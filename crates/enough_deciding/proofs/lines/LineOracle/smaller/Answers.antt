use Rattle.std.proofs.Common.{ℕ, refl, subst, sym}
use Rattle.patch_sets.specs.Ends.{IsDifference}
use Rattle.question_model.specs.EnoughLines.{all_waits}
use Rattle.enough_rules.specs.Asked.{IsFound}
use Rattle.enough_deciding.specs.Lines.{AreEnoughWaiting}
use Rattle.enough_deciding.proofs.SmallerGroups.{IsPartInEach, asked_within, smaller_part}
use Rattle.enough_deciding.proofs.lines.LineOracle.smaller.Goals as goal
use Rattle.enough_deciding.proofs.lines.LineOracle.smaller.Goals.{then-has+in_ok-others+in-Some}
use Rattle.enough_deciding.proofs.lines.LineOracle.smaller.Goals.{then-has+in_ok-others+in_default, else-has}

pub excluding-requires : goal.excluding-requires
excluding-requires g c =
    let rest = subst (λ (all : ℕ). IsDifference all c.loop-line.part c.difference.result) c.all.ensures
    c.difference.ensures in
    asked_within _ c.loop-line.part c.difference.result c.loop-line.line c.with-rest.result rest c.with-rest.ensures
    c.loop-line.invariant.0.within (c.if-has.ensures.0 refl)

pub loop-line-preserved : goal.loop-line-preserved
loop-line-preserved g c =
    let o = c.args.self.now in
    let all : ℕ = all_waits o.traced.now.waits in
    let enough : ℕ → Type 0 = AreEnoughWaiting o.demands.now o.base.now o.traced.now in
    let group : ℕ = c.args.group in
    let before = c.loop-line.invariant in
    elim c.if-has.branch [
      | then-has+in_ok-others+in-Some w ↦
          let rest = subst (λ (s : ℕ). IsDifference s c.loop-line.part w.difference.result) w.all.ensures
          w.difference.ensures in
          let found = subst (IsFound all enough w.with-rest.result) w.in-Some.is w.in_ok-others.ensures in
          subst (IsPartInEach all enough group) (sym w.part-is)
          (smaller_part all c.loop-line.part w.difference.result c.loop-line.line w.with-rest.result rest
          w.with-rest.ensures before.0.within enough group w.in-Some.others before.1 found)
      | then-has+in_ok-others+in_default w ↦ subst (IsPartInEach all enough group) (sym w.part-is) before
      | else-has w ↦ subst (IsPartInEach all enough group) (sym w.part-is) before
    ]
