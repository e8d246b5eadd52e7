use Rattle.std.proofs.Common.{◌≡◌, false, List, sym, subst, ◌∙◌}
use Rattle.std.proofs.lemmas.List.{take_all}
use Rattle.crash_model.specs.Promises.{is_spared}
use Rattle.crash_model.specs.declared.promises.Spare.{Spare as StandIn}
use Rattle.known_bytes.specs.Reading.{InEachDisk}
use Rattle.fault_deciding.proofs.PathsShown.{spare_stands, spare_fails}
use Rattle.fault_deciding.proofs.promise.is_spared.Goals as goal

pub returns-then-is_same : goal.returns-then-is_same
returns-then-is_same g c = spare_stands c.args.disk.now c.args.spares.now c.loop-spare.spare-index c.spare-item.result
    c.loop-spare-test.true c.spare-item.is _ c.in_ok-path_shows.ensures (sym c.is_same.ensures ∙ c.if-is_same.true)

pub loop-spare-preserved : goal.loop-spare-preserved
loop-spare-preserved g c = spare_fails c.args.disk.now c.args.spares.now c.loop-spare.spare-index c.spare-item.result
    c.loop-spare-test.true c.spare-item.is _ c.in_ok-path_shows.ensures (sym c.is_same.ensures ∙ c.if-is_same.false)
    c.loop-spare.invariant

pub returns : goal.returns
returns g c = subst (λ (all : List StandIn). InEachDisk c.args.disk.now (λ d. is_spared all d ≡ false))
    (take_all c.loop-spare.spare-index c.args.spares.now c.loop-spare-test.false) c.loop-spare.invariant
