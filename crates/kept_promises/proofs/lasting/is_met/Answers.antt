use Rattle.std.proofs.Common.{◌+◌, List, Bool, ◌||◌, drop, sym, ap, ◌∙◌}
use Rattle.std.specs.List.{list_any}
use Rattle.crash_model.specs.Patches.{Place, places_of}
use Rattle.crash_model.specs.Waiting.{meets_range}
use Rattle.kept_promises.proofs.Ids.{places_from}
use Rattle.kept_promises.proofs.lasting.is_met.Goals as goal

pub returns-then-meets : goal.returns-then-meets
returns-then-meets g c =
    let test : Place → Bool = λ place. list_any (meets_range place) c.args.ranges.now in
    let rest : List Place = drop (c.loop-id.id + 1) (places_of c.args.graph.now) in
    let here = ap (list_any test) (places_from c.args.graph.now c.loop-id.id c.patch.result.now c.patch.ensures.at)
    ∙ ap (λ (b : Bool). b || list_any test rest) (sym c.meets.ensures ∙ c.if-meets.true) in
    sym here ∙ c.loop-id.invariant

pub loop-id-preserved : goal.loop-id-preserved
loop-id-preserved g c =
    let test : Place → Bool = λ place. list_any (meets_range place) c.args.ranges.now in
    let rest : List Place = drop (c.loop-id.id + 1) (places_of c.args.graph.now) in
    let here = ap (list_any test) (places_from c.args.graph.now c.loop-id.id c.patch.result.now c.patch.ensures.at)
    ∙ ap (λ (b : Bool). b || list_any test rest) (sym c.meets.ensures ∙ c.if-meets.false) in
    sym here ∙ c.loop-id.invariant
