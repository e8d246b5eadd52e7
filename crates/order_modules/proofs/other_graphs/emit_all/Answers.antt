use Rattle.std.proofs.Common.{◌≡◌, ◌+◌, ◌<◌, ℕ, List, [], ◌∷◌, ◌++◌, length, take, get_or, arith, sym, ap, subst}
use Rattle.std.proofs.lemmas.List.{length-take-le}
use Rattle.std.proofs.lemmas.Option.{get_or_from_slice_get}
use Rattle.crash_model.specs.Disk.{Disk}
use Rattle.crash_model.specs.Patches.{place, places_of}
use Rattle.crash_model.specs.Trace.{Emitted}
use Rattle.crash_model.specs.declared.patches.Patch.{Patch}
use Rattle.traced_patches.specs.Labels.{emitted_at, emitted_by}
use Rattle.order_modules.specs.Log.{Adds}
use Rattle.traced_patches.specs.declared.labels.Label.{Label}
use Rattle.order_modules.proofs.Adding.{adds-none, adds-then, adds-same, adds-long}
use Rattle.order_modules.proofs.EmittedInOrder.{emitted_none, emitted_few, emitted_more}
use Rattle.order_modules.proofs.other_graphs.emit_all.Goals as goal

pub loop-id-init : goal.loop-id-init
loop-id-init g c =
    let log = c.args.log.now in
    let places = places_of c.args.graph.now in
    adds-same log log [] (emitted_by places []) (sym (emitted_none places)) (adds-none log)

pub emit-requires-clause-block : goal.emit-requires-clause-block
emit-requires-clause-block g c =
    let patch : Patch = c.patch-patch.result.now in
    let graph = c.args.graph.now in
    let id = c.loop-id.id in
    let within : id < length graph = omega (arith, c.loop-id-test.true, c.len-id-end.ensures.number) in
    let fits : (get_or graph id patch).block < c.args.log.now.base.blocks = c.requires.fits id patch within in
    let same : (get_or graph id patch).block ≡ patch.block =
    ap (λ (p : Patch). p.block) (get_or_from_slice_get graph id patch patch c.patch-patch.ensures.at) in
    let based : c.loop-id.log.base.blocks ≡ c.args.log.now.base.blocks =
    ap (λ (d : Disk). d.blocks) c.loop-id.invariant.base in
    omega (arith, fits, same, based)

pub emit-requires-clause-room : goal.emit-requires-clause-room
emit-requires-clause-room g c =
    let log = c.args.log.now in
    let labels = c.args.labels.now in
    let id = c.loop-id.id in
    let places = places_of c.args.graph.now in
    let inside : id < length c.args.graph.now = omega (arith, c.loop-id-test.true, c.len-id-end.ensures.number) in
    let long = adds-long log c.loop-id.log (emitted_by places (take id labels)) c.loop-id.invariant in
    let none : length log.emitted ≡ 0 = ap (λ (es : List Emitted). length es) c.requires.none in
    let few = emitted_few places (take id labels) in
    let labelled = c.requires.labelled in
    let front : length (take id labels) ≡ id = length-take-le id labels (omega (arith, inside, labelled)) in
    let graph = c.len-id-end.ensures.kept.few in
    omega (arith, inside, long, none, few, front, graph)

pub loop-id-preserved : goal.loop-id-preserved
loop-id-preserved g c =
    let log = c.args.log.now in
    let labels = c.args.labels.now in
    let graph = c.args.graph.now in
    let id = c.loop-id.id in
    let patch : Patch = c.patch-patch.result.now in
    let label : Label = c.index-labels-id.result in
    let before : List Emitted = emitted_by (places_of graph) (take id labels) in
    let one : Emitted = emitted_at (place patch.block patch.offset patch.new.items) label in
    let inside : id < length labels = omega (
      arith,
      c.loop-id-test.true,
      c.len-id-end.ensures.number,
      c.requires.labelled,
    ) in
    let added : Adds c.loop-id.log c.emit.new.self (one ∷ []) =
    subst (λ (bytes : List ℕ). Adds c.loop-id.log c.emit.new.self
    (emitted_at (place patch.block patch.offset bytes) label ∷ [])) c.as_slice.ensures.value
    c.in_ok-emit.ensures.ok in
    adds-same log c.emit.new.self (before ++ one ∷ []) (emitted_by (places_of graph) (take (id + 1) labels))
    (sym (emitted_more graph labels id label patch inside c.index-labels-id.is c.patch-patch.ensures.at))
    (adds-then log c.loop-id.log c.emit.new.self before (one ∷ []) c.loop-id.invariant added)
