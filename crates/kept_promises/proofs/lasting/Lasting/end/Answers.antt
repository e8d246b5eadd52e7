use Rattle.std.proofs.Common.{length, sym, ap, ◌∙◌}
use Rattle.std.proofs.lemmas.List.{length-map}
use Rattle.crash_model.specs.Disk.{Disk}
use Rattle.crash_model.specs.Patches.{place, places_of}
use Rattle.crash_model.specs.Paths.{names_of}
use Rattle.crash_model.specs.Promises.{way_shows}
use Rattle.crash_model.specs.declared.patches.Patch.{Patch}
use Rattle.kept_promises.proofs.Touching.{ends_then, ends_else}
use Rattle.kept_promises.proofs.lasting.Lasting.end.Goals as goal

pub returns-then-is_touched-clause-ends : goal.returns-then-is_touched-clause-ends
returns-then-is_touched-clause-ends g c s next watched here before =
    let l = c.args.self.now in
    let patches = c.args.after.now.graph.now in
    c.with_ids_between.ensures
    ∙ ends_then l.path l.ranges.items l.way.items c.way_shows-way.result.items (places_of patches) c.args.known s next
    watched (c.way_shows-way.ensures ∙ ap (λ (d : Disk). way_shows d (names_of l.path)) here.disk) here.places before
    c.args.ends (length patches) (sym c.is_touched-is_touched.ensures ∙ c.if-is_touched.true)
    (sym (length-map patches (λ (p : Patch). place p.block p.offset p.new.items)))

pub returns-else-is_touched-clause-ends : goal.returns-else-is_touched-clause-ends
returns-else-is_touched-clause-ends g c s next watched here before =
    let l = c.args.self.now in
    let patches = c.args.after.now.graph.now in
    ends_else l.path l.ranges.items l.way.items c.way_shows-way.result.items (places_of patches) c.args.known s next
    watched (c.way_shows-way.ensures ∙ ap (λ (d : Disk). way_shows d (names_of l.path)) here.disk) here.places before
    c.args.ends (sym c.is_touched-is_touched.ensures ∙ c.if-is_touched.false)
