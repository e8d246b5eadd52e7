use Rattle.std.proofs.Common.{◌≡◌, ◌<◌, ◌++◌, [], List, length, sym, subst, ap, ◌∙◌}
use Rattle.std.specs.List.{All}
use Rattle.crash_model.specs.Disk.{Disk}
use Rattle.crash_model.specs.Patches.{places_of}
use Rattle.crash_model.specs.Trace.{Emitted}
use Rattle.crash_model.specs.declared.patches.Patch.{Patch}
use Rattle.traced_patches.specs.Labels.{emitted_by, links_by}
use Rattle.order_modules.specs.Log.{Log}
use Rattle.order_modules.proofs.Graphs.{graph_of_log}
use Rattle.order_modules.proofs.other_graphs.graph_with.Goals as goal

pub emit_all-requires-clause-labelled : goal.emit_all-requires-clause-labelled
emit_all-requires-clause-labelled g c = c.requires.each
    ∙ sym (ap (λ (ps : List Patch). length ps) c.graph.ensures)

pub emit_all-requires-clause-fits : goal.emit_all-requires-clause-fits
emit_all-requires-clause-fits g c =
    let base : c.link_all.new.log.base ≡ c.args.base.now = ap (λ (l : Log). l.base) c.in_ok-link_all.ensures
    ∙ c.in_ok-log.ensures.new.0 in
    subst (λ (d : Disk). All (λ patch. patch.block < d.blocks) c.graph.result.now) (sym base)
    (subst (λ (ps : List Patch). All (λ patch. patch.block < c.args.base.now.blocks) ps) (sym c.graph.ensures)
    c.requires.fits)

pub emit_all-requires-clause-none : goal.emit_all-requires-clause-none
emit_all-requires-clause-none g c = ap (λ (l : Log). l.emitted) c.in_ok-link_all.ensures ∙ c.in_ok-log.ensures.new.2

pub returns-clause-graph : goal.returns-clause-graph
returns-clause-graph g c = λ s same_emitted same_links same_whole.
    let traced = c.args.traced.now in
    let log = c.emit_all.new.log in
    let linked = c.in_ok-link_all.ensures in
    let adds = c.in_ok-emit_all.ensures in
    let new = c.in_ok-log.ensures in
    let rules : log.rules ≡ c.args.ordering.now.rules.items =
    adds.rules ∙ (ap (λ (l : Log). l.rules) linked ∙ new.ordering.1) in
    let whole : log.whole ≡ c.args.ordering.now.whole_blocks =
    adds.whole ∙ (ap (λ (l : Log). l.whole) linked ∙ new.ordering.2) in
    let base : log.base ≡ c.args.base.now = adds.base ∙ (ap (λ (l : Log). l.base) linked ∙ new.new.0) in
    let none : c.link_all.new.log.emitted ≡ [] = ap (λ (l : Log). l.emitted) linked ∙ new.new.2 in
    let emitted : log.emitted ≡ emitted_by (places_of traced.patches) c.args.labels.now =
    adds.emitted ∙ (ap (λ (es : List Emitted). es ++ emitted_by (places_of c.graph.result.now) c.args.labels.now) none
    ∙ ap (λ (ps : List Patch). emitted_by (places_of ps) c.args.labels.now) c.graph.ensures) in
    let links : log.links ≡ traced.links =
    adds.links ∙ (ap (λ (l : Log). l.links) linked ∙ (ap (λ ls. ls ++ links_by c.links.result.now) new.new.1
    ∙ c.links.ensures)) in
    rw (c.into_graph.ensures, c.into_traced.ensures.patches)
    (graph_of_log log c.args.ordering.now.rules.items c.args.base.now s c.into_traced.ensures.log rules
    base (same_emitted ∙ sym emitted) (same_links ∙ sym links) (same_whole ∙ sym whole))

pub returns-clause-fits : goal.returns-clause-fits
returns-clause-fits g c =
    let log = c.emit_all.new.log in
    let base : log.base ≡ c.args.base.now = c.in_ok-emit_all.ensures.base
    ∙ (ap (λ (l : Log). l.base) c.in_ok-link_all.ensures ∙ c.in_ok-log.ensures.new.0) in
    rw (c.into_graph.ensures, c.into_traced.ensures.patches)
    (subst (λ (d : Disk). All (λ patch. patch.block < d.blocks) log.patches) base c.into_traced.ensures.log.known)
