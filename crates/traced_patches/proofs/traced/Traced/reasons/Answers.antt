use Rattle.std.proofs.Common.{◌≡◌, ℕ, List, Some, sym, ap, ◌∙◌, subst}
use Rattle.std.specs.Prelude.{slice_get}
use Rattle.crash_model.specs.Patches.{place, overlap}
use Rattle.crash_model.specs.Trace.{Emitted, groups_depend, waits_for}
use Rattle.crash_model.specs.Reasons.{rules_between}
use Rattle.crash_model.specs.declared.patches.Patch.{Patch}
use Rattle.crash_model.specs.declared.rules.Rule.{Rule}
use Rattle.traced_patches.specs.Labels.{emitted_at, emitted_of, links_by}
use Rattle.traced_patches.specs.Traced.{TracedPatches}
use Rattle.traced_patches.specs.declared.labels.Label.{Label}
use Rattle.traced_patches.specs.declared.labels.Link.{Link}
use Rattle.traced_patches.proofs.Labelled.{emitted_read, overlap_read}
use Rattle.traced_patches.proofs.traced.Traced.reasons.Goals as goal

pub returns : goal.returns
returns g c = λ q p at_q at_p.
    let i = c.self.inside in
    let later : Label = c.label_of-last.result.now in
    let earlier : Label = c.label_of-first.result.now in
    let after : Patch = c.patch-2.result.now in
    let before : Patch = c.patch.result.now in
    let labels = λ (id : ℕ) (l : Label). subst (λ (ls : List Label). slice_get ls id ≡ Some l)
    c.as_slice-labels.ensures.value in
    let q_is : q ≡ emitted_at (place after.block after.offset after.new.items) later =
    emitted_read i.graph i.labels.items c.args.later later after q (labels c.args.later later c.label_of-last.ensures)
    c.patch-2.ensures.at (ap (λ (t : TracedPatches). slice_get t.emitted c.args.later) c.self.view_is ∙ at_q) in
    let p_is : p ≡ emitted_at (place before.block before.offset before.new.items) earlier =
    emitted_read i.graph i.labels.items c.args.earlier earlier before p
    (labels c.args.earlier earlier c.label_of-first.ensures) c.patch.ensures.at
    (ap (λ (t : TracedPatches). slice_get t.emitted c.args.earlier) c.self.view_is ∙ at_p) in
    record {
      overlap = overlap_read after before c.overlaps.result c.overlaps.ensures
          ∙ ap (λ (e : Emitted). overlap e.place (place before.block before.offset before.new.items)) (sym q_is)
          ∙ ap (λ (e : Emitted). overlap q.place e.place) (sym p_is);
      block = c.shares_block.ensures q p at_q at_p;
      group = c.is_linked.ensures
          ∙ ap (λ (ls : List Link). groups_depend (links_by ls) (emitted_of later) (emitted_of earlier))
          c.as_slice.ensures.value
          ∙ ap (λ (t : TracedPatches). groups_depend t.links (emitted_of later) (emitted_of earlier)) c.self.view_is
          ∙ ap (λ (e : Emitted). groups_depend c.args.self.now.links e (emitted_of earlier)) (sym q_is)
          ∙ ap (λ (e : Emitted). groups_depend c.args.self.now.links q e) (sym p_is);
      wait = c.is_forced.ensures ∙ ap (λ (e : Emitted). waits_for e c.args.earlier) (sym q_is);
      rules = c.rules_between.ensures
          ∙ ap (λ (rs : List Rule). rules_between rs (emitted_of later) (emitted_of earlier)) c.as_slice-2.ensures.value
          ∙ ap (λ (t : TracedPatches). rules_between t.rules (emitted_of later) (emitted_of earlier)) c.self.view_is
          ∙ ap (λ (e : Emitted). rules_between c.args.self.now.rules e (emitted_of earlier)) (sym q_is)
          ∙ ap (λ (e : Emitted). rules_between c.args.self.now.rules q e) (sym p_is);
    }
