use Rattle.std.proofs.Common.{ℕ, List, length, ◌<◌, subst}
use Rattle.std.specs.Prelude.{◌↔◌}
use Rattle.patch_sets.specs.Sets.{Has}
use Rattle.crash_model.specs.declared.patches.Patch.{Patch}
use Rattle.known_bytes.proofs.Undecided.{undecided_ids}
use Rattle.known_bytes.proofs.bytes.KnownBytes.new.Goals as goal

pub invariant_of-result : goal.invariant_of-result
invariant_of-result g c = record {
  chains = c.graph.ensures.chains;
  exactly = undecided_ids record {
    base = c.args.chains.now.base;
    patches = c.args.chains.now.patches;
    held = c.args.held;
    barred = c.args.barred;
  } c.ids.result c.difference-free.result c.difference-undecided.result
      (subst (λ (ps : List Patch). (id : ℕ) → (Has c.ids.result id ↔ (id < length ps))) c.graph.ensures.graph
      c.ids.ensures)
      c.difference-free.ensures c.difference-undecided.ensures;
}
