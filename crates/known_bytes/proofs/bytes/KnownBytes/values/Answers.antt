use Rattle.std.proofs.Common.{ap, subst, ℕ}
use Rattle.known_bytes.specs.Family.{Family, HasValue}
use Rattle.known_bytes.specs.Chains.{IsSplit}
use Rattle.known_bytes.proofs.Undecided.{starts_here, passing_on, passing_ends, passing_more, at_same}
use Rattle.known_bytes.proofs.Known.{so_in_each}
use Rattle.known_bytes.proofs.bytes.KnownBytes.values.Goals as goal

pub loop-id-init : goal.loop-id-init
loop-id-init g c = record {
  held = subst (λ (x : ℕ). HasValue c.with-values.result.low c.with-values.result.high x) c.held_byte.ensures
      c.with-values.ensures.added;
  walk = starts_here _ c.args.self.now c.self.view_is c.args.block c.args.offset
      (λ x. HasValue c.with-values.result.low c.with-values.result.high x)
      c.self.inside.undecided c.at.result c.self.invariant c.at.ensures;
}

pub loop-id-preserved : goal.loop-id-preserved
loop-id-preserved g c =
    let id = c.in-Some.id in
    let old = c.loop-id.values in
    let new = c.with-values-in-Some.result in
    record {
      held = c.with-values-in-Some.ensures.others _ c.loop-id.invariant.held;
      walk = passing_on c.args.self.now c.args.block c.args.offset (λ x. HasValue new.low new.high x) c.loop-id.left
          (passing_more c.args.self.now c.args.block c.args.offset (λ x. HasValue old.low old.high x) c.loop-id.left
          c.loop-id.invariant.walk (λ x. HasValue new.low new.high x) c.with-values-in-Some.ensures.others)
          c.without_lowest-left.result id c.patch.result.now
          (c.without_lowest-left.ensures.others id c.in-Some.ensures.found)
          (at_same c.graph.result.now _ c.args.self.now.patches id c.patch.result.now c.graph.ensures.graph
          (ap (λ (f : Family). f.patches) c.self.view_is) c.patch.ensures.at)
          (subst (λ (x : ℕ). HasValue new.low new.high x) c.new_byte.ensures c.with-values-in-Some.ensures.added);
    }

pub returns : goal.returns
returns g c =
    let split = subst (λ (f : Family). IsSplit f c.self.inside.undecided) c.self.view_is c.self.invariant in
    so_in_each c.args.self.now split.chains.sets split.chains.are c.args.block c.args.offset c.requires.block
    c.requires.offset (λ x. HasValue c.loop-id.values.low c.loop-id.values.high x) c.loop-id.invariant.held
    (passing_ends c.args.self.now c.args.block c.args.offset
    (λ x. HasValue c.loop-id.values.low c.loop-id.values.high x) c.loop-id.left
    c.loop-id.invariant.walk c.in_default.ensures.found)
