use Rattle.std.proofs.Common.{◌≡◌, ap, subst, sym, refl, Bool, true, false, not, ◌∙◌}
use Rattle.std.specs.Prelude.{slice_index}
use mathlib.Core.Bool.{beq}
use Rattle.known_bytes.specs.Family.{Family, is_one_of}
use Rattle.known_bytes.specs.Chains.{IsSplit}
use Rattle.known_bytes.proofs.Undecided.{starts_here, passing_on, passing_ends, at_same}
use Rattle.known_bytes.proofs.Known.{so_in_each}
use Rattle.known_bytes.proofs.bytes.KnownBytes.other.Goals as goal

same_answer : (a b : Bool) → not (beq a b) ≡ false → a ≡ b
same_answer true true h = refl
same_answer true false h = absurd (cc)
same_answer false true h = absurd (cc)
same_answer false false h = refl

pub loop-id-init : goal.loop-id-init
loop-id-init g c = starts_here _ c.args.self.now c.self.view_is c.args.block c.args.offset
    (λ x. is_one_of (slice_index c.args.values 0) (slice_index c.args.values 1) x ≡ c.args.alike)
    c.self.inside.undecided c.at.result c.self.invariant c.at.ensures

pub loop-id-preserved : goal.loop-id-preserved
loop-id-preserved g c =
    let id = c.in-Some.id in
    let v = slice_index c.args.values 0 in
    let w = slice_index c.args.values 1 in
    passing_on c.args.self.now c.args.block c.args.offset (λ x. is_one_of v w x ≡ c.args.alike) c.loop-id.left
    c.loop-id.invariant c.without_lowest-left.result id c.patch.result.now
    (c.without_lowest-left.ensures.others id c.in-Some.ensures.found)
    (at_same c.graph.result.now _ c.args.self.now.patches id c.patch.result.now c.graph.ensures.graph
    (ap (λ (f : Family). f.patches) c.self.view_is) c.patch.ensures.at)
    (ap (λ x. is_one_of v w x) (sym c.new_byte-value.ensures) ∙ sym c.is_one_of.ensures
    ∙ same_answer c.is_one_of.result c.args.alike c.if-is_one_of-alike.false)

pub returns : goal.returns
returns g c = λ first.
    let v = slice_index c.args.values 0 in
    let w = slice_index c.args.values 1 in
    let split = subst (λ (f : Family). IsSplit f c.self.inside.undecided) c.self.view_is c.self.invariant in
    so_in_each c.args.self.now split.chains.sets split.chains.are c.args.block c.args.offset c.requires.block
    c.requires.offset (λ x. is_one_of v w x ≡ c.args.alike) first
    (passing_ends c.args.self.now c.args.block c.args.offset (λ x. is_one_of v w x ≡ c.args.alike) c.loop-id.left
    c.loop-id.invariant c.in_default.ensures.found)
