use Rattle.std.proofs.Common.{ℕ, ◌<◌, List, length, bit_and, arith, refl, sym, subst, ◌∙◌}
use Rattle.std.specs.Prelude.{slice_index}
use Rattle.std.proofs.lemmas.List.{length-map}
use Rattle.std.proofs.lemmas.Option.{get_or_from_slice_get}
use Rattle.patch_sets.specs.Sets.{Has}
use Rattle.patch_sets.proofs.Bits.{none_in_empty, below_from_small}
use Rattle.crash_model.specs.declared.patches.Patch.{Patch}
use Rattle.crash_model.specs.Patches.{homes_of}
use Rattle.patch_graph.specs.Homes.{AreAtBlocks}
use Rattle.patch_graph.proofs.Leads.{early_ids, lead_is}
use Rattle.patch_graph.proofs.Patches.{home_read}
use Rattle.patch_graph.proofs.graph.Graph.leading_writes.Goals as goal

pub returns-in_err-last : goal.returns-in_err-last
returns-in_err-last g c =
    let set = c.args.set in
    let early = c.below-early.result in
    let first = c.in_ok-lowest.field-0 in
    let are_early = early_ids set early c.next_stop.result c.below-early.ensures
    (λ id is. below_from_small set 128 id c.ranges.set.fits is)
    (λ id is. below_from_small early 128 id c.below-early.type_inv is) in
    absurd (none_in_empty first (subst (λ s. Has s first) c.in_err-last.ensures.found
    ((are_early first).1 (c.in_ok-lowest.ensures.found.inside, c.next_stop.ensures))))

pub patch-requires : goal.patch-requires
patch-requires g c =
    let set = c.args.set in
    let early = c.below-early.result in
    let last = c.in_ok-last.last in
    let are_early = early_ids set early c.next_stop.result c.below-early.ensures
    (λ id is. below_from_small set 128 id c.ranges.set.fits is)
    (λ id is. below_from_small early 128 id c.below-early.type_inv is) in
    c.requires last ((are_early last).0 c.in_ok-last.ensures.found.inside).0

pub returns : goal.returns
returns g c =
    let patches = c.args.self.now in
    let homes = homes_of patches in
    let set = c.args.set in
    let early = c.below-early.result in
    let last = c.in_ok-last.last in
    let words : (id : ℕ) → Has set id → id < 128 = λ id is. below_from_small set 128 id c.ranges.set.fits is in
    let are_early = early_ids set early c.next_stop.result c.below-early.ensures words
    (λ id is. below_from_small early 128 id c.below-early.type_inv is) in
    let known : (id : ℕ) → Has set id → id < length homes =
    λ id is. (let inside = c.requires id is in omega (arith, inside, length-map patches (λ p. p.block))) in
    let inside : last < length patches = c.requires last ((are_early last).0 c.in_ok-last.ensures.found.inside).0 in
    let home = home_read patches last c.patch.result.now inside
    (sym (get_or_from_slice_get patches last c.patch.result.now c.patch.result.now c.patch.ensures.at))
    ∙ sym c.from.ensures in
    let at_blocks = subst (λ (xs : List Patch). AreAtBlocks (homes_of xs) c.self.inside.at_block) c.self.view_is
    c.self.invariant.2 in
    lead_is homes set early c.next_stop.result last c.from.result (slice_index c.self.inside.at_block c.from.result)
    c.difference.result c.difference-others.result
    c.below_lowest-before.result c.difference-2.result words known are_early c.in_ok-last.ensures.found home
    (λ q. at_blocks.exactly c.from.result q (omega (arith, c.from.ensures)))
    c.difference.ensures c.difference-others.ensures c.below_lowest-before.ensures c.difference-2.ensures
    (record { ids = bit_and set c.below_lowest-before.result; rest = c.difference-2.result }) refl refl
