use Rattle.std.proofs.Common.{◌≡◌, ℕ, ◌<◌, ◌≤◌, ◌↔◌, List, [], ◌∷◌, ◌++◌, length, get_or, bit_and, arith, refl, sym, ap}
use Rattle.std.proofs.Common.{subst, ◌∙◌}
use Rattle.std.proofs.lemmas.List.{length-map}
use Rattle.std.specs.Prelude.{slice_index}
use Rattle.patch_sets.specs.Sets.{Has}
use Rattle.patch_sets.specs.Closed.{AreEarlier}
use Rattle.patch_sets.specs.Ends.{IsLowest, IsDifference}
use Rattle.patch_sets.specs.Leading.{ComesBefore}
use Rattle.patch_sets.specs.declared.write.BlockWrite.{BlockWrite}
use Rattle.patch_sets.proofs.Writes.{runs_from_cut}
use Rattle.patch_sets.proofs.Runs.{runs_lead}
use Rattle.crash_model.specs.declared.patches.Patch.{Patch}
use Rattle.crash_model.specs.Patches.{deps_of, homes_of}
use Rattle.patch_graph.specs.Homes.{AreAtBlocks}
use Rattle.patch_graph.proofs.Patches.{home_read}
use Rattle.patch_graph.proofs.Rest.{IsRest, rest_start, rest_next, rest_smaller, rest_none}
use Rattle.patch_graph.proofs.graph.Graph.writes_to.Goals as goal

pub loop-id-init : goal.loop-id-init
loop-id-init g c =
    subst (λ (writes : List BlockWrite). IsRest (homes_of c.args.self.now) c.args.set (bit_and c.args.set c.ids.result)
    writes) (sym c.in_ok-writes.ensures.items)
    (rest_start c.args.self.now c.args.set c.ids.result c.ids.ensures)

-- with a write of the run that the lowest id begins, less is left
run_written : (now patches : List Patch) (masks : List ℕ) (block : ℕ) (x : Patch) {set left id others ahead rest : ℕ}
    {writes : List BlockWrite}
    → patches ≡ now → length patches ≤ 124 → AreAtBlocks (homes_of patches) masks
    → IsRest (homes_of now) set left writes
    → IsLowest left id → x ≡ get_or patches id x → block ≡ x.block → block < 256
    → IsDifference left (slice_index masks block) others
    → ((q : ℕ) → Has ahead q ↔ ((q < 128) × ComesBefore others q)) → IsDifference left ahead rest
    → (rest < left) × IsRest (homes_of now) set rest
    (writes ++ record { block = x.block; ids = bit_and left ahead } ∷ [])
run_written now patches masks block x {set} {left} {id} {others} {ahead} {rest} {writes} view few masked so_far low
    read is small are_others are_ahead is_rest =
    let homes = homes_of now in
    let few_homes : length homes ≤ 128 = subst (λ (xs : List Patch). length (homes_of xs) ≤ 128) view
    (omega (arith, few, length-map patches (λ p. p.block))) in
    let home : slice_index homes id ≡ x.block = subst (λ (xs : List Patch). slice_index (homes_of xs) id ≡ x.block) view
    (home_read patches id x (omega (arith, so_far.known id low.inside, ap length view, length-map now (λ p. p.block)))
    read) in
    let of_block : (q : ℕ) → Has (slice_index masks block) q ↔
    ((q < length homes) × (slice_index homes q ≡ slice_index homes id)) = λ q.
    subst (λ (b : ℕ). Has (slice_index masks block) q ↔ ((q < length homes) × (slice_index homes q ≡ b)))
    (is ∙ sym home)
    ((subst (λ (xs : List Patch). AreAtBlocks (homes_of xs) masks) view masked).exactly block q small) in (
      rest_smaller homes set left writes so_far few_homes id low (slice_index masks block) others ahead rest of_block
          are_others are_ahead is_rest,
      rest_next homes set left writes so_far few_homes id low (slice_index masks block) others ahead rest of_block
          are_others are_ahead is_rest _ (sym home) refl,
    )

pub loop-id-smaller : goal.loop-id-smaller
loop-id-smaller g c = (run_written c.args.self.now c.self.inside.patches.items c.self.inside.at_block c.from.result
    c.index.result.now c.self.view_is c.self.invariant.0.few c.self.invariant.2 c.loop-id.invariant
    c.in-Some.ensures.found c.index.ensures c.from.ensures (omega (arith, c.from.ensures)) c.difference-others.ensures
    c.below_lowest-ahead.ensures c.difference-left.ensures).0

pub loop-id-preserved : goal.loop-id-preserved
loop-id-preserved g c =
    let next = run_written c.args.self.now c.self.inside.patches.items c.self.inside.at_block c.from.result
    c.index.result.now c.self.view_is c.self.invariant.0.few c.self.invariant.2 c.loop-id.invariant
    c.in-Some.ensures.found c.index.ensures c.from.ensures (omega (arith, c.from.ensures)) c.difference-others.ensures
    c.below_lowest-ahead.ensures c.difference-left.ensures in
    subst (λ (writes : List BlockWrite). IsRest (homes_of c.args.self.now) c.args.set c.difference-left.result writes)
    (sym c.in_ok-push.ensures.items) next.1

pub returns-clause-runs : goal.returns-clause-runs
returns-clause-runs g c =
    let homes = homes_of c.args.self.now in
    runs_from_cut homes c.args.set c.loop-id.writes.items
    (rest_none homes c.args.set c.loop-id.left c.loop-id.writes.items c.loop-id.invariant
    c.in_default.ensures.found) c.loop-id.invariant.cut

pub returns-clause-leads : goal.returns-clause-leads
returns-clause-leads g c = λ closed.
    let patches = c.args.self.now in
    let homes = homes_of patches in
    let runs = runs_from_cut homes c.args.set c.loop-id.writes.items
    (rest_none homes c.args.set c.loop-id.left c.loop-id.writes.items c.loop-id.invariant
    c.in_default.ensures.found) c.loop-id.invariant.cut in
    let earlier = subst (λ (xs : List Patch). AreEarlier (deps_of xs)) c.self.view_is c.self.invariant.0.earlier in
    let long : length homes ≡ length (deps_of patches) = length-map patches (λ p. p.block)
    ∙ sym (length-map patches (λ p. p.deps)) in
    runs_lead (deps_of patches) homes long c.args.set earlier closed c.loop-id.writes.items runs
