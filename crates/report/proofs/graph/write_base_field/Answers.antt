use Rattle.std.proofs.Common.{◌≡◌, ℕ, List, arith, map, subst}
use Rattle.std.specs.List.{flat_map, range_with_len}
use Rattle.std.proofs.lemmas.List.FromFn.{map-range_with_len_more}
use Rattle.crash_model.specs.Disk.{block_of}
use Rattle.crash_model.specs.Reasons.{blocks_of}
use Rattle.report.specs.Fields.{hex_json}
use Rattle.report.specs.Written.{AddsTokens, tokens_of}
use Rattle.report.proofs.Adding.{array_written, ends, keyed, no_fields, one_more, token}
use Rattle.report.proofs.graph.write_base_field.Goals as goal

pub loop-block-preserved : goal.loop-block-preserved
loop-block-preserved g c =
    let image = c.args.base.now in
    let n = c.loop-block.block in
    one_more (λ (bytes : List ℕ). tokens_of (hex_json bytes)) (map (block_of image) (range_with_len 0 n))
    (block_of image n) _ (map-range_with_len_more (block_of image) 0 n n (omega arith)) c.loop-block.invariant
    (rw c.block.ensures.bytes at c.in_ok-write_hex.ensures.added)

pub returns-then-not-explain : goal.returns-then-not-explain
returns-then-not-explain g c = rw c.if-not-explain.true no_fields

pub returns : goal.returns
returns g c =
    let image = c.args.base.now in
    let all : c.loop-block.block ≡ image.blocks =
    omega (arith, c.loop-block-test.false, c.loop-block.auto.block-end, c.blocks-block-end.ensures.value) in
    ends c.end_array.result c.end_array.ensures.ok (λ last. rw c.if-not-explain.false (keyed c.in_ok-write_key.ensures
    (array_written hex_json (blocks_of image)
    (token {b = c.begin_array.new.self} c.in_ok-begin_array.ensures.ok c.begin_array.ensures.room.0)
    (subst (λ (n : ℕ). AddsTokens c.begin_array.new.self c.loop-block.out
    (flat_map (λ (bytes : List ℕ). tokens_of (hex_json bytes)) (map (block_of image) (range_with_len 0 n)))) all
    c.loop-block.invariant)
    (token {b = c.end_array.new.self} last c.end_array.ensures.room.0))))
