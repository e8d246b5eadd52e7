use Rattle.std.proofs.Common.{◌≡◌, ◌<◌, ◌+◌, ◌++◌, [], ◌∷◌, ℕ, List, take, get_or, length, arith, ap, sym, ◌∙◌}
use Rattle.std.proofs.lemmas.List.{take_more, length-take-le}
use Rattle.crash_model.specs.Disk.{Disk, with_bytes, block_of}
use Rattle.journal_replay.specs.Walk.{with_copies}
use Rattle.journal_replay.proofs.Walk.{with_copies-append}
use Rattle.journal_replay.proofs.journal.copy_blocks.Goals as goal

copy_one : (d e f : Disk) (first m to : ℕ) (targets : List ℕ) → m < length targets
    → e ≡ with_copies d first (take m targets) → to ≡ get_or targets m 0
    → f ≡ with_bytes e to 0 (block_of e (first + m)) → f ≡ with_copies d first (take (m + 1) targets)
copy_one d e f first m to targets below so target here =
    let more : take (m + 1) targets ≡ take m targets ++ get_or targets m 0 ∷ [] = take_more targets m 0 below in
    let long : length (take m targets) ≡ m = length-take-le m targets (omega arith) in
    let last : with_copies d first (take m targets ++ get_or targets m 0 ∷ [])
    ≡ with_bytes (with_copies d first (take m targets)) (get_or targets m 0) 0
    (block_of (with_copies d first (take m targets)) (first + length (take m targets))) =
    with_copies-append d first (take m targets) (get_or targets m 0) in
    here ∙ ap (λ (x : ℕ). with_bytes e x 0 (block_of e (first + m))) target
    ∙ ap (λ (x : ℕ). with_bytes e (get_or targets m 0) 0 (block_of e (first + x))) (sym long)
    ∙ ap (λ (x : Disk). with_bytes x (get_or targets m 0) 0 (block_of x (first + length (take m targets)))) so
    ∙ sym last ∙ ap (λ (xs : List ℕ). with_copies d first xs) (sym more)

pub loop-m-preserved : goal.loop-m-preserved
loop-m-preserved g c = (
  copy_one c.args.image.now c.loop-m.image c.copy_block.new.self c.args.first c.loop-m.m c.from.result
      c.args.targets.now c.loop-m-test.true c.loop-m.invariant.0 c.from.ensures c.copy_block.ensures,
  ap (λ (d : Disk). d.blocks) c.copy_block.ensures ∙ c.loop-m.invariant.1,
)
