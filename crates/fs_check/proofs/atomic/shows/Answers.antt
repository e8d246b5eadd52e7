use Rattle.std.proofs.Common.{◌≡◌, ℕ, true, inl, inr, arith, sym, subst, ◌∙◌}
use Rattle.std.specs.Prelude.{bytes_eq}
use Rattle.std.proofs.lemmas.Bool.{false≢true, cases_eq}
use Rattle.patch_sets.specs.Sets.{Has}
use Rattle.crash_model.specs.Disk.{block_of}
use Rattle.fs_check.proofs.ComparedBlocks.{shows-all, shows-not, shows-not_two}
use Rattle.fs_check.proofs.atomic.shows.Goals as goal

pub returns-then-not-has_block : goal.returns-then-not-has_block
returns-then-not-has_block g c = sym (shows-not_two c.args.image.now c.args.disk.now c.blocks-blocks.ensures.disk.least
    (sym c.has_block.ensures ∙ c.if-not-has_block.true))

pub returns-then-not-has_if_compared : goal.returns-then-not-has_if_compared
returns-then-not-has_if_compared g c = sym (shows-not c.args.image.now c.args.disk.now
    c.compared_blocks-compared.result c.compared_blocks-compared.ensures c.loop-block.block
    (λ has. false≢true (sym c.if-not-has_if_compared.true ∙ c.has_if_compared.ensures.1 has)))

pub loop-block-preserved : goal.loop-block-preserved
loop-block-preserved g c = λ b less h. elim (cases_eq b c.loop-block.block) [
  | inl same ↦ subst
      (λ (k : ℕ). bytes_eq (block_of c.args.image.now k) (block_of c.args.disk.now k) ≡ true) (sym same)
      (c.has_if_compared.ensures.0 c.if-not-has_if_compared.false
      (subst (λ (k : ℕ). Has c.compared_blocks-compared.result k) same h))
  | inr other ↦ c.loop-block.invariant b (omega (arith, less, other)) h
]

pub returns : goal.returns
returns g c = sym (shows-all c.args.image.now c.args.disk.now c.compared_blocks-compared.result
    c.compared_blocks-compared.ensures c.loop-block.block (omega (arith, c.blocks-blocks.ensures.value))
    c.loop-block.invariant)
