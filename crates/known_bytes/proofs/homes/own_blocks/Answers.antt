use Rattle.std.proofs.Common.{◌≡◌, ◌≢◌, ℕ, arith, below_more, ◌∙◌, ap, length, get_or, set, sym}
use Rattle.std.proofs.lemmas.List.{get_or-set_same, get_or-set_other, length-set}
use Rattle.known_bytes.proofs.homes.own_blocks.Goals as goal

pub loop-block-preserved : goal.loop-block-preserved
loop-block-preserved c =
    let here : c.from.result ≡ c.loop-block.block = c.from.ensures in
    let long : length c.loop-block.blocks ≡ 128 = c.loop-block.invariant.long in
    record {
      long = length-set c.loop-block.blocks c.from.result c.loop-block.block ∙ long;
      own = below_more _ _
          (λ k h. let ne : k ≢ c.from.result = omega arith in
          get_or-set_other c.loop-block.blocks c.from.result k c.loop-block.block 0 ne ∙ c.loop-block.invariant.own k h)
          (ap (λ (k : ℕ). get_or (set c.loop-block.blocks c.from.result c.loop-block.block) k 0) (sym here)
          ∙ get_or-set_same c.loop-block.blocks c.from.result c.loop-block.block 0 (omega arith));
    }
