-- More words of one shard than the limit are more words than the limit.
use Rattle.std.proofs.Common.{◌≡◌, ℕ, ◌%◌, inl, inr}
use Rattle.std.proofs.lemmas.List.Elements.{All-weaker}
use Rattle.state_space.specs.Counts.{Outnumbers}
use Rattle.board_rule.specs.Rule.{Overfills}

pub overfills_rows : (P : ℕ → Type 0) (limit : ℕ) → Overfills P limit limit → Outnumbers P limit
overfills_rows P limit over = elim over [
  | inl all ↦ all
  | inr of_shard ↦ (
    of_shard.1.0,
    record {
      distinct = of_shard.1.1.distinct;
      each = All-weaker (λ word. P word × (word % 13 ≡ of_shard.0)) P (λ word both. both.0) of_shard.1.0
          of_shard.1.1.each;
    },
    of_shard.1.2,
  )
]
