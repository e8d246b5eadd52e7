use Rattle.std.proofs.Common.{ℕ, inl, inr, replicate, arith}
use Rattle.std.proofs.lemmas.Bool.{cases_lt}
use Rattle.std.proofs.lemmas.List.{get_or-replicate, get_or_past, length-replicate}
use Rattle.known_bytes.proofs.homes.Homes.own.Goals as goal

pub returns-clause-settled : goal.returns-clause-settled
returns-clause-settled c = λ block. elim (cases_lt block 128) [
  | inl less ↦ get_or-replicate 128 block 0 0 less
  | inr high ↦ get_or_past (replicate 128 0) block 0 (omega (arith, high, length-replicate {A = ℕ} 128 0))
]
