-- The workloads that do not fail.
use Rattle.std.specs.Prelude.{ℕ, List}
use Rattle.question_model.specs.Sequences.{AreAllSequences}
use Rattle.question_model.specs.Workloads.{Search, IsWorkload, Fails}

-- the list has exactly the workloads of the search that do not fail, in order
abbrev pub AreAllPassing : Search → List (List ℕ) → Type 0
AreAllPassing s sequences = AreAllSequences (λ places. IsWorkload s places × (¬ (Fails s places))) sequences
