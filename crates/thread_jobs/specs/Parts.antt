-- The parts of a job.
use Rattle.std.specs.Prelude.{ℕ, ◌<◌, List, Option, length, slice_index_or, IfSome}
use Rattle.thread_jobs.specs.declared.parts.Drawn.{Drawn}

-- it is made of one of this many parts
pub record IsDrawn {P : Type 0} (is_part : ℕ → P → Type 0) (parts : ℕ) (drawn : Drawn P) : Type 0 where
  pub known : drawn.at < parts
  pub made : is_part drawn.at drawn.part

-- at each place is what is made of the part there, or nothing
abbrev pub ArePlaced : {P : Type 0} → (ℕ → P → Type 0) → List (Option P) → Type 0
ArePlaced {P = P} is_part places =
    (n : ℕ) (d : Option P) → n < length places → IfSome (slice_index_or places n d) (is_part n)

-- each is what is made of the part with its number
abbrev pub AreParts : {P : Type 0} → (ℕ → P → Type 0) → List P → Type 0
AreParts {P = P} is_part parts = (n : ℕ) (d : P) → n < length parts → is_part n (slice_index_or parts n d)
