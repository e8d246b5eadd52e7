use Rattle.std.proofs.Common.{◌≡◌, ◌∙◌, ◌≤◌, ℕ, Option, Some, None, ap, codes, sym}
use Rattle.std.specs.Option.{MatchOption}
use Rattle.std.specs.Str.Parse.{ExplainsUnsignedError, HasUnsignedDigitsIfOk, ParsesUnsigned}
use Rattle.clap.specs.Words.{found_of, rows_of}
use Rattle.command_line.proofs.Read.{number_if_got, optional_in_range}
use Rattle.command_line.proofs.values.longest_workload.Goals as goal

made : (o : Option ℕ) (n : ℕ) → MatchOption o ((1 ≤ n) × (n ≤ 8) → ⊥) (λ l. (l ≡ n) × (1 ≤ n) × (n ≤ 8))
    → (1 ≤ n) × (n ≤ 8) → o ≡ Some n
made None n h range = absurd (h range)
made (Some l) n h range = ap Some h.0

pub returns : goal.returns
returns c =
    let read = number_if_got _
    (λ bs r. ParsesUnsigned 64 10 bs r × ExplainsUnsignedError 10 bs r × HasUnsignedDigitsIfOk bs r)
    (λ u x g. g.0) (found_of c.args.matches.now) (codes "search") c.get_one.result c.get_one.ensures.value
    c.get_one.ensures.none 1 8 c.requires.search ∙ c.in_ok-get_one.was in
    let range = optional_in_range 1 8 c.in_ok-get_one.field-0 (codes "search") (rows_of (found_of c.args.matches.now))
    c.requires.search read in
    made c.new.result c.in_ok-get_one.field-0 c.new.ensures (range.0, range.1) ∙ sym read

pub returns-in_err-get_one : goal.returns-in_err-get_one
returns-in_err-get_one c =
    let read = number_if_got _
    (λ bs r. ParsesUnsigned 64 10 bs r × ExplainsUnsignedError 10 bs r × HasUnsignedDigitsIfOk bs r)
    (λ u x g. g.0) (found_of c.args.matches.now) (codes "search") c.get_one.result c.get_one.ensures.value
    c.get_one.ensures.none 1 8 c.requires.search ∙ c.in_err-get_one.was in
    let none = c.from_residual.ensures in
    cc
