use Rattle.std.proofs.Common.{◌∙◌, Some, ap, codes, sym}
use Rattle.std.specs.Prelude.{option_map}
use Rattle.std.specs.Borrow.{Bor}
use Rattle.clap.specs.Words.{Text, found_of}
use Rattle.clap.proofs.WalkLemmas.{first_value-rows}
use Rattle.command_line.specs.Said.{faults_in}
use Rattle.command_line.proofs.values.counted_of.Goals as goal

pub returns-in_default : goal.returns-in_default
returns-in_default c =
    let read = c.get_str.ensures ∙ first_value-rows (found_of c.args.matches.now) (codes "faults") in
    ap (option_map faults_in) (sym read ∙ ap (option_map (λ (s : Bor Text). s.now)) c.in_default.is)

pub returns-in-Some-fault_numbers : goal.returns-in-Some-fault_numbers
returns-in-Some-fault_numbers c =
    let read = c.get_str.ensures ∙ first_value-rows (found_of c.args.matches.now) (codes "faults") in
    ap (option_map faults_in) (sym read ∙ ap (option_map (λ (s : Bor Text). s.now)) c.in-Some.is)
    ∙ ap Some (sym c.in-Some-fault_numbers.ensures)
