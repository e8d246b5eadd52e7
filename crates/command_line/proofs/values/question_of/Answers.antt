use Rattle.std.proofs.Common.{◌∙◌, codes, sym}
use Rattle.clap.specs.Words.{found_of, rows_of}
use Rattle.command_line.proofs.Asked.{decided, enough_lines, enough_rules, failing_sets, searched, searched_rules}
use Rattle.command_line.proofs.Read.{flag_got}
use Rattle.command_line.proofs.values.question_of.Goals as goal

pub returns-then-get_flag : goal.returns-then-get_flag
returns-then-get_flag c =
    let f = found_of c.args.matches.now in
    decided (rows_of f) c.get_flag.result
    (flag_got f (codes "decide") c.get_flag.result c.get_flag.ensures.value c.get_flag.ensures.other) c.if-get_flag.true

pub returns-in-Some-true : goal.returns-in-Some-true
returns-in-Some-true c =
    let f = found_of c.args.matches.now in
    searched_rules (rows_of f) c.get_flag.result c.get_flag-2.result
    (flag_got f (codes "decide") c.get_flag.result c.get_flag.ensures.value c.get_flag.ensures.other)
    (flag_got f (codes "enough") c.get_flag-2.result c.get_flag-2.ensures.value c.get_flag-2.ensures.other)
    c.if-get_flag.false c.in-Some-true.longest (cc) (sym c.longest_workload.ensures ∙ c.in-Some-true.is-0)

pub returns-in-Some-false : goal.returns-in-Some-false
returns-in-Some-false c =
    let f = found_of c.args.matches.now in
    searched (rows_of f) c.get_flag.result c.get_flag-2.result
    (flag_got f (codes "decide") c.get_flag.result c.get_flag.ensures.value c.get_flag.ensures.other)
    (flag_got f (codes "enough") c.get_flag-2.result c.get_flag-2.ensures.value c.get_flag-2.ensures.other)
    c.if-get_flag.false c.in-Some-false.longest (cc) (sym c.longest_workload.ensures ∙ c.in-Some-false.is-0)

pub returns-in-None-true : goal.returns-in-None-true
returns-in-None-true c =
    let f = found_of c.args.matches.now in
    enough_lines (rows_of f) c.get_flag.result c.get_flag-2.result
    (flag_got f (codes "decide") c.get_flag.result c.get_flag.ensures.value c.get_flag.ensures.other)
    (flag_got f (codes "enough") c.get_flag-2.result c.get_flag-2.ensures.value c.get_flag-2.ensures.other)
    c.if-get_flag.false c.get_flag-then-this.result
    (flag_got f (codes "syncs") c.get_flag-then-this.result c.get_flag-then-this.ensures.value
    c.get_flag-then-this.ensures.other)
    c.if-get_flag-3.true (cc) (sym c.longest_workload.ensures ∙ c.in-None-true.is-0)

pub returns-in-None-true-2 : goal.returns-in-None-true-2
returns-in-None-true-2 c =
    let f = found_of c.args.matches.now in
    enough_rules (rows_of f) c.get_flag.result c.get_flag-2.result
    (flag_got f (codes "decide") c.get_flag.result c.get_flag.ensures.value c.get_flag.ensures.other)
    (flag_got f (codes "enough") c.get_flag-2.result c.get_flag-2.ensures.value c.get_flag-2.ensures.other)
    c.if-get_flag.false c.get_flag-then-this.result
    (flag_got f (codes "syncs") c.get_flag-then-this.result c.get_flag-then-this.ensures.value
    c.get_flag-then-this.ensures.other)
    c.if-get_flag-3.false (cc) (sym c.longest_workload.ensures ∙ c.in-None-true.is-0)

pub returns-in-None-false : goal.returns-in-None-false
returns-in-None-false c =
    let f = found_of c.args.matches.now in
    failing_sets (rows_of f) c.get_flag.result c.get_flag-2.result
    (flag_got f (codes "decide") c.get_flag.result c.get_flag.ensures.value c.get_flag.ensures.other)
    (flag_got f (codes "enough") c.get_flag-2.result c.get_flag-2.ensures.value c.get_flag-2.ensures.other)
    c.if-get_flag.false c.limit_of.result (cc) (sym c.longest_workload.ensures ∙ c.in-None-false.is-0)
    c.limit_of.ensures
