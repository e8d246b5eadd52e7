use Rattle.std.proofs.Common.{◌≡◌, ◌++◌, string_bytes, decimal}
use Rattle.patch_sets.specs.Iter.{ids_left}
use Rattle.report.specs.Texts.{spaced, ids_text}
use Rattle.report.proofs.text.write_ids.Given as goal

-- with the ids that are left the text is whole
abbrev pub invariant-loop-id : goal.invariant-loop-id
invariant-loop-id l =
    string_bytes l.out ++ spaced decimal (ids_left l.id-iterator) ≡ string_bytes l.initial.out ++ ids_text l.set
