use Rattle.std.proofs.Common.{◌≡◌, ◌++◌}
use Rattle.std.specs.List.{flat_map}
use Rattle.patch_sets.specs.Sets.{ids_of}
use Rattle.patch_sets.specs.Iter.{most_ids, ids_left}
use Rattle.report.specs.Fields.{natural}
use Rattle.report.specs.Written.{tokens_of}
use Rattle.report.proofs.fields.write_set.Given as goal

-- with the ids that are left the tokens are whole
abbrev pub invariant-loop-id : goal.invariant-loop-id
invariant-loop-id l = record {
  whole : l.out.tokens ++ flat_map (λ id. tokens_of (natural id)) (ids_left l.id-iterator)
      ≡ l.initial.out.tokens ++ flat_map (λ id. tokens_of (natural id)) (ids_of most_ids l.set);
  before : l.out.before ≡ l.initial.out.before;
}
