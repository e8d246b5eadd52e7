use Rattle.std.proofs.Common.{◌≡◌, map, take}
use Rattle.std.specs.List.{All}
use Rattle.report.specs.Parts.{Section}
use Rattle.report.specs.Made.{IsSection}
use Rattle.report.proofs.making.maker.sections.Given as goal

abbrev pub invariant-loop-set : goal.invariant-loop-set
invariant-loop-set g l = record {
  kept : l.maker ≡ l.initial.maker;
  of_sets : map (λ (s : Section). s.crash.set) l.sections.items ≡ take l.set-index l.sets;
  each : All (IsSection l.initial.maker.detail l.initial.maker.base l.initial.maker.patches) l.sections.items;
}
