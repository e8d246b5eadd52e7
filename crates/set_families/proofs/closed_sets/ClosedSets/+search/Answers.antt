use Rattle.std.proofs.Common.{Ok, subst, sym}
use Rattle.patch_sets.proofs.Bits.{same_set}
use Rattle.set_families.specs.Families.{IsMember}
use Rattle.set_families.specs.Properties.{IsAnswer}
use Rattle.set_families.proofs.Members.{held_member}
use Rattle.set_families.proofs.Searches.{better, parts_searched}
use Rattle.set_families.proofs.closed_sets.ClosedSets.+search.Goals as goal

pub returns-in-Ok-true : goal.returns-in-Ok-true
returns-in-Ok-true g t c =
    let deps = c.args.self.now.deps.now in
    let holds = g.Q.SetProperty.holds c.args.property.now in
    let family = c.args.family in
    let least = c.least-least.ensures in
    let answer = subst (IsAnswer holds deps family) c.in-Ok-true.is c.ask.ensures in
    let of_held = subst (λ held. IsAnswer holds deps family (Ok held)) c.in-Ok-true.field-0-test answer in
    let same =
    same_set c.least-least.result family.held
    (least.within family.held (held_member deps family c.requires.family))
    least.member.has_held in
    better (λ set. IsMember deps family set × holds set) c.args.best c.least-least.result
    (least.member, subst holds (sym same) of_held) (λ w it ne. least.first.before w it.0 ne)
    (c.is_better.ensures.0 c.if-not-is_better.false)

pub returns-in-Err : goal.returns-in-Err
returns-in-Err g t c =
    parts_searched c.args.self.now.deps.now (g.Q.SetProperty.holds c.args.property.now) c.args.family c.hold.result
    c.bar.result c.in-Err.id c.hold.ensures.members c.bar.ensures.members c.args.best c.search-lacking.result
    c.search.result c.search-lacking.ensures c.search.ensures
