use Rattle.std.proofs.Common.{◌+◌, ◌*◌, arith, subst}
use Rattle.patch_sets.specs.Sets.{Has}
use Rattle.patch_sets.proofs.Bits.{none_in_empty}
use Rattle.patch_sets.proofs.LowestHighest.{lowest_id}
use Rattle.set_families.specs.Families.{IsMember}
use Rattle.set_families.proofs.Numbers.{number_one}
use Rattle.set_families.proofs.Members.{held_member, held_only, member_small, members_counted, count_fits}
use Rattle.set_families.proofs.Parts.{rest_part, product_counted}
use Rattle.set_families.proofs.closed_sets.ClosedSets.+count_members.Goals as goal

pub returns-in-None : goal.returns-in-None
returns-in-None t c =
    let deps = c.args.self.now.deps.now in
    number_one (IsMember deps c.args.family) c.args.family.held (held_member deps c.args.family c.requires)
    (held_only deps c.args.family (λ id free. none_in_empty id
    (subst (λ s. Has s id) c.in-None.ensures.found ((c.undecided_ids-undecided.ensures id).1 free))))

pub returns-then-rest-eq0 : goal.returns-then-rest-eq0
returns-then-rest-eq0 t c =
    members_counted c.args.self.now.deps.now c.args.family c.hold.result c.bar.result c.busiest-id.result
    c.hold.ensures.members
    c.bar.ensures.members c.count_members-having.result c.count_members-lacking.result c.count_members-having.ensures
    c.count_members-lacking.ensures

pub overflow_add-result : goal.overflow_add-result
overflow_add-result t c =
    let deps = c.args.self.now.deps.now in
    let small =
    count_fits deps (IsMember deps c.args.family) (c.count_members-having.result + c.count_members-lacking.result)
    c.args.self.now.few
    (members_counted deps c.args.family c.hold.result c.bar.result c.busiest-id.result c.hold.ensures.members
    c.bar.ensures.members c.count_members-having.result c.count_members-lacking.result c.count_members-having.ensures
    c.count_members-lacking.ensures)
    (member_small deps c.args.family) in
    omega (arith, small)

pub bar_part-requires-clause-part : goal.bar_part-requires-clause-part
bar_part-requires-clause-part t c =
    rest_part c.args.self.now.deps.now c.args.family c.undecided_ids-undecided.result c.part_with-part.result
    c.difference-rest.result c.part_with-part.ensures.part c.undecided_ids-undecided.ensures c.difference-rest.ensures

pub count_members-inside-requires : goal.count_members-inside-requires
count_members-inside-requires t c =
    let rest = c.difference-rest.result in
    let some = lowest_id rest c.if-rest-eq0.false c.difference-rest.type_inv in
    let less = c.bar_part.ensures.fewer _ some.inside in
    (omega (arith, c.decreases, less), c.bar_part.ensures.family)

pub returns-else-rest-eq0 : goal.returns-else-rest-eq0
returns-else-rest-eq0 t c =
    product_counted c.args.self.now.deps.now c.args.self.now.few c.args.family c.requires
    c.undecided_ids-undecided.result c.part_with-part.result c.difference-rest.result c.undecided_ids-undecided.ensures
    c.part_with-part.ensures.part c.difference-rest.ensures c.bar_part.result c.bar_part-else-rest-eq0.result
    c.count_members-inside.result c.count_members-outside.result c.bar_part.ensures.members
    c.bar_part-else-rest-eq0.ensures.members c.count_members-inside.ensures c.count_members-outside.ensures

pub overflow_mul-result : goal.overflow_mul-result
overflow_mul-result t c =
    let deps = c.args.self.now.deps.now in
    let small =
    count_fits deps (IsMember deps c.args.family) (c.count_members-inside.result * c.count_members-outside.result)
    c.args.self.now.few
    (product_counted deps c.args.self.now.few c.args.family c.requires
    c.undecided_ids-undecided.result c.part_with-part.result c.difference-rest.result
    c.undecided_ids-undecided.ensures c.part_with-part.ensures.part c.difference-rest.ensures c.bar_part.result
    c.bar_part-else-rest-eq0.result c.count_members-inside.result c.count_members-outside.result
    c.bar_part.ensures.members c.bar_part-else-rest-eq0.ensures.members c.count_members-inside.ensures
    c.count_members-outside.ensures)
    (member_small deps c.args.family) in
    omega (arith, small)
