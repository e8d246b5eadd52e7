use Rattle.std.proofs.Common.{sym, ◌∙◌, inl, inr}
use Rattle.std.proofs.lemmas.Bool.{false≢true}
use Rattle.set_families.proofs.Searches.{from_having, in_either}
use Rattle.set_families.proofs.closed_sets.ClosedSets.+any_member.Goals as goal

pub returns-else-any_member : goal.returns-else-any_member
returns-else-any_member g t c =
    let deps = c.args.self.now.deps.now in
    let holds = g.Q.SetProperty.holds c.args.property.now in
    let having = c.any_member-else-any_member.ensures in
    let lacking = c.any_member.ensures in (
      λ given. let it = having.0 given in
          let w =
          from_having deps holds c.args.family c.hold.result c.bar.result c.in-Err.id c.hold.ensures.members
          c.bar.ensures.members it.0 (it.1, it.2) in
          (it.0, w.0, w.1),
      λ it. elim (in_either deps holds c.args.family c.hold.result c.bar.result c.in-Err.id c.hold.ensures.members
          c.bar.ensures.members it.0 (it.1, it.2)) [
            | inl has ↦ having.1 (it.0, has.0, has.1)
            | inr lacks ↦ absurd (false≢true (sym c.if-any_member.false ∙ lacking.1 (it.0, lacks.0, lacks.1)))
          ],
    )
