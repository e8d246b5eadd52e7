use Rattle.std.proofs.Common.{◌≡◌, ◌∙◌, ◌<◌, All, length, get_or, ap, sym, subst, arith}
use Rattle.std.proofs.lemmas.List.{get_or_default}
use Rattle.std.proofs.lemmas.List.Edits.{length-remove}
use Rattle.crossbeam_deque.specs.Handles.{worker_view, worker_deque, IsPassOf}
use Rattle.hands.specs.Accounts.{weigh}
use Rattle.hands.specs.Known.{Way, Known}
use Rattle.hands.specs.Together.{IsWay}
use Rattle.hands.specs.Remaining.{LeadsTo, weigh_taken}
use Rattle.hands.proofs.Moves.{merges, absorbed}
use Rattle.hands.proofs.Kept.{same-way, all-lead, owner-leads, all-parts, All-removed, sum-removed}
use Rattle.hands.proofs.left.tasks_left.Goals as goal

pub swap_remove-requires : goal.swap_remove-requires
swap_remove-requires g c =
    let of = c.args.of in
    let here = owner-leads _ of c.remove.result c.requires.together c.requires.of c.remove.ensures.value in
    let within = subst (λ (h : Known g.row.T.Denot g.row.A.Denot). of < length h.ways) (sym c.deque.view_is) here.0 in
    omega (arith, within, c.deque.inside.reaches.ok.0)

pub absorb-requires-clause-table : goal.absorb-requires-clause-table
absorb-requires-clause-table g c =
    let owner = c.remove.result in
    let way = c.swap_remove.result in
    let of = c.args.of in
    let here = owner-leads _ of owner c.requires.together c.requires.of c.remove.ensures.value in
    let at : way ≡ get_or owner.ways of way = c.swap_remove.ensures.value
    ∙ ap (λ (h : Known g.row.T.Denot g.row.A.Denot). get_or h.ways of way) c.deque.view_is in
    let home : way.home ≡ worker_deque c.deque.inside.deque =
    ap (λ (w : Way g.row.T.Denot g.row.A.Denot). w.home) at ∙ (here.1 way).0
    ∙ sym (ap (λ (h : Known g.row.T.Denot g.row.A.Denot). h.home) c.deque.view_is) in
    subst (λ to. IsPassOf to c.into_pass.result) home c.into_pass.ensures.deque

pub absorb-requires-clause-rule : goal.absorb-requires-clause-rule
absorb-requires-clause-rule g c = merges _ _ _ _ c.deque.invariant

pub settled-requires-clause-ways : goal.settled-requires-clause-ways
settled-requires-clause-ways g c =
    let owner = c.remove.result in
    let of = c.args.of in
    let all = all-lead c.args.hands.items of owner c.requires.together c.requires.of c.remove.ensures.value in
    let home : owner.home ≡ worker_deque c.absorb.new.self =
    sym (c.absorb.ensures.same.0.0 ∙ ap (λ (h : Known g.row.T.Denot g.row.A.Denot). h.home) c.deque.view_is) in
    subst (λ to. All (LeadsTo to of) c.remove.new.self.items) home
    (All-removed (LeadsTo owner.home of) c.args.hands.items c.remove.new.self.items of c.remove.ensures.items all)

pub settled-requires-clause-part : goal.settled-requires-clause-part
settled-requires-clause-part g c = omega (arith, ap (λ v. v.parts) c.absorb.ensures.rule, c.deque.invariant)

pub settled-requires-clause-parts : goal.settled-requires-clause-parts
settled-requires-clause-parts g c =
    let owner = c.remove.result in
    let way = c.swap_remove.result in
    let of = c.args.of in
    let here = owner-leads _ of owner c.requires.together c.requires.of c.remove.ensures.value in
    let at : way ≡ get_or owner.ways of way = c.swap_remove.ensures.value
    ∙ ap (λ (h : Known g.row.T.Denot g.row.A.Denot). get_or h.ways of way) c.deque.view_is in
    let is : IsWay way = subst IsWay (sym at) (here.1 way).1 in
    let parts = all-parts c.args.hands.items of owner c.requires.together c.requires.of c.remove.ensures.value in
    let rest = ap length c.remove.ensures.items in
    let count = length-remove c.args.hands.items of c.requires.of in
    omega (
      arith,
      is.0,
      parts,
      rest,
      count,
      ap (λ v. v.parts) c.absorb.ensures.rule,
      ap (λ v. v.parts) c.into_pass.ensures.holds,
      ap (λ (h : Known g.row.T.Denot g.row.A.Denot). h.own.parts) c.deque.view_is,
    )

pub returns : goal.returns
returns g c =
    let owner = c.remove.result in
    let way = c.swap_remove.result in
    let of = c.args.of in
    let hands = c.args.hands.items in
    let here = owner-leads _ of owner c.requires.together c.requires.of c.remove.ensures.value in
    let at : way ≡ get_or owner.ways of way = c.swap_remove.ensures.value
    ∙ ap (λ (h : Known g.row.T.Denot g.row.A.Denot). get_or h.ways of way) c.deque.view_is in
    let is : IsWay way = subst IsWay (sym at) (here.1 way).1 in
    let holds = c.into_pass.ensures.holds in
    let back = absorbed (worker_view c.deque.inside.deque) (worker_view c.absorb.new.self) _ c.absorb.ensures.rule
    (ap (λ v. v.pushed) holds ∙ is.1) in
    let left = c.settled.ensures in (
      left.0,
      left.1,
      λ d e weight.
          let who : get_or hands of d ≡ owner = get_or_default hands of d owner c.requires.of
          ∙ sym c.remove.ensures.value in
          let pushed = ap (λ (h : Known g.row.T.Denot g.row.A.Denot). weigh weight h.own.pushed)
          (who ∙ sym c.deque.view_is) in
          let taken = ap (λ (h : Known g.row.T.Denot g.row.A.Denot). weigh weight h.own.taken)
          (who ∙ sym c.deque.view_is) in
          let sums = sum-removed (weigh_taken weight of e) hands c.remove.new.self.items of d c.requires.of
          c.remove.ensures.items in
          let mine = ap (λ (h : Known g.row.T.Denot g.row.A.Denot). weigh_taken weight of e h) who in
          let same = ap (λ (w : Way g.row.T.Denot g.row.A.Denot). weigh weight w.holds.taken)
          (same-way owner of e way here.0 at) in
          omega (
            arith,
            left.2 e weight,
            pushed,
            taken,
            sums,
            mine,
            same,
            back.2 weight,
            ap (weigh weight) back.0,
            ap (λ v. weigh weight v.taken) holds,
          ),
    )
