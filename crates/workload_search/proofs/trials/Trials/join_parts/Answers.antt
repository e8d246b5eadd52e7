use Rattle.std.proofs.Common.{◌≡◌, ◌*◌, ◌∷◌, ◌++◌, [], length, map, take, vec_len, arith, append_assoc, length-append}
use Rattle.std.proofs.Common.{subst, ap, ◌∙◌}
use Rattle.std.specs.Fork.{slice_chunk}
use Rattle.std.proofs.lemmas.List.{length_push}
use Rattle.workload_search.specs.Tries.{extensions, items_of}
use Rattle.workload_search.proofs.Parts.{part_found, none_before, part_room, part_more, all_found}
use Rattle.workload_search.proofs.trials.Trials.join_parts.Goals as goal

pub loop-part-init : goal.loop-part-init
loop-part-init g c = record {
  parts = c.into_iter-part-iterator.ensures.into_iter_gives.0;
  joined = none_before (g.J.Judge.search c.args.self.now.judge.now) c.args.self.now.keeps c.args.self.now.pool
      c.args.beginnings.now c.args.size c.in_ok-joined.joined
      (c.in_ok-joined.ensures (g.J.Judge.search c.args.self.now.judge.now) c.args.self.now.keeps);
}

pub join-requires : goal.join-requires
join-requires g c =
    let s = g.J.Judge.search c.args.self.now.judge.now in
    let keeps = c.args.self.now.keeps in
    let pool = c.args.self.now.pool in
    let xs = c.args.beginnings.now in
    let size = c.args.size in
    let before = c.loop-part.yielded in
    let after = c.next.new.self.rest.items in
    part_room s keeps pool xs size (length before) c.loop-part.joined c.in_ok-part.part c.requires.room
    c.loop-part.invariant.joined
    (part_found s keeps pool xs size c.args.parts.items before after c.in-Some.part c.in_ok-part.part c.requires.each
    (subst (λ left. before ++ left ≡ c.args.parts.items) c.in-Some.ensures.steps.0 c.loop-part.invariant.parts)
    c.in_ok-part.was)

pub loop-part-preserved : goal.loop-part-preserved
loop-part-preserved g c =
    let s = g.J.Judge.search c.args.self.now.judge.now in
    let keeps = c.args.self.now.keeps in
    let pool = c.args.self.now.pool in
    let xs = c.args.beginnings.now in
    let size = c.args.size in
    let before = c.loop-part.yielded in
    let after = c.next.new.self.rest.items in
    let whole : before ++ c.in-Some.part ∷ after ≡ c.args.parts.items =
    subst (λ left. before ++ left ≡ c.args.parts.items) c.in-Some.ensures.steps.0 c.loop-part.invariant.parts in
    record {
      parts = append_assoc before (c.in-Some.part ∷ []) after ∙ whole;
      joined = part_more s keeps pool xs size (length before) (length (before ++ c.in-Some.part ∷ [])) c.join.new.self
          (length_push before c.in-Some.part)
          (c.in_ok-join.ensures s keeps (extensions pool (map items_of (take (length before * size) xs)))
          (extensions pool (map items_of (slice_chunk xs size (length before)))) c.loop-part.invariant.joined
          (part_found s keeps pool xs size c.args.parts.items before after c.in-Some.part c.in_ok-part.part
          c.requires.each whole c.in_ok-part.was));
    }

pub returns : goal.returns
returns g c =
    let yielded = c.loop-part.yielded in
    let rest = c.loop-part.part-iterator.rest in
    let count : length yielded ≡ vec_len c.args.parts = omega (
      arith,
      ap length c.loop-part.invariant.parts,
      length-append yielded rest.items,
      c.in-None.ensures.steps.0,
      rest.ok.0,
      c.args.parts.ok.0,
    ) in
    all_found (g.J.Judge.search c.args.self.now.judge.now) c.args.self.now.keeps c.args.self.now.pool
    c.args.beginnings.now c.args.size (length yielded) (vec_len c.args.parts) c.loop-part.joined c.requires.size count
    c.requires.len c.loop-part.invariant.joined
