use Rattle.std.proofs.Common.{◌≡◌, ℕ, ◌<◌, ◌≤◌, ◌++◌, [], ◌∷◌, List, length, arith, ap, subst, sym, length-append}
use Rattle.std.specs.List.{All}
use Rattle.std.proofs.lemmas.List.Elements.{All-push}
use Rattle.patch_sets.specs.Closed.{IsClosed}
use Rattle.crash_model.specs.Patches.{deps_of}
use Rattle.bench_judge.proofs.MoreClosed.{more_closed}
use Rattle.bench_judge.proofs.sets.add_sets_with.Goals as goal
use Rattle.bench_judge.proofs.sets.add_sets_with.Goals.{then-len-limit+then-is_subset+in_ok-push, else-len-limit}

pub loop-i-preserved : goal.loop-i-preserved
loop-i-preserved c =
    let inside : c.loop-i.i < length c.loop-i.sets.items = omega (arith, c.loop-i.invariant.0, c.loop-i-test.true) in
    let closed : IsClosed (deps_of c.args.graph.now) c.index-set.result.now =
    subst (IsClosed (deps_of c.args.graph.now)) (sym c.index-set.ensures)
    (c.loop-i.invariant.1 c.loop-i.i c.index-set.result.now inside) in
    elim c.if-len-limit.branch [
      | then-len-limit+then-is_subset+in_ok-push w ↦
          let items : c.if-len-limit.sets.items ≡ c.loop-i.sets.items ++ (w.with.result ∷ []) =
          cc (w.sets-is, w.in_ok-push.ensures.items) in
          let more : IsClosed (deps_of c.args.graph.now) w.with.result =
          subst (IsClosed (deps_of c.args.graph.now)) (sym w.with.ensures)
          (more_closed c.args.graph.now c.args.id c.index-set.result.now c.patch.result.now c.patch.ensures.at closed
          (w.is_subset.ensures.0 w.if-is_subset.true)) in
          let longer : length c.if-len-limit.sets.items ≡ length (c.loop-i.sets.items ++ (w.with.result ∷ [])) =
          ap (λ (xs : List ℕ). length xs) items in (
            omega (arith, c.loop-i.invariant.0, longer, length-append c.loop-i.sets.items (w.with.result ∷ [])),
            subst (λ (xs : List ℕ). All (IsClosed (deps_of c.args.graph.now)) xs) (sym items)
                (All-push (IsClosed (deps_of c.args.graph.now)) c.loop-i.sets.items w.with.result c.loop-i.invariant.1
                more),
          )
      | else-len-limit w ↦ (
        subst (λ (n : ℕ). c.len-i-end.result ≤ n) (ap (λ v. v.len) (sym w.sets-is)) c.loop-i.invariant.0,
        subst (λ (xs : List ℕ). All (IsClosed (deps_of c.args.graph.now)) xs) (ap (λ v. v.items) (sym w.sets-is))
            c.loop-i.invariant.1,
      )
    ]
