use Rattle.std.proofs.Common.{◌≡◌, ◌∙◌, ◌+◌, ◌<◌, length, ap, sym, subst, arith}
use Rattle.std.proofs.lemmas.List.{length_push}
use Rattle.std.proofs.lemmas.List.Elements.{All-push, All-same}
use Rattle.hands.specs.Steps.{IsBare}
use Rattle.hands.proofs.Moves.{begins}
use Rattle.hands.proofs.making.without_ways.Goals as goal

pub lifo_as-requires : goal.lifo_as-requires
lifo_as-requires g c = begins

pub invariant_of-push : goal.invariant_of-push
invariant_of-push g c = subst (λ n. 0 < n) (sym (ap (λ v. v.parts) c.in_ok-lifo_as.ensures.4)) (omega arith)

pub loop-preserved : goal.loop-preserved
loop-preserved g c =
    let hands = c.loop.hands.items in
    let pushed = c.in_ok-push.ensures.items in
    record {
      count = subst (λ now. length now ≡ c.loop.counter + 1) (sym pushed)
          (length_push hands _ ∙ ap (λ n. n + 1) c.loop.invariant.count);
      bare = All-same IsBare _ _ pushed (All-push IsBare hands _ c.loop.invariant.bare
          (c.in_ok-lifo_as.ensures.4, c.new.ensures.items));
    }
