use Rattle.std.proofs.Common.{◌≡◌, ℕ, ◌+◌, ◌*◌, ◌≤◌, ◌++◌, List, length, map, take, get_or, arith, sym, subst, ap, ◌∙◌}
use Rattle.std.proofs.Common.{mul-le-mul_right, suc-mul, take_all, length-take-le, add-one}
use Rattle.std.proofs.lemmas.List.{length-map}
use Rattle.arrayvec.specs.ArrayVec.{ArrayVec}
use Rattle.workload_search.specs.Tries.{IsBatch, extensions, extensions_of, items_of}
use Rattle.workload_search.proofs.Extended.{length_extensions}
use Rattle.workload_search.proofs.Parts.{extensions_more}
use Rattle.workload_search.proofs.trials.Trials.try_beginnings.Goals as goal

pub loop-beginning-init : goal.loop-beginning-init
loop-beginning-init g c = c.in_ok-batch.ensures (g.J.Judge.search c.args.self.now.judge.now) c.args.self.now.keeps

pub try_places-requires-clause-room : goal.try_places-requires-clause-room
try_places-requires-clause-room g c =
    let pool = c.args.self.now.pool in
    let beginnings = c.args.beginnings.now in
    let i = c.loop-beginning.beginning-index in
    let fronts = map items_of (take i beginnings) in
    let within = c.loop-beginning-test.true in
    let next : i + 1 ≤ length beginnings = omega (arith, within) in
    record {
      sequences = extensions pool fronts;
      is = c.loop-beginning.invariant;
      room = omega (
        arith,
        c.requires.room,
        length_extensions pool fronts,
        ap (λ n. n * pool) (length-map (take i beginnings) items_of
            ∙ length-take-le i beginnings (omega (arith, within))),
        mul-le-mul_right pool next,
        ap (λ n. n * pool) (add-one i) ∙ suc-mul i pool,
      );
    }

pub returns : goal.returns
returns g c =
    let pool = c.args.self.now.pool in
    subst (λ (xs : List (ArrayVec ℕ)). IsBatch (g.J.Judge.search c.args.self.now.judge.now) c.args.self.now.keeps
    (extensions pool (map items_of xs)) c.loop-beginning.batch)
    (take_all c.loop-beginning.beginning-index c.args.beginnings.now (omega (arith, c.loop-beginning-test.false)))
    c.loop-beginning.invariant

pub loop-beginning-preserved : goal.loop-beginning-preserved
loop-beginning-preserved g c =
    let pool = c.args.self.now.pool in
    let beginnings = c.args.beginnings.now in
    let i = c.loop-beginning.beginning-index in
    let item = c.beginning-item.result in
    let one : get_or beginnings i item ≡ item = sym c.beginning-item.is in
    subst (λ (es : List (List ℕ)). IsBatch (g.J.Judge.search c.args.self.now.judge.now) c.args.self.now.keeps es
    c.try_places.new.batch)
    (ap (λ (x : ArrayVec ℕ). extensions pool (map items_of (take i beginnings)) ++ extensions_of pool x.items)
    (sym one) ∙ sym (extensions_more pool beginnings i item c.loop-beginning-test.true))
    (c.in_ok-try_places.ensures (extensions pool (map items_of (take i beginnings))) c.loop-beginning.invariant)
