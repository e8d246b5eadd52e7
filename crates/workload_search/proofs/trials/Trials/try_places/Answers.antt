use Rattle.std.proofs.Common.{◌≡◌, ℕ, ◌++◌, List, arith, sym, subst, append-nil}
use Rattle.workload_search.specs.Tries.{IsBatch, extensions_of}
use Rattle.workload_search.proofs.Parts.{one_room, places_more}
use Rattle.workload_search.proofs.trials.Trials.try_places.Goals as goal

pub loop-place-init : goal.loop-place-init
loop-place-init g c = λ sequences is.
    subst (λ (xs : List (List ℕ)). IsBatch (g.J.Judge.search c.args.self.now.judge.now) c.args.self.now.keeps xs
    c.args.batch.now) (sym (append-nil sequences)) is

pub try_one-requires-clause-room : goal.try_one-requires-clause-room
try_one-requires-clause-room g c =
    let has = c.requires.room in
    one_room (g.J.Judge.search c.args.self.now.judge.now) c.args.self.now.keeps c.args.self.now.pool has.sequences
    c.args.beginning.now.items c.loop-place.place c.loop-place.batch (c.loop-place.invariant has.sequences has.is)
    c.loop-place-test.true has.room

pub loop-place-preserved : goal.loop-place-preserved
loop-place-preserved g c = λ sequences is.
    let front = c.args.beginning.now.items in
    let place = c.loop-place.place in
    subst (λ (xs : List (List ℕ)). IsBatch (g.J.Judge.search c.args.self.now.judge.now) c.args.self.now.keeps xs
    c.try_one.new.batch) (places_more sequences front place)
    (c.in_ok-try_one.ensures (sequences ++ extensions_of place front) (c.loop-place.invariant sequences is))

pub returns : goal.returns
returns g c = λ sequences is.
    let last : c.loop-place.place ≡ c.args.self.now.pool = omega (arith, c.loop-place-test.false) in
    subst (λ (n : ℕ). IsBatch (g.J.Judge.search c.args.self.now.judge.now) c.args.self.now.keeps
    (sequences ++ extensions_of n c.args.beginning.now.items) c.loop-place.batch) last
    (c.loop-place.invariant sequences is)
