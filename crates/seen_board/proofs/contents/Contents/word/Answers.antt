use Rattle.std.proofs.Common.{arith}
use Rattle.std.specs.Mem.Slots.{slots_items}
use Rattle.seen_board.proofs.Endings.{place_fits, entry_found}
use Rattle.seen_board.proofs.contents.Contents.word.Goals as goal

pub low-requires : goal.low-requires
low-requires g c = let t = place_fits c.self.inside.layout.places (slots_items c.self.inside.closed.words)
    c.args.self.now c.args.place.shard c.args.place.at c.self.view_is c.self.invariant.2 c.requires.0 c.requires.1 in
    record { place = (c.requires.0, omega (arith, t.0, t.1), t.1) }

pub high-requires : goal.high-requires
high-requires g c = let t = place_fits c.self.inside.layout.places (slots_items c.self.inside.closed.words)
    c.args.self.now c.args.place.shard c.args.place.at c.self.view_is c.self.invariant.2 c.requires.0 c.requires.1 in
    record { place = (c.requires.0, omega (arith, t.0, t.1), t.1) }

pub word-low-requires : goal.word-low-requires
word-low-requires g c = let t = place_fits c.self.inside.layout.places (slots_items c.self.inside.closed.words)
    c.args.self.now c.args.place.shard c.args.place.at c.self.view_is c.self.invariant.2 c.requires.0 c.requires.1 in
    (omega (arith, t.0, t.1, t.2, c.requires.0, c.low.ensures), c.self.invariant.0)

pub word-high-requires : goal.word-high-requires
word-high-requires g c = let t = place_fits c.self.inside.layout.places (slots_items c.self.inside.closed.words)
    c.args.self.now c.args.place.shard c.args.place.at c.self.view_is c.self.invariant.2 c.requires.0 c.requires.1 in
    (omega (arith, t.0, t.1, t.2, c.requires.0, c.high.ensures), c.self.invariant.0)

pub returns : goal.returns
returns g c = entry_found c.self.inside.layout.places (slots_items c.self.inside.closed.words) c.args.self.now
    c.args.place.shard c.args.place.at _ _ _ _ c.self.view_is c.requires.0 c.requires.1 c.low.ensures c.high.ensures
    c.word-low.ensures c.word-high.ensures
