use Rattle.std.proofs.Common.{rules, arith, sym, ap, ◌∙◌}
use Rattle.std.specs.Mem.Slots.{slots_items}
use Rattle.board_rule.specs.Lives.{life_of}
use Rattle.seen_board.proofs.Endings.{place_fits, life_found, life_else}
use Rattle.seen_board.proofs.contents.Contents.life.Goals as goal

pub life-life-requires : goal.life-life-requires
life-life-requires g c = let t = place_fits c.self.inside.layout.places (slots_items c.self.inside.closed.words)
    c.args.self.now c.args.place.shard c.args.place.at c.self.view_is c.self.invariant.2 c.requires.0 c.requires.1 in
    record { place = (c.requires.0, omega (arith, t.0, t.1), t.1) }

pub word-requires : goal.word-requires
word-requires g c = let t = place_fits c.self.inside.layout.places (slots_items c.self.inside.closed.words)
    c.args.self.now c.args.place.shard c.args.place.at c.self.view_is c.self.invariant.2 c.requires.0 c.requires.1 in
    (omega (arith, t.0, t.1, t.2, c.requires.0, c.life-life.ensures), c.self.invariant.0)

pub returns-in-0 : goal.returns-in-0
returns-in-0 g c = ap life_of (sym c.in-0.is) ∙ life_found c.self.inside.layout.places
    (slots_items c.self.inside.closed.words) c.args.self.now c.args.place.shard c.args.place.at _ _ c.self.view_is
    c.requires.0 c.requires.1 c.life-life.ensures c.word.ensures

pub returns-in-1 : goal.returns-in-1
returns-in-1 g c = ap life_of (sym c.in-1.is) ∙ life_found c.self.inside.layout.places
    (slots_items c.self.inside.closed.words) c.args.self.now c.args.place.shard c.args.place.at _ _ c.self.view_is
    c.requires.0 c.requires.1 c.life-life.ensures c.word.ensures

pub returns-in-2 : goal.returns-in-2
returns-in-2 g c = ap life_of (sym c.in-2.is) ∙ life_found c.self.inside.layout.places
    (slots_items c.self.inside.closed.words) c.args.self.now c.args.place.shard c.args.place.at _ _ c.self.view_is
    c.requires.0 c.requires.1 c.life-life.ensures c.word.ensures

pub returns-in_default : goal.returns-in_default
returns-in_default g c = life_else c.word.result (search rules) (search rules) (search rules)
    ∙ life_found c.self.inside.layout.places (slots_items c.self.inside.closed.words) c.args.self.now c.args.place.shard
    c.args.place.at _ _ c.self.view_is c.requires.0 c.requires.1 c.life-life.ensures c.word.ensures
