use Rattle.known_bytes.proofs.Undecided.{and_both, id_known, covers_same, own_block}
use Rattle.known_bytes.proofs.Held.{base_held, last_held}
use Rattle.known_bytes.proofs.bytes.KnownBytes.held_byte.Goals as goal

pub patch-requires : goal.patch-requires
patch-requires g c =
    let both = (and_both c.self.inside.held c.at.result c.in-Some.id).0 c.in-Some.ensures.found.inside in
    id_known _ c.args.self.now c.self.view_is c.args.block c.args.offset c.graph.result.now c.in-Some.id
    c.graph.ensures.graph ((c.at.ensures c.in-Some.id).0 both.1)

pub new_byte-requires : goal.new_byte-requires
new_byte-requires g c =
    let both = (and_both c.self.inside.held c.at.result c.in-Some.id).0 c.in-Some.ensures.found.inside in
    own_block c.patch.result.now c.args.block c.args.offset
    (covers_same _ c.args.self.now c.self.view_is c.args.block c.args.offset c.graph.result.now c.in-Some.id
    c.patch.result.now c.graph.ensures.graph c.patch.ensures.at ((c.at.ensures c.in-Some.id).0 both.1))

pub returns-in-None : goal.returns-in-None
returns-in-None g c = base_held _ c.args.self.now c.self.view_is c.self.inside.undecided c.self.invariant c.args.block
    c.args.offset c.requires.block c.requires.offset c.at.result c.at.ensures c.byte.result c.base.result.now
    c.base.ensures c.byte.ensures c.in-None.ensures.found

pub returns-in-Some : goal.returns-in-Some
returns-in-Some g c = last_held _ c.args.self.now c.self.view_is c.self.inside.undecided c.self.invariant c.args.block
    c.args.offset c.requires.block c.requires.offset c.at.result c.at.ensures c.in-Some.id c.patch.result.now
    c.graph.result.now c.graph.ensures.graph c.patch.ensures.at c.in-Some.ensures.found c.new_byte.result
    c.new_byte.ensures
