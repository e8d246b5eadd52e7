use Rattle.std.proofs.Common.{sym, subst, ◌∙◌}
use Rattle.std.specs.List.{Contains}
use Rattle.crash_model.specs.Patches.{image_of}
use Rattle.known_bytes.specs.Reading.{disk_of}
use Rattle.known_bytes.proofs.ListedSlots.{block_hole, block_wild, block_begins}
use Rattle.known_bytes.proofs.disk.KnownDisk.list_block.Goals as goal

pub returns-then-block-eq0-clause-listed : goal.returns-then-block-eq0-clause-listed
returns-then-block-eq0-clause-listed g c = λ listed set m.
    let r = c.args.self.now in
    subst (Contains c.push_slot.new.shows.items)
    (sym (block_hole (disk_of r (image_of r.family.base r.family.patches set)) c.args.block c.if-block-eq0.true))
    (c.push_slot.ensures.pushed listed)

pub returns-then-not-is_data-clause-listed : goal.returns-then-not-is_data-clause-listed
returns-then-not-is_data-clause-listed g c = λ listed set m.
    let r = c.args.self.now in
    subst (Contains c.push_slot-then-not-is_data.new.shows.items)
    (sym (block_wild (disk_of r (image_of r.family.base r.family.patches set)) c.args.block c.if-block-eq0.false
    (c.is_data.ensures.value set m ∙ c.if-not-is_data.true)))
    (c.push_slot-then-not-is_data.ensures.pushed listed)

pub returns-clause-listed : goal.returns-clause-listed
returns-clause-listed g c = λ listed set m.
    let r = c.args.self.now in
    subst (Contains c.list_begins.new.shows.items)
    (sym (block_begins (disk_of r (image_of r.family.base r.family.patches set)) c.args.block c.if-block-eq0.false
    (c.is_data.ensures.value set m ∙ c.if-not-is_data.false)))
    (c.list_begins.ensures.begins listed set m)
