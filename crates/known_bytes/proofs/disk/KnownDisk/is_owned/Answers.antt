use Rattle.std.proofs.Common.{◌≡◌, ℕ, sym, ap, ◌∙◌, subst}
use Rattle.std.specs.Prelude.{◌==◌, false, true}
use Rattle.crash_model.specs.Disk.{Disk, byte}
use Rattle.known_bytes.specs.Generations.{generation_byte}
use Rattle.known_bytes.specs.Reading.{IsKnown}
use Rattle.known_bytes.proofs.Owned.{owned_without, owned_with}
use Rattle.known_bytes.proofs.disk.KnownDisk.is_owned.Goals as goal

pub returns-then-not-has_generations : goal.returns-then-not-has_generations
returns-then-not-has_generations g c =
    let r = c.args.self.now in
    let inode = c.args.inode in
    let none : r.family.base.generations ≡ false =
    sym (ap (λ (d : Disk). d.generations) c.base.ensures.base) ∙ sym c.has_generations.ensures
    ∙ c.if-not-has_generations.true in
    let named = subst (λ (n : ℕ). IsKnown r (λ d. byte d n 1 == inode) c.byte_is-is_named.result) c.from.ensures
    c.byte_is-is_named.ensures in
    owned_without r c.args.block inode c.base.ensures.alike c.byte_is-is_named.result none named

pub returns : goal.returns
returns g c =
    let r = c.args.self.now in
    let block = c.args.block in
    let inode = c.args.inode in
    let some : r.family.base.generations ≡ true =
    sym (ap (λ (d : Disk). d.generations) c.base.ensures.base) ∙ sym c.has_generations.ensures
    ∙ c.if-not-has_generations.false in
    let named = subst (λ (n : ℕ). IsKnown r (λ d. byte d n 1 == inode) c.byte_is-is_named.result) c.from.ensures
    c.byte_is-is_named.ensures in
    owned_with r block inode c.base.ensures.alike c.both.result some
    (c.both.ensures r (λ d. byte d block 1 == inode) (λ d. byte d block 2 == generation_byte inode d) named
    c.is_of_generation.ensures)
