use Rattle.std.proofs.Common.{ℕ, sym, subst}
use Rattle.patch_sets.specs.Sets.{Has, with_id}
use Rattle.patch_sets.proofs.Bits.{in_with_same, in_with_old}
use Rattle.known_bytes.specs.Reached.{IsReach}
use Rattle.known_bytes.proofs.Named.{reach_surely}
use Rattle.known_bytes.proofs.reach.ReachedInodes.add_sure.Goals as goal

pub returns-clause-reach : goal.returns-clause-reach
returns-clause-reach c = λ r old reached.
    let s = c.args.self.now in
    let i = c.args.inode in
    subst (λ (sure : ℕ). IsReach r sure c.with-self-2.result s.asks) (sym c.with-self.ensures)
    (subst (λ (may : ℕ). IsReach r (with_id s.sure i) may s.asks) (sym c.with-self-2.ensures)
    (reach_surely r s.sure s.may i s.asks c.requires old reached))

pub returns-clause-grown : goal.returns-clause-grown
returns-clause-grown c = λ id there. subst (λ (s : ℕ). Has s id) (sym c.with-self-2.ensures)
    (in_with_old c.args.self.now.may c.args.inode id there)

pub returns-clause-added : goal.returns-clause-added
returns-clause-added c = subst (λ (s : ℕ). Has s c.args.inode) (sym c.with-self-2.ensures)
    (in_with_same c.args.self.now.may c.args.inode)
