use Rattle.std.proofs.Common.{ℕ, arith, slice_set, sym, ◌∙◌, subst}
use Rattle.std.proofs.lemmas.Bool.{false≢true}
use Rattle.patch_sets.specs.Sets.{Has}
use Rattle.patch_sets.proofs.Bits.{in_with_same, in_with_old}
use Rattle.known_bytes.specs.Reached.{IsReach}
use Rattle.known_bytes.proofs.Named.{reach_openly}
use Rattle.known_bytes.proofs.reach.ReachedInodes.add_open.Goals as goal

pub returns-then-not-has-clause-reach : goal.returns-then-not-has-clause-reach
returns-then-not-has-clause-reach c = λ r old undecided.
    let s = c.args.self.now in
    let i = c.args.inode in
    subst (λ (may : ℕ). IsReach r s.sure may (slice_set s.asks i c.args.ask)) (sym c.with-self.ensures)
    (reach_openly r s.sure s.may i s.asks c.requires old c.args.ask (omega arith)
    (λ there. false≢true (sym c.if-not-has.true ∙ c.has.ensures.1 there)) undecided)

pub returns-then-not-has-clause-grown : goal.returns-then-not-has-clause-grown
returns-then-not-has-clause-grown c = λ id there. subst (λ (s : ℕ). Has s id) (sym c.with-self.ensures)
    (in_with_old c.args.self.now.may c.args.inode id there)

pub returns-then-not-has-clause-added : goal.returns-then-not-has-clause-added
returns-then-not-has-clause-added c = subst (λ (s : ℕ). Has s c.args.inode) (sym c.with-self.ensures)
    (in_with_same c.args.self.now.may c.args.inode)
