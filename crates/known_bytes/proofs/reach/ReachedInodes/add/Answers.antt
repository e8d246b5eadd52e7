use Rattle.std.proofs.Common.{◌≡◌, ℕ, Bool, true, Result, Ok, sym, ◌∙◌, subst, ap}
use Rattle.std.proofs.lemmas.Bool.{false≢true}
use Rattle.known_bytes.specs.Reading.{InEachDisk, IsKnown}
use Rattle.known_bytes.specs.Reached.{names_live}
use Rattle.known_bytes.proofs.Named.{reached_by}
use Rattle.known_bytes.proofs.reach.ReachedInodes.add.Goals as goal

pub returns-then-is_sure-clause-reach : goal.returns-then-is_sure-clause-reach
returns-then-is_sure-clause-reach c = λ r old known.
    let s = c.args.self.now in
    let dir = c.args.dir in
    let i = c.args.inode in
    let named : InEachDisk r (λ d. names_live dir i d ≡ true) =
    subst (λ (a : Result Bool ℕ). IsKnown r (names_live dir i) a)
    (c.in-Ok-true.is ∙ ap (λ (b : Bool). Ok b) c.in-Ok-true.field-0-test) known in
    c.add_sure.ensures.reach r old
    (reached_by r s.sure s.may i s.asks c.requires.inode old dir (c.has-is_sure.ensures.0 c.if-is_sure.true) named)

pub returns-else-is_sure-clause-reach : goal.returns-else-is_sure-clause-reach
returns-else-is_sure-clause-reach c = λ r old known.
    c.add_open.ensures.reach r old (old.asked c.args.dir c.requires.dir.1
    (λ there. false≢true (sym c.if-is_sure.false ∙ c.has-is_sure.ensures.1 there)))
