use Rattle.std.proofs.Common.{ℕ, subst}
use Rattle.patch_sets.specs.Ends.{IsDifference}
use Rattle.patch_sets.proofs.Bits.{same_set}
use Rattle.enough_deciding.specs.Lines.{IsScriptWaiting}
use Rattle.enough_deciding.proofs.lines.LineOracle.without.Goals as goal

pub returns : goal.returns
returns g c = λ rest apart.
    let here =
    subst (λ (all : ℕ). IsDifference all c.args.group c.difference.result) c.all.ensures c.difference.ensures in
    let same = same_set c.difference.result rest
    (λ id is. (apart.exactly id).1 ((here.exactly id).0 is)) (λ id is. (here.exactly id).1 ((apart.exactly id).0 is)) in
    subst (λ (lines : ℕ). IsScriptWaiting c.args.self.now.demands.now c.args.self.now.base.now
    c.args.self.now.traced.now lines c.in_ok-script.script) same c.in_ok-script.ensures
