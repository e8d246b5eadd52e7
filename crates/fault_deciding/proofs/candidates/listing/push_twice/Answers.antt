use Rattle.std.proofs.Common.{◌≡◌, true, false, ap, sym, ◌∙◌, arith}
use Rattle.crash_model.specs.Disk.{Disk}
use Rattle.crash_model.specs.Layout.{is_data}
use Rattle.crash_model.specs.declared.fault.Fault.TheVariants.{Twice}
use Rattle.fault_deciding.proofs.ListedSoFar.{below_same, below_next, twice_listed}
use Rattle.fault_deciding.proofs.candidates.listing.push_twice.Goals as goal
use Rattle.fault_deciding.proofs.candidates.listing.push_twice.Goals.{then-is_data+in_ok-push, else-is_data}

pub loop-block-preserved : goal.loop-block-preserved
loop-block-preserved g c =
    let base = c.args.bytes.now.base in
    let n = c.loop-block.block in
    elim c.if-is_data.branch [
      | then-is_data+in_ok-push w ↦ rw w.faults-is (below_next (λ b. is_data base b ≡ true) (λ b. Twice b) n
          c.args.faults.now.items c.loop-block.faults.items w.push.new.self.items w.in_ok-push.ensures.items
          c.loop-block.invariant)
      | else-is_data w ↦ rw w.faults-is (below_same (λ b. is_data base b ≡ true) (λ b. Twice b) n
          c.args.faults.now.items c.loop-block.faults.items
          (λ is. let never : true ≡ false = sym is ∙ ap (λ (d : Disk). is_data d n) (sym c.base-base.ensures.base)
          ∙ sym c.is_data.ensures.value ∙ w.if-is_data.false in absurd (cc))
          c.loop-block.invariant)
    ]

pub returns-clause-twice : goal.returns-clause-twice
returns-clause-twice g c = twice_listed c.args.bytes.now c.loop-block.block c.args.faults.now.items
    c.loop-block.faults.items c.base-base.ensures.alike (omega (arith, c.base-base.ensures.disk.most))
    c.loop-block.invariant
