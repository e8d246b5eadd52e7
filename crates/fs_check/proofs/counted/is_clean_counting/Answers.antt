use Rattle.std.proofs.Common.{ℕ, sym, subst}
use Rattle.fs_check.specs.Counted.{HasNoFault}
use Rattle.fs_check.proofs.NumbersCounted.{no_fault_from_clean, clean_from_no_fault}
use Rattle.fs_check.proofs.counted.is_clean_counting.Goals as goal

pub returns : goal.returns
returns g c =
    let d = c.args.image.now in
    let demands = c.args.demands.now in
    let set = c.args.set in
    let same = c.from.ensures in (
      λ is. clean_from_no_fault c.args.counted d demands set c.requires
          (subst (λ (n : ℕ). HasNoFault n demands set d) same (c.has_no_fault.ensures.0 is)),
      λ clean. c.has_no_fault.ensures.1 (subst (λ (n : ℕ). HasNoFault n demands set d) (sym same)
          (no_fault_from_clean c.args.counted d demands set c.requires clean)),
    )
