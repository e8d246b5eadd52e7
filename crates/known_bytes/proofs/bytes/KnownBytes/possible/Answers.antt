use Rattle.std.proofs.Common.{ℕ, inl, inr, arith, subst, sym, ap}
use Rattle.std.proofs.lemmas.Bool.{cases_eq}
use Rattle.crash_model.specs.Disk.{Disk, byte}
use Rattle.crash_model.specs.Patches.{image_of}
use Rattle.known_bytes.specs.Family.{HasValue}
use Rattle.known_bytes.specs.Headers.{IsCopyOf}
use Rattle.known_bytes.proofs.Sources.{replayed_value}
use Rattle.known_bytes.proofs.bytes.KnownBytes.possible.Goals as goal

pub loop-at-preserved : goal.loop-at-preserved
loop-at-preserved g c =
    let f = c.args.self.now in
    let new = c.with_copy-values.ensures in
    let v = c.with_copy-values.result in
    record {
      own = λ set m. new.grown _ (c.loop-at.invariant.own set m);
      copies = λ at from less set m. elim (cases_eq at c.loop-at.at) [
        | inl same ↦ subst (λ (k : ℕ). IsCopyOf (image_of f.base f.patches set) c.args.block k
            → HasValue v.low v.high (byte (image_of f.base f.patches set) k c.args.offset)) (sym same)
            (new.copied set m)
        | inr other ↦ λ is. new.grown _ (c.loop-at.invariant.copies at from (omega arith) set m is)
      ];
    }

pub returns-clause-replayed : goal.returns-clause-replayed
returns-clause-replayed g c =
    let f = c.args.self.now in
    let v = c.loop-at.values in
    replayed_value f v.low v.high c.args.block c.args.offset c.base.ensures.alike c.requires.block c.requires.offset
    c.loop-at.invariant.own (λ at from less. c.loop-at.invariant.copies at from
    (omega (arith, c.journal-end.ensures.value, ap (λ (d : Disk). d.journal) c.base.ensures.base, less)))
