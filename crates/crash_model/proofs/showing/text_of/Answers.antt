use Rattle.std.proofs.Common.{subst, sym, IsUtf8, List, ℕ}
use Rattle.std.proofs.lemmas.Str.{IsUtf8-from_ascii}
use Rattle.crash_model.proofs.showing.text_of.Goals as goal

pub unreachable-requires : goal.unreachable-requires
unreachable-requires c =
    c.in_default.ensures.cases.0 (subst (λ (s : List ℕ). IsUtf8 s) (sym c.as_slice.ensures)
    (IsUtf8-from_ascii c.args.digits.now c.requires))
