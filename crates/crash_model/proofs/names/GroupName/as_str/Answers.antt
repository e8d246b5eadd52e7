use Rattle.std.proofs.Common.{subst, sym, IsUtf8, List, ℕ}
use Rattle.crash_model.proofs.Ascii.{group_utf8}
use Rattle.crash_model.proofs.names.GroupName.as_str.Goals as goal

pub unreachable-requires : goal.unreachable-requires
unreachable-requires c =
    c.in_default.ensures.cases.0 (subst (λ (s : List ℕ). IsUtf8 s) (sym c.as_slice.ensures.value)
    (group_utf8 c.self.inside.bytes.items c.self.invariant))
