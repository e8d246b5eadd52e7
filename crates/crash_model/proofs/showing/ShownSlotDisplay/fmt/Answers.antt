use Rattle.std.proofs.Common.{ℕ, List, IsAscii, subst, sym}
use Rattle.crash_model.proofs.Ascii.{hex_ascii}
use Rattle.crash_model.proofs.showing.ShownSlotDisplay.fmt.Goals as goal

pub text_of-text-requires : goal.text_of-text-requires
text_of-text-requires g c =
    subst (λ (digits : List ℕ). IsAscii digits) (sym c.digits_of-digits.ensures) (hex_ascii c.in-Begins.bytes)
