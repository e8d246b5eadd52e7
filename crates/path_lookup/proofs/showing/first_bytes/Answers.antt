use Rattle.std.proofs.Common.{◌≡◌, ℕ, ◌+◌, ◌*◌, ◌-◌, arith, List, [], ◌∷◌, take, drop, length, slice_index, sym, ap}
use Rattle.std.proofs.Common.{◌∙◌}
use Rattle.path_lookup.proofs.Slots.{four_first}
use Rattle.path_lookup.proofs.showing.first_bytes.Goals as goal

pub returns : goal.returns
returns g c =
    let rest = drop (128 * c.args.block) c.args.image.now.bytes in
    let same : c.block-bytes.result.now ≡ take 128 rest =
    rw (← c.from.ensures) c.block-bytes.ensures.bytes in
    let four : 128 * c.args.block + 4 - 128 * c.args.block ≡ 4 = omega arith in
    ap (λ (xs : List ℕ). slice_index xs 0 ∷ slice_index xs 1 ∷ slice_index xs 2 ∷ slice_index xs 3 ∷ []) same
    ∙ (four_first rest (ap (λ (xs : List ℕ). length xs) (sym same) ∙ c.block-bytes.ensures.size)
    ∙ ap (λ (n : ℕ). take n rest) (sym four))
