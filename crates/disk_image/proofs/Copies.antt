-- A block copied within the bytes.
use Rattle.std.proofs.Common.{◌≡◌, ℕ, ◌+◌, ◌-◌, ◌≤◌, List, length, take, drop, arith, refl}
use Rattle.std.proofs.lemmas.List.{length-take-le, length-drop}
use Rattle.std.specs.List.{copy_within}
use Rattle.crash_model.specs.Disk.{overwrite}

-- 128 bytes from `from` on, copied to `to`, are an overwrite by them
pub copy_within-overwrite : (xs : List ℕ) (from to : ℕ) → from + 128 ≤ length xs
    → copy_within xs from (from + 128) to ≡ overwrite xs to (take 128 (drop from xs))
unfolding overwrite
copy_within-overwrite xs from to fits =
    let size : from + 128 - from ≡ 128 = omega arith in
    let there : 128 ≤ length (drop from xs) = omega (arith, length-drop from xs) in
    let taken : length (take 128 (drop from xs)) ≡ 128 = length-take-le 128 (drop from xs) there in
    rw (size, taken) refl

pub ruleset copied = (copy_within-overwrite)
