-- The shares of a board that seats have together.
use Rattle.std.specs.Prelude.{◌≡◌, ℕ, ◌+◌, ◌^◌, ◌≤◌, List}
use Rattle.std.specs.List.{All}
use Rattle.board_rule.specs.Lists.{total}
use Rattle.board_rule.specs.Views.{Share, portion}

-- one share and those of the others make the whole board
abbrev pub MakeWhole : {T : Type 0} → Share → (T → Share) → List T → Type 0
MakeWhole own share_of others =
    (k : ℕ) → own.cuts ≤ k → All (λ other. (share_of other).cuts ≤ k) others
    → portion own k + total (λ other. portion (share_of other) k) others ≡ 2 ^ k
