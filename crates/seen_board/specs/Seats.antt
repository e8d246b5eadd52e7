-- What private calls require of a seat of the table, and of a word that is looked up.
use Rattle.std.specs.Prelude.{◌≡◌, ℕ, ◌%◌, ◌<◌}
use Rattle.board_rule.specs.declared.shards.TheConstants.{SHARDS}
use Rattle.atomic_table.specs.declared.shared.Seat.{Seat}
use Rattle.board_rule.specs.Layout.{writer, slot}
use Rattle.board_rule.specs.declared.view.View.{View}
use Rattle.seen_board.specs.Known.{Shown}
use Rattle.seen_board.specs.declared.layout.Probe.{Probe}

-- the seat is of the board's table
abbrev pub SitsAt : {S : Type 0} → Shown S → Seat Unit View → Type 0
SitsAt b t = (t.table_id ≡ b.board) × (t.me.0.limit ≡ b.limit) × (t.me.0.places ≡ b.places)

-- it is the same seat, whatever it knows
abbrev pub StaysAt : Seat Unit View → Seat Unit View → Type 0
StaysAt t u = (u.table_id ≡ t.table_id) × (u.id ≡ t.id)

-- it is the same seat and knows the same
abbrev pub IsSame : Seat Unit View → Seat Unit View → Type 0
IsSame t u = (u.table_id ≡ t.table_id) × (u.id ≡ t.id) × (u.me ≡ t.me)

-- a right of the shard
abbrev pub HasRightOf : View → ℕ → Type 0
HasRightOf v q = (q < SHARDS) × (v.rows.held ≡ q) × (0 < v.rows.right)

-- the write right of the shard
abbrev pub HasWriteRightOf : View → ℕ → Type 0
HasWriteRightOf v q = (q < SHARDS) × (v.rows.held ≡ q) × (v.rows.right ≡ writer)

-- the shard is the word's, and the index word its first
abbrev pub IsProbe : ℕ → Probe → Type 0
IsProbe places s = (s.shard ≡ s.word % SHARDS) × (s.first ≡ slot places s.word 0) × (s.first < places)
