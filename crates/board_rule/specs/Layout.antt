-- Where the words of a board lie in its table.
-- Word 0 is pending, word 1 the count, word 2 the stop. From word 8 on come the locks of the shards and the lengths of
-- their rows, each of them 8 words after the one before, so that no two share a cache line; then four blocks
-- with a word for each place of each shard: the low halves of the entries, their high halves, their lives, and the
-- index. In a block the shards take turns, so that each address is linear in the place.
use Rattle.std.specs.Prelude.{ℕ, ◌+◌, ◌*◌, ◌/◌, ◌%◌, if◌then◌else◌, nat_lt}
use Rattle.board_rule.specs.declared.shards.TheConstants.{SHARDS}

-- a lock's word while a seat has the write right: 2 ^ 32
abbrev pub writer : ℕ
writer = 4294967296

-- an entry has 128 bits, and half of them fill a word: 2 ^ 64
abbrev pub half : ℕ
half = 18446744073709551616

abbrev pub lock_word : ℕ → ℕ
lock_word q = 8 + 8 * q

abbrev pub length_word : ℕ → ℕ
length_word q = 8 + 8 * SHARDS + 8 * q

-- where the first block begins
abbrev pub blocks_from : ℕ
blocks_from = 8 + 16 * SHARDS

-- of the entry at place k of shard q, the low 64 bits
abbrev pub low_word : ℕ → ℕ → ℕ
low_word q k = blocks_from + SHARDS * k + q

-- and the high 64 bits
abbrev pub high_word : ℕ → ℕ → ℕ → ℕ
high_word places q k = blocks_from + SHARDS * places + SHARDS * k + q

abbrev pub life_word : ℕ → ℕ → ℕ → ℕ
life_word places q k = blocks_from + 2 * SHARDS * places + SHARDS * k + q

abbrev pub index_word : ℕ → ℕ → ℕ → ℕ
index_word places q j = blocks_from + 3 * SHARDS * places + SHARDS * j + q

abbrev pub size_for : ℕ → ℕ
size_for places = blocks_from + 4 * SHARDS * places

-- one number for the place k of shard q
abbrev pub place_of : ℕ → ℕ → ℕ
place_of q k = SHARDS * k + q

-- the t-th index word at which a word is looked for
abbrev pub slot : ℕ → ℕ → ℕ → ℕ
slot places x t = (x / SHARDS + t) % places

-- how many index words a word has
abbrev pub window : ℕ → ℕ
window places = if nat_lt places 8 then places else 8
