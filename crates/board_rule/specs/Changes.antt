-- What steps make of a view.
use Rattle.std.specs.Prelude.{ℕ, ◌+◌, max, List, [], ◌∷◌, ◌++◌, length, slice_set, replicate, if◌then◌else◌, ◌==◌}
use Rattle.std.specs.Prelude.{◌/◌, ◌%◌}
use Rattle.board_rule.specs.declared.shards.TheConstants.{SHARDS}
use Rattle.board_rule.specs.Layout.{half, length_word, low_word, high_word, index_word, size_for, place_of, slot}
use Rattle.board_rule.specs.Lists.{row_of, longer_rows, agree}
use Rattle.board_rule.specs.declared.life.Life.{Life}
use Rattle.board_rule.specs.Views.{Share, portion}
use Rattle.board_rule.specs.declared.view.View.{View}

abbrev pub with_seen : View → List (List ℕ) → View
with_seen v seen = record v { rows = record v.rows { seen = seen } }

-- a right of shard q, whose row and index words are seen
abbrev pub with_right : View → ℕ → List ℕ → List ℕ → ℕ → View
with_right v q row marks right =
    record v {
      rows = record v.rows {
        seen = slice_set v.rows.seen q row;
        held = q;
        right = right;
        low = [];
        high = [];
        marks = marks;
        unfiled = 0;
      };
    }

abbrev pub without_right : View → View
without_right v = record v { rows = record v.rows { right = 0; low = []; high = []; unfiled = 0 } }

-- the word after the row is published
abbrev pub with_entry : View → ℕ → View
with_entry v x = let k = length (row_of v.rows.seen v.rows.held) in record v {
  rows = record v.rows {
    seen = slice_set v.rows.seen v.rows.held (row_of v.rows.seen v.rows.held ++ x ∷ []);
    low = [];
    high = [];
    unfiled = k + 1;
    added = v.rows.added ++ place_of v.rows.held k ∷ [];
  };
  pending = record v.pending { announced = 0 };
  count = record v.count { uncounted = v.count.uncounted + 1 };
}

abbrev pub with_learned : View → ℕ → Life → View
with_learned v p life = record v { lives = record v.lives { learned = v.lives.learned ++ (p, life) ∷ [] } }

-- the claim on the place p
abbrev pub with_claim : View → ℕ → Life → View
with_claim v p life =
    record v { lives = record v.lives { claims = 1; place = p; learned = v.lives.learned ++ (p, life) ∷ [] } }

-- the claim ends
abbrev pub without_claim : View → View
without_claim v = record v { lives = record v.lives { claims = 0 } }

-- the claim is given up, if there is one, and its entry stays claimed
abbrev pub with_given_up : View → View
with_given_up v =
    record v {
      lives = record v.lives { claims = 0; given_up = v.lives.given_up ++ replicate v.lives.claims v.lives.place };
    }

-- a board with the start as its one entry
abbrev pub opening_rows : ℕ → List (List ℕ)
opening_rows start = slice_set (replicate SHARDS []) (start % SHARDS) (start ∷ [])

-- its words
abbrev pub opening_words : ℕ → ℕ → List ℕ
opening_words places start = let q = start % SHARDS in
    slice_set (slice_set (slice_set (slice_set (slice_set (slice_set (replicate (size_for places) 0) 0 1) 1 1)
    (length_word q) 1) (low_word q 0) (start % half)) (high_word places q 0) (start / half))
    (index_word places q (slot places start 0)) 1

-- a seat that has seen these rows, with this many parts of the share, no right, no claim and no debt
abbrev pub idle_view : ℕ → ℕ → List (List ℕ) → ℕ → View
idle_view limit places seen parts = record {
  limit = limit;
  places = places;
  rows = record {
    seen = seen;
    held = 0;
    right = 0;
    low = [];
    high = [];
    marks = [];
    unfiled = 0;
    added = [];
  };
  lives = record { claims = 0; place = 0; given_up = []; learned = [] };
  pending = record { announced = 0; owed = 0; verdicts = 0; finished = 0 };
  count = record { uncounted = 0; over = 0 };
  share = record { parts = parts; cuts = 0 };
}

-- the seat that opens the board has seen the start and has the whole share
abbrev pub first_view : ℕ → ℕ → ℕ → View
first_view limit places start = idle_view limit places (opening_rows start) 1

-- half of a share
abbrev pub half_of : Share → Share
half_of s = record s { cuts = s.cuts + 1 }

-- two shares together
abbrev pub both_shares : Share → Share → Share
both_shares s u =
    record { parts = portion s (max s.cuts u.cuts) + portion u (max s.cuts u.cuts); cuts = max s.cuts u.cuts }

-- a seat that another was split off
abbrev pub with_half_share : View → View
with_half_share v = record v { share = half_of v.share }

-- a new seat has seen and knows the same, and has half of the share, no right, no claim and no debt
abbrev pub fresh_seat : View → View
fresh_seat v = record v {
  rows = record v.rows { right = 0; low = []; high = []; unfiled = 0; added = [] };
  lives = record v.lives { claims = 0; given_up = [] };
  pending = record v.pending { announced = 0; owed = 0; verdicts = 0 };
  count = record v.count { uncounted = 0 };
  share = half_of v.share;
}

-- what a seat that was given up leaves. It is one constant, so it knows no board
abbrev pub spent_view : View
spent_view = idle_view 0 0 (replicate SHARDS []) 0

abbrev pub either_one : ℕ → ℕ → ℕ
either_one a b = if a == 1 then a else b

-- what two seats know together. Where what they have seen disagrees the seat would be at a shard 13, which the rule
-- excludes
abbrev pub both_views : View → View → View
both_views v w = record v {
  rows = record v.rows {
    seen = longer_rows v.rows.seen w.rows.seen;
    held = if agree v.rows.seen w.rows.seen then v.rows.held else SHARDS;
    added = v.rows.added ++ w.rows.added;
  };
  lives = record v.lives {
    given_up = v.lives.given_up ++ w.lives.given_up;
    learned = v.lives.learned
        ++ w.lives.learned;
  };
  pending = record v.pending {
    verdicts = v.pending.verdicts + w.pending.verdicts;
    finished = either_one v.pending.finished w.pending.finished;
  };
  count = record v.count { over = either_one v.count.over w.count.over };
  share = both_shares v.share w.share;
}

-- two seats that cannot exist together
abbrev pub impossible_view : View → View → View
impossible_view v w = record v { rows = record v.rows { held = SHARDS } }
