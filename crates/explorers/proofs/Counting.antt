-- Counters of expansions, and the claims that a seat has made.
use Rattle.std.proofs.Common.{◌≡◌, ℕ, ◌+◌, ◌-◌, ◌*◌, ◌^◌, ◌≤◌, List, [], ◌∷◌, length, refl}
use Rattle.std.proofs.Common.{ap}
use Rattle.std.proofs.Common.{◌∙◌, sym, arith, length-append}
use Rattle.std.specs.Prelude.{min, Result, Ok, Err, IfOk}
use Rattle.std.specs.List.{concat}
use Rattle.state_space.specs.Reach.{IsReached}
use Rattle.board_rule.specs.Lists.{total}
use Rattle.board_rule.proofs.Bounds.{total_bound}
use Rattle.patch_sets.specs.declared.explored.Explored.{Explored}
use Rattle.seen_board.specs.Known.{Known}
use Rattle.seen_board.specs.Ended.{Ended, Entries, Accounts, claims_made}
use Rattle.seen_board.specs.Clauses.{with_given_up, both_known}
use Rattle.seen_board.specs.Inserts.{PutOk}
use Rattle.seen_board.specs.declared.answers.Put.{Put}
use Rattle.seen_board.specs.declared.answers.Put.TheVariants.{New, Known as Found, Busy, Over}
use Rattle.seen_board.proofs.FewClaims.{made_length}
use Rattle.explorers.specs.Claims.{HoldsOfAtLeast}
use Rattle.explorers.specs.Ready.{Counts, Keeps}

-- ---- what keeps a seat's claims and its share

pub keeps_same : (s t : Known) → t ≡ s → Keeps s t
keeps_same s t e = record { claims = ap claims_made e; share = ap (λ (u : Known). u.share) e }

pub keeps_trans : (s t u : Known) → Keeps s t → Keeps t u → Keeps s u
keeps_trans s t u first then = record { claims = then.claims ∙ first.claims; share = then.share ∙ first.share }

-- a claim that is given up counts as before
pub given_up_made : (s : Known) → claims_made (with_given_up s) ≡ claims_made s
given_up_made s = omega (arith, made_length s.given_up s.claims s.place)

-- a try to put a word in makes no claim
pub put_keeps : (x : ℕ) (s w : Known) (put : Put) → PutOk x s w put → Keeps s w
put_keeps x s w (New p) (e, sees, named, absent) = record {
  claims = ap claims_made e;
  share = ap (λ (u : Known). u.share) e;
}
put_keeps x s w (Found p) ((e, sees), named) = record {
  claims = ap claims_made e;
  share = ap (λ (u : Known). u.share) e;
}
put_keeps x s w Busy (e, sees) = record { claims = ap claims_made e; share = ap (λ (u : Known). u.share) e }
put_keeps x s w Over (e, sees) = record {
  claims = ap claims_made e ∙ given_up_made s;
  share = ap (λ (u : Known). u.share) e;
}

-- ---- counters

-- one more
pub counts_one : (before after final m n : ℕ) → Counts before m → after ≡ min (before + 1) (2 ^ 64 - 1)
    → final ≡ after → n ≡ m + 1 → Counts final n
counts_one before after final m n counted more same is = λ fits.
    omega (arith, counted (omega (arith, fits, is)), more, same, is, fits)

-- two counters together
pub counts_both : (a b both m n : ℕ) → Counts a m → Counts b n → both ≡ min (a + b) (2 ^ 64 - 1) → Counts both (m + n)
counts_both a b both m n one two is = λ fits.
    omega (arith, one (omega (arith, fits)), two (omega (arith, fits)), is, fits)

-- two seats of which neither has a claim
pub both_made : (s u : Known) (seen : List (List ℕ)) → s.claims ≡ 0 → u.claims ≡ 0
    → claims_made (both_known s u seen) ≡ claims_made s + claims_made u
both_made s u seen a b = omega (arith, length-append s.given_up u.given_up, a, b)

-- ---- at the end

flat_length : (rows : List (List ℕ)) → length (concat rows) ≡ total length rows
flat_length [] = refl
flat_length (row ∷ rows) = omega (arith, length-append row (concat rows), flat_length rows)

module _ (next : ℕ → List ℕ) (origin places claims : ℕ) (s : Known) (e : Ended)
    (entries : Entries next origin places e.rows) (small : places ≤ 32768) (accounts : Accounts origin s e)
    (counted : Counts claims (claims_made s)) where
  flat : length (concat e.rows) ≡ length s.added + 1
  flat = flat_length e.rows ∙ accounts.entries

  few : length s.added + 1 ≤ 13 * 32768
  few = omega (
    arith,
    accounts.entries,
    total_bound e.rows 32768 (λ q near. omega (arith, small, entries.short q (omega (arith, near, entries.thirteen)))),
    ap (λ (n : ℕ). n * 32768) entries.thirteen,
  )

  -- the counter shows how many claims were made
  all_made : claims ≡ claims_made s
  all_made = counted (omega (arith, few, accounts.claims))

  -- which are at most as many as there are entries
  pub made_few : HoldsOfAtLeast (IsReached next origin) claims
  made_few = (concat e.rows, entries.some, omega (arith, all_made, accounts.claims, flat))

  -- and exactly as many on a finished board
  pub made_each : s.finished ≡ 1 → claims ≡ length (concat e.rows)
  made_each done = omega (arith, all_made, accounts.each done, flat)

-- where nothing was claimed
pub made_none : (P : ℕ → Type 0) → HoldsOfAtLeast P 0
made_none P = (
  [],
  record {
    distinct = λ i j d up within. absurd (omega (arith, within));
    each = λ k d within. absurd (omega (arith, within));
  },
  omega arith,
)

-- the total of what is found, as the number of claims
pub total_is : {A E : Type 0} (claims n : ℕ) (r : Result (Explored A) E) → claims ≡ n
    → IfOk r (λ found. found.total ≡ n) → IfOk r (λ found. claims ≡ found.total)
total_is claims n (Ok found) is total = is ∙ sym total
total_is claims n (Err refusal) is total = tt
