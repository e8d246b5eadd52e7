-- The steps on lives.
use Rattle.std.proofs.Common.{◌≡◌, ◌≢◌, ℕ, ◌+◌, ◌%◌, ◌<◌, ◌≤◌, Bool, [], ◌∷◌, ◌++◌, length, get_or, set, cond, eqb}
use Rattle.std.proofs.Common.{ne_eqb, sym, refl, ap, ◌∙◌, subst, arith, get_or-set_other}
use Rattle.std.specs.Prelude.{Contains, ◌↔◌, IsTrue}
use mathlib.Core.Logic.{dite}
use native.Mathlib.Decide.{ℕ_discrete}
use mathlib.Core.Option.{none, some}
use lib.ListN.{get_elem?}
use prog.Atomic.{either}
use Rattle.atomic_table.specs.Table.{State, Me, step, Act, keeps, Valid, carried_after, stepped, Allows}
use Rattle.atomic_table.proofs.Lists.{exchanged}
use Rattle.board_rule.specs.Layout.{life_word, place_of}
use Rattle.board_rule.specs.Lists.{row_of, Has}
use Rattle.board_rule.specs.Lives.{life_of, is_claimed, is_unsettled, is_settled, verdict_of, Passes}
use Rattle.board_rule.specs.Views.{Fixed, OnLives}
use Rattle.board_rule.specs.Rule.{times_among, claims_at, claims_on, IsBare, IsKept}
use Rattle.board_rule.specs.Changes.{with_learned, with_claim}
use Rattle.board_rule.specs.Plays as Plays
use Rattle.board_rule.specs.Plays.{Claims}
use Rattle.board_rule.specs.declared.life.Life.{Life}
use Rattle.board_rule.specs.declared.life.Life.TheVariants.{Waiting, Claimed, Clean, Broken}
use Rattle.board_rule.specs.declared.view.View.{View}
use Rattle.board_rule.proofs.Sums.{total-set, term_le, among, starts-length, starts-at}
use Rattle.board_rule.proofs.Lives.{is_claimed_one, claim_here, claim_else, claim_none, verdict_settles, verdict_clean}
use Rattle.board_rule.proofs.Lives.{verdict_broken, passes_claim, passes_verdict, passes_same, lives_turn}
use Rattle.board_rule.proofs.Pending.{lives_sum, pending_turn, count_turn}
use Rattle.board_rule.proofs.Turns.{rest_turn}

broken_else : (n : ℕ) → n ≢ 0 → n ≢ 1 → n ≢ 2 → life_of n ≡ Broken
broken_else n a b c = ap {B = Life} (λ x. cond x Waiting (cond (eqb n 1) Claimed (cond (eqb n 2) Clean Broken)))
    (ne_eqb n 0 a) ∙ ap {B = Life} (λ x. cond x Claimed (cond (eqb n 2) Clean Broken)) (ne_eqb n 1 b)
    ∙ ap {B = Life} (λ x. cond x Clean Broken) (ne_eqb n 2 c)

module _ (t : Fixed) (good : ℕ → Type 0) (S : Type 0) where
  abbrev Rule : State S View → Type 0
  Rule = IsKept t good

  -- a step on the life of a published place, which may change the claim and what is owed to pending
  life_turn : (s : State S View) (o : Rule s) (id q k n : ℕ) (new_life : Life) (l : OnLives) (owed verdicts : ℕ)
      (m : Me S View) → q < 13 → k < length (row_of o.rows q) → get_elem? s.views id ≡ some m.0
      → claims_at (place_of q k) (record m.0 { lives = l }) + is_claimed (get_or (row_of o.lives q) k 0) ≡ is_claimed n
      + claims_at (place_of q k) m.0
      → ((p : ℕ) → p ≢ place_of q k → claims_at p (record m.0 { lives = l }) ≡ claims_at p m.0)
      → l.given_up ≡ m.0.lives.given_up
      → n ≤ 3 → (n ≡ 2 → good (get_or (row_of o.rows q) k 0)) → (n ≡ 3 → good (get_or (row_of o.rows q) k 0) → ⊥)
      → (2 ≤ n → (y : ℕ) → Contains (t.next (get_or (row_of o.rows q) k 0)) y → Has o.rows y)
      → ((life : Life) → Passes life (life_of (get_or (row_of o.lives q) k 0)) → Passes life (life_of n))
      → l.learned ≡ m.0.lives.learned ++ (place_of q k, new_life) ∷ [] → Passes new_life (life_of n)
      → owed + is_unsettled n ≡ m.0.pending.owed + is_unsettled (get_or (row_of o.lives q) k 0)
      → owed + is_settled (get_or (row_of o.lives q) k 0) ≤ m.0.pending.owed + is_settled n
      → verdicts + is_settled (get_or (row_of o.lives q) k 0) ≡ m.0.pending.verdicts + is_settled n
      → is_unsettled n ≤ is_unsettled (get_or (row_of o.lives q) k 0)
      → (m.0.places ≡ 0 → IsBare m.0 → IsBare (record m.0 {
        lives = l;
        pending = record m.0.pending { owed = owed; verdicts = verdicts };
      }))
      → Rule (stepped s (life_word t.places q k) n id m.1 (record m.0 {
        lives = l;
        pending = record m.0.pending { owed = owed; verdicts = verdicts };
      }) keeps)
  life_turn s o id q k n new_life l owed verdicts m near inside me gain less kept top is-clean is-broken shut on more
      met sum few informed down bare =
      let p = record m.0.pending { owed = owed; verdicts = verdicts } in
      let w : View = record m.0 { lives = l; pending = p } in let i = life_word t.places q k in
      let words' = set s.words i n in
      let gone : (p : ℕ) → times_among p l.given_up ≡ times_among p m.0.lives.given_up = λ p. ap (times_among p) kept in
      let short : k < t.places = omega (arith, inside, o.row.short q near) in
      let in_lives : k < length (row_of o.lives q) = omega (arith, inside, o.life.even q near) in
      let u = lives_sum is_unsettled o.lives q k n (omega (arith, near, o.life.all)) in_lives in
      let v = lives_sum is_settled o.lives q k n (omega (arith, near, o.life.all)) in_lives in
      let a = total-set (λ x. x.pending.announced) s.views id m.0 w me in
      let zeroth : get_or words' 0 0 ≡ get_or s.words 0 0 =
      get_or-set_other s.words i 0 n 0 (λ e. omega (arith, e)) in
      rest_turn t good S s o id i n m l p m.0.count (set o.lives q (set (row_of o.lives q) k n))
      (λ b lo hi e. omega (arith, e, hi)) (λ b lo e. omega (arith, e, lo, short, near)) me bare
      (lives_turn t good o.rows o.lives s.words s.views id m.0 w q k n new_life near in_lives
      (omega (arith, o.sized, short, near)) o.life me (omega (arith, gain, gone (place_of q k)))
      (λ p ne. omega (arith, less p ne, gone p)) top is-clean is-broken shut on more met)
      (pending_turn o.lives (set o.lives q (set (row_of o.lives q) k n)) s.words words' s.views id m.0 w o.pending me
      (omega (arith, zeroth, u, sum)) (omega (arith, v, few)) (omega (arith, v, informed))
      (o.pending.by_writers id m.0 me)
      (λ none-open none-announced. (omega (arith, u, down, none-open), omega arith))
      (λ f. let d = o.pending.done id m.0 me f in (omega (arith, u, down, d.0), omega (arith, a, d.1))))
      (count_turn t o.rows o.rows s.words words' s.views id m.0 w o.counts me
      (omega (arith, get_or-set_other s.words i 1 n 0 (λ e. omega (arith, e)))) (o.counts.over id m.0 me))

  not_waiting : (n : ℕ) → n ≢ 0 → life_of n ≢ Waiting
  not_waiting n ne = dite (ℕ_discrete n 1) (λ e. rw e (λ f. cc f))
      (λ n1. dite (ℕ_discrete n 2) (λ e. rw e (λ f. cc f)) (λ n2 f. cc (sym (broken_else n ne n1 n2) ∙ f)))

  -- the entry of a claim that a seat has given up is claimed
  pub given_up_life : (s : State S View) (o : Rule s) (id q k : ℕ) (v : View) → q < 13 → get_elem? s.views id ≡ some v
      → 1 ≤ times_among (place_of q k) v.lives.given_up → get_or (row_of o.lives q) k 0 ≡ 1
  given_up_life s o id q k v near me gave = is_claimed_one (get_or (row_of o.lives q) k 0)
      (omega (arith, gave, o.life.claimed q k near, term_le (claims_on (place_of q k)) s.views id v me))

  -- the claim of a place that the seat has seen: either way the seat learns that it is not waiting any more
  pub claims_it : (n id : ℕ) (m : Me S View) (i q k : ℕ) → i ≡ life_word t.places q k → q < 13
      → k < length (row_of m.0.rows.seen q) → m.0.places ≡ t.places → m.0.lives.claims ≡ 0
      → Allows Rule n id m i (λ y. either (eqb y 0) 1 y) (Claims (step n i 0 1 none) m)
  claims_it n id m i q k at near seen informed none-yet s o wide me _ =
      rw at (let j = life_word t.places q k in let ok = o.seats id m.0 me in let place = place_of q k in
      let x = get_or s.words j 0 in
      let inside : k < length (row_of o.rows q) = omega (
        arith,
        seen,
        starts-length (row_of o.rows q) (row_of m.0.rows.seen q) (ok.saw q near),
      ) in
      let in_lives : k < length (row_of o.lives q) = omega (arith, inside, o.life.even q near) in
      let w = with_claim m.0 place Claimed in let missed = with_learned m.0 place Claimed in
      let is : x ≡ get_or (row_of o.lives q) k 0 = o.life.shown q k near in_lives in
      let here : (v : View) → (p b : ℕ) → j ≡ life_word m.0.places p b → p < 13
      → (place_of p b ≡ place) = λ v p b e h. omega (arith, e, informed, h, near) in
      let never_again : (p b : ℕ) → j ≡ life_word m.0.places p b → p < 13 → get_or (row_of o.lives q) k 0 ≡ 0
      → Contains m.0.lives.given_up (place_of p b) → ⊥ = λ p b e h was gave.
      omega (
        arith,
        was,
        given_up_life s o id q k m.0 near me
            (among place m.0.lives.given_up (subst (Contains m.0.lives.given_up) (here m.0 p b e h) gave)),
      ) in
      exchanged x 0 1 (λ y. (v : View) × (a : Act S) × Valid s.homes m.1 a × Rule (stepped s j y id m.1 v a)
      × Claims (step n j 0 1 none) m x (v, carried_after m.1 a))
      (λ hit. let was : get_or (row_of o.lives q) k 0 ≡ 0 = sym is ∙ hit in (
        w,
        keeps,
        tt,
        life_turn s o id q k 1 Claimed w.lives m.0.pending.owed m.0.pending.verdicts m near inside me
            (rw was (let yes : claims_at place w ≡ 1 = claim_here w place refl in
            omega (arith, yes, claim_none m.0 place none-yet)))
            (λ p ne. let no : claims_at p w ≡ 0 = claim_else w p (λ e. ne (sym e)) in
            omega (arith, no, claim_none m.0 p none-yet)) refl
            (omega arith) (λ two. absurd (omega (arith, two))) (λ three. absurd (omega (arith, three)))
            (λ two. absurd (omega (arith, two)))
            (λ life h. passes_claim life (subst (λ (y : ℕ). Passes life (life_of y)) was h)) refl (λ e. cc e)
            (rw was refl) (rw was (omega arith)) (rw was (omega arith)) (rw was (omega arith))
            (λ none _. absurd (omega (arith, none, informed, o.wide))),
        (
          refl,
          λ p b e h. (
            (λ _. (
              ap (λ (y : ℕ). with_claim m.0 y Claimed) (sym (here m.0 p b e h)),
              λ gave. absurd (never_again p b e h was gave),
            )),
            λ miss. absurd (miss hit),
          ),
        ),
      ))
      (λ miss. (
        missed,
        keeps,
        tt,
        subst (λ (y : ℕ). Rule (stepped s j y id m.1 missed keeps)) (sym is)
            (life_turn s o id q k (get_or (row_of o.lives q) k 0) Claimed missed.lives m.0.pending.owed
            m.0.pending.verdicts m near inside me
            (omega arith) (λ p ne. omega arith) refl (o.life.four q k near) (o.life.clean q k near)
            (o.life.broken q k near) (λ two y. o.life.closed q k y near two)
            (λ life h. h) refl (not_waiting (get_or (row_of o.lives q) k 0) (λ e. miss (is ∙ e))) refl (omega arith)
            (omega arith) (omega arith) (λ none _. absurd (omega (arith, none, informed, o.wide)))),
        (
          refl,
          λ p b e h. (
            (λ hit. absurd (miss hit)),
            λ _. ap (λ (y : ℕ). with_learned m.0 y Claimed)
                (sym (here m.0 p b e h)),
          ),
        ),
      )))

  -- a seat's claim is on a claimed life
  pub claimed_life : (s : State S View) (o : Rule s) (id q k : ℕ) (v : View) → q < 13 → get_elem? s.views id ≡ some v
      → v.lives.claims ≡ 1 → v.lives.place ≡ place_of q k → get_or (row_of o.lives q) k 0 ≡ 1
  claimed_life s o id q k v near me has here = is_claimed_one (get_or (row_of o.lives q) k 0)
      (omega (
        arith,
        claim_here v (place_of q k) here,
        has,
        o.life.claimed q k near,
        term_le (claims_on (place_of q k)) s.views id v me,
      ))

  -- the verdict: each successor is seen as an entry
  pub settles : (n id : ℕ) (m : Me S View) (i q k x : ℕ) (is_good : Bool) → i ≡ life_word t.places q k → q < 13
      → k < length (row_of m.0.rows.seen q) → m.0.lives.claims ≡ 1 → m.0.lives.place ≡ place_of q k
      → x ≡ verdict_of is_good
      → (IsTrue is_good ↔ good (get_or (row_of m.0.rows.seen q) k 0))
      → ((y : ℕ) → Contains (t.next (get_or (row_of m.0.rows.seen q) k 0)) y → Has m.0.rows.seen y)
      → Allows Rule n id m i (λ _. x) (λ _. Plays.Settles (step n i x 0 none) m x)
  settles n id m i q k x is_good at near seen has here verdict right all s o wide me _ =
      rw at (let ok = o.seats id m.0 me in let l = record m.0.lives {
        claims = 0;
        learned = m.0.lives.learned ++ (m.0.lives.place, life_of x) ∷ [];
      } in let w : View = record m.0 { lives = l } in
      let inside : k < length (row_of o.rows q) = omega (
        arith,
        seen,
        starts-length (row_of o.rows q) (row_of m.0.rows.seen q) (ok.saw q near),
      ) in
      let was = claimed_life s o id q k m.0 near me has here in
      let same = starts-at (row_of o.rows q) (row_of m.0.rows.seen q) k (ok.saw q near) seen in
      let v = verdict_settles is_good in let mine : claims_at (place_of q k) m.0 ≡ 1 =
      claim_here m.0 (place_of q k) here ∙ has in (
        record m.0 {
          lives = l;
          pending = record m.0.pending {
            owed = m.0.pending.owed + 1;
            verdicts = m.0.pending.verdicts + 1;
          };
        },
        keeps,
        tt,
        life_turn s o id q k x (life_of x) l (m.0.pending.owed + 1) (m.0.pending.verdicts + 1) m near inside me
            (rw was (omega (arith, claim_none w (place_of q k) refl, mine, ap is_claimed verdict ∙ v.2)))
            (λ p ne. omega (arith, claim_none w p refl, claim_else m.0 p (λ e. ne (sym e ∙ here)))) refl
            (omega (arith, verdict, v.1))
            (λ two. subst good (sym same) (right.0 (verdict_clean is_good (sym verdict ∙ two))))
            (λ three yes. absurd (cc (sym (verdict_broken is_good (sym verdict ∙ three))
            ∙ right.1 (subst good same yes))))
            (λ _ y c. let e = all y (subst (λ (a : ℕ). Contains (t.next a) y) same c) in (
              e.0,
              omega (
                arith,
                e.1,
                starts-length (row_of o.rows (y % 13)) (row_of m.0.rows.seen (y % 13))
                    (ok.saw (y % 13) (omega arith)),
              ),
              starts-at (row_of o.rows (y % 13)) (row_of m.0.rows.seen (y % 13)) e.0
                  (ok.saw (y % 13) (omega arith)) e.1 ∙ e.2,
            ))
            (λ life h. subst (λ (y : ℕ). Passes life (life_of y)) (sym verdict)
            (passes_verdict is_good life (subst (λ (y : ℕ). Passes life (life_of y)) was h)))
            (ap (λ (p : ℕ). m.0.lives.learned ++ (p, life_of x) ∷ []) here) (passes_same (life_of x))
            (rw was (rw verdict (omega (arith, v.3)))) (rw was (rw verdict (omega (arith, v.4))))
            (rw was (rw verdict (omega (arith, v.4)))) (rw was (rw verdict (omega (arith, v.3))))
            (λ _ b. absurd (omega (arith, b.claims, has))),
        refl,
      ))
