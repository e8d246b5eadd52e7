-- Lives after a step.
use Rattle.std.proofs.Common.{◌≡◌, ◌≢◌, ℕ, zero, suc, ◌+◌, ◌/◌, ◌%◌, ◌<◌, ◌≤◌, Bool, true, false, List, [], ◌∷◌, ◌++◌}
use Rattle.std.proofs.Common.{length, get_or, set, replicate, cond, eqb, eq-eqb, ne_eqb, refl, ap, sym, ◌∙◌, subst}
use Rattle.std.proofs.Common.{arith, length-set, length-append, get_or-set_other, get_or-set_same}
use Rattle.std.specs.Prelude.{Contains}
use Rattle.std.specs.List.{All}
use Rattle.std.proofs.lemmas.List.{get_or_append_left}
use Rattle.std.proofs.lemmas.List.Elements.{All-weaker, All-push}
use mathlib.Core.Logic.{dite}
use native.Mathlib.Decide.{ℕ_discrete}
use mathlib.Core.Option.{some}
use lib.ListN.{get_elem?}
use Rattle.board_rule.specs.Layout.{life_word, place_of}
use Rattle.board_rule.specs.Lists.{row_of, total, Has}
use Rattle.board_rule.specs.Lives.{life_of, life_at, is_claimed, is_unsettled, is_settled, verdict_of, Passes}
use Rattle.board_rule.specs.Views.{Fixed}
use Rattle.board_rule.specs.Rule.{times_among, claims_at, claims_on, LivesOk}
use Rattle.board_rule.specs.Changes.{with_given_up}
use Rattle.board_rule.specs.declared.life.Life.{Life}
use Rattle.board_rule.specs.declared.life.Life.TheVariants.{Waiting, Claimed, Clean, Broken}
use Rattle.board_rule.specs.declared.view.View.{View}
use Rattle.board_rule.proofs.Sums.{total-set, total-append, rows_cases, snoc_cases, snoc_zero, seats_turn}

pub in_range : (l : List ℕ) (k : ℕ) → 1 ≤ get_or l k 0 → k < length l
in_range [] k h = absurd (omega (arith, h))
in_range (x ∷ xs) zero h = omega arith
in_range (x ∷ xs) (suc k) h = omega (arith, in_range xs k h)

pub is_claimed_one : (n : ℕ) → 1 ≤ is_claimed n → n ≡ 1
is_claimed_one n h = dite (ℕ_discrete n 1) (λ e. e) (λ ne.
    absurd (omega (arith, h, ap {B = ℕ} (λ b. cond b 1 0) (ne_eqb n 1 ne))))

pub is_claimed_low : (n : ℕ) → is_claimed n ≤ 1
is_claimed_low n = dite (ℕ_discrete n 1) (λ e. omega (arith, ap {B = ℕ} (λ b. cond b 1 0) (eq-eqb n 1 e)))
    (λ ne. omega (arith, ap {B = ℕ} (λ b. cond b 1 0) (ne_eqb n 1 ne)))

pub claim_here : (v : View) (p : ℕ) → v.lives.place ≡ p → claims_at p v ≡ v.lives.claims
claim_here v p e = ap {B = ℕ} (λ b. cond b v.lives.claims 0) (eq-eqb v.lives.place p e)

pub claim_else : (v : View) (p : ℕ) → v.lives.place ≢ p → claims_at p v ≡ 0
claim_else v p n = ap {B = ℕ} (λ b. cond b v.lives.claims 0) (ne_eqb v.lives.place p n)

pub claim_none : (v : View) (p : ℕ) → v.lives.claims ≡ 0 → claims_at p v ≡ 0
claim_none v p e = dite (ℕ_discrete v.lives.place p) (λ h. claim_here v p h ∙ e) (λ n. claim_else v p n)

-- a claim weighs as much once it is given up
times_replicate : (p n x : ℕ) → times_among p (replicate n x) ≡ cond (eqb x p) n 0
times_replicate p zero x = dite (ℕ_discrete x p) (λ e. sym (ap {B = ℕ} (λ b. cond b 0 0) (eq-eqb x p e)))
    (λ ne. sym (ap {B = ℕ} (λ b. cond b 0 0) (ne_eqb x p ne)))
times_replicate p (suc n) x = dite (ℕ_discrete x p)
    (λ e. omega (
      arith,
      times_replicate p n x,
      ap {B = ℕ} (λ b. cond b 1 0) (eq-eqb x p e),
      ap {B = ℕ} (λ b. cond b n 0) (eq-eqb x p e),
      ap {B = ℕ} (λ b. cond b (suc n) 0) (eq-eqb x p e),
    ))
    (λ ne. omega (
      arith,
      times_replicate p n x,
      ap {B = ℕ} (λ b. cond b 1 0) (ne_eqb x p ne),
      ap {B = ℕ} (λ b. cond b n 0) (ne_eqb x p ne),
      ap {B = ℕ} (λ b. cond b (suc n) 0) (ne_eqb x p ne),
    ))

pub claims_given_up : (v : View) (p : ℕ) → claims_on p (with_given_up v) ≡ claims_on p v
claims_given_up v p = omega (
  arith,
  claim_none (with_given_up v) p refl,
  total-append (λ x. cond (eqb x p) 1 0) v.lives.given_up (replicate v.lives.claims v.lives.place),
  times_replicate p v.lives.claims v.lives.place,
)

-- what a verdict is as a life
pub verdict_settles : (b : Bool) → (2 ≤ verdict_of b) × (verdict_of b ≤ 3) × (is_claimed (verdict_of b) ≡ 0)
    × (is_unsettled (verdict_of b) ≡ 0) × (is_settled (verdict_of b) ≡ 1)
verdict_settles b = elim b as (λ x. (2 ≤ verdict_of x) × (verdict_of x ≤ 3) × (is_claimed (verdict_of x) ≡ 0)
    × (is_unsettled (verdict_of x) ≡ 0) × (is_settled (verdict_of x) ≡ 1))
    [ true ↦ (omega arith, omega arith, refl, refl, refl) | false ↦ (omega arith, omega arith, refl, refl, refl) ]

pub verdict_clean : (b : Bool) → verdict_of b ≡ 2 → b ≡ true
verdict_clean true e = refl
verdict_clean false e = absurd (omega (arith, e))

pub verdict_broken : (b : Bool) → verdict_of b ≡ 3 → b ≡ false
verdict_broken true e = absurd (omega (arith, e))
verdict_broken false e = refl

-- what was learned of a claimed life stays true of a settled one
pub passes_verdict : (b : Bool) (met : Life) → Passes met Claimed → Passes met (life_of (verdict_of b))
passes_verdict b Waiting h = tt
passes_verdict true Claimed h = λ e. cc e
passes_verdict false Claimed h = λ e. cc e
passes_verdict b Clean h = absurd (cc h)
passes_verdict b Broken h = absurd (cc h)

-- and what was learned of a waiting one of a claimed one
pub passes_claim : (met : Life) → Passes met Waiting → Passes met Claimed
passes_claim Waiting h = tt
passes_claim Claimed h = absurd (h refl)
passes_claim Clean h = absurd (cc h)
passes_claim Broken h = absurd (cc h)

pub passes_same : (met : Life) → Passes met met
passes_same Waiting = tt
passes_same Claimed = λ e. cc e
passes_same Clean = refl
passes_same Broken = refl

-- the number of a place, read back
pub shard_of_place : (q k : ℕ) → q < 13 → place_of q k % 13 ≡ q
shard_of_place q k h = omega (arith, h)

pub at_of_place : (q k : ℕ) → q < 13 → place_of q k / 13 ≡ k
at_of_place q k h = omega (arith, h)

pub life_at_place : (lives : List (List ℕ)) (q k : ℕ) → q < 13
    → life_at lives (place_of q k) ≡ get_or (row_of lives q) k 0
life_at_place lives q k h = ap (λ (x : ℕ). get_or (row_of lives x) (place_of q k / 13) 0) (shard_of_place q k h)
    ∙ ap (λ (x : ℕ). get_or (row_of lives q) x 0) (at_of_place q k h)

pub place_is : (p : ℕ) → place_of (p % 13) (p / 13) ≡ p
place_is p = omega arith

-- a seat's learned lives, where no life is read otherwise than before
pub learned_on : (lives lives' : List (List ℕ)) (met : List (ℕ × Life))
    → ((p : ℕ) (life : Life) → Passes life (life_of (life_at lives p)) → Passes life (life_of (life_at lives' p)))
    → All (λ m. Passes m.1 (life_of (life_at lives m.0))) met → All (λ m. Passes m.1 (life_of (life_at lives' m.0))) met
learned_on lives lives' met on = All-weaker (λ m. Passes m.1 (life_of (life_at lives m.0)))
    (λ m. Passes m.1 (life_of (life_at lives' m.0))) (λ m. on m.0 m.1) met

-- a step off the lives, after which the seat has no more of a claim
pub lives_stay : (t : Fixed) (good : ℕ → Type 0) (rows lives : List (List ℕ)) (words words' : List ℕ)
    (views : List View)
    (i : ℕ) (v w : View) → LivesOk t good rows lives words views → get_elem? views i ≡ some v
    → ((q k : ℕ) → q < 13 → k < t.places → get_or words' (life_word t.places q k) 0
    ≡ get_or words (life_word t.places q k) 0) → ((q : ℕ) → q < 13 → length (row_of lives q) ≤ t.places)
    → ((p : ℕ) → claims_on p w ≡ claims_on p v) → w.lives.learned ≡ v.lives.learned
    → LivesOk t good rows lives words' (set views i w)
lives_stay t good rows lives words words' views i v w o me same short less met = record {
  all = o.all;
  even = o.even;
  shown = λ q k h b. same q k h (omega (arith, b, short q h)) ∙ o.shown q k h b;
  fresh = λ q k h b c. same q k h c ∙ o.fresh q k h b c;
  claimed = λ q k h. omega (
    arith,
    o.claimed q k h,
    total-set (claims_on (place_of q k)) views i v w me,
    less (place_of q k),
  );
  four = o.four;
  clean = o.clean;
  broken = o.broken;
  closed = o.closed;
  learned = seats_turn (λ u. All (λ m. Passes m.1 (life_of (life_at lives m.0))) u.lives.learned) views i w
      (subst (All (λ m. Passes m.1 (life_of (life_at lives m.0)))) (sym met) (o.learned i v me))
      (λ j u ne e. o.learned j u e);
}

-- the life at place k of shard q becomes n, and the seat learns of it
pub lives_turn : (t : Fixed) (good : ℕ → Type 0) (rows lives : List (List ℕ)) (words : List ℕ) (views : List View)
    (i : ℕ) (v w : View) (q k n : ℕ) (new_life : Life) → q < 13 → k < length (row_of lives q)
    → life_word t.places q k < length words
    → LivesOk t good rows lives words views → get_elem? views i ≡ some v
    → claims_on (place_of q k) w + is_claimed (get_or (row_of lives q) k 0) ≡ is_claimed n + claims_on (place_of q k) v
    → ((p : ℕ) → p ≢ place_of q k → claims_on p w ≡ claims_on p v)
    → n ≤ 3 → (n ≡ 2 → good (get_or (row_of rows q) k 0)) → (n ≡ 3 → good (get_or (row_of rows q) k 0) → ⊥)
    → (2 ≤ n → (y : ℕ) → Contains (t.next (get_or (row_of rows q) k 0)) y → Has rows y)
    → ((life : Life) → Passes life (life_of (get_or (row_of lives q) k 0)) → Passes life (life_of n))
    → w.lives.learned ≡ v.lives.learned ++ (place_of q k, new_life) ∷ [] → Passes new_life (life_of n)
    → LivesOk t good rows (set lives q (set (row_of lives q) k n)) (set words (life_word t.places q k) n)
    (set views i w)
lives_turn t good rows lives words views i v w q k n new_life near inside long o me gain less top is-clean is-broken
    shut on more met = let l = row_of lives q in let new = set l k n in
    let words' = set words (life_word t.places q k) n in let lives' = set lives q new in
    let away : (p j : ℕ) → p < 13 → (p ≡ q → j ≢ k) → get_or words' (life_word t.places p j) 0
    ≡ get_or words (life_word t.places p j) 0 = λ p j h ne. get_or-set_other words (life_word t.places q k)
    (life_word t.places p j) n 0 (λ e. ne (omega (arith, e, h, near)) (omega (arith, e, h, near))) in
    let less_at : (p j : ℕ) → p < 13 → (p ≡ q → j ≢ k) → total (claims_on (place_of p j)) (set views i w)
    ≡ is_claimed (get_or (row_of lives p) j 0) = λ p j h ne.
    omega (
      arith,
      o.claimed p j h,
      total-set (claims_on (place_of p j)) views i v w me,
      less (place_of p j) (λ e. ne (omega (arith, e, h, near)) (omega (arith, e, h, near))),
    ) in
    -- a fact of each life, from the old ones and the new one
    let each : (F : ℕ → ℕ → ℕ → Type 0) → ((p j : ℕ) → p < 13 → F p j (get_or (row_of lives p) j 0)) → F q k n
    → (p j : ℕ) → p < 13 → F p j (get_or (row_of lives' p) j 0) =
    λ F old here p j h. rows_cases lives q new (λ p l. (j : ℕ) → F p j (get_or l j 0)) o.all near
    (λ j. dite (ℕ_discrete j k) (λ e. subst (λ (y : ℕ). F q y (get_or new y 0)) (sym e)
    (subst (F q k) (sym (get_or-set_same l k n 0 inside)) here))
    (λ ne. subst (F q j) (sym (get_or-set_other l k j n 0 ne)) (old q j near)))
    (λ p h ne j. old p j h) p h j in record {
      all = length-set lives q new ∙ o.all;
      even = rows_cases lives q new (λ p l. length l ≡ length (row_of rows p)) o.all near
          (length-set l k n ∙ o.even q near) (λ p h ne. o.even p h);
      shown = λ p j h. rows_cases lives q new (λ p l. (j : ℕ) → j < length l
          → get_or words' (life_word t.places p j) 0 ≡ get_or l j 0) o.all near
          (λ j b. dite (ℕ_discrete j k) (λ e. subst (λ (y : ℕ). get_or words' (life_word t.places q y) 0
          ≡ get_or new y 0) (sym e) (get_or-set_same words (life_word t.places q k) n 0 long
          ∙ sym (get_or-set_same l k n 0 inside)))
          (λ ne. away q j near (λ _. ne) ∙ o.shown q j near (omega (arith, b, length-set l k n))
          ∙ sym (get_or-set_other l k j n 0 ne)))
          (λ p h ne j b. away p j h (λ e. absurd (ne e)) ∙ o.shown p j h b) p h j;
      fresh = λ p j h. rows_cases lives q new (λ p l. (j : ℕ) → length l ≤ j → j < t.places
          → get_or words' (life_word t.places p j) 0 ≡ 0) o.all near
          (λ j b c. away q j near (λ _ e. omega (arith, e, b, inside, length-set l k n))
          ∙ o.fresh q j near (omega (arith, b, length-set l k n)) c)
          (λ p h ne j b c. away p j h (λ e. absurd (ne e)) ∙ o.fresh p j h b c) p h j;
      claimed = λ p j h. rows_cases lives q new (λ p l. (j : ℕ)
          → total (claims_on (place_of p j)) (set views i w) ≡ is_claimed (get_or l j 0)) o.all near
          (λ j. dite (ℕ_discrete j k) (λ e. subst (λ (y : ℕ). total (claims_on (place_of q y)) (set views i w)
          ≡ is_claimed (get_or new y 0)) (sym e)
          (subst (λ (y : ℕ). total (claims_on (place_of q k)) (set views i w) ≡ is_claimed y)
          (sym (get_or-set_same l k n 0 inside)) (omega (
            arith,
            o.claimed q k near,
            total-set (claims_on (place_of q k)) views i v w me,
            gain,
          ))))
          (λ ne. subst (λ (y : ℕ). total (claims_on (place_of q j)) (set views i w) ≡ is_claimed y)
          (sym (get_or-set_other l k j n 0 ne)) (less_at q j near (λ _. ne))))
          (λ p h ne j. less_at p j h (λ e. absurd (ne e))) p h j;
      four = each (λ p j life. life ≤ 3) o.four top;
      clean = each (λ p j life. life ≡ 2 → good (get_or (row_of rows p) j 0)) o.clean is-clean;
      broken = each (λ p j life. life ≡ 3 → good (get_or (row_of rows p) j 0) → ⊥) o.broken is-broken;
      closed = λ p j y h. each (λ p j life. (y : ℕ) → 2 ≤ life → Contains (t.next (get_or (row_of rows p) j 0)) y
          → Has rows y) (λ p j h y. o.closed p j y h) (λ y two. shut two y) p j h y;
      learned = let still : (u : View) → All (λ m. Passes m.1 (life_of (life_at lives m.0))) u.lives.learned
          → All (λ m. Passes m.1 (life_of (life_at lives' m.0))) u.lives.learned =
          λ u. learned_on lives lives' u.lives.learned
          (λ p life. each (λ a b now. Passes life (life_of (get_or (row_of lives a) b 0)) → Passes life (life_of now))
          (λ a b h before. before) (on life) (p % 13) (p / 13) (omega arith)) in
          let here : life_at lives' (place_of q k) ≡ n = life_at_place lives' q k near
          ∙ ap (λ (l : List ℕ). get_or l k 0) (get_or-set_same lives q new [] (omega (arith, o.all, near)))
          ∙ get_or-set_same l k n 0 inside in
          seats_turn (λ u. All (λ m. Passes m.1 (life_of (life_at lives' m.0))) u.lives.learned) views i w
          (subst (All (λ m. Passes m.1 (life_of (life_at lives' m.0)))) (sym more)
          (All-push (λ m. Passes m.1 (life_of (life_at lives' m.0))) v.lives.learned (place_of q k, new_life)
          (still v (o.learned i v me)) (subst (λ (y : ℕ). Passes new_life (life_of y)) (sym here) met)))
          (λ j u ne e. still u (o.learned j u e));
    }

-- the lives of a row that grows: the new place is waiting
pub lives_grow : (t : Fixed) (good : ℕ → Type 0) (rows lives : List (List ℕ)) (words words' : List ℕ)
    (views : List View)
    (i q x : ℕ) (v w : View) → q < 13 → length rows ≡ 13 → length (row_of rows q) < t.places
    → LivesOk t good rows lives words views → get_elem? views i ≡ some v
    → ((p k : ℕ) → p < 13 → get_or words' (life_word t.places p k) 0 ≡ get_or words (life_word t.places p k) 0)
    → ((p : ℕ) → claims_on p w ≡ claims_on p v) → w.lives.learned ≡ v.lives.learned
    → LivesOk t good (set rows q (row_of rows q ++ x ∷ [])) (set lives q (row_of lives q ++ 0 ∷ [])) words'
    (set views i w)
lives_grow t good rows lives words words' views i q x v w near all room o me same less met = let row = row_of rows q in
    let l = row_of lives q in let r' = row ++ x ∷ [] in let l' = l ++ 0 ∷ [] in let lives' = set lives q l' in
    let long = o.even q near in
    let at-rows : row_of (set rows q r') q ≡ r' = get_or-set_same rows q r' [] (omega (arith, all, near)) in
    let kept : (p j : ℕ) → p < 13 → j < length (row_of rows p) → (j < length (row_of (set rows q r') p))
    × (get_or (row_of (set rows q r') p) j 0 ≡ get_or (row_of rows p) j 0) =
    λ p j h. rows_cases rows q r' (λ p r. (j : ℕ) → j < length (row_of rows p) → (j < length r)
    × (get_or r j 0 ≡ get_or (row_of rows p) j 0)) all near
    (λ j b. (omega (arith, b, length-append row (x ∷ [])), get_or_append_left row (x ∷ []) 0 j b))
    (λ p h ne j b. (b, refl)) p h j in
    let has : (y : ℕ) → Has rows y → Has (set rows q r') y = λ y t. let k = kept (y % 13) t.0 (omega arith) t.1 in
    (t.0, k.0, k.1 ∙ t.2) in
    let there : (p j : ℕ) → p < 13 → 2 ≤ get_or (row_of lives p) j 0
    → j < length (row_of rows p) = λ p j h two. omega (
      arith,
      in_range (row_of lives p) j (omega (arith, two)),
      o.even p h,
    ) in
    let reads : (p j : ℕ) → p < 13 → get_or (row_of lives' p) j 0 ≡ get_or (row_of lives p) j 0 =
    λ p j h. rows_cases lives q l' (λ p y. (j : ℕ) → get_or y j 0 ≡ get_or (row_of lives p) j 0) o.all near
    (snoc_zero l) (λ p h ne j. refl) p h j in record {
      all = length-set lives q l' ∙ o.all;
      even = rows_cases lives q l' (λ p y. length y ≡ length (row_of (set rows q r') p)) o.all near
          (omega (arith, length-append l (0 ∷ []), length-append row (x ∷ []), long, ap length at-rows))
          (λ p h ne. o.even p h ∙ ap length (sym (get_or-set_other rows q p r' [] ne)));
      shown = λ p j h. rows_cases lives q l' (λ p y. (j : ℕ) → j < length y
          → get_or words' (life_word t.places p j) 0 ≡ get_or y j 0) o.all near
          (snoc_cases l 0 (λ j y. get_or words' (life_word t.places q j) 0 ≡ y)
          (λ j b. same q j near ∙ o.shown q j near b) (same q (length l) near
          ∙ o.fresh q (length l) near (omega arith) (omega (arith, long, room))))
          (λ p h ne j b. same p j h ∙ o.shown p j h b) p h j;
      fresh = λ p j h. rows_cases lives q l' (λ p y. (j : ℕ) → length y ≤ j → j < t.places
          → get_or words' (life_word t.places p j) 0 ≡ 0) o.all near
          (λ j b c. same q j near ∙ o.fresh q j near (omega (arith, b, length-append l (0 ∷ []))) c)
          (λ p h ne j b c. same p j h ∙ o.fresh p j h b c) p h j;
      claimed = λ p j h. subst (λ (y : ℕ). total (claims_on (place_of p j)) (set views i w) ≡ is_claimed y)
          (sym (reads p j h)) (omega (
            arith,
            o.claimed p j h,
            total-set (claims_on (place_of p j)) views i v w me,
            less (place_of p j),
          ));
      four = λ p j h. omega (arith, reads p j h, o.four p j h);
      clean = λ p j h two. let was : get_or (row_of lives p) j 0 ≡ 2 = sym (reads p j h) ∙ two in
          subst good (sym (kept p j h (there p j h (omega (arith, was)))).1) (o.clean p j h was);
      broken = λ p j h three yes. let was : get_or (row_of lives p) j 0 ≡ 3 = sym (reads p j h) ∙ three in
          o.broken p j h was (subst good (kept p j h (there p j h (omega (arith, was)))).1 yes);
      closed = λ p j y h two c. let was : 2 ≤ get_or (row_of lives p) j 0 = omega (arith, two, reads p j h) in
          has y (o.closed p j y h was (subst (λ (z : ℕ). Contains (t.next z) y) (kept p j h (there p j h was)).1 c));
      learned = seats_turn (λ u. All (λ m. Passes m.1 (life_of (life_at lives' m.0))) u.lives.learned) views i w
          (learned_on lives lives' w.lives.learned (λ p life. subst (λ (n : ℕ). Passes life (life_of n))
          (sym (reads (p % 13) (p / 13) (omega arith)))) (subst
          (All (λ m. Passes m.1 (life_of (life_at lives m.0)))) (sym met) (o.learned i v me)))
          (λ j u ne e. learned_on lives lives' u.lives.learned
          (λ p life. subst (λ (n : ℕ). Passes life (life_of n)) (sym (reads (p % 13) (p / 13) (omega arith))))
          (o.learned j u e));
    }
