-- Shares of the board after a step, and a seat that has the whole of it.
use Rattle.std.proofs.Common.{◌≡◌, ℕ, zero, suc, ◌+◌, ◌-◌, ◌*◌, ◌^◌, ◌<◌, ◌≤◌, ◌≢◌, List, [], ◌∷◌, ◌++◌, set, sym, refl}
use Rattle.std.proofs.Common.{ap, ◌∙◌, subst, ⊎_elim, arith}
use Rattle.std.specs.Prelude.{max}
use Rattle.std.proofs.Math.Nat.{mul_assoc, add-mul, mul-pos}
use Rattle.std.proofs.lemmas.Nat.{pow-add, pow_pos}
use mathlib.Core.Logic.{dite}
use native.Mathlib.Decide.{ℕ_discrete}
use mathlib.Core.Option.{some, some-injective, some-ne-none}
use lib.ListN.{get_elem?}
use Rattle.atomic_table.proofs.Lists.{at_snoc}
use Rattle.board_rule.specs.Lists.{total}
use Rattle.board_rule.specs.Views.{Share, portion}
use Rattle.board_rule.specs.Changes.{half_of, both_shares, with_half_share, fresh_seat, spent_view}
use Rattle.board_rule.specs.Rule.{EachSeat, times, times_among, claims_on, IsBare, IsWhole, SharesOk}
use Rattle.board_rule.specs.declared.view.View.{View}
use Rattle.board_rule.proofs.Sums.{total-set, total-append, terms_le, seats_turn}
use Rattle.board_rule.proofs.Lives.{claim_none}

-- a share is as much of more and smaller parts
raised : (p d m k : ℕ) → d ≤ m → m ≤ k → p * 2 ^ (m - d) * 2 ^ (k - m) ≡ p * 2 ^ (k - d)
raised p d m k low high = mul_assoc p (2 ^ (m - d)) (2 ^ (k - m))
    ∙ ap (λ (x : ℕ). p * x) (sym (pow-add 2 (m - d) (k - m))
    ∙ ap (λ (j : ℕ). 2 ^ j) (let z : (m - d) + (k - m) ≡ k - d = omega (arith, low, high) in z))

pub portion_both : (s u : Share) (k : ℕ) → s.cuts ≤ k → u.cuts ≤ k
    → portion (both_shares s u) k ≡ portion s k + portion u k
portion_both s u k a b = let m = max s.cuts u.cuts in let most : m ≤ k = omega (arith, a, b) in
    add-mul (portion s m) (portion u m) (2 ^ (k - m)) ∙ ap (λ (x : ℕ). x + portion u m * 2 ^ (k - m))
    (raised s.parts s.cuts m k (omega arith) most) ∙ ap (λ (x : ℕ). portion s k + x)
    (raised u.parts u.cuts m k (omega arith) most)

pub portion_half : (s : Share) (k : ℕ) → s.cuts + 1 ≤ k → portion s k ≡ 2 * portion (half_of s) k
portion_half s k h = let j = k - (s.cuts + 1) in let x = s.parts * 2 ^ j in
    let twice : portion s k ≡ x * 2 = ap (λ (i : ℕ). s.parts * 2 ^ i)
    (let z : k - s.cuts ≡ j + 1 = omega (arith, h) in z) ∙ ap (λ (y : ℕ). s.parts * y) (pow-add 2 j 1)
    ∙ sym (mul_assoc s.parts (2 ^ j) 2) in omega (arith, twice)

pub portion_whole : (s : Share) (k : ℕ) → s.cuts ≤ k → IsWhole s → portion s k ≡ 2 ^ k
portion_whole s k h whole = ap (λ (x : ℕ). x * 2 ^ (k - s.cuts)) whole ∙ sym (pow-add 2 s.cuts (k - s.cuts))
    ∙ ap (λ (j : ℕ). 2 ^ j) (let z : s.cuts + (k - s.cuts) ≡ k = omega (arith, h) in z)

portion_positive : (s : Share) (k : ℕ) → 0 < s.parts → 0 < portion s k
portion_positive s k some-part = mul-pos some-part (pow_pos (k - s.cuts))

-- a step after which the seat's share is as it was
pub shares_turn : (views : List View) (i : ℕ) (v w : View) → SharesOk views → get_elem? views i ≡ some v
    → w.share ≡ v.share → w.places ≡ v.places → (v.places ≡ 0 → IsBare v → IsBare w) → SharesOk (set views i w)
shares_turn views i v w o me same informed bare = record {
  from = o.from;
  cut = seats_turn (λ u. u.share.cuts ≤ o.from) views i w (omega (arith, ap (λ (s : Share). s.cuts) same, o.cut i v me))
      (λ j u ne e. o.cut j u e);
  whole = λ k h. (let z : total (λ u. portion u.share k) (set views i w) ≡ total (λ u. portion u.share k) views =
      omega (arith, total-set (λ u. portion u.share k) views i v w me, ap (λ (s : Share). portion s k) same) in z)
      ∙ o.whole k h;
  positive = seats_turn (λ u. 0 < u.places → 0 < u.share.parts) views i w
      (λ wide. omega (arith, ap (λ (s : Share). s.parts) same, o.positive i v me (omega (arith, informed, wide))))
      (λ j u ne e. o.positive j u e);
  bare = seats_turn (λ u. u.places ≡ 0 → IsBare u) views i w
      (λ none. let z : v.places ≡ 0 = sym informed ∙ none in bare z (o.bare i v me z)) (λ j u ne e. o.bare j u e);
}

pub shares_split : (views : List View) (i : ℕ) (v : View) → SharesOk views → get_elem? views i ≡ some v
    → SharesOk (set views i (with_half_share v) ++ fresh_seat v ∷ [])
shares_split views i v o me = let w = with_half_share v in let u = fresh_seat v in let vs = set views i w in
    let n = o.from + 1 in
    let each : (F : View → Type 0) → EachSeat F views → F w → F u
    → EachSeat F (vs ++ u ∷ []) = λ F old one two j x e.
    ⊎_elim (λ h. seats_turn F views i w one (λ a y ne f. old a y f) j x h) (λ h. subst F h two)
    (at_snoc vs u x j e) in record {
      from = n;
      cut = each (λ x. x.share.cuts ≤ n) (λ j x e. omega (arith, o.cut j x e)) (omega (arith, o.cut i v me))
          (omega (arith, o.cut i v me));
      whole = λ k h. let g : View → ℕ = λ x. portion x.share k in
          (let z : total g (vs ++ u ∷ []) ≡ total g views = omega (
            arith,
            total-append g vs (u ∷ []),
            total-set g views i v w me,
            portion_half v.share k (omega (arith, h, o.cut i v me)),
          ) in z) ∙ o.whole k (omega (arith, h));
      positive = each (λ x. 0 < x.places → 0 < x.share.parts) o.positive (o.positive i v me) (o.positive i v me);
      bare = each (λ x. x.places ≡ 0 → IsBare x) o.bare
          (λ none. let b = o.bare i v me none in record {
            added = b.added;
            claims = b.claims;
            given_up = b.given_up;
            announced = b.announced;
            owed = b.owed;
            verdicts = b.verdicts;
            uncounted = b.uncounted;
          })
          (λ none. record {
            added = refl;
            claims = refl;
            given_up = refl;
            announced = refl;
            owed = refl;
            verdicts = refl;
            uncounted = refl;
          });
    }

pub shares_join : (views : List View) (i j : ℕ) (v w both : View) → SharesOk views → get_elem? views i ≡ some v
    → get_elem? views j ≡ some w → get_elem? (set views i both) j ≡ some w
    → both.share ≡ both_shares v.share w.share → both.places ≡ v.places → 0 < v.places
    → SharesOk (set (set views i both) j spent_view)
shares_join views i j v w both o me it still sum informed wide = let vs = set (set views i both) j spent_view in
    let a = o.cut i v me in let b = o.cut j w it in
    let top : both.share.cuts ≡ max v.share.cuts w.share.cuts = ap (λ (s : Share). s.cuts) sum in
    let at : (k : ℕ) → o.from ≤ k → portion both.share k ≡ portion v.share k + portion w.share k =
    λ k h. ap (λ (s : Share). portion s k) sum ∙ portion_both v.share w.share k (omega (arith, a, h))
    (omega (arith, b, h)) in
    let parts : both.share.parts ≡ portion v.share (max v.share.cuts w.share.cuts)
    + portion w.share (max v.share.cuts w.share.cuts) = ap (λ (s : Share). s.parts) sum in
    let each : (F : View → Type 0) → F both → F spent_view → EachSeat F views → EachSeat F vs = λ F b p rest.
    seats_turn F (set views i both) j spent_view p (λ a x ne e. seats_turn F views i both b (λ c y n f. rest c y f) a x
    e) in record {
      from = o.from;
      cut = each (λ x. x.share.cuts ≤ o.from) (omega (arith, top, a, b)) (omega arith) o.cut;
      whole = λ k h. let g : View → ℕ = λ x. portion x.share k in
          (let z : total g vs ≡ total g views = omega (
            arith,
            total-set g views i v both me,
            total-set g (set views i both) j w spent_view still,
            at k h,
          ) in z) ∙ o.whole k h;
      positive = each (λ x. 0 < x.places → 0 < x.share.parts)
          (λ _. omega (arith, parts, portion_positive v.share (max v.share.cuts w.share.cuts) (o.positive i v me wide)))
          (λ none. absurd (omega (arith, none))) o.positive;
      bare = each (λ x. x.places ≡ 0 → IsBare x) (λ none. absurd (omega (arith, none, informed, wide)))
          (λ none. record {
            added = refl;
            claims = refl;
            given_up = refl;
            announced = refl;
            owed = refl;
            verdicts = refl;
            uncounted = refl;
          }) o.bare;
    }

total_none : (g : View → ℕ) (views : List View) → ((j : ℕ) (u : View) → get_elem? views j ≡ some u → g u ≡ 0)
    → total g views ≡ 0
total_none g [] none = refl
total_none g (x ∷ xs) none = omega (arith, none 0 x refl, total_none g xs (λ j u e. none (suc j) u e))

-- the sum is that of one seat, where nothing of another counts
total_only : (g : View → ℕ) (views : List View) (i : ℕ) (v : View) → get_elem? views i ≡ some v
    → ((j : ℕ) (u : View) → j ≢ i → get_elem? views j ≡ some u → g u ≡ 0) → total g views ≡ g v
total_only g [] i v e none = absurd (some-ne-none v (sym e))
total_only g (x ∷ xs) zero v e none = omega (
  arith,
  ap g (some-injective x v e),
  total_none g xs (λ j u f. none (suc j) u (λ z. omega (arith, z)) f),
)
total_only g (x ∷ xs) (suc i) v e none = omega (
  arith,
  none 0 x (λ z. omega (arith, z)) refl,
  total_only g xs i v e (λ j u ne f. none (suc j) u (λ z. ne (omega (arith, z))) f),
)

-- a seat that has the whole board is alone: nothing of another counts
others_bare : (views : List View) (i : ℕ) (v : View) → SharesOk views → get_elem? views i ≡ some v → IsWhole v.share
    → (j : ℕ) (u : View) → j ≢ i → get_elem? views j ≡ some u → IsBare u
others_bare views i v o me whole j u ne e = let k = o.from in dite (ℕ_discrete u.places 0) (λ none. o.bare j u e none)
    (λ wide. let all : total (λ x. portion x.share k) views ≡ portion v.share k = o.whole k (omega arith)
    ∙ sym (portion_whole v.share k (o.cut i v me) whole) in
    absurd (omega (
      arith,
      all,
      terms_le (λ x. portion x.share k) views i j v u ne me e,
      portion_positive u.share k (o.positive j u e (omega (arith, wide))),
    )))

pub alone_total : (views : List View) (i : ℕ) (v : View) → SharesOk views → get_elem? views i ≡ some v → IsWhole v.share
    → (g : View → ℕ) → ((u : View) → IsBare u → g u ≡ 0) → total g views ≡ g v
alone_total views i v o me whole g none = total_only g views i v me
    (λ j u ne e. none u (others_bare views i v o me whole j u ne e))

pub bare_claims : (p : ℕ) (u : View) → IsBare u → claims_on p u ≡ 0
bare_claims p u b = omega (arith, claim_none u p b.claims, ap (times_among p) b.given_up)

pub bare_times : (p : ℕ) (u : View) → IsBare u → times p u ≡ 0
bare_times p u b = ap (times_among p) b.added
