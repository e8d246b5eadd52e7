-- Seats that have a whole board together.
use Rattle.std.proofs.Common.{◌≡◌, ℕ, zero, suc, ◌+◌, ◌-◌, ◌*◌, ◌^◌, ◌<◌, ◌≤◌, List, [], ◌∷◌, ◌++◌, length, get_or, ap}
use Rattle.std.proofs.Common.{refl, subst, arith}
use Rattle.std.specs.Prelude.{Some, max}
use Rattle.std.proofs.lemmas.List.Elements.{All-push, All-pop}
use Rattle.board_rule.specs.Lists.{total}
use Rattle.board_rule.specs.Views.{Share, portion}
use Rattle.board_rule.specs.Changes.{half_of, both_shares}
use Rattle.board_rule.specs.Rule.{IsWhole}
use Rattle.board_rule.proofs.Shares.{portion_whole, portion_half, portion_both}
use Rattle.board_rule.proofs.Sums.{total-append}
use Rattle.explorers.specs.Shares.{MakeWhole}

module _ {T : Type 0} (share_of : T → Share) where
  -- one seat alone
  pub whole_alone : (own : Share) → IsWhole own → MakeWhole own share_of []
  whole_alone own whole k cut cuts = omega (arith, portion_whole own k cut whole)

  pub whole_end : (own : Share) (others : List T) → length others ≡ 0 → MakeWhole own share_of others → IsWhole own
  whole_end own (other ∷ others) none all = absurd (omega (arith, none))
  whole_end own [] none all =
      let zero_left : own.cuts - own.cuts ≡ 0 = omega arith in
      let one : portion own own.cuts ≡ own.parts * 1 = ap (λ (j : ℕ). own.parts * 2 ^ j) zero_left in
      let sum = all own.cuts (omega arith) (λ k d inside. absurd (omega (arith, inside))) in
      omega (arith, one, sum)

  -- one more, which has half of a share
  pub whole_split : (own half : Share) (others : List T) (more : T) → half ≡ half_of own → share_of more ≡ half_of own
      → MakeWhole own share_of others → MakeWhole half share_of (others ++ more ∷ [])
  whole_split own half others more kept given all k cut cuts =
      let low : own.cuts + 1 ≤ k = omega (arith, ap (λ (s : Share). s.cuts) kept, cut) in
      let before = all k (omega (arith, low))
      (All-pop (λ other. (share_of other).cuts ≤ k) (others ++ more ∷ []) others (Some more) refl cuts).0 in
      omega (
        arith,
        before,
        portion_half own k low,
        total-append (λ other. portion (share_of other) k) others (more ∷ []),
        ap (λ (s : Share). portion s k) kept,
        ap (λ (s : Share). portion s k) given,
      )

  -- one fewer, whose share is added
  pub whole_join : (own both : Share) (all others : List T) (last : T) → all ≡ others ++ last ∷ []
      → both ≡ both_shares own (share_of last) → MakeWhole own share_of all → MakeWhole both share_of others
  whole_join own both all others last is sum whole k cut cuts =
      let top : both.cuts ≡ max own.cuts (share_of last).cuts = ap (λ (s : Share). s.cuts) sum in
      let a : own.cuts ≤ k = omega (arith, top, cut) in
      let b : (share_of last).cuts ≤ k = omega (arith, top, cut) in
      let before = subst (MakeWhole own share_of) is whole k a
      (All-push (λ other. (share_of other).cuts ≤ k) others last cuts b) in
      omega (
        arith,
        before,
        portion_both own (share_of last) k a b,
        total-append (λ other. portion (share_of other) k) others (last ∷ []),
        ap (λ (s : Share). portion s k) sum,
      )

-- each of the second list has a value that one of the first has at its place
abbrev pub Match : {W L V : Type 0} → (W → V) → (L → V) → List W → List L → Type 0
Match {W = W} {L = L} f g ws ls =
    (n : ℕ) (d : L) → n < length ls → (w : W) × ((e : W) → get_or ws n e ≡ w) × (g (get_or ls n d) ≡ f w)

total_same : {W L : Type 0} (f : W → ℕ) (g : L → ℕ) (ws : List W) (ls : List L) → length ls ≡ length ws
    → Match f g ws ls → total g ls ≡ total f ws
total_same f g [] [] long each = refl
total_same f g [] (l ∷ ls) long each = absurd (omega (arith, long))
total_same f g (w ∷ ws) [] long each = absurd (omega (arith, long))
total_same f g (w ∷ ws) (l ∷ ls) long each =
    let first = each 0 l (omega arith) in
    omega (
      arith,
      first.2,
      ap f (first.1 w),
      total_same f g ws ls (omega (arith, long)) (λ n d inside. each (suc n) d (omega (arith, inside))),
    )

cuts_same : {W L : Type 0} (f : W → Share) (g : L → Share) (k : ℕ) (ws : List W) (ls : List L)
    → length ls ≡ length ws → Match f g ws ls → ((n : ℕ) (d : L) → n < length ls → (g (get_or ls n d)).cuts ≤ k)
    → (n : ℕ) (d : W) → n < length ws → (f (get_or ws n d)).cuts ≤ k
cuts_same f g k [] ls long each cuts n d inside = absurd (omega (arith, inside))
cuts_same f g k (w ∷ ws) [] long each cuts n d inside = absurd (omega (arith, long))
cuts_same f g k (w ∷ ws) (l ∷ ls) long each cuts zero d inside =
    let first = each 0 l (omega arith) in
    omega (
      arith,
      cuts 0 l (omega arith),
      ap (λ (s : Share). s.cuts) first.2,
      ap (λ x. (f x).cuts) (first.1 w),
    )
cuts_same f g k (w ∷ ws) (l ∷ ls) long each cuts (suc n) d inside =
    cuts_same f g k ws ls (omega (arith, long)) (λ n d inside. each (suc n) d (omega (arith, inside)))
    (λ n d inside. cuts (suc n) d (omega (arith, inside))) n d (omega (arith, inside))

-- workers that leave the shares that they began with
pub whole_left : {W L : Type 0} (f : W → Share) (g : L → Share) (own : Share) (ws : List W) (ls : List L)
    → length ls ≡ length ws → Match f g ws ls → MakeWhole own f ws → MakeWhole own g ls
whole_left f g own ws ls long each whole k cut cuts =
    let same = total_same (λ w. portion (f w) k) (λ l. portion (g l) k) ws ls long
    (λ n d inside. let m = each n d inside in (m.0, m.1, ap (λ (s : Share). portion s k) m.2)) in
    let before = whole k cut (cuts_same f g k ws ls long each cuts) in
    omega (arith, before, same)
