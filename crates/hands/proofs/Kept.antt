-- A hand stays a hand of its call.
use Rattle.std.proofs.Common.{◌≡◌, ◌+◌, ◌<◌, ℕ, suc, List, ◌∷◌, Option, Some, None, MatchOption, set, take}
use Rattle.std.proofs.Common.{drop, sum_by, get_or, length, All, ap, sym, subst, ◌∙◌, arith}
use Rattle.std.proofs.lemmas.List.{length-map, map-set, set-get_or, get_or-map, get_or_default}
use Rattle.std.specs.List.{remove}
use Rattle.std.proofs.lemmas.List.Sums.{sum_by-append, sum_by-drop_more, sum_by-take-drop}
use Rattle.std.proofs.lemmas.List.Elements.{All-set, All-append, All-take, All-drop, All-same}
use Rattle.atomic_blocks.specs.Lent.{RowsId}
use Rattle.hands.specs.Accounts.{with_taken}
use Rattle.hands.specs.Known.{Way, Known}
use Rattle.hands.specs.Together.{way_homes, hand_homes, IsWay, AreWays, AreFresh, AreTogether, IsHandOf, IsSameHand}
use Rattle.hands.specs.Remaining.{LeadsTo}

module _ {T A : Type 0} where
  -- a way after one steal
  pub way-kept : (r : Option T) (before after : Way T A)
      → MatchOption r (after ≡ before) (λ task. after ≡ record before { holds = with_taken before.holds task })
      → (after.home ≡ before.home) × (IsWay before → IsWay after)
  way-kept None before after e = (ap (λ (w : Way T A). w.home) e, subst IsWay (sym e))
  way-kept (Some task) before after e = (ap (λ (w : Way T A). w.home) e, subst IsWay (sym e))

  pub ways-set : (homes : List (RowsId × A)) (ways : List (Way T A)) (i : ℕ) (before after : Way T A) → i < length ways
      → before ≡ get_or ways i before → after.home ≡ before.home
      → (IsWay before → IsWay after) → AreWays homes ways → AreWays homes (set ways i after)
  ways-set homes ways i before after within at home keeps old =
      let same : way_homes (set ways i after) ≡ way_homes ways =
      map-set (λ w. w.home) ways i after
      ∙ ap (λ h. set (way_homes ways) i h) (home ∙ ap (λ (w : Way T A). w.home) at)
      ∙ sym (map-set (λ w. w.home) ways i (get_or ways i before))
      ∙ ap way_homes (set-get_or ways i before) in
      let was : IsWay before = subst IsWay (sym at) (old.1 i before within) in
      (same ∙ old.0, All-set IsWay ways i after (keeps was) old.1)

  -- the hands of one call stay together where one of them makes its calls
  pub together-set : (hands : List (Known T A)) (i : ℕ) (before after : Known T A) → i < length hands
      → before ≡ get_or hands i before → IsSameHand before after
      → AreTogether hands → AreTogether (set hands i after)
  together-set hands i before after within at same old =
      let was : IsHandOf old.homes before = subst (IsHandOf old.homes) (sym at) (old.each i before within) in
      let homes : hand_homes (set hands i after) ≡ hand_homes hands =
      map-set (λ h. h.home) hands i after
      ∙ ap (λ h. set (hand_homes hands) i h) (same.0 ∙ ap (λ (h : Known T A). h.home) at)
      ∙ sym (map-set (λ h. h.home) hands i (get_or hands i before))
      ∙ ap hand_homes (set-get_or hands i before) in
      record {
        homes = old.homes;
        few = old.few;
        own = homes ∙ old.own;
        each = All-set (IsHandOf old.homes) hands i after (same.1 old.homes was) old.each;
      }

  pub fresh-together : (workers : ℕ) (hands : List (Known T A)) → workers < 17 → AreFresh workers hands
      → AreTogether hands
  fresh-together workers hands few fresh = record {
    homes = fresh.homes;
    few = omega (arith, few, fresh.count);
    own = fresh.own;
    each = λ k d l.
        let hand = fresh.each k d l in (
          ap (λ v. v.parts) hand.0,
          (
            hand.1.0,
            λ j e m. (
              ap (λ v. v.parts) (hand.1.1 j e m),
              ap (λ v. v.pushed) (hand.1.1 j e m),
            ),
          ),
        );
  }

  -- the way of a hand to a deque of its call
  pub leads : (homes : List (RowsId × A)) (of : ℕ) (hand : Known T A) (h : RowsId × A) → of < length homes
      → IsHandOf homes hand → LeadsTo (get_or homes of h) of hand
  leads homes of hand h within is =
      let ways = hand.ways in
      let count : length ways ≡ length homes = sym (length-map ways (λ w. w.home)) ∙ ap length is.1.0 in
      let near : of < length ways = omega arith in (
        near,
        λ e. (
          sym (get_or-map (λ w. w.home) ways of e h near) ∙ ap (λ hs. get_or hs of h) is.1.0,
          is.1.1 of e near,
        ),
      )

  -- ---- all hands come back

  pub same-way : (hand : Known T A) (of : ℕ) (e way : Way T A) → of < length hand.ways → way ≡ get_or hand.ways of way
      → get_or hand.ways of e ≡ way
  same-way hand of e way within at = get_or_default hand.ways of e way within ∙ sym at

  pub first-leads : (home : RowsId × A) (of : ℕ) (hand : Known T A) (rest hands : List (Known T A))
      → hands ≡ hand ∷ rest → All (LeadsTo home of) hands → LeadsTo home of hand
  first-leads home of hand rest hands step all = subst (All (LeadsTo home of)) step all 0 hand (omega arith)

  pub all-lead : (hands : List (Known T A)) (of : ℕ) (owner : Known T A) → AreTogether hands → of < length hands
      → owner ≡ get_or hands of owner → All (LeadsTo owner.home of) hands
  all-lead hands of owner old within at k d l =
      let count : length hands ≡ length old.homes = sym (length-map hands (λ h. h.home)) ∙ ap length old.own in
      let home : get_or old.homes of owner.home ≡ owner.home =
      ap (λ hs. get_or hs of owner.home) (sym old.own) ∙ get_or-map (λ h. h.home) hands of owner owner.home within
      ∙ sym (ap (λ (h : Known T A). h.home) at) in
      subst (λ to. LeadsTo to of (get_or hands k d)) home (leads old.homes of (get_or hands k d) owner.home
      (omega arith) (old.each k d l))

  -- the owner's own way
  pub owner-leads : (hands : List (Known T A)) (of : ℕ) (owner : Known T A) → AreTogether hands → of < length hands
      → owner ≡ get_or hands of owner → LeadsTo owner.home of owner
  owner-leads hands of owner old within at = subst (LeadsTo owner.home of) (sym at)
      (all-lead hands of owner old within at of owner within)

  pub all-parts : (hands : List (Known T A)) (of : ℕ) (owner : Known T A) → AreTogether hands → of < length hands
      → owner ≡ get_or hands of owner → owner.own.parts + length hands ≡ 17
  all-parts hands of owner old within at =
      let count : length hands ≡ length old.homes = sym (length-map hands (λ h. h.home)) ∙ ap length old.own in
      let is : IsHandOf old.homes owner = subst (IsHandOf old.homes) (sym at) (old.each of owner within) in
      omega (arith, is.0, old.few)

  pub All-removed : (P : Known T A → Type 0) (hands rest : List (Known T A)) (of : ℕ) → rest ≡ remove hands of
      → All P hands → All P rest
  All-removed P hands rest of is all = All-same P rest (remove hands of) is
      (All-append P (take of hands) (drop (suc of) hands) (All-take P of hands all) (All-drop P (suc of) hands all))

  pub sum-removed : (f : Known T A → ℕ) (hands rest : List (Known T A)) (of : ℕ) (d : Known T A) → of < length hands
      → rest ≡ remove hands of → sum_by f rest + f (get_or hands of d) ≡ sum_by f hands
  sum-removed f hands rest of d within is =
      let parts : sum_by f rest ≡ sum_by f (take of hands) + sum_by f (drop (suc of) hands) = ap (sum_by f) is
      ∙ sum_by-append f (take of hands) (drop (suc of) hands) in
      let next : of + 1 ≡ suc of = omega arith in
      let more = sum_by-drop_more f hands of d within in
      let same = ap (λ n. sum_by f (drop n hands)) next in
      omega (arith, parts, more, same, sum_by-take-drop f hands of)
