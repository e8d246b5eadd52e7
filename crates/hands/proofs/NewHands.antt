-- How hands are made, worker by worker.
use Rattle.std.proofs.Common.{◌≡◌, ℕ, ◌+◌, ◌-◌, ◌<◌, ◌≤◌, List, [], ◌∷◌, ◌++◌, map, set, get_or, take, drop, length}
use Rattle.std.proofs.Common.{All, refl, ap, sym, subst, ◌∙◌, arith, inl, inr}
use Rattle.std.proofs.lemmas.List.{length-set, length-map, length-take-le, map_more, get_or-append_right, get_or-drop}
use Rattle.std.proofs.lemmas.List.{map-set, set-get_or, get_or-map, get_or-set_same, get_or-set_other}
use Rattle.std.proofs.lemmas.Bool.{cases_eq}
use Rattle.std.proofs.lemmas.List.Edits.{map_over_more}
use Rattle.std.proofs.lemmas.List.Elements.{All-set, All-map, All-same}
use Rattle.hands.specs.Accounts.{account_of}
use Rattle.hands.specs.Known.{Way, Known}
use Rattle.hands.specs.Together.{way_homes, hand_homes, IsFreshWay, AreFreshWays, AreFresh}
use Rattle.hands.specs.Steps.{IsBare, with_one_less, new_way}

module _ {T A : Type 0} where
  -- the hands before `worker` have their ways, for which each deque has given a part
  pub record Made (workers worker : ℕ) (hands : List (Known T A)) : Type 0 where
    pub count : length hands ≡ workers
    pub own : All (λ h. h.own ≡ account_of [] [] (17 - worker)) hands
    pub ways : (k : ℕ) (d : Known T A) → k < worker → AreFreshWays (hand_homes hands) (get_or hands k d).ways

  homes-given : (hands : List (Known T A)) → hand_homes (map with_one_less hands) ≡ hand_homes hands
  homes-given [] = refl
  homes-given (h ∷ hands) = ap (λ homes. h.home ∷ homes) (homes-given hands)

  homes-new : (hands : List (Known T A)) → way_homes (map new_way hands) ≡ hand_homes hands
  homes-new [] = refl
  homes-new (h ∷ hands) = ap (λ homes. h.home ∷ homes) (homes-new hands)

  fresh-new : (hands : List (Known T A)) → AreFreshWays (hand_homes hands) (map new_way hands)
  fresh-new hands = (homes-new hands, All-map IsFreshWay new_way hands (λ k d lt. refl))

  -- ---- ways to all

  read-on : (old now : List (Known T A)) (at : ℕ) (h : Known T A) → at < length old
      → now ≡ map with_one_less (take at old) ++ drop at old → h ≡ get_or now at h → h ≡ get_or old at h
  read-on old now at h lt kept read =
      let front : length (map with_one_less (take at old)) ≡ at = length-map (take at old) with_one_less
      ∙ length-take-le at old (omega arith) in
      let place : at + (at - at) ≡ at = omega arith in
      read
      ∙ ap (λ xs. get_or xs at h) kept
      ∙ get_or-append_right (map with_one_less (take at old)) (drop at old) at at h front (omega arith)
      ∙ get_or-drop at old (at - at) h
      ∙ ap (λ n. get_or old n h) place

  pub given-more : (old now : List (Known T A)) (at : ℕ) (h after : Known T A) → at < length old
      → now ≡ map with_one_less (take at old) ++ drop at old → h ≡ get_or now at h
      → after ≡ with_one_less h → set now at after ≡ map with_one_less (take (at + 1) old) ++ drop (at + 1) old
  given-more old now at h after lt kept read is = ap (λ x. set now at x) is
      ∙ map_over_more with_one_less old now at h lt kept read

  pub ways-more : (old now : List (Known T A)) (at : ℕ) (h : Known T A) (ways : List (Way T A)) (way : Way T A)
      → at < length old → now ≡ map with_one_less (take at old) ++ drop at old
      → h ≡ get_or now at h → ways ≡ map new_way (take at old) → way ≡ new_way h
      → ways ++ way ∷ [] ≡ map new_way (take (at + 1) old)
  ways-more old now at h ways way lt kept read made is =
      let here : way ≡ new_way (get_or old at h) = is ∙ ap new_way (read-on old now at h lt kept read) in
      ap (λ xs. xs ++ way ∷ []) made ∙ ap (λ w. map new_way (take at old) ++ w ∷ []) here
      ∙ sym (map_more new_way old at h lt)

  -- ---- worker by worker

  own-given : (worker : ℕ) (h : Known T A) → h.own ≡ account_of [] [] (17 - worker)
      → (with_one_less h).own ≡ account_of [] [] (17 - (worker + 1))
  own-given worker h e =
      let parts : 17 - worker - 1 ≡ 17 - (worker + 1) = omega arith in
      ap (λ v. account_of v.pushed v.taken (v.parts - 1)) e ∙ ap (λ n. account_of [] [] n) parts

  -- worker's hand gets the ways that all deques have given
  fresh-at : (worker : ℕ) (hands given : List (Known T A)) (after : Known T A) → worker < length given
      → given ≡ map with_one_less hands → AreFreshWays (hand_homes hands) after.ways
      → ((k : ℕ) (d : Known T A) → k < worker → AreFreshWays (hand_homes hands) (get_or hands k d).ways)
      → (k : ℕ) (d : Known T A) → k < worker + 1 → AreFreshWays (hand_homes hands)
      (get_or (set given worker after) k d).ways
  fresh-at worker hands given after within gave here old k d l =
      let Has : Known T A → Type 0 = λ h. AreFreshWays (hand_homes hands) h.ways in
      elim (cases_eq k worker) [
        | inl e ↦
            let same : get_or (set given worker after) k d ≡ after = ap (λ j. get_or (set given worker after) j d) e
            ∙ get_or-set_same given worker after d within in
            subst Has (sym same) here
        | inr differ ↦
            let counted : length given ≡ length hands = ap length gave ∙ length-map hands with_one_less in
            let same : get_or (set given worker after) k d ≡ with_one_less (get_or hands k d) =
            get_or-set_other given worker k after d differ
            ∙ ap (λ xs. get_or xs k d) gave
            ∙ get_or-map with_one_less hands k d d (omega arith) in
            subst Has (sym same) (old k d (omega arith))
      ]

  pub begin : (workers : ℕ) (hands : List (Known T A)) → length hands ≡ workers → All IsBare hands
      → Made workers 0 hands
  begin workers hands count bare = record {
    count = count;
    own = λ k d l. (bare k d l).0;
    ways = λ k d l. absurd (omega (arith, l));
  }

  pub parts-left : (workers worker : ℕ) (hands : List (Known T A)) → Made workers worker hands → worker < workers
      → workers ≤ 16 → All (λ h. 1 < h.own.parts) hands
  parts-left workers worker hands made lt few k d l = omega (arith, ap (λ v. v.parts) (made.own k d l))

  pub next : (workers worker : ℕ) (hands given : List (Known T A)) (before after : Known T A)
      → Made workers worker hands → worker < workers → given ≡ map with_one_less hands
      → before ≡ get_or given worker before → after ≡ record before { ways = map new_way hands }
      → Made workers (worker + 1) (set given worker after)
  next workers worker hands given before after old lt gave at is =
      let counted : length given ≡ workers = ap length gave ∙ length-map hands with_one_less ∙ old.count in
      let own : All (λ h. h.own ≡ account_of [] [] (17 - (worker + 1))) given =
      All-same (λ h. h.own ≡ account_of [] [] (17 - (worker + 1))) given (map with_one_less hands) gave
      (All-map (λ h. h.own ≡ account_of [] [] (17 - (worker + 1))) with_one_less hands
      (λ k d l. own-given worker (get_or hands k d) (old.own k d l))) in
      let here : AreFreshWays (hand_homes hands) after.ways =
      subst (λ (h : Known T A). AreFreshWays (hand_homes hands) h.ways) (sym is) (fresh-new hands) in
      let homes : hand_homes (set given worker after) ≡ hand_homes hands =
      map-set (λ h. h.home) given worker after
      ∙ ap (λ (h : Known T A). set (hand_homes given) worker h.home) is
      ∙ ap (λ (h : Known T A). set (hand_homes given) worker h.home) at
      ∙ sym (map-set (λ h. h.home) given worker (get_or given worker before))
      ∙ ap hand_homes (set-get_or given worker before)
      ∙ ap hand_homes gave
      ∙ homes-given hands in
      record {
        count = length-set given worker after ∙ counted;
        own = All-set (λ h. h.own ≡ account_of [] [] (17 - (worker + 1))) given worker after
            (ap (λ (h : Known T A). h.own) is ∙ ap (λ (h : Known T A). h.own) at ∙ own worker before (omega arith)) own;
        ways = λ k d l. subst (λ to. AreFreshWays to (get_or (set given worker after) k d).ways) (sym homes)
            (fresh-at worker hands given after (omega arith) gave here old.ways k d l);
      }

  pub done : (workers : ℕ) (hands : List (Known T A)) → Made workers workers hands → AreFresh workers hands
  done workers hands made =
      let count : length (hand_homes hands) ≡ workers = length-map hands (λ h. h.home) ∙ made.count in
      record {
        homes = hand_homes hands;
        count = count;
        own = refl;
        each = λ k d l. (
          made.own k d l ∙ ap (λ n. account_of [] [] (17 - n)) (sym count),
          made.ways k d (omega (arith, made.count)),
        );
      }

  pub ways-counted : (workers : ℕ) (hands : List (Known T A)) → Made workers workers hands
      → All (λ h. length h.ways ≡ workers) hands
  ways-counted workers hands made k d l =
      let ways = (get_or hands k d).ways in
      sym (length-map ways (λ w. w.home)) ∙ ap length (made.ways k d (omega (arith, made.count))).0
      ∙ length-map hands (λ h. h.home) ∙ made.count
