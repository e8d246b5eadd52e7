-- The broken entries of a closed board, and the number of its entries.
use Rattle.std.proofs.Common.{◌≡◌, ◌≢◌, ℕ, zero, suc, ◌+◌, ◌*◌, ◌%◌, ◌<◌, ◌≤◌, List, [], ◌∷◌, ◌++◌, length, get_or}
use Rattle.std.proofs.Common.{take, arith, length-append, refl, sym, ap, ◌∙◌, subst, ⊎_elim}
use Rattle.std.specs.List.{Contains, concat}
use Rattle.std.proofs.lemmas.List.Elements.{All-contains, All-weaker, Contains-append_left, Contains-push}
use mathlib.Core.Logic.{dite}
use native.Mathlib.Decide.{dec_le}
use Rattle.state_space.specs.Reach.{IsReached}
use Rattle.state_space.specs.Counts.{IsListOf}
use Rattle.board_rule.specs.Lists.{row_of}
use Rattle.board_rule.specs.declared.life.Life.TheVariants.{Broken}
use Rattle.patch_sets.proofs.DistinctWords.{some_push}
use Rattle.seen_board.specs.Ended.{Ended, life_of_entry, Entries, AreSettled, IsDone}
use Rattle.explorers.specs.Entries.{IsBrokenBefore, AreDistinct, AreShort}

-- the rows so far, with one more
concat_more : (rows : List (List ℕ)) (q : ℕ) → q < length rows
    → length (concat (take (suc q) rows)) ≡ length (concat (take q rows)) + length (row_of rows q)
concat_more [] q h = absurd (omega (arith, h))
concat_more (row ∷ rows) zero h = length-append row [] ∙ omega arith
concat_more (row ∷ rows) (suc q) h =
    let more : length (concat (take (suc (suc q)) (row ∷ rows))) ≡ length row + length (concat (take (suc q) rows)) =
    length-append row (concat (take (suc q) rows)) in
    let before : length (concat (take (suc q) (row ∷ rows))) ≡ length row + length (concat (take q rows)) =
    length-append row (concat (take q rows)) in
    let rest : length (concat (take (suc q) rows)) ≡ length (concat (take q rows))
    + length (row_of (row ∷ rows) (suc q)) = concat_more rows q (omega (arith, h)) in
    omega (arith, more, before, rest)

pub concat_next : (rows : List (List ℕ)) (q : ℕ) → q < length rows
    → length (concat (take (q + 1) rows)) ≡ length (concat (take q rows)) + length (row_of rows q)
concat_next rows q h = let one : q + 1 ≡ suc q = omega arith in ap (λ (n : ℕ). length (concat (take n rows))) one
    ∙ concat_more rows q h

pub take_all : (rows : List (List ℕ)) (n : ℕ) → length rows ≡ n → take n rows ≡ rows
take_all [] zero h = refl
take_all [] (suc n) h = absurd (omega (arith, h))
take_all (row ∷ rows) zero h = absurd (omega (arith, h))
take_all (row ∷ rows) (suc n) h = ap (λ (l : List (List ℕ)). row ∷ l) (take_all rows n (omega (arith, h)))

pub same_list : (P Q : ℕ → Type 0) (words : List ℕ) → ((w : ℕ) → P w → Q w) → ((w : ℕ) → Q w → P w) → IsListOf P words
    → IsListOf Q words
same_list P Q words to from list = record {
  distinct = list.distinct;
  each = All-weaker P Q to words list.each;
  every = λ w q. list.every w (from w q);
}

module _ (e : Ended) where
  pub none_before : IsListOf (IsBrokenBefore e 0 0) []
  none_before = record {
    distinct = λ i j d up within. absurd (omega (arith, within));
    each = λ k d within. absurd (omega (arith, within));
    every = λ w b. absurd (omega (arith, b.before));
  }

  -- a broken entry that is before another place too
  before_at : (q k p j w : ℕ) (b : IsBrokenBefore e q k w) → b.shard * 65536 + b.at < p * 65536 + j
      → IsBrokenBefore e p j w
  before_at q k p j w b h =
      record { shard = b.shard; at = b.at; near = b.near; inside = b.inside; before = h; is = b.is; life = b.life }

  later : (q k p j : ℕ) → q * 65536 + k ≤ p * 65536 + j → (w : ℕ) → IsBrokenBefore e q k w → IsBrokenBefore e p j w
  later q k p j h w b = before_at q k p j w b (omega (arith, h, b.before))

  module _ (short : AreShort e.rows) where
    module _ (q k : ℕ) (near : q < 13) (inside : k < length (row_of e.rows q)) where
      -- a broken entry up to place k is before it or at it
      up_to : (w : ℕ) → IsBrokenBefore e q (k + 1) w → (shard at : ℕ) → (shard ≡ q → at ≡ k → ⊥)
          → shard * 65536 + at < q * 65536 + (k + 1) → at < 32768 → shard * 65536 + at < q * 65536 + k
      up_to w b shard at other h small = dite (dec_le (suc (shard * 65536 + at)) (q * 65536 + k))
          (λ yes. omega (arith, yes))
          (λ no. let fits = short q near in let same : shard ≡ q = omega (arith, no, h, small, inside, fits) in
          absurd (other same (omega (arith, no, h, same))))

      pub other_stays : (l : List ℕ) → life_of_entry e q k ≢ Broken → IsListOf (IsBrokenBefore e q k) l
          → IsListOf (IsBrokenBefore e q (k + 1)) l
      other_stays l whole = same_list (IsBrokenBefore e q k) (IsBrokenBefore e q (k + 1)) l
          (later q k q (k + 1) (omega arith))
          (λ w b. before_at q (k + 1) q k w b (let fits = short b.shard b.near in
          up_to w b b.shard b.at (λ s a. whole
          (subst (λ p. life_of_entry e p k ≡ Broken) s
          (subst (λ j. life_of_entry e b.shard j ≡ Broken) a b.life))) b.before (omega (arith, b.inside, fits))))

      pub broken_push : (l : List ℕ) → AreDistinct e.rows → life_of_entry e q k ≡ Broken
          → IsListOf (IsBrokenBefore e q k) l → IsListOf (IsBrokenBefore e q (k + 1))
          (l ++ get_or (row_of e.rows q) k 0 ∷ [])
      broken_push l apart broken list =
          let x = get_or (row_of e.rows q) k 0 in
          let P = IsBrokenBefore e q k in
          let Q = IsBrokenBefore e q (k + 1) in
          let is_x : Q x = record {
            shard = q;
            at = k;
            near = near;
            inside = inside;
            before = omega arith;
            is = refl;
            life = broken;
          } in
          let absent : Contains l x → ⊥ = λ has. let b = All-contains P l x list.each has in
          let same = apart b.shard q b.at k b.near near b.inside inside b.is in
          omega (arith, b.before, same.0, same.1) in
          let some = some_push Q l x record {
            distinct = list.distinct;
            each = All-weaker P Q (later q k q (k + 1) (omega arith)) l list.each;
          } is_x absent in
          record {
            distinct = some.distinct;
            each = some.each;
            every = λ w b. dite (dec_le (suc (b.shard * 65536 + b.at)) (q * 65536 + k))
                (λ yes. Contains-append_left l (x ∷ []) w
                (list.every w (before_at q (k + 1) q k w b (omega (arith, yes)))))
                (λ no. let fits = short q near in let small = short b.shard b.near in
                let s : b.shard ≡ q = omega (arith, no, b.before, b.inside, small, inside, fits) in
                let a : b.at ≡ k = omega (arith, no, b.before, s) in
                subst (Contains (l ++ x ∷ [])) (subst (λ p. get_or (row_of e.rows p) k 0 ≡ w) s
                (subst (λ j. get_or (row_of e.rows b.shard) j 0 ≡ w) a b.is)) (Contains-push l x));
          }

    -- at the end of a row the next one starts
    pub row_done : (q : ℕ) (l : List ℕ) → q < 13 → IsListOf (IsBrokenBefore e q (length (row_of e.rows q))) l
        → IsListOf (IsBrokenBefore e (q + 1) 0) l
    row_done q l near = let fits = short q near in same_list (IsBrokenBefore e q (length (row_of e.rows q)))
        (IsBrokenBefore e (q + 1) 0) l (later q (length (row_of e.rows q)) (q + 1) 0 (omega (arith, fits)))
        (λ w b. before_at (q + 1) 0 q (length (row_of e.rows q)) w b (let small = short b.shard b.near in
        dite (dec_le (suc b.shard) q) (λ less. omega (arith, less, b.inside, small))
        (λ no. let s : b.shard ≡ q = omega (arith, no, b.before) in
        let inside : b.at < length (row_of e.rows q) = subst (λ p. b.at < length (row_of e.rows p)) s b.inside in
        omega (arith, s, inside))))

  -- on a finished board the broken entries are the words that are reached and not good
  pub broken_all : (next : ℕ → List ℕ) (origin limit : ℕ) (good : ℕ → Type 0) (l : List ℕ)
      → Entries next origin limit e.rows → AreSettled next good e → IsDone next origin e → AreShort e.rows
      → IsListOf (IsBrokenBefore e 13 0) l → IsListOf (λ w. IsReached next origin w × (good w → ⊥)) l
  broken_all next origin limit good l entries settled done short =
      same_list (IsBrokenBefore e 13 0) (λ w. IsReached next origin w × (good w → ⊥)) l
      (λ w b. (
        subst (IsReached next origin) b.is (entries.reached b.shard b.at b.near b.inside),
        λ well. settled.broken b.shard b.at b.near b.life (subst good (sym b.is) well),
      ))
      (λ w r. let has = done.every w r.0 in let near : w % 13 < 13 = omega arith in let small = short (w % 13) near in
      let life : life_of_entry e (w % 13) has.0 ≡ Broken =
      ⊎_elim (λ clean. absurd (r.1 (subst good has.2 (settled.clean (w % 13) has.0 near clean)))) (λ broken. broken)
      (done.settled (w % 13) has.0 near has.1) in
      record {
        shard = w % 13;
        at = has.0;
        near = near;
        inside = has.1;
        before = omega (arith, near, has.1, small);
        is = has.2;
        life = life;
      })
