-- Each move keeps the accounts.
use Rattle.std.proofs.Common.{◌≡◌, ℕ, zero, suc, ◌+◌, ◌-◌, ◌<◌, ◌≤◌, List, [], ◌∷◌, ◌++◌, set, get_or, All, refl, ap}
use Rattle.std.proofs.Common.{sym, ◌∙◌, append-nil, arith}
use mathlib.Core.Option.{some, some-ne-none, some-injective}
use lib.ListN.{get_elem?}
use Rattle.std.proofs.lemmas.List.Elements.{All-set, All-append}
use Rattle.crossbeam_deque.specs.Tasks.{Pushes, Takes, Pops, Admits, Forks, Merges, Learns}
use Rattle.hands.specs.declared.account.Held.{Held}
use Rattle.hands.specs.Accounts.{account_of, weigh, total, IsIdle, IsAccounted}

module _ {T : Type 0} where
  pub weigh-append : (h : T → ℕ) (xs ys : List T) → weigh h (xs ++ ys) ≡ weigh h xs + weigh h ys
  weigh-append h [] ys = omega arith
  weigh-append h (x ∷ xs) ys = let e = weigh-append h xs ys in omega arith

  total-snoc : (f : Held T → ℕ) (vs : List (Held T)) (v : Held T) → total f (vs ++ v ∷ []) ≡ total f vs + f v
  total-snoc f [] v = omega arith
  total-snoc f (u ∷ vs) v = let e = total-snoc f vs v in omega arith

  total-set : (f : Held T → ℕ) (views : List (Held T)) (port : ℕ) (v w : Held T) → get_elem? views port ≡ some v
      → total f (set views port w) + f v ≡ total f views + f w
  total-set f [] port v w e = absurd (some-ne-none v (sym e))
  total-set f (u ∷ views) zero v w e = let same : f u ≡ f v = ap f (some-injective u v e) in omega arith
  total-set f (u ∷ views) (suc port) v w e = let s = total-set f views port v w e in omega arith

  -- ---- a pass's view changes

  head-of : (P : Held T → Type 0) (u : Held T) (vs : List (Held T)) → All P (u ∷ vs) → P u
  head-of P u vs all = all 0 u (omega arith)

  tail-of : (P : Held T → Type 0) (u : Held T) (vs : List (Held T)) → All P (u ∷ vs) → All P vs
  tail-of P u vs all = λ k d lt. all (suc k) d (omega arith)

  busy : (pushed taken : List T) (parts : ℕ) → 0 < parts → IsIdle (account_of pushed taken parts)
  busy pushed taken parts has none = absurd (omega (arith, has, none))

  moved : (port : ℕ) (v w : Held T) (items left : List T) (views : List (Held T)) → IsAccounted items views
      → get_elem? views port ≡ some v
      → w.parts ≡ v.parts → IsIdle w
      → ((h : T → ℕ) → weigh h w.pushed + weigh h v.taken + weigh h items ≡ weigh h v.pushed + weigh h w.taken
      + weigh h left)
      → IsAccounted left (set views port w)
  moved port v w items left views old at same idle even = record {
    parts = let s = total-set (λ u. u.parts) views port v w at in omega (arith, s, old.parts, same);
    idle = All-set IsIdle views port w idle old.idle;
    balance = λ h.
        let s = total-set (λ u. weigh h u.pushed) views port v w at in
        let t = total-set (λ u. weigh h u.taken) views port v w at in
        let b = old.balance h in
        let e = even h in
        omega (arith, s, t, b, e);
  }

  pub begins : IsAccounted {T = T} [] (account_of [] [] 17 ∷ [])
  begins = record { parts = refl; idle = λ k d lt. one k d lt; balance = λ h. refl }
    where
      one : (k : ℕ) (d : Held T) → k < 1 → IsIdle (get_or (account_of {T = T} [] [] 17 ∷ []) k d)
      one zero d lt = λ none. (refl, refl)
      one (suc k) d lt = absurd (omega (arith, lt))

  pub pushes : (port : ℕ) (v : Held T) (xs : List T) → 0 < v.parts
      → Pushes IsAccounted port v xs (λ w. w ≡ account_of (v.pushed ++ xs) v.taken v.parts)
  pushes port v xs has items views old at =
      let w = account_of (v.pushed ++ xs) v.taken v.parts in (
        w,
        moved port v w items (items ++ xs) views old at refl (busy _ _ _ has)
            (λ h. omega (arith, weigh-append h v.pushed xs, weigh-append h items xs)),
        refl,
      )

  pub takes : (port : ℕ) (v : Held T) → 0 < v.parts → Takes IsAccounted port v 1
      (λ xs w. w ≡ account_of v.pushed (v.taken ++ xs) v.parts)
  takes port v has xs items views _ _ old at =
      let w = account_of v.pushed (v.taken ++ xs) v.parts in (
        w,
        moved port v w (xs ++ items) items views old at refl (busy _ _ _ has)
            (λ h. omega (arith, weigh-append h v.taken xs, weigh-append h xs items)),
        refl,
      )

  pub pops : (port : ℕ) (v : Held T) → 0 < v.parts → Pops IsAccounted port v
      (λ xs w. w ≡ account_of v.pushed (v.taken ++ xs) v.parts)
  pops port v has x items views old at =
      let w = account_of v.pushed (v.taken ++ x ∷ []) v.parts in (
        w,
        moved port v w (items ++ x ∷ []) items views old at refl (busy _ _ _ has)
            (λ h. omega (arith, weigh-append h v.taken (x ∷ []), weigh-append h items (x ∷ []))),
        refl,
      )

  -- ---- passes come and go

  with-new : (items : List T) (views : List (Held T)) (w : Held T) → total (λ u. u.parts) views + w.parts ≡ 17
      → All IsIdle views → w.pushed ≡ [] → w.taken ≡ []
      → ((h : T → ℕ) → total (λ u. weigh h u.pushed) views ≡ total (λ u. weigh h u.taken) views + weigh h items)
      → IsAccounted items (views ++ w ∷ [])
  with-new items views w parts idle none nothing even = record {
    parts = total-snoc (λ u. u.parts) views w ∙ parts;
    idle = All-append IsIdle views (w ∷ []) idle (one w (λ _. (none, nothing)));
    balance = λ h.
        let s = total-snoc (λ u. weigh h u.pushed) views w in
        let t = total-snoc (λ u. weigh h u.taken) views w in
        let p : weigh h w.pushed ≡ 0 = ap (weigh h) none in
        let q : weigh h w.taken ≡ 0 = ap (weigh h) nothing in
        let b = even h in
        omega (arith, s, t, p, q, b);
  }
    where
      one : (w : Held T) → IsIdle w → All IsIdle (w ∷ [])
      one w is zero d lt = is
      one w is (suc k) d lt = absurd (omega (arith, lt))

  pub admits : Admits IsAccounted (account_of {T = T} [] [] 0)
  admits items views old = with-new items views (account_of [] [] 0) (omega (arith, old.parts)) old.idle refl refl
      old.balance

  pub forks : (port : ℕ) (v : Held T) → 1 < v.parts → Forks IsAccounted port v
      (account_of v.pushed v.taken (v.parts - 1)) (account_of [] [] 1)
  forks port v has items views old at =
      let left = account_of v.pushed v.taken (v.parts - 1) in
      let p = total-set (λ u. u.parts) views port v left at in
      with-new items (set views port left) (account_of [] [] 1)
      (omega (arith, p, old.parts, has))
      (All-set IsIdle views port left (busy _ _ _ (omega (arith, has))) old.idle) refl refl
      (λ h.
      let s = total-set (λ u. weigh h u.pushed) views port v left at in
      let t = total-set (λ u. weigh h u.taken) views port v left at in
      let b = old.balance h in
      omega (arith, s, t, b))

  pub merges : (port : ℕ) (v : Held T) (other : ℕ) (w : Held T) → 0 < v.parts
      → Merges IsAccounted port v other w (account_of (v.pushed ++ w.pushed) (v.taken ++ w.taken) (v.parts + w.parts))
      (account_of [] [] 0)
  merges port v other w has items views old at apart there =
      let both = account_of (v.pushed ++ w.pushed) (v.taken ++ w.taken) (v.parts + w.parts) in
      let mid = set views port both in
      record {
        parts =
            let s = total-set (λ u. u.parts) views port v both at in
            let t = total-set (λ u. u.parts) mid other w (account_of [] [] 0) there in
            omega (arith, s, t, old.parts);
        idle = All-set IsIdle mid other (account_of [] [] 0) (λ _. (refl, refl))
            (All-set IsIdle views port both (busy _ _ _ (omega (arith, has))) old.idle);
        balance = λ h.
            let s = total-set (λ u. weigh h u.pushed) views port v both at in
            let t = total-set (λ u. weigh h u.taken) views port v both at in
            let p = total-set (λ u. weigh h u.pushed) mid other w (account_of [] [] 0) there in
            let q = total-set (λ u. weigh h u.taken) mid other w (account_of [] [] 0) there in
            let b = old.balance h in
            let c = weigh-append h v.pushed w.pushed in
            let d = weigh-append h v.taken w.taken in
            omega (arith, s, t, p, q, b, c, d);
      }

  -- ---- the pass with all parts

  nothing : (f : Held T → ℕ) → ((u : Held T) → u.pushed ≡ [] → u.taken ≡ [] → f u ≡ 0) → (views : List (Held T))
      → total (λ u. u.parts) views ≡ 0 → All IsIdle views → total f views ≡ 0
  nothing f none [] parts idle = refl
  nothing f none (u ∷ views) parts idle =
      let is = head-of IsIdle u views idle (omega (arith, parts)) in
      let here = none u is.0 is.1 in
      let rest = nothing f none views (omega (arith, parts)) (tail-of IsIdle u views idle) in
      omega (arith, here, rest)

  at-most : (f : Held T → ℕ) (views : List (Held T)) (port : ℕ) (v : Held T) → get_elem? views port ≡ some v
      → f v ≤ total f views
  at-most f [] port v e = absurd (some-ne-none v (sym e))
  at-most f (u ∷ views) zero v e = let same : f u ≡ f v = ap f (some-injective u v e) in omega (arith, same)
  at-most f (u ∷ views) (suc port) v e = let s = at-most f views port v e in omega (arith, s)

  alone : (f : Held T → ℕ) → ((u : Held T) → u.pushed ≡ [] → u.taken ≡ [] → f u ≡ 0)
      → (views : List (Held T)) (port : ℕ) (v : Held T) → get_elem? views port ≡ some v
      → total (λ u. u.parts) views ≡ v.parts → All IsIdle views → total f views ≡ f v
  alone f none [] port v e parts idle = absurd (some-ne-none v (sym e))
  alone f none (u ∷ views) zero v e parts idle =
      let same : u ≡ v = some-injective u v e in
      let rest = nothing f none views (omega (arith, parts, ap (λ (x : Held T). x.parts) same))
      (tail-of IsIdle u views idle) in
      let here : f u ≡ f v = ap f same in
      omega (arith, rest, here)
  alone f none (u ∷ views) (suc port) v e parts idle =
      let low = at-most (λ x. x.parts) views port v e in
      let is = head-of IsIdle u views idle (omega (arith, low, parts)) in
      let here = none u is.0 is.1 in
      let rest = alone f none views port v e (omega (arith, low, parts)) (tail-of IsIdle u views idle) in
      omega (arith, here, rest)

  pub learns : (port : ℕ) (v : Held T) → Learns IsAccounted port v
      (λ items. v.parts ≡ 17 → (h : T → ℕ) → weigh h v.pushed ≡ weigh h v.taken + weigh h items)
  learns port v items views old at all h =
      let whole : total (λ u. u.parts) views ≡ v.parts = omega (arith, old.parts, all) in
      let p = alone (λ u. weigh h u.pushed) (λ u none _. ap (weigh h) none) views port v at whole old.idle in
      let q = alone (λ u. weigh h u.taken) (λ u _ none. ap (weigh h) none) views port v at whole old.idle in
      let b = old.balance h in
      omega (arith, p, q, b)

  -- a pass that held no pushed task came back
  pub absorbed : (old new back : Held T) → new ≡ account_of (old.pushed ++ back.pushed) (old.taken ++ back.taken)
      (old.parts + back.parts) → back.pushed ≡ []
      → (new.pushed ≡ old.pushed) × (new.parts ≡ old.parts + back.parts)
      × ((h : T → ℕ) → weigh h new.taken ≡ weigh h old.taken + weigh h back.taken)
  absorbed old new back e none =
      let pushed : new.pushed ≡ old.pushed ++ back.pushed = ap (λ (v : Held T). v.pushed) e in
      let parts : new.parts ≡ old.parts + back.parts = ap (λ (v : Held T). v.parts) e in
      let taken : new.taken ≡ old.taken ++ back.taken = ap (λ (v : Held T). v.taken) e in (
        pushed ∙ ap (λ xs. old.pushed ++ xs) none ∙ append-nil old.pushed,
        parts,
        λ h. ap (weigh h) taken
            ∙ weigh-append h old.taken back.taken,
      )
