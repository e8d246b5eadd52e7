-- What the plan of an operation keeps on a sound disk.
use Rattle.std.proofs.Common.{◌≡◌, ℕ, zero, suc, ◌+◌, ◌<◌, ◌≤◌, ◌⊎◌, inl, inr, List, [], ◌∷◌, length, Bool, true, false}
use Rattle.std.proofs.Common.{cond, Ok, ◌||◌, arith, tests, refl, sym, ap, ◌∙◌, subst}
use Rattle.std.specs.Prelude.{◌==◌}
use Rattle.std.specs.List.{filter, list_any, range_with_len}
use Rattle.crash_model.specs.Disk.{Disk}
use Rattle.crash_model.specs.Plan.{plan_of, with_changes}
use Rattle.crash_model.specs.Replay.{is_target}
use Rattle.crash_model.specs.Trace.{touched_blocks}
use Rattle.crash_model.specs.declared.operations.Op.{Op}
use Rattle.crash_model.specs.declared.plans.Change.{Change}
use Rattle.inode_fs.specs.Inside.{GivesName}
use Rattle.inode_fs.proofs.Lands.{Lands, AllLand, plan-lands, with_changes-disk, with_changes-size}
use Rattle.inode_fs.proofs.Counts.{plan-count, SharesBlock, plan-shape}
use Rattle.inode_fs.proofs.Sounds.{plan-keeps}
use Rattle.full_journal_laws.proofs.Transactions.{IsTurn, ArePlaced, AreAimed, change_places}
use Rattle.full_journal_laws.proofs.Logs.{IsGood}
use Rattle.journal_replay.proofs.Targets.{bool_is, same_number}
use Rattle.full_journal_laws.proofs.Targets.{any_filtered}

-- ---- how many blocks changes touch

-- what passes one test passes one of two others
filter_split : (p q r : ℕ → Bool) (xs : List ℕ) → ((x : ℕ) → p x ≡ true → (q x ≡ true) ⊎ (r x ≡ true))
    → length (filter p xs) ≤ length (filter q xs) + length (filter r xs)
filter_split p q r [] h = omega arith
filter_split p q r (x ∷ xs) h = go (p x) (q x) (r x) (h x) (filter_split p q r xs h)
  where
    go : (a b c : Bool) → (a ≡ true → (b ≡ true) ⊎ (c ≡ true))
        → length (filter p xs) ≤ length (filter q xs) + length (filter r xs)
        → length (cond a (x ∷ filter p xs) (filter p xs)) ≤ length (cond b (x ∷ filter q xs) (filter q xs))
        + length (cond c (x ∷ filter r xs) (filter r xs))
    go true true true k i = omega arith
    go true true false k i = omega arith
    go true false true k i = omega arith
    go true false false k i = absurd (elim (k refl) [
      | inl e ↦ (let z : false ≡ true = e in cc)
      | inr e ↦ (let z : false ≡ true = e in cc)
    ])
    go false true true k i = omega arith
    go false true false k i = omega arith
    go false false true k i = omega arith
    go false false false k i = omega arith

none_behind : (c a n : ℕ) → c < a → length (filter (λ b. c == b) (range_with_len a n)) ≡ 0
none_behind c a zero h = refl
none_behind c a (suc n) h = let f : (c == a) ≡ false = other c a h in rw f (none_behind c (a + 1) n (omega arith))
  where
    other : (c a : ℕ) → c < a → (c == a) ≡ false
    other c a h = grind (arith, tests)

one_of_range : (c a n : ℕ) → length (filter (λ b. c == b) (range_with_len a n)) ≤ 1
one_of_range c a zero = omega arith
one_of_range c a (suc n) = elim (bool_is (c == a)) [
  | inl here ↦ let at : c ≡ a = same_number c a here in let none : length
      (filter (λ b. c == b) (range_with_len (a + 1) n)) ≡ 0 = none_behind c (a + 1) n (omega arith) in
      rw here (omega arith)
  | inr other ↦ rw other (one_of_range c (a + 1) n)
]

touched_first : (c : Change) (cs : List Change) (b : ℕ) → list_any (λ (x : Change). x.block == b) (c ∷ cs) ≡ true
    → ((c.block == b) ≡ true) ⊎ (list_any (λ (x : Change). x.block == b) cs ≡ true)
touched_first c cs b h = elim (bool_is (c.block == b)) [ inl t ↦ inl t | inr f ↦ inr (rw f at h) ]

none_touched : (xs : List ℕ) → length (filter (λ b. list_any (λ (c : Change). c.block == b) []) xs) ≡ 0
none_touched [] = refl
none_touched (x ∷ xs) = none_touched xs

-- changes touch no more blocks than they are
pub touched_few : (n : ℕ) (cs : List Change) → length (touched_blocks n cs) ≤ length cs
touched_few n [] = let none : length (touched_blocks n []) ≡ 0 = none_touched (range_with_len 0 n) in omega arith
touched_few n (c ∷ cs) =
    let split = filter_split (λ b. list_any (λ (x : Change). x.block == b) (c ∷ cs)) (λ b. c.block == b)
    (λ b. list_any (λ (x : Change). x.block == b) cs) (range_with_len 0 n) (touched_first c cs) in
    let one = one_of_range c.block 0 n in
    let rest : length (touched_blocks n cs) ≤ length cs = touched_few n cs in
    omega arith

-- of nine changes the fourth can be in the block of the first
shared_few : (n : ℕ) (cs : List Change) → SharesBlock cs → length (touched_blocks n cs) ≤ 8
shared_few n cs s =
    subst (λ (x : List Change). length (touched_blocks n x) ≤ 8) (sym s.are)
    (let split = filter_split (λ b. list_any (λ (x : Change). x.block == b) (s.first ∷ s.second ∷ s.third ∷ s.fourth
    ∷ s.rest)) (λ b. list_any (λ (x : Change). x.block == b) (s.first ∷ s.second ∷ s.third ∷ s.rest))
    (λ b. list_any (λ (x : Change). x.block == b) []) (range_with_len 0 n) (λ b h. inl (shorter (s.first.block == b)
    (s.second.block == b) (s.third.block == b) (s.fourth.block == b) (list_any (λ (x : Change). x.block == b) s.rest)
    (ap (λ (m : ℕ). m == b) s.same) h)) in
    let none = none_touched (range_with_len 0 n) in
    let rest : length (touched_blocks n (s.first ∷ s.second ∷ s.third ∷ s.rest)) ≤ length (s.first ∷ s.second ∷ s.third
    ∷ s.rest) = touched_few n (s.first ∷ s.second ∷ s.third ∷ s.rest) in
    let few = s.few in
    omega arith)
  where
    shorter : (a b c d r : Bool) → d ≡ a → (a || (b || (c || (d || r)))) ≡ true → (a || (b || (c || r))) ≡ true
    shorter true b c d r same h = refl
    shorter false b c d r same h = rw same at h

-- and one at least
pub touched_some : (n : ℕ) (c : Change) (cs : List Change) → c.block < n → 1 ≤ length (touched_blocks n (c ∷ cs))
touched_some n c cs below = some (touched_blocks n (c ∷ cs))
    (any_filtered (λ x. list_any (λ (y : Change). y.block == x) (c ∷ cs)) 0 n c.block (omega arith) (omega arith) here)
  where
    same : (x : ℕ) → (x == x) ≡ true
    same x = grind (arith, tests)

    here : list_any (λ (y : Change). y.block == c.block) (c ∷ cs) ≡ true
    here = let t : (c.block == c.block) ≡ true = same c.block in rw t refl

    some : (xs : List ℕ) → list_any (λ x. x == c.block) xs ≡ true → 1 ≤ length xs
    some [] h = absurd (let z : false ≡ true = h in cc)
    some (x ∷ xs) h = omega arith

-- ---- where they lie

lands-target : (d : Disk) (c : Change) → Lands d c → is_target d c.block ≡ true
lands-target d c l = elim l.spares [
  | inl low ↦ low_target d c.block l.behind low
  | inr high ↦ high_target d c.block high l.block
]
  where
    low_target : (d : Disk) (b : ℕ) → 0 < b → b < 4 → is_target d b ≡ true
    low_target d b from to = grind (arith, tests)

    high_target : (d : Disk) (b : ℕ) → 4 + d.journal ≤ b → b < d.blocks → is_target d b ≡ true
    high_target d b from to = grind (arith, tests)

all-aimed : (d : Disk) (cs : List Change) → AllLand d cs → AreAimed d cs
all-aimed d [] all = tt
all-aimed d (c ∷ cs) all = (lands-target d c all.0, all-aimed d cs all.1)

all-placed : (n : ℕ) (d : Disk) (cs : List Change) → d.blocks ≡ n → AllLand d cs → ArePlaced n (change_places cs)
all-placed n d [] e all = tt
all-placed n d (c ∷ cs) e all = (
  record { inside = all.0.range; known = subst (λ (m : ℕ). c.block < m) e all.0.block },
  all-placed n d cs e all.1,
)

all-some : (n : ℕ) (d : Disk) (cs : List Change) → d.blocks ≡ n → 1 ≤ length cs → AllLand d cs
    → 1 ≤ length (touched_blocks n cs)
all-some n d [] e some all = absurd (omega arith)
all-some n d (c ∷ cs) e some all = touched_some n c cs (subst (λ (m : ℕ). c.block < m) e all.0.block)

-- ---- the plan of an operation

module _ (n jl : ℕ) (d : Disk) (op : Op) (cs : List Change) (good : IsGood n jl d) (name : GivesName op)
    (is : plan_of d op ≡ Ok cs) where
  lands : AllLand d cs
  lands = plan-lands d op cs good.disk name is

  pub plan-good : IsGood n jl (with_changes d cs)
  plan-good =
      let size = with_changes-size d cs in
      record {
        blocks = size.0 ∙ good.blocks;
        journal = size.1 ∙ good.journal;
        disk = with_changes-disk d cs good.disk lands;
        sound = plan-keeps d op cs good.disk good.sound name is;
      }

  pub plan-turn : (j : ℕ) → j + 1 + length (touched_blocks n cs) ≤ 4 + jl → IsTurn n jl d j cs
  plan-turn j room =
      let count = plan-count d op cs is in
      let few : length (touched_blocks n cs) ≤ 8 = elim (plan-shape d op cs is) [
        | inl short ↦ (let at_most : length (touched_blocks n cs) ≤ length cs = touched_few n cs in
            omega (arith, short.1))
        | inr shares ↦ shared_few n cs shares
      ] in
      record {
        placed = all-placed n d cs good.blocks lands;
        aimed = all-aimed d cs lands;
        some = all-some n d cs good.blocks count.0 lands;
        few = few;
        room = room;
      }
