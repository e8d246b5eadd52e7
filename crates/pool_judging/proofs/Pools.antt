-- The steps at some places of a pool, and the steps of a pool.
use Rattle.std.proofs.Common.{◌≡◌, ℕ, zero, suc, ◌+◌, ◌<◌, List, [], ◌∷◌, ◌++◌, length, take, get_or, Bool, true, false}
use Rattle.std.proofs.Common.{◌||◌, ◌==◌, arith, tests, refl, sym, ap, ◌∙◌, subst, append-nil, append_assoc}
use Rattle.std.specs.Prelude.{IsTrue, slice_get, option_to_list}
use Rattle.std.specs.List.{All, list_any}
use Rattle.std.proofs.lemmas.Bool.{false≢true}
use Rattle.std.proofs.lemmas.List.{take_more}
use Rattle.std.proofs.lemmas.List.Elements.{All-head, All-tail, All-nil, All-cons, All-append, filter_passes}
use Rattle.std.proofs.lemmas.List.Concat.{flat_map-append}
use Rattle.std.proofs.lemmas.List.Folds.{list_any-append}
use Rattle.std.proofs.lemmas.Option.{slice_get-get_or}
use Rattle.crash_model.specs.PromiseLines.{has_promises, waits_or_promises}
use Rattle.crash_model.specs.declared.steps.Act.{Act}
use Rattle.crash_model.specs.declared.steps.Act.TheVariants.{Do, Group, End, Depend, Sync, Fsync, Keep, Hold, Spare}
use Rattle.crash_model.specs.declared.steps.Step.{Step}
use Rattle.question_model.specs.Workloads.{Search, is_place, is_keep, IsOfPool, places_of, keeps_of, steps_at}
use Rattle.question_model.specs.Workloads.{workload_at}
use Rattle.pool_judging.specs.Pools.{IsPlace, IsKeep, is_waiting}

module _ (pool : List Step) where
  abbrev step_of : ℕ → List Step
  step_of place = option_to_list (slice_get pool place)

  one_step : (place : ℕ) (d : Step) → place < length pool → step_of place ≡ get_or pool place d ∷ []
  one_step place d below = ap option_to_list (slice_get-get_or pool place d below)

  -- the steps of a sequence with one operation more
  pub steps_more : (front : List ℕ) (place : ℕ) (step d : Step) → place < length pool → step ≡ get_or pool place d
      → steps_at pool (front ++ place ∷ []) ≡ steps_at pool front ++ step ∷ []
  steps_more front place step d below is = flat_map-append step_of front (place ∷ [])
      ∙ ap (λ (xs : List Step). steps_at pool front ++ xs) (append-nil (step_of place)
      ∙ (one_step place d below ∙ ap (λ (x : Step). x ∷ []) (sym is)))

  -- the steps at one place more
  pub one_more : (places : List ℕ) (i : ℕ) (before after : List Step) (x d : Step) → i < length places
      → get_or places i 0 < length pool → x ≡ get_or pool (get_or places i 0) d
      → before ≡ steps_at pool (take i places) → after ≡ before ++ x ∷ []
      → after ≡ steps_at pool (take (i + 1) places)
  one_more places i before after x d within below is so_far more =
      more ∙ (ap (λ (steps : List Step). steps ++ x ∷ []) so_far
      ∙ (sym (steps_more (take i places) (get_or places i 0) x d below is)
      ∙ ap (steps_at pool) (sym (take_more places i 0 within))))

-- what holds of each step of a pool holds of each at some places
step_at : (P : Step → Type 0) (pool : List Step) (place : ℕ) → All P pool
    → All P (option_to_list (slice_get pool place))
step_at P [] place all = All-nil P
step_at P (x ∷ xs) zero all = All-cons P x [] (All-head P x xs all) (All-nil P)
step_at P (x ∷ xs) (suc place) all = step_at P xs place (All-tail P x xs all)

pub all_at : (P : Step → Type 0) (pool : List Step) → All P pool → (places : List ℕ) → All P (steps_at pool places)
all_at P pool all [] = All-nil P
all_at P pool all (place ∷ places) = All-append P (option_to_list (slice_get pool place)) (steps_at pool places)
    (step_at P pool place all) (all_at P pool all places)

-- ---- workloads

module _ (s : Search) where
  -- the promises alone
  pub workload_none : s.keeps ≡ workload_at s []
  workload_none = sym (append-nil s.keeps)

  -- the steps of a workload with one more
  pub workload_more : (front : List ℕ) (place : ℕ) (x d : Step) → place < length s.pool → x ≡ get_or s.pool place d
      → workload_at s (front ++ place ∷ []) ≡ workload_at s front ++ x ∷ []
  workload_more front place x d below is =
      ap (λ (xs : List Step). s.keeps ++ xs) (steps_more s.pool front place x d below is)
      ∙ sym (append_assoc s.keeps (steps_at s.pool front) (x ∷ []))

  -- one place more
  pub step_more : (places : List ℕ) (i : ℕ) (before after : List Step) (x d : Step) → i < length places
      → get_or places i 0 < length s.pool → x ≡ get_or s.pool (get_or places i 0) d
      → before ≡ workload_at s (take i places) → after ≡ before ++ x ∷ []
      → after ≡ workload_at s (take (i + 1) places)
  step_more places i before after x d within below is so_far more =
      more ∙ (ap (λ (steps : List Step). steps ++ x ∷ []) so_far
      ∙ (sym (workload_more (take i places) (get_or places i 0) x d below is)
      ∙ ap (workload_at s) (sym (take_more places i 0 within))))

  -- what holds of the promises and of each step of the pool holds of each step of a workload
  pub all_in_workload : (P : Step → Type 0) → All P s.keeps → All P s.pool → (places : List ℕ)
      → All P (workload_at s places)
  all_in_workload P keeps pool places =
      All-append P s.keeps (steps_at s.pool places) keeps (all_at P s.pool pool places)

-- ---- steps of a pool

place_of_pool : (act : Act) → IsTrue (is_place act) → IsTrue (is_place act || is_keep act)
place_of_pool act is = rw is refl

keep_of_pool : (act : Act) → IsTrue (is_keep act) → IsTrue (is_place act || is_keep act)
keep_of_pool act is = either (is_place act) (is_keep act) is
  where
    either : (a b : Bool) → IsTrue b → IsTrue (a || b)
    either true b is = refl
    either false b is = is

pub places_of_pool : (steps : List Step) → All IsPlace steps → All IsOfPool steps
places_of_pool steps all k d within = place_of_pool (get_or steps k d).act (all k d within)

pub keeps_of_pool : (steps : List Step) → All IsKeep steps → All IsOfPool steps
keeps_of_pool steps all k d within = keep_of_pool (get_or steps k d).act (all k d within)

-- ---- whether a step waits or promises

keep_promises : (act : Act) → IsTrue (is_keep act) → waits_or_promises act ≡ true
keep_promises (Keep paths) is = refl
keep_promises (Do op) is = absurd (false≢true is)
keep_promises (Group name) is = absurd (false≢true is)
keep_promises End is = absurd (false≢true is)
keep_promises (Depend b a) is = absurd (false≢true is)
keep_promises Sync is = absurd (false≢true is)
keep_promises (Fsync target) is = absurd (false≢true is)
keep_promises (Hold path) is = absurd (false≢true is)
keep_promises (Spare path other) is = absurd (false≢true is)

place_waits : (act : Act) → IsTrue (is_place act) → waits_or_promises act ≡ is_waiting act
place_waits (Do op) is = refl
place_waits Sync is = refl
place_waits (Fsync target) is = refl
place_waits (Group name) is = absurd (false≢true is)
place_waits End is = absurd (false≢true is)
place_waits (Depend b a) is = absurd (false≢true is)
place_waits (Keep paths) is = absurd (false≢true is)
place_waits (Hold path) is = absurd (false≢true is)
place_waits (Spare path other) is = absurd (false≢true is)

-- of the others those that wait
pub places_promising : (steps : List Step) → All IsPlace steps
    → list_any (λ x. is_waiting x.act) steps ≡ has_promises steps
places_promising [] all = refl
places_promising (x ∷ xs) all =
    ap (λ (b : Bool). b || list_any (λ y. is_waiting y.act) xs)
    (sym (place_waits x.act (All-head IsPlace x xs all)))
    ∙ ap (λ (b : Bool). waits_or_promises x.act || b) (places_promising xs (All-tail IsPlace x xs all))

-- a pool is promising where it has promises, or else where a step waits
pub promising_keeps : (keeps pool : List Step) (empty : Bool) → All IsKeep keeps → empty ≡ (length keeps == 0)
    → empty ≡ false → true ≡ has_promises (keeps ++ pool)
promising_keeps [] pool empty all is some = absurd (false≢true (sym some ∙ is))
promising_keeps (x ∷ xs) pool empty all is some =
    ap (λ (b : Bool). b || has_promises (xs ++ pool)) (sym (keep_promises x.act (All-head IsKeep x xs all)))

pub promising_pool : (keeps pool : List Step) (empty waits : Bool) → All IsPlace pool → empty ≡ (length keeps == 0)
    → empty ≡ true → waits ≡ list_any (λ x. is_waiting x.act) pool → waits ≡ has_promises (keeps ++ pool)
promising_pool [] pool empty waits all is none found = found ∙ places_promising pool all
promising_pool (x ∷ xs) pool empty waits all is none found =
    let some : (length (x ∷ xs) == 0) ≡ false = grind (arith, tests) in
    absurd (false≢true (sym some ∙ (sym is ∙ none)))

-- ---- the pool of steps

abbrev promising_of : List Step → List Step → Bool
promising_of keeps places = has_promises keeps || has_promises places

-- a step counts in its part of the pool
promising_more : (x : Step) (xs : List Step) → IsOfPool x
    → promising_of (keeps_of (x ∷ xs)) (places_of (x ∷ xs))
    ≡ (waits_or_promises x.act || promising_of (keeps_of xs) (places_of xs))
promising_more x xs is = by x.act refl is
  where
    swap : (a b c : Bool) → (a || (b || c)) ≡ (b || (a || c))
    swap true true c = refl
    swap true false c = refl
    swap false b c = refl

    by : (act : Act) → x.act ≡ act → IsTrue (is_place x.act || is_keep x.act)
        → promising_of (keeps_of (x ∷ xs)) (places_of (x ∷ xs))
        ≡ (waits_or_promises x.act || promising_of (keeps_of xs) (places_of xs))
    by (Do op) e of_pool = rw e refl
    by Sync e of_pool = rw e (swap (has_promises (keeps_of xs)) true (has_promises (places_of xs)))
    by (Fsync target) e of_pool = rw e (swap (has_promises (keeps_of xs)) true (has_promises (places_of xs)))
    by (Keep paths) e of_pool = rw e refl
    by (Group name) e of_pool = absurd (false≢true (subst (λ (a : Act). IsTrue (is_place a || is_keep a)) e of_pool))
    by End e of_pool = absurd (false≢true (subst (λ (a : Act). IsTrue (is_place a || is_keep a)) e of_pool))
    by (Depend b a) e of_pool = absurd (false≢true (subst (λ (c : Act). IsTrue (is_place c || is_keep c)) e of_pool))
    by (Hold path) e of_pool = absurd (false≢true (subst (λ (a : Act). IsTrue (is_place a || is_keep a)) e of_pool))
    by (Spare path other) e of_pool =
        absurd (false≢true (subst (λ (a : Act). IsTrue (is_place a || is_keep a)) e of_pool))

promising_apart : (steps : List Step) → All IsOfPool steps
    → promising_of (keeps_of steps) (places_of steps) ≡ has_promises steps
promising_apart [] all = refl
promising_apart (x ∷ xs) all =
    promising_more x xs (All-head IsOfPool x xs all)
    ∙ ap (λ (b : Bool). waits_or_promises x.act || b) (promising_apart xs (All-tail IsOfPool x xs all))

-- so a pool is promising where a line of it waits or promises
pub promising_lines : (steps : List Step) → All IsOfPool steps
    → has_promises (keeps_of steps ++ places_of steps) ≡ has_promises steps
promising_lines steps all = list_any-append (λ x. waits_or_promises x.act) (keeps_of steps) (places_of steps)
    ∙ promising_apart steps all

-- ---- what holds of the steps at which a test gives true

pub all_places : (steps : List Step) → All IsPlace (places_of steps)
all_places steps = filter_passes (λ step. is_place step.act) steps

pub all_keeps : (steps : List Step) → All IsKeep (keeps_of steps)
all_keeps steps = filter_passes (λ step. is_keep step.act) steps
