-- Each workload is sure: it makes its promises before its first step.
use Rattle.std.proofs.Common.{◌≡◌, ℕ, List, [], ◌∷◌, ◌++◌, false, ◌||◌, inl, refl, ap, ◌∙◌, subst}
use Rattle.std.specs.Prelude.{IsTrue}
use Rattle.std.specs.List.{All}
use Rattle.std.proofs.lemmas.Bool.{false≢true}
use Rattle.std.proofs.lemmas.List.Elements.{All-head, All-tail, All-weaker}
use Rattle.std.proofs.lemmas.List.Folds.{list_any_none}
use Rattle.crash_model.specs.declared.operations.Op.{Op}
use Rattle.crash_model.specs.declared.steps.Act.{Act}
use Rattle.crash_model.specs.declared.steps.Act.TheVariants.{Do, Group, End, Depend, Sync, Fsync, Keep, Hold, Spare}
use Rattle.crash_model.specs.declared.steps.Step.{Step}
use Rattle.full_journal_laws.specs.Full.{ops_at, ops_of}
use Rattle.promise_laws.specs.Waited.{HasNoOperation, HasNoGroups, is_of_groups, IsSure, AreSure}
use Rattle.question_model.specs.Workloads.{Search, is_place, is_keep, IsOfPool, steps_at, workload_at}
use Rattle.pool_judging.specs.Pools.{IsPlace, IsKeep}
use Rattle.pool_judging.proofs.Pools.{all_at, all_in_workload, keeps_of_pool, places_of_pool}

-- a promise is no operation
no_operation : (act : Act) → IsTrue (is_keep act) → ops_at act ≡ []
no_operation (Do op) is = absurd (false≢true is)
no_operation _ is = refl

-- a step is a promise or one that workloads are made of, and not both
not_both : (act : Act) → IsTrue (is_keep act) → IsTrue (is_place act) → ⊥
not_both (Do op) is place = false≢true is
not_both Sync is place = false≢true is
not_both (Fsync target) is place = false≢true is
not_both (Keep paths) is place = false≢true place
not_both (Group name) is place = false≢true is
not_both End is place = false≢true is
not_both (Depend b a) is place = false≢true is
not_both (Hold path) is place = false≢true is
not_both (Spare path other) is place = false≢true is

-- no step of a pool is about groups
no_groups : (act : Act) → IsTrue (is_place act || is_keep act) → is_of_groups act ≡ false
no_groups (Group name) is = absurd (false≢true is)
no_groups End is = absurd (false≢true is)
no_groups (Depend b a) is = absurd (false≢true is)
no_groups _ is = refl

-- what holds of each step holds of this one
of_it : (P : Step → Type 0) (before after : List Step) (x : Step) → All P (before ++ x ∷ after) → P x
of_it P [] after x all = All-head P x after all
of_it P (y ∷ before) after x all = of_it P before after x (All-tail P y (before ++ x ∷ after) all)

-- before a promise there are only promises
none_before : (keeps places before after : List Step) (x : Step) → All IsKeep keeps → All IsPlace places → IsKeep x
    → keeps ++ places ≡ before ++ x ∷ after → HasNoOperation before
none_before keeps places [] after x keep place is e = refl
none_before [] places (y ∷ before) after x keep place is e =
    absurd (not_both x.act is (of_it IsPlace (y ∷ before) after x (subst (All IsPlace) e place)))
none_before (k ∷ keeps) places (y ∷ before) after x keep place is e =
    let whole : k ∷ (keeps ++ places) ≡ y ∷ (before ++ x ∷ after) = e in
    let first : k ≡ y = cc in
    let rest : keeps ++ places ≡ before ++ x ∷ after = cc in
    ap (λ (ops : List Op). ops ++ ops_of before)
    (no_operation y.act (subst IsKeep first (All-head IsKeep k keeps keep)))
    ∙ none_before keeps places before after x (All-tail IsKeep k keeps keep) place is rest

sure_act : (steps before : List Step) (act : Act) → IsTrue (is_place act || is_keep act) → HasNoGroups steps
    → (IsTrue (is_keep act) → HasNoOperation before) → IsSure steps before act
sure_act steps before (Keep paths) is none quiet = (none, inl (quiet refl))
sure_act steps before (Hold path) is none quiet = absurd (false≢true is)
sure_act steps before (Do op) is none quiet = tt
sure_act steps before (Group name) is none quiet = tt
sure_act steps before End is none quiet = tt
sure_act steps before (Depend b a) is none quiet = tt
sure_act steps before Sync is none quiet = tt
sure_act steps before (Fsync target) is none quiet = tt
sure_act steps before (Spare path other) is none quiet = tt

pub workload_sure : (s : Search) (places : List ℕ) → All IsKeep s.keeps → All IsPlace s.pool
    → AreSure (workload_at s places)
workload_sure s places keeps pool = λ line before x after are of_line.
    sure_act (workload_at s places) before x.act
    (of_it IsOfPool before after x (subst (All IsOfPool) are each)) none
    (λ is. none_before s.keeps (steps_at s.pool places) before after x keeps (all_at IsPlace s.pool pool places) is are)
  where
    each : All IsOfPool (workload_at s places)
    each = all_in_workload s IsOfPool (keeps_of_pool s.keeps keeps) (places_of_pool s.pool pool) places

    none : HasNoGroups (workload_at s places)
    none = list_any_none (λ (x : Step). is_of_groups x.act) (workload_at s places)
        (All-weaker IsOfPool (λ (x : Step). is_of_groups x.act ≡ false) (λ x is. no_groups x.act is)
        (workload_at s places) each)
