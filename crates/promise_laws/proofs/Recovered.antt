-- What paths show on the image of a set after replay is what they show after the operations that are committed.
use Rattle.std.proofs.Common.{◌≡◌, ℕ, zero, suc, ◌+◌, ◌-◌, ◌*◌, ◌<◌, ◌⊎◌, inl, inr, List, [], ◌∷◌, take, Bool, true}
use Rattle.std.proofs.Common.{false, Option, Some, None, Result, Ok, Err, get_or, cond, arith, refl, sym, ◌∙◌, ap}
use Rattle.std.proofs.Common.{subst}
use Rattle.std.specs.Prelude.{All}
use Rattle.std.proofs.lemmas.Bool.{cases_lt}
use Rattle.std.proofs.lemmas.List.Elements.{All-head, All-tail}
use Rattle.patch_sets.specs.Sets.{has}
use Rattle.patch_sets.specs.Closed.{IsClosed}
use Rattle.crash_model.specs.Disk.{Disk, IsDisk, block_of, with_bytes}
use Rattle.crash_model.specs.Layout.{pointer_of}
use Rattle.crash_model.specs.Paths.{names_of, child_of, names_show, path_shows}
use Rattle.crash_model.specs.Patches.{Place, deps_of, image_from, image_of, places_of}
use Rattle.crash_model.specs.Plan.{plan_of, with_changes}
use Rattle.crash_model.specs.StepDisks.{with_plan}
use Rattle.crash_model.specs.Promises.{paths_show}
use Rattle.crash_model.specs.Replay.{image_after_replay}
use Rattle.crash_model.specs.Rules.{journal_rules}
use Rattle.crash_model.specs.RuleFacts.{AreAmong}
use Rattle.crash_model.specs.Sound.{IsSound, HasZeroJournal}
use Rattle.crash_model.specs.Trace.{trace_from, IsGraphOf}
use Rattle.crash_model.specs.Tracing.{Tracing, trace_start}
use Rattle.crash_model.specs.declared.modules.Module.TheVariants.{Full}
use Rattle.crash_model.specs.declared.names.Path.{Path}
use Rattle.crash_model.specs.declared.operations.Op.{Op}
use Rattle.crash_model.specs.declared.patches.Patch.{Patch}
use Rattle.crash_model.specs.declared.plans.Change.{Change}
use Rattle.crash_model.specs.declared.refusals.FsFault.{FsFault}
use Rattle.crash_model.specs.declared.rules.Rule.{Rule}
use Rattle.crash_model.specs.declared.steps.Step.{Step}
use Rattle.inode_fs.specs.Inside.{GivesName}
use Rattle.soundness_laws.proofs.Puts.{data-block}
use Rattle.journal_replay.proofs.Blocks.{block-at}
use Rattle.full_journal_laws.specs.Full.{IsOutside, ops_of, after_ops, commits_from, IsRecovered}
use Rattle.full_journal_laws.proofs.Final.{recovered}
use Rattle.full_journal_laws.proofs.Images.{image-generations}
use Rattle.full_journal_laws.proofs.Logs.{IsGood, ArePlans}
use Rattle.full_journal_laws.proofs.Plans.{plan-good}
use Rattle.full_journal_laws.proofs.Traces.{changes_of, IsLogged, traced_logged}
use Rattle.promise_laws.proofs.Shows.{SameInode, SameSlot, Agree, Known, child-known, IsAlike, alike-shown, sound-live}

-- ---- the same outside the journal

module _ (d e : Disk) (disk : IsDisk d)
    (same : (b : ℕ) → b < d.blocks → IsOutside d.journal b → block_of e b ≡ block_of d b) where
  inode-outside : (i : ℕ) → i < 16 → SameInode d e i
  inode-outside i below = record {
    at = λ o p less is. elim (half i) [
      | inl h ↦ at 2 (16 * i + o) p (omega arith) (omega arith) (omega arith)
      | inr h ↦ let is_more : i ≡ 8 + h.0 = h.1 in at 3 (16 * h.0 + o) p (omega arith) (omega arith) (omega arith)
    ];
  }
    where
      half : (i : ℕ) → (i < 8) ⊎ ((m : ℕ) × (i ≡ 8 + m))
      half i = elim (cases_lt i 8) [ inl l ↦ inl l | inr g ↦ inr (i - 8, omega arith) ]

      at : (b o p : ℕ) → b < 4 → o < 128 → p ≡ 128 * b + o → get_or e.bytes p 0 ≡ get_or d.bytes p 0
      at b o p low less is = ap (λ (m : ℕ). get_or e.bytes m 0) is
          ∙ (sym (block-at e b o less)
          ∙ (ap (λ (xs : List ℕ). get_or xs o 0) (same b (omega (arith, disk.least)) (inl low))
          ∙ (block-at d b o less ∙ ap (λ (m : ℕ). get_or d.bytes m 0) (sym is))))

  slot-outside : (i s : ℕ) → SameSlot d e i s
  slot-outside i s inside = let area = data-block d (pointer_of d i s) inside in
      same (pointer_of d i s) area.1 (inr area.0)

  agree-outside : (inode : Option ℕ) (names : List (List ℕ)) → Known inode → Agree d e inode names
  agree-outside None [] known = tt
  agree-outside None (name ∷ names) known = tt
  agree-outside (Some i) [] known = (inode-outside i known, λ s less. slot-outside i s)
  agree-outside (Some i) (name ∷ names) known = (
    inode-outside i known,
    slot-outside i 0,
    agree-outside (child_of d i name) names (child-known d i name),
  )

-- ---- what patches and operations leave

image-sizes : (id : ℕ) (d : Disk) (ps : List Place) (set : ℕ) → ((image_from id d ps set).blocks ≡ d.blocks)
    × ((image_from id d ps set).journal ≡ d.journal)
image-sizes id d [] set = (refl, refl)
image-sizes id d (p ∷ ps) set =
    let next : Disk = cond (has set id) (with_bytes d p.block p.offset p.new) d in
    let rest = image-sizes (id + 1) next ps set in
    (rest.0 ∙ (one (has set id)).0, rest.1 ∙ (one (has set id)).1)
  where
    one : (b : Bool) → ((cond b (with_bytes d p.block p.offset p.new) d).blocks ≡ d.blocks)
        × ((cond b (with_bytes d p.block p.offset p.new) d).journal ≡ d.journal)
    one true = (refl, refl)
    one false = (refl, refl)

changes-generations : (d : Disk) (cs : List Change) → (with_changes d cs).generations ≡ d.generations
changes-generations d [] = refl
changes-generations d (c ∷ cs) = changes-generations (with_bytes d c.block c.offset c.new.items) cs

plan-generations : (d : Disk) (plan : Result (List Change) FsFault) → (with_plan d plan).generations ≡ d.generations
plan-generations d (Err e) = refl
plan-generations d (Ok cs) = changes-generations d cs

pub ops-generations : (d : Disk) (ops : List Op) → (after_ops d ops).generations ≡ d.generations
ops-generations d [] = refl
ops-generations d (op ∷ ops) = ops-generations (with_plan d (plan_of d op)) ops ∙ plan-generations d (plan_of d op)

-- the disk after some of the operations is a sound one
pub good_after : (k n jl : ℕ) (ops : List Op) (plans : List (List Change)) (d : Disk) → IsGood n jl d
    → All GivesName ops → ArePlans d ops plans → IsGood n jl (after_ops d (take k ops))
good_after zero n jl ops plans d good names are = good
good_after (suc k) n jl [] [] d good names are = good
good_after (suc k) n jl [] (cs ∷ plans) d good names are = absurd are
good_after (suc k) n jl (op ∷ ops) [] d good names are = absurd are
good_after (suc k) n jl (op ∷ ops) (cs ∷ plans) d good names are =
    subst (λ (plan : Result (List Change) FsFault). IsGood n jl (after_ops (with_plan d plan) (take k ops)))
    (sym are.0)
    (good_after k n jl ops plans (with_changes d cs) (plan-good n jl d op cs good (All-head GivesName op ops names)
    are.0) (All-tail GivesName op ops names) are.1)

path-shown : (d e : Disk) (path : Path) → ((names : List (List ℕ)) → names_show e names ≡ names_show d names)
    → path_shows e path ≡ path_shows d path
unfolding path_shows
path-shown d e path same = same (names_of path)

pub one-shown : (d e : Disk) (path : Path) → names_show e (names_of path) ≡ names_show d (names_of path)
    → path_shows e path ≡ path_shows d path
unfolding path_shows
one-shown d e path same = same

-- paths show the same where each does
pub each-shown : (d e : Disk) (paths : List Path)
    → ((names : List (List ℕ)) → names_show e names ≡ names_show d names) → paths_show e paths ≡ paths_show d paths
each-shown d e [] same = refl
each-shown d e (path ∷ paths) same = rw (path-shown d e path same, each-shown d e paths same) refl

-- ---- the image of a set

module _ (rules : List Rule) (whole : Bool) (base : Disk) (steps : List Step) (s : Tracing) (patches : List Patch)
    (set : ℕ) (disk : IsDisk base) (sound : IsSound base) (zeros : HasZeroJournal base)
    (names : All GivesName (ops_of steps)) (is_traced : trace_from Full (trace_start whole base) steps ≡ Ok s)
    (among : AreAmong journal_rules rules) (graph : IsGraphOf rules base s patches)
    (closed : IsClosed (deps_of patches) set) where
  pub good : IsGood base.blocks base.journal base
  good = record { blocks = refl; journal = refl; disk = disk; sound = sound }

  pub logged : IsLogged base.blocks base.journal (ops_of steps) (trace_start whole base) s
  logged = traced_logged base.blocks base.journal steps (trace_start whole base) s good names is_traced

  abbrev image : Disk
  image = image_after_replay (image_of base patches set)

  abbrev left : Disk
  left = after_ops base (take (commits_from 0 s.emitted set) (ops_of steps))

  left_good : IsGood base.blocks base.journal left
  left_good = good_after (commits_from 0 s.emitted set) base.blocks base.journal (ops_of steps)
      (changes_of logged.changes) base good names logged.plans

  whole_is : IsRecovered base steps s patches set
  whole_is = recovered rules whole base steps s patches set disk sound zeros names is_traced among graph closed

  alike : IsAlike left image
  alike = record {
    blocks = (image-sizes 0 base (places_of patches) set).0 ∙ sym left_good.blocks;
    journal = (image-sizes 0 base (places_of patches) set).1 ∙ sym left_good.journal;
    generations = image-generations 0 base (places_of patches) set
        ∙ sym (ops-generations base (take (commits_from 0 s.emitted set) (ops_of steps)));
  }

  pub shows_left : (paths : List Path) → paths_show image paths ≡ paths_show left paths
  shows_left paths = each-shown left image paths (λ way. alike-shown left image alike (sound-live left left_good.sound)
      (sound-live image whole_is.sound) way
      (agree-outside left image left_good.disk
      (λ b less out. whole_is.same b (subst (λ (m : ℕ). b < m) left_good.blocks less)
      (subst (λ (m : ℕ). IsOutside m b) left_good.journal out)) (Some 0) way (omega arith)))
