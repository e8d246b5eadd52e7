-- What an operation does not touch is shown as before, so the promise of an `fsync` is kept.
use Rattle.std.proofs.Common.{◌≡◌, ℕ, zero, suc, ◌+◌, ◌<◌, ◌≤◌, inl, inr, List, [], ◌∷◌, ◌++◌, length, take, drop, map}
use Rattle.std.proofs.Common.{Bool, true, false, not, Result, Ok, Err, arith, tests, refl, sym, ◌∙◌, ap, subst}
use Rattle.std.proofs.Common.{take_all, length-append}
use Rattle.std.specs.Prelude.{All, slice_get, nat_le, bit_and, bit_or, if◌then◌else◌}
use Rattle.std.specs.List.{list_any, range_with_len}
use Rattle.std.proofs.lemmas.Bool.{cases_Bool, cases_lt, and_parts, or_parts, false≢true}
use Rattle.std.proofs.lemmas.List.Elements.{All-nil, All-cons, All-head, All-tail}
use Rattle.std.proofs.lemmas.Nat.Bits.{bit_at_and}
use Rattle.std.proofs.lemmas.Slice.Eq.{bytes_eq-Decides}
use Rattle.patch_sets.specs.Sets.{Has, with_id}
use Rattle.patch_sets.proofs.Bits.{none_in_empty, in_with_same, in_with_old, in_or_left, in_or_right}
use Rattle.patch_sets.proofs.Ids.{eq_from_true, from_has}
use Rattle.crash_model.specs.Disk.{Disk}
use Rattle.crash_model.specs.Paths.{is_same_slot, are_same_slots, is_same_shown, are_same_shown, names_of, names_show}
use Rattle.crash_model.specs.Plan.{with_changes}
use Rattle.crash_model.specs.Promises.{has_none, way_shows, touches, ids_between, touching_from}
use Rattle.crash_model.specs.Trace.{Emitted, trace_from, step, journal_patches, touched_blocks}
use Rattle.crash_model.specs.Tracing.{Tracing}
use Rattle.crash_model.specs.Waiting.{meets}
use Rattle.crash_model.specs.declared.modules.Module.TheVariants.{Full}
use Rattle.crash_model.specs.declared.names.Path.{Path}
use Rattle.crash_model.specs.declared.operations.Op.{Op}
use Rattle.crash_model.specs.declared.plans.Change.{Change}
use Rattle.crash_model.specs.declared.ranges.Range.{Range}
use Rattle.crash_model.specs.declared.refusals.FsFault.{FsFault}
use Rattle.crash_model.specs.declared.refusals.TraceFault.{TraceFault}
use Rattle.crash_model.specs.declared.showing.Shown.{Shown}
use Rattle.crash_model.specs.declared.showing.Shown.TheVariants.{Nothing, Directory, File}
use Rattle.crash_model.specs.declared.showing.ShownSlot.{ShownSlot}
use Rattle.crash_model.specs.declared.showing.ShownSlot.TheVariants.{Hole, Wild, Begins}
use Rattle.crash_model.specs.declared.steps.Act.{Act}
use Rattle.crash_model.specs.declared.steps.Act.TheVariants.{Do}
use Rattle.crash_model.specs.declared.steps.Step.{Step}
use Rattle.inode_fs.specs.Inside.{GivesName}
use Rattle.inode_fs.proofs.Lands.{with_changes-size}
use Rattle.full_journal_laws.specs.Full.{ops_at, ops_of, after_ops, commits_from}
use Rattle.full_journal_laws.proofs.Closed.{get-right, parts_of}
use Rattle.full_journal_laws.proofs.Logs.{log_emitted, IsClosedIn, IsGood, ArePlans}
use Rattle.full_journal_laws.proofs.Plans.{plan-good}
use Rattle.full_journal_laws.proofs.Traces.{Logged, changes_of, traced_logged}
use Rattle.promise_laws.proofs.Chains.{Lies, first_held}
use Rattle.promise_laws.proofs.Commits.{commits_from-append}
use Rattle.promise_laws.proofs.Rests.{at_most_one, behind, take_none, fewer}
use Rattle.promise_laws.proofs.Steps.{first_step, stepped, IsDone, done}

-- ---- the same is shown

slot_is : (x y : ShownSlot) → is_same_slot x y ≡ true → x ≡ y
slot_is Hole Hole same = refl
slot_is Hole Wild same = absurd (false≢true same)
slot_is Hole (Begins b) same = absurd (false≢true same)
slot_is Wild Hole same = absurd (false≢true same)
slot_is Wild Wild same = refl
slot_is Wild (Begins b) same = absurd (false≢true same)
slot_is (Begins a) Hole same = absurd (false≢true same)
slot_is (Begins a) Wild same = absurd (false≢true same)
slot_is (Begins a) (Begins b) same = ap Begins ((bytes_eq-Decides a b).0 same)

slots_are : (xs ys : List ShownSlot) → are_same_slots xs ys ≡ true → xs ≡ ys
slots_are [] [] same = refl
slots_are [] (y ∷ ys) same = absurd (false≢true same)
slots_are (x ∷ xs) [] same = absurd (false≢true same)
slots_are (x ∷ xs) (y ∷ ys) same =
    let both = and_parts (is_same_slot x y) (are_same_slots xs ys) same in
    rw (slot_is x y both.0, slots_are xs ys both.1) refl

shown_is : (x y : Shown) → is_same_shown x y ≡ true → x ≡ y
shown_is Nothing Nothing same = refl
shown_is Nothing Directory same = absurd (false≢true same)
shown_is Nothing (File b) same = absurd (false≢true same)
shown_is Directory Nothing same = absurd (false≢true same)
shown_is Directory Directory same = refl
shown_is Directory (File b) same = absurd (false≢true same)
shown_is (File a) Nothing same = absurd (false≢true same)
shown_is (File a) Directory same = absurd (false≢true same)
shown_is (File a) (File b) same = ap File (slots_are a b same)

each_is : (f g : ℕ → Shown) (a n i : ℕ)
    → are_same_shown (map f (range_with_len a n)) (map g (range_with_len a n)) ≡ true → a ≤ i → i < a + n → f i ≡ g i
each_is f g a zero i same from to = absurd (omega arith)
each_is f g a (suc n) i same from to =
    let both = and_parts (is_same_shown (f a) (g a))
    (are_same_shown (map f (range_with_len (a + 1) n)) (map g (range_with_len (a + 1) n))) same in
    elim (cases_lt a i) [
      | inl later ↦ each_is f g (a + 1) n i both.1 (omega arith) (omega arith)
      | inr here ↦ let is : a ≡ i = omega arith in subst (λ (m : ℕ). f m ≡ g m) is (shown_is (f a) (g a) both.0)
    ]

-- an operation that does not touch a path leaves what it shows
untouched : (path : Path) (ranges : List Range) (before after : Tracing) → touches path ranges before after ≡ false
    → names_show after.disk (names_of path) ≡ names_show before.disk (names_of path)
untouched path ranges before after none =
    let names : List (List ℕ) = names_of path in
    let i : ℕ = length path.through.items in
    let both = or_parts (not (are_same_shown (way_shows before.disk names) (way_shows after.disk names)))
    (list_any (meets ranges) (drop (length before.emitted) after.emitted)) none in
    let long : length names ≡ length path.through.items + 1 = length-append path.through.items (path.last ∷ []) in
    let all : take (i + 1) names ≡ names = take_all (i + 1) names (omega arith) in
    let same = each_is (λ m. names_show before.disk (take (m + 1) names))
    (λ m. names_show after.disk (take (m + 1) names)) 0 (length names) i
    (positive (are_same_shown (way_shows before.disk names) (way_shows after.disk names)) both.0)
    (omega arith) (omega arith) in
    ap (names_show after.disk) (sym all) ∙ (sym same ∙ ap (names_show before.disk) all)
  where
    positive : (b : Bool) → not b ≡ false → b ≡ true
    positive true e = refl
    positive false e = absurd (false≢true (sym e))

-- ---- ids

between : (from to id : ℕ) → from ≤ id → id < to → Has (ids_between from to) id
between from zero id least most = absurd (omega arith)
between from (suc to) id least most =
    let within : nat_le from to ≡ true = at_least from to (omega arith) in
    rw within (elim (cases_lt id to) [
      | inl lower ↦ in_with_old (ids_between from to) to id (between from to id least lower)
      | inr here ↦ let is : to ≡ id = omega arith in
          subst (Has (with_id (ids_between from to) to)) is (in_with_same (ids_between from to) to)
    ])
  where
    at_least : (a b : ℕ) → a ≤ b → nat_le a b ≡ true
    at_least a b h = grind (arith, tests)

pub apart : (set other : ℕ) → has_none set other ≡ true → (id : ℕ) → Has set id → Has other id → ⊥
apart set other none id one two =
    let both = bit_at_and other set id in
    let zero_there : bit_and other set ≡ 0 = eq_from_true (bit_and other set) 0 none in
    none_in_empty id (subst (λ (m : ℕ). Has m id) zero_there (omega (arith, both, one, two)))

-- ---- one step

module _ (n jl : ℕ) (path : Path) (ranges : List Range) (set : ℕ) where
  -- the set has an id of the first operation whose patches a log has
  held_first : (line : ℕ) (op : Op) (u next r : Tracing) (ops : List Op) (changes : Logged) (whole : Bool)
      (links : List (List ℕ × List ℕ)) → IsGood n jl u.disk → IsClosedIn whole links r.emitted set
      → IsDone op u next → ArePlans u.disk (op ∷ ops) (changes_of changes)
      → r.emitted ≡ u.emitted ++ log_emitted n u.disk u.op_number u.journal changes
      → suc (commits_from 0 u.emitted set) ≤ commits_from 0 r.emitted set
      → (id : ℕ) × (length u.emitted ≤ id) × (id < length next.emitted) × Has set id
  held_first line op u next r ops [] whole links good closed is plans emits some = absurd plans
  held_first line op u next r ops (o ∷ log) whole links good closed is plans emits some =
      let from : ℕ = 0 + length u.emitted in
      let all : List Emitted = log_emitted n u.disk u.op_number u.journal (o ∷ log) in
      let split : commits_from 0 r.emitted set ≡ commits_from 0 u.emitted set + commits_from from all set =
      ap (λ (es : List Emitted). commits_from 0 es set) emits ∙ commits_from-append 0 u.emitted all set in
      let lies : Lies n r.emitted whole links set closed all from = λ i y at.
      ap (λ (es : List Emitted). slice_get es (from + i)) emits
      ∙ (get-right u.emitted all i (from + i) (omega arith) ∙ at) in
      let held =
      first_held n r.emitted whole links set closed o log u.disk u.op_number u.journal from lies (omega arith) in
      let after : Disk = with_changes u.disk is.changes in
      let size : after.blocks ≡ n = (with_changes-size u.disk is.changes).0 ∙ good.blocks in
      let targets : List ℕ = touched_blocks after.blocks is.changes in
      let same : length (touched_blocks n o.1) ≡ length targets =
      ap (λ (cs : List Change). length (touched_blocks n cs)) (the_changes o.1 is.changes (sym plans.0 ∙ is.plan))
      ∙ ap (λ (m : ℕ). length (touched_blocks m is.changes)) (sym size) in
      let parts = parts_of after u.op_number u.journal is.origin targets is.changes in
      let long : length (journal_patches after u.op_number u.journal is.origin targets is.changes) ≡ length targets + 1
      + length is.changes + 1 = parts.long in
      let end : length next.emitted ≡ length u.emitted
      + length (journal_patches after u.op_number u.journal is.origin targets is.changes) =
      ap (λ (es : List Emitted). length es) is.emits
      ∙ length-append u.emitted (journal_patches after u.op_number u.journal is.origin targets is.changes) in (
        from + length (touched_blocks n o.1),
        omega arith,
        omega arith,
        from_has set (from + length (touched_blocks n o.1)) held,
      )
    where
      the_changes : (a b : List Change) → ◌≡◌ {A = Result (List Change) FsFault} (Ok a) (Ok b) → a ≡ b
      the_changes a b e = cc

  -- what a step leaves that does not touch the path, of which the set has a patch
  step_leaves : (line : ℕ) (act : Act) (xs : List Step) (u next r : Tracing) (whole : Bool)
      (links : List (List ℕ × List ℕ)) → IsGood n jl u.disk → All GivesName (ops_at act ++ ops_of xs)
      → IsClosedIn whole links r.emitted set
      → trace_from Full u (record { line = line; act = act } ∷ xs) ≡ Ok r → step Full u line act ≡ Ok next
      → (touches path ranges u next ≡ true → (id : ℕ) → length u.emitted ≤ id → id < length next.emitted → Has set id
      → ⊥)
      → suc (commits_from 0 u.emitted set) ≤ commits_from 0 r.emitted set
      → next.disk ≡ after_ops u.disk (ops_at act)
      → names_show next.disk (names_of path) ≡ names_show u.disk (names_of path)
  step_leaves line (Do op) xs u next r whole links good names closed h is bars some disk =
      let logged = traced_logged n jl (record { line = line; act = Do op } ∷ xs) u r good names h in
      let held = held_first line op u next r (ops_of xs) logged.changes whole links good closed
      (done line op u next is) logged.plans logged.emits some in
      elim (cases_Bool (touches path ranges u next)) [
        | inl touched ↦ absurd (bars touched held.0 held.1 held.2 held.3)
        | inr none ↦ untouched path ranges u next none
      ]
  step_leaves line act xs u next r whole links good names closed h is bars some disk =
      ap (λ (d : Disk). names_show d (names_of path)) disk

  -- ---- steps

  touching_ok : (u next : Tracing) (x : Step) (xs : List Step) → step Full u x.line x.act ≡ Ok next
      → touching_from Full path ranges u (x ∷ xs)
      ≡ bit_or (if touches path ranges u next then ids_between (length u.emitted) (length next.emitted) else 0)
      (touching_from Full path ranges next xs)
  touching_ok u next x xs is = ap (λ (r : Result Tracing TraceFault). elim r [
    | Ok after ↦ bit_or
        (if touches path ranges u after then ids_between (length u.emitted) (length after.emitted) else 0)
        (touching_from Full path ranges after xs)
    | Err _ ↦ 0
  ]) is

  good_step : (line : ℕ) (act : Act) (u next : Tracing) → IsGood n jl u.disk → All GivesName (ops_at act)
      → step Full u line act ≡ Ok next → next.disk ≡ after_ops u.disk (ops_at act) → IsGood n jl next.disk
  good_step line (Do op) u next good names is disk =
      let made = done line op u next is in
      subst (IsGood n jl) (sym made.disk)
      (plan-good n jl u.disk op made.changes good (All-head GivesName op [] names) made.plan)
  good_step line act u next good names is disk = subst (IsGood n jl) (sym disk) good

  pub stays_shown : (xs : List Step) (u r : Tracing) (k : ℕ) (whole : Bool) (links : List (List ℕ × List ℕ))
      → IsGood n jl u.disk → All GivesName (ops_of xs) → IsClosedIn whole links r.emitted set
      → trace_from Full u xs ≡ Ok r
      → ((id : ℕ) → Has set id → Has (touching_from Full path ranges u xs) id → ⊥)
      → k + commits_from 0 u.emitted set ≤ commits_from 0 r.emitted set
      → names_show (after_ops u.disk (take k (ops_of xs))) (names_of path) ≡ names_show u.disk (names_of path)
  stays_shown [] u r k whole links good names closed h bars few =
      ap (λ (ops : List Op). names_show (after_ops u.disk ops) (names_of path)) (take_none set k)
  stays_shown (x ∷ xs) u r zero whole links good names closed h bars few = refl
  stays_shown (x ∷ xs) u r (suc k) whole links good names closed h bars few =
      let one = first_step u x xs r h in
      let next : Tracing = one.0 in
      let is = stepped x.line x.act u next one.1 in
      let more = behind set u.disk next.disk (ops_at x.act) (ops_of xs) k (at_most_one set x.act) is.disk in
      let both = all_split (ops_at x.act) (ops_of xs) names in
      let touching = touching_ok u next x xs one.1 in
      let rest = λ (id : ℕ) (held : Has set id) (there : Has (touching_from Full path ranges next xs) id).
      bars id held (subst (λ (m : ℕ). Has m id) (sym touching) (in_or_right
      (if touches path ranges u next then ids_between (length u.emitted) (length next.emitted) else 0)
      (touching_from Full path ranges next xs) id there)) in
      let here = λ (touched : touches path ranges u next ≡ true) (id : ℕ) (from : length u.emitted ≤ id)
      (to : id < length next.emitted) (held : Has set id).
      bars id held (subst (λ (m : ℕ). Has m id) (sym touching) (in_or_left
      (if touches path ranges u next then ids_between (length u.emitted) (length next.emitted) else 0)
      (touching_from Full path ranges next xs) id
      (rw touched (between (length u.emitted) (length next.emitted) id from to)))) in
      ap (λ (d : Disk). names_show d (names_of path)) (sym more.2)
      ∙ (stays_shown xs next r more.0 whole links (good_step x.line x.act u next good both.0 one.1 is.disk) both.1
      closed one.2 rest (fewer set [] u next r x.act k more.0 is more.1 few)
      ∙ step_leaves x.line x.act xs u next r whole links good names closed h one.1 here (omega arith) is.disk)
    where
      all_split : (xs ys : List Op) → All GivesName (xs ++ ys) → All GivesName xs × All GivesName ys
      all_split [] ys all = (All-nil GivesName, all)
      all_split (x ∷ xs) ys all =
          let rest = all_split xs ys (All-tail GivesName x (xs ++ ys) all) in
          (All-cons GivesName x xs (All-head GivesName x (xs ++ ys) all) rest.0, rest.1)
