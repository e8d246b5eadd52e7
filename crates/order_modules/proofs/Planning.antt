-- What an operation's plan makes of a trace.
use Rattle.std.proofs.Common.{◌≡◌, ℕ, zero, suc, ◌+◌, ◌*◌, ◌<◌, ◌≤◌, List, [], ◌∷◌, ◌++◌, length, map, Bool, true}
use Rattle.std.proofs.Common.{false, cond, inl, inr, nat_lt, arith, tests, refl, sym, ◌∙◌, ap, subst, length-append}
use Rattle.std.specs.Prelude.{◌==◌, Ok, Err, All}
use Rattle.std.specs.List.{filter, list_any, range_with_len}
use Rattle.std.proofs.lemmas.List.{length-map}
use Rattle.std.proofs.lemmas.Bool.{cases_lt}
use Rattle.std.proofs.lemmas.List.Elements.{All-nil, All-cons, All-head, All-tail}
use Rattle.crash_model.specs.Disk.{Disk, IsDisk, with_bytes}
use Rattle.crash_model.proofs.Bytes.{length-overwrite}
use Rattle.inode_fs.specs.Inside.{LiesInside}
use Rattle.crash_model.specs.Plan.{with_changes}
use Rattle.crash_model.specs.declared.operations.Op.{Op}
use Rattle.crash_model.specs.declared.rules.Part.TheVariants.{Commit, Done}
use Rattle.crash_model.specs.Trace.{Emitted, Origin, origin_at, trace_of_plan, patches_by, journal_blocks}
use Rattle.crash_model.specs.Trace.{in_place_patch, part_of, copies, touched_blocks}
use Rattle.crash_model.specs.Tracing.{Tracing}
use Rattle.crash_model.specs.declared.plans.Change.{Change}
use Rattle.crash_model.specs.declared.refusals.TraceFault.TheVariants as fault
use Rattle.crash_model.specs.declared.modules.Module.{Module}
use Rattle.crash_model.specs.declared.modules.Module.TheVariants.{Async, Soft, Meta, Full}
use Rattle.order_modules.specs.Log.{Log, Adds, Keeps}
use Rattle.order_modules.specs.Tracer.{Trace, IsTrace, Moves, IsOrdered, IsJournaled}
use Rattle.order_modules.specs.Transactions.{is_ahead, is_placed, changes_ahead, changes_in_place, file_data}
use Rattle.order_modules.specs.Transactions.{targets_of, transaction_of}
use Rattle.order_modules.proofs.Adding.{filter_all, filter_none, transaction_room, length-copies}

-- ---- the definition, by its tests

nat_lt-false : (a b : ℕ) → b ≤ a → nat_lt a b ≡ false
nat_lt-false a b h = grind (arith, tests)

nat_lt-true : (a b : ℕ) → a < b → nat_lt a b ≡ true
nat_lt-true a b h = grind (arith, tests)

-- the trace after an accepted plan
abbrev pub after_plan : Module → ℕ → Op → Tracing → List Change → Tracing
after_plan kind line op s cs = record s {
  disk = with_changes s.disk cs;
  emitted = s.emitted ++ patches_by kind (with_changes s.disk cs) s.op_number s.journal
      (origin_at line op s.current s.forced) cs;
  op_number = s.op_number + 1;
  journal = s.journal + journal_blocks kind s.disk.blocks cs;
}

module _ (kind : Module) (line : ℕ) (op : Op) (s : Tracing) (cs : List Change) where
  pub planned_full : 4 + s.disk.journal < s.journal + journal_blocks kind s.disk.blocks cs
      → trace_of_plan kind line op s (Ok cs) ≡ Err (fault.JournalFull line)
  planned_full past = rw (nat_lt-true (4 + s.disk.journal) (s.journal + journal_blocks kind s.disk.blocks cs) past) refl

  pub planned_many : s.journal + journal_blocks kind s.disk.blocks cs ≤ 4 + s.disk.journal
      → 124 < length s.emitted + length (patches_by kind (with_changes s.disk cs) s.op_number s.journal
      (origin_at line op s.current s.forced) cs)
      → trace_of_plan kind line op s (Ok cs) ≡ Err (fault.TooManyPatches line)
  planned_many fits many = rw (
    nat_lt-false (4 + s.disk.journal) (s.journal + journal_blocks kind s.disk.blocks cs)
        fits,
    nat_lt-true 124 (length s.emitted + length (patches_by kind (with_changes s.disk cs) s.op_number s.journal
        (origin_at line op s.current s.forced) cs)) many,
  ) refl

  pub planned_ok : s.journal + journal_blocks kind s.disk.blocks cs ≤ 4 + s.disk.journal
      → length s.emitted + length (patches_by kind (with_changes s.disk cs) s.op_number s.journal
      (origin_at line op s.current s.forced) cs) ≤ 124 → trace_of_plan kind line op s (Ok cs)
      ≡ Ok (after_plan kind line op s cs)
  planned_ok fits few = rw (
    nat_lt-false (4 + s.disk.journal) (s.journal + journal_blocks kind s.disk.blocks cs) fits,
    nat_lt-false 124 (length s.emitted + length (patches_by kind (with_changes s.disk cs) s.op_number s.journal
        (origin_at line op s.current s.forced) cs)) few,
  ) refl

-- ---- in place

pub placed_all : (kind : Module) (cs : List Change) → IsOrdered kind → changes_in_place kind cs ≡ cs
placed_all Async cs o = filter_all (is_placed Async) cs (λ c. refl)
placed_all Soft cs o = filter_all (is_placed Soft) cs (λ c. refl)
placed_all Meta cs o = absurd o
placed_all Full cs o = absurd o

ordered_patches : (kind : Module) (after : Disk) (t j : ℕ) (origin : Origin) (cs : List Change) → IsOrdered kind
    → patches_by kind after t j origin cs ≡ map (in_place_patch t origin) cs
ordered_patches Async after t j origin cs o = refl
ordered_patches Soft after t j origin cs o = refl
ordered_patches Meta after t j origin cs o = absurd o
ordered_patches Full after t j origin cs o = absurd o

ordered_blocks : (kind : Module) (n : ℕ) (cs : List Change) → IsOrdered kind → journal_blocks kind n cs ≡ 0
ordered_blocks Async n cs o = refl
ordered_blocks Soft n cs o = refl
ordered_blocks Meta n cs o = absurd o
ordered_blocks Full n cs o = absurd o

-- ---- through the journal

journaled_patches : (kind : Module) (after : Disk) (t j : ℕ) (origin : Origin) (cs : List Change) → IsJournaled kind
    → patches_by kind after t j origin cs ≡ transaction_of kind after t j origin (targets_of kind after.blocks cs) cs
journaled_patches Async after t j origin cs o = absurd o
journaled_patches Soft after t j origin cs o = absurd o
journaled_patches Meta after t j origin cs o = refl
journaled_patches Full after t j origin cs o =
    let all : changes_in_place Full cs ≡ cs = filter_all (is_placed Full) cs (λ c. refl) in
    let none : changes_ahead Full cs ≡ [] = filter_none (is_ahead Full) cs (λ c. refl) in
    sym (ap (λ (xs : List Change). map (file_data t origin) xs
    ++ (copies after t (j + 1) origin (touched_blocks after.blocks (changes_in_place Full cs))
    ++ (part_of t origin Commit j 0 (0xC7 ∷ t ∷ length (touched_blocks after.blocks (changes_in_place Full cs))
    ∷ touched_blocks after.blocks (changes_in_place Full cs))
    ∷ (map (in_place_patch t origin) (changes_in_place Full cs) ++ (part_of t origin Done j 0 (0xC8 ∷ []) ∷ [])))))
    none
    ∙ ap (λ (xs : List Change). copies after t (j + 1) origin (touched_blocks after.blocks xs)
    ++ (part_of t origin Commit j 0 (0xC7 ∷ t ∷ length (touched_blocks after.blocks xs)
    ∷ touched_blocks after.blocks xs) ∷ (map (in_place_patch t origin) xs
    ++ (part_of t origin Done j 0 (0xC8 ∷ []) ∷ [])))) all)

journaled_blocks : (kind : Module) (n : ℕ) (cs : List Change) → IsJournaled kind
    → journal_blocks kind n cs ≡ 1 + length (targets_of kind n cs)
journaled_blocks Async n cs o = absurd o
journaled_blocks Soft n cs o = absurd o
journaled_blocks Meta n cs o = refl
journaled_blocks Full n cs o = ap (λ (xs : List Change). 1 + length (touched_blocks n xs))
    (sym (filter_all (is_placed Full) cs (λ c. refl)))

length-transaction : (kind : Module) (after : Disk) (t j : ℕ) (origin : Origin) (targets : List ℕ) (cs : List Change)
    → length (transaction_of kind after t j origin targets cs) ≡ length cs + length targets + 2
length-transaction kind after t j origin targets cs =
    let a = length-append (map (file_data t origin) (changes_ahead kind cs))
    (copies after t (j + 1) origin targets ++ (part_of t origin Commit j 0 (0xC7 ∷ t ∷ length targets ∷ targets)
    ∷ (map (in_place_patch t origin) (changes_in_place kind cs)
    ++ (part_of t origin Done j 0 (0xC8 ∷ []) ∷ [])))) in
    let b = length-append (copies after t (j + 1) origin targets)
    (part_of t origin Commit j 0 (0xC7 ∷ t ∷ length targets ∷ targets)
    ∷ (map (in_place_patch t origin) (changes_in_place kind cs) ++ (part_of t origin Done j 0 (0xC8 ∷ []) ∷ []))) in
    let c = length-append (map (in_place_patch t origin) (changes_in_place kind cs))
    (part_of t origin Done j 0 (0xC8 ∷ []) ∷ []) in
    omega (
      arith,
      a,
      b,
      c,
      length-map (changes_ahead kind cs) (file_data t origin),
      length-map (changes_in_place kind cs) (in_place_patch t origin),
      length-copies after t (j + 1) origin targets,
      transaction_room kind cs,
    )

-- the targets are blocks of the disk
filter_below : (p : ℕ → Bool) (a m n : ℕ) → a + m ≤ n → All (λ b. b < n) (filter p (range_with_len a m))
filter_below p a zero n h = All-nil (λ b. b < n)
filter_below p a (suc m) n h = go (p a) (filter_below p (a + 1) m n (omega arith))
  where
    go : (t : Bool) → All (λ b. b < n) (filter p (range_with_len (a + 1) m))
        → All (λ b. b < n) (cond t (a ∷ filter p (range_with_len (a + 1) m)) (filter p (range_with_len (a + 1) m)))
    go true h' = All-cons (λ b. b < n) a (filter p (range_with_len (a + 1) m)) (omega arith) h'
    go false h' = h'

pub targets_known : (kind : Module) (n : ℕ) (cs : List Change) → All (λ b. b < n) (targets_of kind n cs)
targets_known kind n cs = filter_below (λ b. list_any (λ c. c.block == b) (changes_in_place kind cs)) 0 n n
    (omega arith)

pub with_changes-blocks : (d : Disk) (cs : List Change) → (with_changes d cs).blocks ≡ d.blocks
with_changes-blocks d [] = refl
with_changes-blocks d (c ∷ cs) = with_changes-blocks (with_bytes d c.block c.offset c.new.items) cs

pub with_changes-journal : (d : Disk) (cs : List Change) → (with_changes d cs).journal ≡ d.journal
with_changes-journal d [] = refl
with_changes-journal d (c ∷ cs) = with_changes-journal (with_bytes d c.block c.offset c.new.items) cs

pub with_changes-disk : (d : Disk) (cs : List Change) → IsDisk d → All (LiesInside d.blocks) cs
    → IsDisk (with_changes d cs)
with_changes-disk d [] is inside = is
with_changes-disk d (c ∷ cs) is inside =
    let one : LiesInside d.blocks c = All-head (LiesInside d.blocks) c cs inside in
    let fits : 128 * c.block + c.offset + length c.new.items ≤ length d.bytes =
    omega (arith, one.block, one.range, is.whole) in
    with_changes-disk (with_bytes d c.block c.offset c.new.items) cs
    (record {
      least = is.least;
      most = is.most;
      room = is.room;
      whole = length-overwrite d.bytes (128 * c.block + c.offset) c.new.items fits ∙ is.whole;
    })
    (All-tail (LiesInside d.blocks) c cs inside)

-- ---- traces

-- a trace with another log and disk
abbrev pub trace_with : Trace → Log → Disk → ℕ → ℕ → Trace
trace_with old log disk op_number next = record {
  log = log;
  tracing = record old.tracing {
    disk = disk;
    emitted = log.emitted;
    op_number = op_number;
    journal = next;
    whole = log.whole;
    links = log.links;
  };
}

-- a trace stays one with the changes of a plan on its disk
pub trace_kept : (old now : Trace) (log : Log) (disk : Disk) (cs : List Change) (op_number next : ℕ) → old ≡ now
    → IsTrace old → Keeps old.log log → All (LiesInside now.tracing.disk.blocks) cs
    → disk ≡ with_changes old.tracing.disk cs
    → old.tracing.journal ≤ next → next ≤ 4 + old.tracing.disk.journal
    → (IsJournaled old.log.kind → op_number + 3 ≤ next)
    → IsTrace (trace_with old log disk op_number next)
trace_kept old now log disk cs op_number next view is keeps inside here from to counted = record {
  disk = subst IsDisk (sym here)
      (with_changes-disk old.tracing.disk cs is.disk
      (subst (λ (t : Trace). All (LiesInside t.tracing.disk.blocks) cs) (sym view) inside));
  blocks = ap (λ (d : Disk). d.blocks) here ∙ with_changes-blocks old.tracing.disk cs ∙ is.blocks
      ∙ ap (λ (d : Disk). d.blocks) (sym keeps.base);
  from = omega (arith, is.from, from);
  to = omega (arith, to, ap (λ (d : Disk). d.journal) here, with_changes-journal old.tracing.disk cs);
  counted = λ j. counted (subst IsJournaled keeps.kind j);
}

pub not_journaled : (kind : Module) → IsOrdered kind → IsJournaled kind → ⊥
not_journaled Async o j = j
not_journaled Soft o j = j
not_journaled Meta o j = o
not_journaled Full o j = o

module _ (old : Trace) (line : ℕ) (op : Op) (cs : List Change) (log : Log) (disk : Disk) (op_number next : ℕ)
    (same : old.tracing.emitted ≡ old.log.emitted) (same_links : old.tracing.links ≡ old.log.links)
    (same_whole : old.tracing.whole ≡ old.log.whole) (here : disk ≡ with_changes old.tracing.disk cs) where
  tracing_is : (kind : Module) (more : List Emitted) → Adds old.log log more
      → more ≡ patches_by kind (with_changes old.tracing.disk cs) old.tracing.op_number old.tracing.journal
      (origin_at line op old.tracing.current old.tracing.forced) cs
      → op_number ≡ old.tracing.op_number + 1
      → next ≡ old.tracing.journal + journal_blocks kind old.tracing.disk.blocks cs
      → after_plan kind line op old.tracing cs ≡ (trace_with old log disk op_number next).tracing
  tracing_is kind more adds is op_numbers nexts =
      let make : Disk → List Emitted → ℕ → ℕ → List (List ℕ × List ℕ) → Bool → Tracing = λ d es t j ls w.
      record old.tracing { disk = d; emitted = es; op_number = t; journal = j; whole = w; links = ls } in
      let es : old.tracing.emitted ++ patches_by kind (with_changes old.tracing.disk cs) old.tracing.op_number
      old.tracing.journal (origin_at line op old.tracing.current old.tracing.forced) cs ≡ log.emitted =
      ap (λ (xs : List Emitted). xs ++ patches_by kind (with_changes old.tracing.disk cs) old.tracing.op_number
      old.tracing.journal (origin_at line op old.tracing.current old.tracing.forced) cs) same
      ∙ ap (λ (xs : List Emitted). old.log.emitted ++ xs) (sym is) ∙ sym adds.emitted in
      let ls : old.tracing.links ≡ log.links = same_links ∙ sym adds.links in
      ap (λ (d : Disk). make d (old.tracing.emitted ++ patches_by kind (with_changes old.tracing.disk cs)
      old.tracing.op_number old.tracing.journal (origin_at line op old.tracing.current old.tracing.forced) cs)
      (old.tracing.op_number + 1)
      (old.tracing.journal + journal_blocks kind old.tracing.disk.blocks cs) old.tracing.links old.tracing.whole)
      (sym here)
      ∙ ap (λ (xs : List Emitted). make disk xs (old.tracing.op_number + 1)
      (old.tracing.journal + journal_blocks kind old.tracing.disk.blocks cs) old.tracing.links old.tracing.whole) es
      ∙ ap (λ (t : ℕ). make disk log.emitted t (old.tracing.journal + journal_blocks kind old.tracing.disk.blocks cs)
      old.tracing.links old.tracing.whole) (sym op_numbers)
      ∙ ap (λ (j : ℕ). make disk log.emitted op_number j old.tracing.links old.tracing.whole) (sym nexts)
      ∙ ap (λ (xs : List (List ℕ × List ℕ)). make disk log.emitted op_number next xs old.tracing.whole) ls
      ∙ ap (λ (b : Bool). make disk log.emitted op_number next log.links b) (same_whole ∙ sym adds.whole)

  moves_by : (more : List Emitted) → Adds old.log log more
      → more ≡ patches_by old.log.kind (with_changes old.tracing.disk cs) old.tracing.op_number old.tracing.journal
      (origin_at line op old.tracing.current old.tracing.forced) cs
      → op_number ≡ old.tracing.op_number + 1
      → next ≡ old.tracing.journal + journal_blocks old.log.kind old.tracing.disk.blocks
      cs
      → next ≤ 4 + old.tracing.disk.journal → length old.tracing.emitted + length more ≤ 124
      → Moves old (trace_with old log disk op_number next) (trace_of_plan old.log.kind line op old.tracing (Ok cs))
  moves_by more adds is op_numbers nexts fits few = record {
    base = adds.base;
    kind = adds.kind;
    rules = adds.rules;
    whole = adds.whole;
    op_numbers = omega arith;
    answered = planned_ok old.log.kind line op old.tracing cs (omega arith)
        (omega (arith, ap (λ (xs : List Emitted). length xs) is))
        ∙ ap (λ (t : Tracing). Ok t) (tracing_is old.log.kind more adds is op_numbers nexts);
  }

  pub moves_in_place : IsOrdered old.log.kind → Adds old.log log
      (map (in_place_patch old.tracing.op_number (origin_at line op old.tracing.current old.tracing.forced))
      (changes_in_place old.log.kind cs))
      → op_number ≡ old.tracing.op_number + 1 → next ≡ old.tracing.journal
      → old.tracing.journal ≤ 4 + old.tracing.disk.journal → length old.tracing.emitted + length cs ≤ 124
      → Moves old (trace_with old log disk op_number next) (trace_of_plan old.log.kind line op old.tracing (Ok cs))
  moves_in_place order adds op_numbers nexts fits few =
      let all : changes_in_place old.log.kind cs ≡ cs = placed_all old.log.kind cs order in
      let more : List Emitted =
      map (in_place_patch old.tracing.op_number (origin_at line op old.tracing.current old.tracing.forced))
      (changes_in_place old.log.kind cs) in
      let is : more ≡ patches_by old.log.kind
      (with_changes old.tracing.disk cs) old.tracing.op_number old.tracing.journal
      (origin_at line op old.tracing.current old.tracing.forced) cs =
      ap (λ (xs : List Change). map
      (in_place_patch old.tracing.op_number (origin_at line op old.tracing.current old.tracing.forced)) xs) all
      ∙ sym (ordered_patches old.log.kind (with_changes old.tracing.disk cs) old.tracing.op_number old.tracing.journal
      (origin_at line op old.tracing.current old.tracing.forced) cs order) in
      let none : journal_blocks old.log.kind old.tracing.disk.blocks cs ≡ 0 =
      ordered_blocks old.log.kind old.tracing.disk.blocks cs order in
      let long : length more ≡ length cs = length-map (changes_in_place old.log.kind cs)
      (in_place_patch old.tracing.op_number (origin_at line op old.tracing.current old.tracing.forced))
      ∙ ap (λ (xs : List Change). length xs) all in
      moves_by more adds is op_numbers (omega arith) (omega arith) (omega arith)

  pub moves_journaled : (targets : List ℕ) → IsJournaled old.log.kind
      → targets ≡ targets_of old.log.kind old.tracing.disk.blocks cs
      → Adds old.log log (transaction_of old.log.kind disk old.tracing.op_number old.tracing.journal
      (origin_at line op old.tracing.current old.tracing.forced) targets cs) → op_number ≡ old.tracing.op_number + 1
      → next ≡ old.tracing.journal + (1 + length targets)
      → next ≤ 4 + old.tracing.disk.journal → length old.tracing.emitted + (length cs + length targets + 2) ≤ 124
      → Moves old (trace_with old log disk op_number next) (trace_of_plan old.log.kind line op old.tracing (Ok cs))
  moves_journaled targets order targets_are adds op_numbers nexts fits few =
      let more : List Emitted = transaction_of old.log.kind disk old.tracing.op_number old.tracing.journal
      (origin_at line op old.tracing.current old.tracing.forced) targets cs in
      let same_blocks : targets ≡ targets_of old.log.kind (with_changes old.tracing.disk cs).blocks cs = targets_are
      ∙ ap (λ (n : ℕ). targets_of old.log.kind n cs) (sym (with_changes-blocks old.tracing.disk cs)) in
      let is : more ≡ patches_by old.log.kind
      (with_changes old.tracing.disk cs) old.tracing.op_number old.tracing.journal
      (origin_at line op old.tracing.current old.tracing.forced) cs =
      ap (λ (d : Disk). transaction_of old.log.kind d old.tracing.op_number old.tracing.journal
      (origin_at line op old.tracing.current old.tracing.forced) targets cs) here
      ∙ ap (λ (ts : List ℕ). transaction_of old.log.kind (with_changes old.tracing.disk cs) old.tracing.op_number
      old.tracing.journal (origin_at line op old.tracing.current old.tracing.forced) ts cs) same_blocks
      ∙ sym (journaled_patches old.log.kind (with_changes old.tracing.disk cs) old.tracing.op_number old.tracing.journal
      (origin_at line op old.tracing.current old.tracing.forced) cs order) in
      let some : journal_blocks old.log.kind old.tracing.disk.blocks cs ≡ 1 + length targets =
      journaled_blocks old.log.kind old.tracing.disk.blocks cs order
      ∙ ap (λ (ts : List ℕ). 1 + length ts) (sym targets_are) in
      let long : length more ≡ length cs + length targets + 2 =
      length-transaction old.log.kind disk old.tracing.op_number
      old.tracing.journal (origin_at line op old.tracing.current old.tracing.forced) targets cs in
      moves_by more adds is op_numbers (nexts ∙ ap (λ (n : ℕ). old.tracing.journal + n) (sym some)) fits (omega arith)

-- ---- refusals

pub past_room : (n : ℕ) (b : Bool) → (n ≤ 124 → b ≡ true) → b ≡ false → 124 < n
past_room n b fits full = elim (cases_lt 124 n) [
  | inl past ↦ past
  | inr room ↦ (let z : true ≡ false = sym (fits room) ∙ full in absurd (cc))
]

pub refused_in_place : (old : Trace) (line : ℕ) (op : Op) (cs : List Change) → IsOrdered old.log.kind
    → old.tracing.journal ≤ 4 + old.tracing.disk.journal → 124 < length old.tracing.emitted + length cs
    → trace_of_plan old.log.kind line op old.tracing (Ok cs) ≡ Err (fault.TooManyPatches line)
refused_in_place old line op cs order fits many =
    let none : journal_blocks old.log.kind old.tracing.disk.blocks cs ≡ 0 =
    ordered_blocks old.log.kind old.tracing.disk.blocks cs order in
    let long : length
    (patches_by old.log.kind (with_changes old.tracing.disk cs) old.tracing.op_number old.tracing.journal
    (origin_at line op old.tracing.current old.tracing.forced) cs) ≡ length cs =
    ap (λ (xs : List Emitted). length xs) (ordered_patches old.log.kind (with_changes old.tracing.disk cs)
    old.tracing.op_number old.tracing.journal (origin_at line op old.tracing.current old.tracing.forced) cs order)
    ∙ length-map cs (in_place_patch old.tracing.op_number (origin_at line op old.tracing.current old.tracing.forced)) in
    planned_many old.log.kind line op old.tracing cs (omega arith) (omega arith)

module _ (old : Trace) (line : ℕ) (op : Op) (cs : List Change) (targets : List ℕ) (order : IsJournaled old.log.kind)
    (targets_are : targets ≡ targets_of old.log.kind old.tracing.disk.blocks cs) where
  takes : journal_blocks old.log.kind old.tracing.disk.blocks cs ≡ 1 + length targets
  takes = journaled_blocks old.log.kind old.tracing.disk.blocks cs order
      ∙ ap (λ (ts : List ℕ). 1 + length ts) (sym targets_are)

  pub refused_full : 4 + old.tracing.disk.journal < old.tracing.journal + (1 + length targets)
      → trace_of_plan old.log.kind line op old.tracing (Ok cs) ≡ Err (fault.JournalFull line)
  refused_full past = planned_full old.log.kind line op old.tracing cs (omega (arith, takes))

  pub refused_many : old.tracing.journal + (1 + length targets) ≤ 4 + old.tracing.disk.journal
      → 124 < length old.tracing.emitted + (length cs + length targets + 2)
      → trace_of_plan old.log.kind line op old.tracing (Ok cs) ≡ Err (fault.TooManyPatches line)
  refused_many fits many =
      let after : Disk = with_changes old.tracing.disk cs in
      let same : targets_of old.log.kind after.blocks cs ≡ targets = ap (λ (n : ℕ). targets_of old.log.kind n cs)
      (with_changes-blocks old.tracing.disk cs) ∙ sym targets_are in
      let long : length (patches_by old.log.kind after old.tracing.op_number old.tracing.journal
      (origin_at line op old.tracing.current old.tracing.forced) cs) ≡ length cs + length targets + 2 =
      ap (λ (xs : List Emitted). length xs)
      (journaled_patches old.log.kind after old.tracing.op_number old.tracing.journal
      (origin_at line op old.tracing.current old.tracing.forced) cs order
      ∙ ap (λ (ts : List ℕ). transaction_of old.log.kind after old.tracing.op_number old.tracing.journal
      (origin_at line op old.tracing.current old.tracing.forced) ts cs) same)
      ∙ length-transaction old.log.kind after old.tracing.op_number old.tracing.journal
      (origin_at line op old.tracing.current old.tracing.forced) targets cs in
      planned_many old.log.kind line op old.tracing cs (omega (arith, takes)) (omega arith)

-- what was read of the targets
pub targets_read : (kind read : Module) (n m : ℕ) (xs ys : List Change) (targets : List ℕ)
    → targets ≡ targets_of read m ys → read ≡ kind → m ≡ n → ys ≡ xs → targets ≡ targets_of kind n xs
targets_read kind read n m xs ys targets is same_kind same_blocks same_changes =
    is ∙ ap (λ (k : Module). targets_of k m ys) same_kind ∙ ap (λ (b : ℕ). targets_of kind b ys) same_blocks
    ∙ ap (λ (zs : List Change). targets_of kind n zs) same_changes

pub transaction_read : (old new : Log) (after : Disk) (op_number header : ℕ) (origin : Origin) (targets ts : List ℕ)
    (cs xs : List Change) → Adds old new (transaction_of old.kind after op_number header origin ts xs) → ts ≡ targets
    → xs ≡ cs
    → Adds old new (transaction_of old.kind after op_number header origin targets cs)
transaction_read old new after op_number header origin targets ts cs xs adds same_targets same_changes =
    subst (λ (zs : List Change). Adds old new (transaction_of old.kind after op_number header origin targets zs))
    same_changes
    (subst (λ (us : List ℕ). Adds old new (transaction_of old.kind after op_number header origin us xs)) same_targets
    adds)

pub known_read : (kind : Module) (n m : ℕ) (cs : List Change) (targets ts : List ℕ) → targets ≡ targets_of kind n cs
    → ts ≡ targets → m ≡ n → All (λ b. b < m) ts
known_read kind n m cs targets ts is same_targets same_blocks =
    subst (λ (k : ℕ). All (λ b. b < k) ts) (sym same_blocks)
    (subst (λ (us : List ℕ). All (λ b. b < n) us) (sym (same_targets ∙ is)) (targets_known kind n cs))
