-- What a closed set has of each transaction, from the dependencies alone.
use Rattle.std.proofs.Common.{◌≡◌, ℕ, zero, suc, ◌+◌, ◌-◌, ◌<◌, ◌≤◌, ◌⊎◌, inl, inr, List, [], ◌∷◌, ◌++◌, length, map}
use Rattle.std.proofs.Common.{Bool, true, false, nat_lt, ◌&&◌, ◌||◌, Some, arith, tests, refl, sym, ◌∙◌, ap, subst}
use Rattle.std.specs.Prelude.{slice_get, ◌==◌}
use Rattle.std.specs.List.{list_any}
use Rattle.std.proofs.lemmas.List.{length-append, length-map}
use Rattle.crash_model.specs.Disk.{Disk, block_of}
use Rattle.patch_sets.specs.Sets.{has}
use Rattle.crash_model.specs.Patches.{Place, place, overlap}
use Rattle.crash_model.specs.Plan.{with_changes}
use Rattle.crash_model.specs.Rules.{has_part, are_scoped, journal_rules}
use Rattle.crash_model.specs.Trace.{Emitted, Origin, part_of, in_place_patch, copies, journal_patches, touched_blocks}
use Rattle.crash_model.specs.Trace.{applies, depends, groups_depend, waits_for}
use Rattle.crash_model.specs.WholeBlocks.{shares_block}
use Rattle.crash_model.specs.declared.rules.Part.{Part}
use Rattle.crash_model.specs.declared.rules.Part.TheVariants.{InPlace, Copy, Commit, Done}
use Rattle.crash_model.specs.declared.rules.Rule.{Rule}
use Rattle.crash_model.specs.declared.plans.Change.{Change}
use Rattle.crash_model.specs.declared.plans.Role.{Role}
use Rattle.full_journal_laws.proofs.Transactions.{IsLogClosed}
use Rattle.full_journal_laws.proofs.Logs.{log_emitted, IsClosedIn}

-- ---- elements by their places

pub get-left : (xs ys : List Emitted) (i : ℕ) (x : Emitted) → slice_get xs i ≡ Some x → slice_get (xs ++ ys) i ≡ Some x
get-left [] ys i x h = absurd (cc)
get-left (y ∷ xs) ys zero x h = h
get-left (y ∷ xs) ys (suc i) x h = get-left xs ys i x h

pub get-right : (xs ys : List Emitted) (i n : ℕ) → n ≡ length xs + i → slice_get (xs ++ ys) n ≡ slice_get ys i
get-right [] ys i n e = ap (λ (m : ℕ). slice_get ys m) (omega arith)
get-right (x ∷ xs) ys i zero e = absurd (omega arith)
get-right (x ∷ xs) ys i (suc n) e = get-right xs ys i n (omega arith)

-- an element with its part and number
pub record IsPart (kind : Part) (t : ℕ) (x : Emitted) : Type 0 where
  pub part : x.part ≡ kind
  pub op_number : x.op_number ≡ t

copy_at : (after : Disk) (t j : ℕ) (g : Origin) (bs : List ℕ) (m : ℕ) → m < length bs → (y : Emitted)
    × (slice_get (copies after t j g bs) m ≡ Some y) × IsPart Copy t y
copy_at after t j g [] m h = absurd (omega arith)
copy_at after t j g (b ∷ bs) zero h = (
  part_of t g Copy j 0 (block_of after b),
  refl,
  record { part = refl; op_number = refl },
)
copy_at after t j g (b ∷ bs) (suc m) h = copy_at after t (j + 1) g bs m (omega arith)

plain_at : (t : ℕ) (g : Origin) (cs : List Change) (m : ℕ) → m < length cs → (y : Emitted) × (role : Role)
    × (slice_get (map (in_place_patch t g) cs) m ≡ Some y) × IsPart (InPlace role) t y
plain_at t g [] m h = absurd (omega arith)
plain_at t g (c ∷ cs) zero h = (in_place_patch t g c, c.role, refl, record { part = refl; op_number = refl })
plain_at t g (c ∷ cs) (suc m) h = plain_at t g cs m (omega arith)

pub length-copy : (after : Disk) (t j : ℕ) (g : Origin) (bs : List ℕ) → length (copies after t j g bs) ≡ length bs
length-copy after t j g [] = refl
length-copy after t j g (b ∷ bs) = ap suc (length-copy after t (j + 1) g bs)

-- ---- the parts of a transaction, by their places in it

pub record HasParts (t j : ℕ) (targets : List ℕ) (changes : ℕ) (xs : List Emitted) : Type 0 where
  pub long : length xs ≡ length targets + 1 + changes + 1
  pub copy : (m : ℕ) → m < length targets → (y : Emitted) × (slice_get xs m ≡ Some y) × IsPart Copy t y
  pub commit : Emitted
  pub commit_at : slice_get xs (length targets) ≡ Some commit
  pub commit_is : IsPart Commit t commit
  pub commit_place : commit.place ≡ place j 0 (0xC7 ∷ t ∷ length targets ∷ targets)
  pub change : (m : ℕ) → m < changes → (y : Emitted) × (role : Role) × (slice_get xs (length targets + 1 + m) ≡ Some y)
      × IsPart (InPlace role) t y
  pub done : Emitted
  pub done_at : slice_get xs (length targets + 1 + changes) ≡ Some done
  pub done_is : IsPart Done t done
  pub done_place : done.place ≡ place j 0 (0xC8 ∷ [])

pub parts_of : (after : Disk) (t j : ℕ) (g : Origin) (targets : List ℕ) (cs : List Change)
    → HasParts t j targets (length cs) (journal_patches after t j g targets cs)
parts_of after t j g targets cs =
    let k : ℕ = length targets in
    let ps : List Emitted = copies after t (j + 1) g targets in
    let commit : Emitted = part_of t g Commit j 0 (0xC7 ∷ t ∷ k ∷ targets) in
    let done : Emitted = part_of t g Done j 0 (0xC8 ∷ []) in
    let ms : List Emitted = map (in_place_patch t g) cs in
    let l1 : length ps ≡ k = length-copy after t (j + 1) g targets in
    let l2 : length ms ≡ length cs = length-map cs (in_place_patch t g) in
    let l3 : length (ms ++ (done ∷ [])) ≡ length ms + length (done ∷ []) = length-append ms (done ∷ []) in
    let l4 : length (ps ++ (commit ∷ (ms ++ (done ∷ [])))) ≡ length ps + length (commit ∷ (ms ++ (done ∷ []))) =
    length-append ps (commit ∷ (ms ++ (done ∷ []))) in
    record {
      long = omega arith;
      copy = λ m h. let y = copy_at after t (j + 1) g targets m h in
          (y.0, get-left ps (commit ∷ (ms ++ (done ∷ []))) m y.0 y.1, y.2);
      commit = commit;
      commit_at = get-right ps (commit ∷ (ms ++ (done ∷ []))) 0 k (omega arith);
      commit_is = record { part = refl; op_number = refl };
      commit_place = refl;
      change = λ m h. let y = plain_at t g cs m h in (
        y.0,
        y.1,
        get-right ps (commit ∷ (ms ++ (done ∷ []))) (suc m) (k + 1 + m) (omega arith)
            ∙ get-left ms (done ∷ []) m y.0 y.2,
        y.3,
      );
      done = done;
      done_at = get-right ps (commit ∷ (ms ++ (done ∷ []))) (suc (length cs)) (k + 1 + length cs) (omega arith)
          ∙ get-right ms (done ∷ []) 0 (length cs) (omega arith);
      done_is = record { part = refl; op_number = refl };
      done_place = refl;
    }

-- ---- which patch depends on which

or_right : (a b : Bool) → b ≡ true → (a || b) ≡ true
or_right true b h = refl
or_right false b h = h

or_left : (a b : Bool) → a ≡ true → (a || b) ≡ true
or_left true b h = refl
or_left false b h = absurd (cc)

same_test : (t : ℕ) → (t == t) ≡ true
same_test t = grind (arith, tests)

-- a rule of the journal orders part a of operation s and part b of operation t
abbrev is_row : Part → ℕ → Part → ℕ → Bool
is_row a s b t = list_any (λ (rule : Rule). has_part rule.later a
    && (has_part rule.earlier b && are_scoped rule.scope s t)) journal_rules

pub by_row : (whole : Bool) (links : List (List ℕ × List ℕ)) (x : Emitted) (id : ℕ) (y : Emitted) (a b : Part) (s t : ℕ)
    → IsPart a s x
    → IsPart b t y → is_row a s b t ≡ true → depends journal_rules whole links x id y ≡ true
by_row whole links x id y a b s t p q h =
    or_right (overlap x.place y.place || shares_block whole x y || groups_depend links x y || waits_for x id)
    (list_any (λ rule. applies rule x y) journal_rules)
    (ap (λ (m : Part). is_row m x.op_number y.part y.op_number) p.part
    ∙ ap (λ (m : ℕ). is_row a m y.part y.op_number) p.op_number
    ∙ ap (λ (m : Part). is_row a s m y.op_number) q.part ∙ ap (λ (m : ℕ). is_row a s b m) q.op_number ∙ h)

-- a done and a commit of one header overlap
shared : (j t k : ℕ) (targets : List ℕ) → overlap (place j 0 (0xC8 ∷ [])) (place j 0 (0xC7 ∷ t ∷ k ∷ targets)) ≡ true
shared j t k targets =
    let e : nat_lt 0 (0 + suc (suc (suc (length targets)))) ≡ true = grind (arith, tests) in
    rw (same_test j, e) refl

pub by_header : (whole : Bool) (links : List (List ℕ × List ℕ)) (x : Emitted) (id : ℕ) (y : Emitted) (j t k : ℕ)
    (targets : List ℕ)
    → x.place ≡ place j 0 (0xC8 ∷ []) → y.place ≡ place j 0 (0xC7 ∷ t ∷ k ∷ targets)
    → depends journal_rules whole links x id y ≡ true
by_header whole links x id y j t k targets p q =
    or_left (overlap x.place y.place || shares_block whole x y || groups_depend links x y || waits_for x id)
    (list_any (λ rule. applies rule x y) journal_rules)
    (or_left (overlap x.place y.place || shares_block whole x y || groups_depend links x y) (waits_for x id)
    (or_left (overlap x.place y.place || shares_block whole x y) (groups_depend links x y)
    (or_left (overlap x.place y.place) (shares_block whole x y)
    (ap (λ (m : Place). overlap m y.place) p ∙ ap (λ (m : Place). overlap (place j 0 (0xC8 ∷ [])) m) q
    ∙ shared j t k targets))))

-- ---- a closed set

pub closed_log : (ops : List (Origin × List Change)) (n : ℕ) (all : List Emitted) (whole : Bool)
    (links : List (List ℕ × List ℕ)) (set : ℕ) (d : Disk) (id t j : ℕ) (c done : Bool) → IsClosedIn whole links all set
    → ((i : ℕ) (y : Emitted) → slice_get (log_emitted n d t j ops) i ≡ Some y → slice_get all (id + i) ≡ Some y)
    → ((q : ℕ) (x : Emitted) → id ≤ q → slice_get all q ≡ Some x → IsPart Commit t x → has set q ≡ true → c ≡ true)
    → ((q : ℕ) (x : Emitted) → id ≤ q → slice_get all q ≡ Some x → IsPart Done t x → has set q ≡ true → done ≡ true)
    → IsLogClosed n id c done (map (λ (o : Origin × List Change). o.1) ops) set
closed_log [] n all whole links set d id t j c done closed lies before_commit before_done = tt
closed_log (o ∷ ops) n all whole links set d id t j c done closed lies before_commit before_done =
    let cs : List Change = o.1 in
    let targets : List ℕ = touched_blocks n cs in
    let k : ℕ = length targets in
    let d' : Disk = with_changes d cs in
    let xs : List Emitted = journal_patches d' t j o.0 targets cs in
    let rest : List Emitted = log_emitted n d' (t + 1) (j + 1 + k) ops in
    let parts : HasParts t j targets (length cs) xs = parts_of d' t j o.0 targets cs in
    let lie = λ (i : ℕ) (y : Emitted) (h : slice_get xs i ≡ Some y). lies i y (get-left xs rest i y h) in
    let commit_at : slice_get all (id + k) ≡ Some parts.commit = lie k parts.commit parts.commit_at in
    let done_at : slice_get all (id + k + 1 + length cs) ≡ Some parts.done =
    ap (λ (m : ℕ). slice_get all m) (plus id k (length cs)) ∙ lie (k + 1 + length cs) parts.done parts.done_at in (
      record {
        copied = λ held p from to.
            let y = parts.copy (p - id) (omega arith) in
            let y_at : slice_get all p ≡ Some y.0 = ap (λ (m : ℕ). slice_get all m) (minus p id from)
            ∙ lie (p - id) y.0 y.1 in
            closed (id + k) p parts.commit y.0 commit_at y_at to
            (by_row whole links parts.commit _ y.0 Commit Copy t t parts.commit_is y.2 (rw (same_test t) refl)) held;
        chained = before_commit (id + k) parts.commit (omega arith) commit_at parts.commit_is;
        after_commit = λ p from to held.
            let y = parts.change (p - (id + k + 1)) (omega arith) in
            let y_at : slice_get all p ≡ Some y.0 = ap (λ (m : ℕ). slice_get all m) (minus_two p id k from)
            ∙ lie (k + 1 + (p - (id + k + 1))) y.0 y.2 in
            closed p (id + k) y.0 parts.commit y_at commit_at from
            (by_row whole links y.0 _ parts.commit (InPlace y.1) Commit t t y.3 parts.commit_is (rw (same_test t) refl))
            held;
        done_last = λ held p from to. elim (here_or_after p (id + k) from) [
          | inl here ↦ subst (λ (m : ℕ). has set m ≡ true) (sym here)
              (closed (id + k + 1 + length cs) (id + k) parts.done parts.commit done_at commit_at (omega arith)
              (by_header whole links parts.done _ parts.commit j t k targets parts.done_place parts.commit_place) held)
          | inr later ↦
              let y = parts.change (p - (id + k + 1)) (omega arith) in
              let y_at : slice_get all p ≡ Some y.0 = ap (λ (m : ℕ). slice_get all m) (minus_two p id k later)
              ∙ lie (k + 1 + (p - (id + k + 1))) y.0 y.2 in
              closed (id + k + 1 + length cs) p parts.done y.0 done_at y_at to
              (by_row whole links parts.done _ y.0 Done (InPlace y.1) t t parts.done_is y.3
              (rw (same_test t) refl)) held
        ];
        done_chained = before_done (id + k + 1 + length cs) parts.done (omega arith) done_at parts.done_is;
      },
      closed_log ops n all whole links set d' (id + k + 1 + length cs + 1) (t + 1) (j + 1 + k) (has set (id + k))
          (has set (id + k + 1 + length cs)) closed
          (λ i y h. let long : length xs ≡ k + 1 + length cs + 1 = parts.long in
          ap (λ (m : ℕ). slice_get all m) (plus_all id k (length cs) i)
          ∙ lies (k + 1 + length cs + 1 + i) y (get-right xs rest i (k + 1 + length cs + 1 + i) (omega arith) ∙ h))
          (λ q x from at is held. closed q (id + k) x parts.commit at commit_at (omega arith)
          (by_row whole links x _ parts.commit Commit Commit (t + 1) t is parts.commit_is (rw (same_test (t + 1)) refl))
          held)
          (λ q x from at is held. closed q (id + k + 1 + length cs) x parts.done at done_at (omega arith)
          (by_row whole links x _ parts.done Done Done (t + 1) t is parts.done_is (rw (same_test (t + 1)) refl)) held),
    )
  where
    plus : (id k m : ℕ) → id + k + 1 + m ≡ id + (k + 1 + m)
    plus id k m = omega arith

    plus_all : (id k m i : ℕ) → id + k + 1 + m + 1 + i ≡ id + (k + 1 + m + 1 + i)
    plus_all id k m i = omega arith

    minus : (p id : ℕ) → id ≤ p → p ≡ id + (p - id)
    minus p id h = omega arith

    minus_two : (p id k : ℕ) → id + k < p → p ≡ id + (k + 1 + (p - (id + k + 1)))
    minus_two p id k h = omega arith

    here_or_after : (p a : ℕ) → a ≤ p → (p ≡ a) ⊎ (a < p)
    here_or_after p a h = grind arith
