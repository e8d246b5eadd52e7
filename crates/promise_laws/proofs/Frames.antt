-- Changes that meet no range of a path leave the bytes of the ranges, and so what the path shows.
use Rattle.std.proofs.Common.{◌≡◌, ℕ, zero, suc, ◌+◌, ◌*◌, ◌/◌, ◌%◌, ◌<◌, ◌≤◌, ◌⊎◌, inl, inr, List, [], ◌∷◌, ◌++◌}
use Rattle.std.proofs.Common.{length, take, map, Bool, true, false, ◌&&◌, Option, Some, None, get_or, max, arith, refl}
use Rattle.std.proofs.Common.{sym, ◌∙◌, ap, subst, nat_lt}
use Rattle.std.specs.Prelude.{◌==◌, if◌then◌else◌}
use Rattle.std.specs.List.{flat_map, list_any, range_with_len}
use Rattle.std.proofs.lemmas.Bool.{cases_lt, cases_order, or_parts, eq-eqb, eqb-true, lt-ltb, false≢true}
use Rattle.std.proofs.lemmas.Grind.{same_number_lists}
use Rattle.crash_model.specs.Disk.{Disk, byte, block_of, with_bytes}
use Rattle.crash_model.specs.Layout.{pointer_of}
use Rattle.crash_model.specs.Paths.{child_of}
use Rattle.crash_model.specs.Patches.{Place, place}
use Rattle.crash_model.specs.Plan.{with_changes}
use Rattle.crash_model.specs.Trace.{Emitted, Origin, part_of, in_place_patch, copies, journal_patches, touched_blocks}
use Rattle.crash_model.specs.Waiting.{range, inode_range, block_ranges, pointed_ranges, ranges_from, meets_range, meets}
use Rattle.crash_model.specs.Waiting.{is_of_contents, last_op_number}
use Rattle.crash_model.specs.declared.plans.Change.{Change}
use Rattle.crash_model.specs.declared.ranges.Range.{Range}
use Rattle.crash_model.specs.declared.rules.Part.TheVariants.{Commit, Done}
use Rattle.soundness_laws.proofs.Puts.{byte-outside, data-block}
use Rattle.journal_replay.proofs.Blocks.{IsShaped, shaped-inside, length-block, block-at}
use Rattle.full_journal_laws.proofs.Final.{with_all_changes}
use Rattle.full_journal_laws.proofs.Images.{shaped-with_bytes}
use Rattle.full_journal_laws.proofs.Logs.{log_emitted}
use Rattle.full_journal_laws.proofs.Traces.{Logged, changes_of}
use Rattle.full_journal_laws.proofs.Transactions.{IsPlaced, ArePlaced, change_places, IsLog}
use Rattle.full_journal_laws.proofs.TurnPlaces.{shaped-with_changes}
use Rattle.promise_laws.proofs.Shows.{SameInode, SameSlot, Agree}

-- the bytes of a range are the same
abbrev pub SameRange : Range → Disk → Disk → Type 0
SameRange r d e = (o : ℕ) → o < 128 → r.offset ≤ o → o < r.offset + r.size → byte e r.block o ≡ byte d r.block o

abbrev pub SameIn : List Range → Disk → Disk → Type 0
SameIn [] d e = Unit {0}
SameIn (r ∷ rs) d e = SameRange r d e × SameIn rs d e

pub same-self : (rs : List Range) (d : Disk) → SameIn rs d d
same-self [] d = tt
same-self (r ∷ rs) d = (λ o small from to. refl, same-self rs d)

pub same-back : (rs : List Range) (d e : Disk) → SameIn rs d e → SameIn rs e d
same-back [] d e same = tt
same-back (r ∷ rs) d e same = (λ o small from to. sym (same.0 o small from to), same-back rs d e same.1)

pub same-on : (rs : List Range) (d e f : Disk) → SameIn rs d e → SameIn rs e f → SameIn rs d f
same-on [] d e f one two = tt
same-on (r ∷ rs) d e f one two = (
  λ o small from to. two.0 o small from to ∙ one.0 o small from to,
  same-on rs d e f one.1 two.1,
)

-- ---- one change

range-spared : (r : Range) (n jl : ℕ) (d : Disk) (p : Place) → IsShaped n jl d → IsPlaced n p → meets_range p r ≡ false
    → SameRange r d (with_bytes d p.block p.offset p.new)
range-spared r n jl d p shaped placed spared o small from to =
    let inside : p.offset + length p.new ≤ 128 = placed.inside in
    let known : p.block < n = placed.known in
    let long : length d.bytes ≡ 128 * n = shaped.long in
    byte-outside d.bytes (128 * p.block + p.offset) p.new (128 * r.block + o) (omega arith)
    (elim (cases_order p.block r.block) [
      | inl same ↦ elim (cases_lt p.offset (r.offset + r.size)) [
        | inr behind ↦ inl (omega arith)
        | inl before ↦ elim (cases_lt r.offset (p.offset + length p.new)) [
          | inr after ↦ inr (omega arith)
          | inl inside ↦ absurd (false≢true (sym spared ∙ met p.block r.block p.offset (r.offset + r.size) r.offset
              (p.offset + length p.new) same before inside))
        ]
      ]
      | inr apart ↦ elim apart [ inl low ↦ inr (omega arith) | inr high ↦ inl (omega arith) ]
    ])
  where
    met : (b c x y z w : ℕ) → b ≡ c → x < y → z < w → (b == c && nat_lt x y && nat_lt z w) ≡ true
    met b c x y z w same one two = rw (eq-eqb b c same, lt-ltb x y one, lt-ltb z w two) refl

change-spared : (rs : List Range) (n jl : ℕ) (d : Disk) (p : Place) → IsShaped n jl d → IsPlaced n p
    → list_any (meets_range p) rs ≡ false → SameIn rs d (with_bytes d p.block p.offset p.new)
change-spared [] n jl d p shaped placed spared = tt
change-spared (r ∷ rs) n jl d p shaped placed spared =
    let both = or_parts (meets_range p r) (list_any (meets_range p) rs) spared in
    (range-spared r n jl d p shaped placed both.0, change-spared rs n jl d p shaped placed both.1)

-- ---- the last operation that has a property

module _ (test : Emitted → Bool) where
  pub last-append : (xs ys : List Emitted) → last_op_number test (xs ++ ys) ≡ max (last_op_number test xs)
      (last_op_number test ys)
  last-append [] ys = omega arith
  last-append (x ∷ xs) ys = by (test x) (last-append xs ys)
    where
      by : (b : Bool) → last_op_number test (xs ++ ys) ≡ max (last_op_number test xs) (last_op_number test ys)
          → (if b then max x.op_number (last_op_number test (xs ++ ys)) else last_op_number test (xs ++ ys))
          ≡ max (if b then max x.op_number (last_op_number test xs) else last_op_number test xs)
          (last_op_number test ys)
      by true more = omega arith
      by false more = more

  one-last : (x : Emitted) (xs : List Emitted) (t : ℕ) → x.op_number ≡ t → last_op_number test xs ≤ t
      → last_op_number test (x ∷ xs) ≤ t
  one-last x xs t is rest = by (test x)
    where
      by : (b : Bool) → (if b then max x.op_number (last_op_number test xs) else last_op_number test xs) ≤ t
      by true = omega arith
      by false = rest

  last-copies : (after : Disk) (t j : ℕ) (g : Origin) (bs : List ℕ) → last_op_number test (copies after t j g bs) ≤ t
  last-copies after t j g [] = omega arith
  last-copies after t j g (b ∷ bs) = one-last _ (copies after t (j + 1) g bs) t refl (last-copies after t (j + 1) g bs)

  last-plain : (t : ℕ) (g : Origin) (cs : List Change) → last_op_number test (map (in_place_patch t g) cs) ≤ t
  last-plain t g [] = omega arith
  last-plain t g (c ∷ cs) = one-last (in_place_patch t g c) (map (in_place_patch t g) cs) t refl (last-plain t g cs)

  -- those of a transaction, and of the changes among its patches
  pub last-turn : (after : Disk) (t j : ℕ) (g : Origin) (targets : List ℕ) (cs : List Change)
      → (last_op_number test (journal_patches after t j g targets cs) ≤ t)
      × (last_op_number test (map (in_place_patch t g) cs) ≤ last_op_number test
      (journal_patches after t j g targets cs))
  last-turn after t j g targets cs =
      let commit : Emitted = part_of t g Commit j 0 (0xC7 ∷ t ∷ length targets ∷ targets) in
      let done : Emitted = part_of t g Done j 0 (0xC8 ∷ []) in
      let plain : List Emitted = map (in_place_patch t g) cs in
      let first = last-copies after t (j + 1) g targets in
      let some = last-plain t g cs in
      let end = last-append plain (done ∷ []) in
      let last : last_op_number test (done ∷ []) ≤ t = one-last done [] t refl (omega arith) in
      let rest : last_op_number test (commit ∷ (plain ++ (done ∷ []))) ≤ t =
      one-last commit (plain ++ (done ∷ [])) t refl (omega arith) in
      let over : last_op_number test (plain ++ (done ∷ [])) ≤ last_op_number test (commit ∷ (plain ++ (done ∷ []))) =
      more commit (plain ++ (done ∷ [])) in
      let whole = last-append (copies after t (j + 1) g targets) (commit ∷ (plain ++ (done ∷ []))) in
      (omega arith, omega arith)
    where
      more : (x : Emitted) (xs : List Emitted) → last_op_number test xs ≤ last_op_number test (x ∷ xs)
      more x xs = by (test x)
        where
          by : (b : Bool) → last_op_number test xs ≤
              (if b then max x.op_number (last_op_number test xs) else last_op_number test xs)
          by true = omega arith
          by false = omega arith

  -- no operation comes behind a log
  pub last-log : (n : ℕ) (d : Disk) (t j : ℕ) (log : Logged) → 1 ≤ t
      → last_op_number test (log_emitted n d t j log) < t + length log
  last-log n d t j [] least = omega arith
  last-log n d t j (o ∷ log) least =
      let targets : List ℕ = touched_blocks n o.1 in
      let one = last-turn (with_changes d o.1) t j o.0 targets o.1 in
      let rest = last-log n (with_changes d o.1) (t + 1) (j + 1 + length targets) log (omega arith) in
      let whole = last-append (journal_patches (with_changes d o.1) t j o.0 targets o.1)
      (log_emitted n (with_changes d o.1) (t + 1) (j + 1 + length targets) log) in
      omega (arith, one.0)

-- ---- changes

abbrev pub in_places : List Range → Emitted → Bool
in_places rs q = is_of_contents q && meets rs q

changes-spared : (rs : List Range) (n jl : ℕ) (d : Disk) (t : ℕ) (g : Origin) (cs : List Change) → IsShaped n jl d
    → ArePlaced n (change_places cs) → last_op_number (in_places rs) (map (in_place_patch t g) cs) < t
    → SameIn rs d (with_changes d cs)
changes-spared rs n jl d t g [] shaped placed last = same-self rs d
changes-spared rs n jl d t g (c ∷ cs) shaped placed last =
    let p : Place = place c.block c.offset c.new.items in
    let next : Disk = with_bytes d c.block c.offset c.new.items in
    let rest = λ (less : last_op_number (in_places rs) (map (in_place_patch t g) cs) < t).
    changes-spared rs n jl next t g cs (shaped-with_bytes n jl d p shaped placed.0) placed.1 less in
    by (list_any (meets_range p) rs) refl last rest
  where
    by : (b : Bool) → list_any (meets_range (place c.block c.offset c.new.items)) rs ≡ b
        → (if b then max t (last_op_number (in_places rs) (map (in_place_patch t g) cs))
        else last_op_number (in_places rs) (map (in_place_patch t g) cs)) < t
        → (last_op_number (in_places rs) (map (in_place_patch t g) cs) < t
        → SameIn rs (with_bytes d c.block c.offset c.new.items)
        (with_changes (with_bytes d c.block c.offset c.new.items) cs))
        → SameIn rs d (with_changes (with_bytes d c.block c.offset c.new.items) cs)
    by true is less rest = absurd (omega arith)
    by false is less rest = same-on rs d (with_bytes d c.block c.offset c.new.items)
        (with_changes (with_bytes d c.block c.offset c.new.items) cs)
        (change-spared rs n jl d (place c.block c.offset c.new.items) shaped placed.0 is) (rest less)

take_none : (k : ℕ) → ◌≡◌ {A = List (List Change)} (take k []) []
take_none zero = refl
take_none (suc k) = refl

-- The disk after the operations of a log, and that after its first k: the bytes of the ranges are the same, if no
-- operation behind these k changes them.
pub same-after : (rs : List Range) (log : Logged) (n jl : ℕ) (d : Disk) (t j last k : ℕ) → IsShaped n jl d
    → IsLog n jl d j (changes_of log) → last_op_number (in_places rs) (log_emitted n d t j log) ≤ last → last < t + k
    → SameIn rs (with_all_changes d (take k (changes_of log))) (with_all_changes d (changes_of log))
same-after rs [] n jl d t j last k shaped is most less =
    subst (λ (ops : List (List Change)). SameIn rs (with_all_changes d ops) d) (sym (take_none k)) (same-self rs d)
same-after rs (o ∷ log) n jl d t j last zero shaped is most less =
    let targets : List ℕ = touched_blocks n o.1 in
    let after : Disk = with_changes d o.1 in
    let one = last-turn (in_places rs) after t j o.0 targets o.1 in
    let whole = last-append (in_places rs) (journal_patches after t j o.0 targets o.1)
    (log_emitted n after (t + 1) (j + 1 + length targets) log) in
    same-on rs d after (with_all_changes after (changes_of log))
    (changes-spared rs n jl d t o.0 o.1 shaped is.0.placed (omega (arith, one.1)))
    (same-after rs log n jl after (t + 1) (j + 1 + length targets) last zero
    (shaped-with_changes n jl d j o.1 shaped is.0) is.1 (omega arith) (omega arith))
same-after rs (o ∷ log) n jl d t j last (suc k) shaped is most less =
    let targets : List ℕ = touched_blocks n o.1 in
    let after : Disk = with_changes d o.1 in
    let whole = last-append (in_places rs) (journal_patches after t j o.0 targets o.1)
    (log_emitted n after (t + 1) (j + 1 + length targets) log) in
    same-after rs log n jl after (t + 1) (j + 1 + length targets) last k
    (shaped-with_changes n jl d j o.1 shaped is.0) is.1 (omega arith) (omega arith)

-- ---- the ranges of a path

same-right : (rs qs : List Range) (d e : Disk) → SameIn (rs ++ qs) d e → SameIn rs d e × SameIn qs d e
same-right [] qs d e same = (tt, same)
same-right (r ∷ rs) qs d e same = let rest = same-right rs qs d e same.1 in ((same.0, rest.0), rest.1)

same-part : (ranges : ℕ → List Range) (d e : Disk) (a n s : ℕ) → a ≤ s → s < a + n
    → SameIn (flat_map ranges (range_with_len a n)) d e → SameIn (ranges s) d e
same-part ranges d e a zero s from to same = absurd (omega arith)
same-part ranges d e a (suc n) s from to same =
    let both = same-right (ranges a) (flat_map ranges (range_with_len (a + 1) n)) d e same in
    elim (first a s from) [
      | inl here ↦ subst (λ (x : ℕ). SameIn (ranges x) d e) here both.0
      | inr later ↦ same-part ranges d e (a + 1) n s later (omega arith) both.1
    ]
  where
    first : (a s : ℕ) → a ≤ s → (a ≡ s) ⊎ (a + 1 ≤ s)
    first a s from = grind arith

module _ (d e : Disk) (n jl : ℕ) (shaped : IsShaped n jl d) (other : IsShaped n jl e) where
  block-same : (b : ℕ) → b < n → SameRange (range b 0 128) d e → block_of e b ≡ block_of d b
  block-same b known same =
      let one = length-block e b (shaped-inside n jl e b other known) in
      let two = length-block d b (shaped-inside n jl d b shaped known) in
      same_number_lists _ _ (one ∙ sym two) (λ o below.
      let small : o < 128 = omega arith in
      block-at e b o small ∙ (same o small (omega arith) (omega arith) ∙ sym (block-at d b o small)))

  slot-same : (i s : ℕ) → SameIn (block_ranges (pointer_of d i s)) d e → SameSlot d e i s
  slot-same i s same inside =
      let area = data-block d (pointer_of d i s) inside in
      block-same (pointer_of d i s) (subst (λ (m : ℕ). pointer_of d i s < m) shaped.blocks area.1) same.0

  inode-same : (i : ℕ) → SameRange (inode_range i 0 16) d e → SameInode d e i
  inode-same i same = record {
    at = λ o p less is.
        let off : ℕ = 16 * (i % 8) + 0 + o in
        let at : p ≡ 128 * (2 + i / 8) + off = omega arith in
        ap (λ (m : ℕ). get_or e.bytes m 0) at
        ∙ (same off (omega arith) (omega arith) (omega arith) ∙ ap (λ (m : ℕ). get_or d.bytes m 0) (sym at));
  }

  pointed-same : (i s : ℕ) → s < 4 → SameIn (pointed_ranges d i block_ranges) d e → SameSlot d e i s
  pointed-same i s less same inside =
      slot-same i s (by (pointer_of d i s == 0) refl (same-part
      (λ slot. if pointer_of d i slot == 0 then [] else block_ranges (pointer_of d i slot)) d e 0 4 s (omega arith)
      (omega arith) same)) inside
    where
      by : (b : Bool) → (pointer_of d i s == 0) ≡ b
          → SameIn (if b then [] else block_ranges (pointer_of d i s)) d e
          → SameIn (block_ranges (pointer_of d i s)) d e
      by false is same = same
      by true is same = absurd (let area = data-block d (pointer_of d i s) inside in
          let none : pointer_of d i s ≡ 0 = eqb-true (pointer_of d i s) 0 is in omega (arith, area.0))

  pub agree-in : (inode : Option ℕ) (names : List (List ℕ)) → SameIn (ranges_from d inode names) d e
      → Agree d e inode names
  agree-in None [] same = tt
  agree-in None (name ∷ names) same = tt
  agree-in (Some i) [] same = (inode-same i same.0, λ s less. pointed-same i s less same.1)
  agree-in (Some i) (name ∷ names) same = (
    inode-same i same.0,
    slot-same i 0 (same.1.0, (same.1.1.0, tt)),
    agree-in (child_of d i name) names same.1.1.1,
  )
