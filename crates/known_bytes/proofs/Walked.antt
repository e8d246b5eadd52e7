-- What the walk over headers that may be there keeps, on all images of a family.
use Rattle.std.proofs.Common.{◌≡◌, ◌≢◌, ℕ, ◌+◌, ◌<◌, ◌≤◌, ◌⊎◌, inl, inr, List, [], ◌∷◌, length, ◌&&◌, get_or, Bool}
use Rattle.std.proofs.Common.{true, false}
use Rattle.std.proofs.Common.{arith, tests, refl, sym, ◌∙◌, ap, subst}
use Rattle.std.specs.Prelude.{slice_index, ◌==◌, unwrap_or, Option, zero, suc, Result, Ok, Err, IfErr, nat_le, None}
use Rattle.std.specs.List.{All, list_all}
use Rattle.patch_sets.specs.Sets.{Has}
use Rattle.patch_sets.proofs.Bits.{none_in_empty}
use Rattle.crash_model.specs.Disk.{Disk, IsDisk, byte, block_of}
use Rattle.crash_model.specs.Patches.{image_of}
use Rattle.crash_model.specs.Replay.{is_header, is_target, is_ascending, count_of, targets_of, copy_in, copy_after}
use Rattle.crash_model.specs.Replay.{headers, headers_from, image_after_replay}
use Rattle.journal_replay.proofs.Blocks.{block-at}
use Rattle.journal_replay.proofs.Walk.{count_targets, walk_from, shaped-disk, disk_after_walk-image_after_replay}
use Rattle.journal_replay.proofs.Walk.{disk_after_walk-journal, header_targets}
use Rattle.journal_replay.proofs.Targets.{bool_is, header_fits, header_up, header_aimed, no_header_out}
use Rattle.journal_replay.proofs.Targets.{no_copy, apart_journal, IsOutside, same_header}
use Rattle.journal_replay.proofs.Walk.{disk_after_walk}
use Rattle.known_bytes.specs.Family.{Family, InEach, IsLike, IsMember, IsUndecided}
use Rattle.known_bytes.specs.Reading.{AreHomes, IsKnown, left}
use Rattle.known_bytes.specs.Headers.{AreNoted, HasTargets, HasNoHeader, IsHome, may_have}
use Rattle.known_bytes.proofs.Coming.{Comes, Stopped, AtDisk, comes_start, comes_end, still_stopped, comes_on}

-- ---- a byte after replay

-- a block of the journal has no copy
stays_found : (most : ℕ) (d : Disk) (j t x found : ℕ) → IsDisk d → 4 ≤ x → x < 4 + d.journal
    → copy_after d x found (headers_from most d j t) ≡ found
stays_found zero d j t x found i from to = refl
stays_found (suc most) d j t x found i from to = elim (bool_is (is_header d j t (block_of d j))) [
  | inr none ↦ rw none refl
  | inl is ↦
      let none : copy_in (block_of d j) j x ≡ None = no_copy (block_of d j) j x
      (apart_journal d.blocks d.journal x (targets_of (block_of d j)) (header_targets d j t i is) from to) in
      let rest : List ℕ = headers_from most d (j + 1 + count_of (block_of d j)) (t + 1) in
      opened most d j t x found is ∙ ap (λ (o : Option ℕ). copy_after d x (unwrap_or o found) rest) none
      ∙ stays_found most d (j + 1 + count_of (block_of d j)) (t + 1) x found i from to
]
  where
    opened : (most : ℕ) (d : Disk) (j t x found : ℕ) → is_header d j t (block_of d j) ≡ true
        → copy_after d x found (headers_from (suc most) d j t)
        ≡ copy_after d x (unwrap_or (copy_in (block_of d j) j x) found)
        (headers_from most d (j + 1 + count_of (block_of d j)) (t + 1))
    opened most d j t x found is =
        let js : headers_from (suc most) d j t ≡ j ∷ headers_from most d (j + 1 + count_of (block_of d j)) (t + 1) =
        rw is refl in
        ap (λ (js : List ℕ). copy_after d x found js) js

walked_block : (d : Disk) (b : ℕ) → IsDisk d → b < d.blocks
    → block_of (disk_after_walk d.journal d 4 1) b ≡ block_of d (copy_after d b b (headers d))
walked_block d b i below =
    let room : d.journal + 6 ≤ d.blocks = i.room in
    let s = shaped-disk d i in
    elim (in_or_out b d.journal) [
      | inl out ↦ (walk_from d.journal d.blocks d.journal d d 4 1 b b s s (omega arith) (omega arith) (λ x a b. refl)
          below out refl).0
      | inr is_in ↦ disk_after_walk-journal d b i is_in.0 is_in.1
          ∙ ap (λ (x : ℕ). block_of d x) (sym (stays_found d.journal d 4 1 b b i is_in.0 is_in.1))
    ]
  where
    in_or_out : (b jl : ℕ) → IsOutside jl b ⊎ ((4 ≤ b) × (b < 4 + jl))
    in_or_out b jl = grind arith

-- a byte after replay is that of the block where replay finds its block
pub replayed_byte : (d : Disk) (b home offset : ℕ) → IsDisk d → b < d.blocks → offset < 128
    → home ≡ copy_after d b b (headers d) → byte (image_after_replay d) b offset ≡ byte d home offset
replayed_byte d b home offset i below within is =
    sym (block-at (image_after_replay d) b offset within)
    ∙ ap (λ (e : Disk). get_or (block_of e b) offset 0) (sym (disk_after_walk-image_after_replay d i))
    ∙ ap (λ (row : List ℕ). get_or row offset 0) (walked_block d b i below)
    ∙ ap (λ (m : ℕ). get_or (block_of d m) offset 0) (sym is)
    ∙ block-at d home offset within

-- ---- what the loop keeps

pub record IsWalking (f : Family) (homes others asks : List ℕ) (at transaction : ℕ)
    (comes : Result Bool ℕ) : Type 0 where
  pub from : 4 ≤ at
  pub inside : at ≤ 4 + f.base.journal
  pub counted : transaction + 3 ≤ at
  pub within : (block home : ℕ) → block < f.base.blocks → IsHome homes others block home → home < f.base.blocks
  pub asked : (block : ℕ) → block < 128 → slice_index others block ≢ 0 → IsUndecided f (slice_index asks block)
  pub test : Disk → Bool
  pub known : IsKnown (left f) test comes
  pub goes : InEach f (λ d. test d ≡ true → Comes d homes others at transaction)
  pub stops : InEach f (λ d. test d ≡ false → Stopped d homes others)

pub walking_start : (f : Family) (homes others asks : List ℕ) → IsDisk f.base
    → ((b : ℕ) → b < 128 → slice_index homes b ≡ b) → ((b : ℕ) → slice_index others b ≡ 0)
    → IsWalking f homes others asks 4 1 (Ok true)
walking_start f homes others asks disk own none = record {
  from = omega arith;
  inside = omega arith;
  counted = omega arith;
  within = λ b home less is. elim is [
    | inl same ↦ omega (arith, disk.most, own b (omega (arith, disk.most)), same)
    | inr other ↦ absurd (none_in_empty home (subst (λ (s : ℕ). Has s home) (none b) other))
  ];
  asked = λ b less some. absurd (some (none b));
  test = λ d. true;
  known = λ set m. refl;
  goes = λ set m t. comes_start (image_of f.base f.patches set) homes others own;
  stops = λ set m no. absurd (cc);
}

at_disk : (f : Family) (test : Disk → Bool) (found : Result Bool ℕ) → IsKnown (left f) test found → (set : ℕ)
    → IsMember f set → AtDisk found (test (image_of f.base f.patches set))
at_disk f test (Ok value) known set m = known set m
at_disk f test (Err id) known set m = tt

third : (a b c : Bool) (found : Result Bool ℕ) → a ≡ true → b ≡ true → AtDisk found ((a && b) && c) → AtDisk found c
third true true c found h k is = is
third true false c found h k is = absurd (cc)
third false b c found h k is = absurd (cc)

undecided_of : (f : Family) (test : Disk → Bool) (found : Result Bool ℕ) (id : ℕ) → IsKnown (left f) test found
    → found ≡ Err id → IsUndecided f id
undecided_of f test found id known is = subst (λ (r : Result Bool ℕ). IsKnown (left f) test r) is known

module _ (f : Family) (old was new is before after : List ℕ) (at transaction : ℕ) (comes : Result Bool ℕ)
    (targets : List ℕ) (disk : IsDisk f.base) (like : InEach f (IsLike f.base))
    (walk : IsWalking f old was before at transaction comes) (may : may_have f.base at targets ≡ true)
    (shape : HasTargets f at targets) where
  room : at + length targets ≤ 3 + f.base.journal
  room = may_room (at + length targets) (3 + f.base.journal) (is_ascending targets)
      (list_all (is_target f.base) targets) may
    where
      may_room : (a b : ℕ) (x y : Bool) → (nat_le a b && x && y) ≡ true → a ≤ b
      may_room a b x y h = grind (arith, tests)

  abbrev is_there : Disk → Bool
  is_there d = is_header d at transaction (block_of d at)

  abbrev is_copied : Disk → Bool
  is_copied d = (is_there d && walk.test d) && (byte d at 0 == 0xC7)

  pub walking_step : (there copied next : Result Bool ℕ) → IsKnown (left f) is_there there
      → IsKnown (left f) is_copied copied → IsKnown (left f) (λ d. walk.test d && is_there d) next
      → AreNoted copied old was new is (at + 1) targets
      → ((b : ℕ) → slice_index is b ≢ 0 → ((slice_index was b ≢ 0) × (slice_index after b ≡ slice_index before b))
      ⊎ (copied ≡ Err (slice_index after b)))
      → IsWalking f new is after (at + (1 + length targets)) (transaction + 1) next
  walking_step there copied next there_known copied_known next_known noted asks = record {
    from = omega (arith, walk.from);
    inside = omega (arith, room);
    counted = omega (arith, walk.counted);
    within = λ b home less is_home. elim (noted.within b home is_home) [
      | inl kept ↦ walk.within b home less kept
      | inr copy ↦ omega (arith, room, disk.room, copy.1)
    ];
    asked = λ b less now. elim (asks b now) [
      | inl kept ↦ subst (λ (k : ℕ). IsUndecided f k) (sym kept.1) (walk.asked b less kept.0)
      | inr fresh ↦ undecided_of f is_copied copied (slice_index after b) copied_known fresh
    ];
    test = λ d. walk.test d && is_there d;
    known = next_known;
    goes = λ set m both. goes set m both;
    stops = λ set m not_both. stops set m not_both;
  }
    where
      left_of : (a b : Bool) → (a && b) ≡ true → a ≡ true
      left_of true b h = refl
      left_of false b h = absurd (cc)

      right_of : (a b : Bool) → (a && b) ≡ true → b ≡ true
      right_of true b h = h
      right_of false b h = absurd (cc)

      no_third : (a b c : Bool) → (a && b) ≡ false → ((b && a) && c) ≡ false
      no_third true true c h = absurd (cc)
      no_third true false c h = refl
      no_third false true c h = refl
      no_third false false c h = refl

      not_right : (a b : Bool) → a ≡ true → (a && b) ≡ false → b ≡ false
      not_right true b e h = h
      not_right false b e h = absurd (cc)

      at_mark : (d : Disk) (found : Result Bool ℕ) → AtDisk found (byte d at 0 == 0xC7)
          → AtDisk found (slice_index (block_of d at) 0 == 0xC7)
      at_mark d found h = subst (λ (x : ℕ). AtDisk found (x == 0xC7)) (sym (block-at d at 0 (omega arith))) h

      goes : (set : ℕ) → IsMember f set → (walk.test (image_of f.base f.patches set)
          && is_there (image_of f.base f.patches set)) ≡ true
          → Comes (image_of f.base f.patches set) new is (at + (1 + length targets)) (transaction + 1)
      goes set m both =
          let d : Disk = image_of f.base f.patches set in
          let t = left_of (walk.test d) (is_there d) both in
          let h = right_of (walk.test d) (is_there d) both in
          comes_on d at transaction old was new is targets (like set m).disk h (shape set m transaction h) copied
          (at_mark d copied (third (is_there d) (walk.test d) (byte d at 0 == 0xC7) copied h t
          (at_disk f is_copied copied copied_known set m))) noted (walk.goes set m t)

      stops : (set : ℕ) → IsMember f set → (walk.test (image_of f.base f.patches set)
          && is_there (image_of f.base f.patches set)) ≡ false → Stopped (image_of f.base f.patches set) new is
      stops set m not_both =
          let d : Disk = image_of f.base f.patches set in
          still_stopped d old was new is (at + 1) targets copied (is_copied d)
          (at_disk f is_copied copied copied_known set m)
          (no_third (walk.test d) (is_there d) (byte d at 0 == 0xC7) not_both) noted
          (elim (bool_is (walk.test d)) [
            | inr f ↦ walk.stops set m f
            | inl t ↦ comes_end d old was at transaction (not_right (walk.test d) (is_there d) t not_both)
                (walk.goes set m t)
          ])

pub none_may : (f : Family) (at : ℕ) (targets : List ℕ) → InEach f (IsLike f.base) → HasTargets f at targets
    → may_have f.base at targets ≡ false → at < f.base.blocks → HasNoHeader f at
none_may f at targets like shape never below set m transaction =
    let d : Disk = image_of f.base f.patches set in
    let alike = like set m in
    elim (bool_is (is_header d at transaction (block_of d at))) [
      | inr none ↦ none
      | inl is ↦
          let same = shape set m transaction is in
          let here : is_header f.base at transaction (block_of d at) ≡ true =
          sym (same_header f.base d at transaction (block_of d at) alike.blocks alike.journal) ∙ is in
          let size : length (targets_of (block_of d at)) ≡ count_of (block_of d at) =
          count_targets d at transaction alike.disk (omega (arith, alike.blocks)) is in
          let fits = header_fits f.base at transaction (block_of d at) here in
          let all = tests_of (at + count_of (block_of d at)) (3 + f.base.journal) _ _ fits
          (header_up f.base at transaction (block_of d at) here)
          (header_aimed f.base at transaction (block_of d at) here) in
          let long : count_of (block_of d at) ≡ length targets = sym size ∙ ap (λ (xs : List ℕ). length xs) same in
          let may : may_have f.base at targets ≡ true =
          ap (λ (n : ℕ). nat_le (at + n) (3 + f.base.journal) && is_ascending targets
          && list_all (is_target f.base) targets) (sym long)
          ∙ ap (λ (ts : List ℕ). nat_le (at + count_of (block_of d at)) (3 + f.base.journal) && is_ascending ts
          && list_all (is_target f.base) ts) (sym same) ∙ all in
          absurd (let t : true ≡ false = sym may ∙ never in cc)
    ]
  where
    tests_of : (a b : ℕ) (x y : Bool) → a ≤ b → x ≡ true → y ≡ true → (nat_le a b && x && y) ≡ true
    tests_of a b x y le h k = grind (arith, tests)

pub walking_end : (f : Family) (homes others asks : List ℕ) (at transaction : ℕ) (comes : Result Bool ℕ)
    → InEach f (IsLike f.base) → InEach f (λ d. is_header d at transaction (block_of d at) ≡ false)
    → IsWalking f homes others asks at transaction comes
    → AreHomes record { family = f; replayed = true } homes others asks
walking_end f homes others asks at transaction comes like none w = record {
  within = w.within;
  among = λ set m block below.
      let d : Disk = image_of f.base f.patches set in
      let disk = (like set m).disk in
      let over : Stopped d homes others = elim (bool_is (w.test d)) [
        | inr f ↦ w.stops set m f
        | inl t ↦ comes_end d homes others at transaction (none set m) (w.goes set m t)
      ] in (
        copy_after d block block (headers d),
        over.home block (omega (arith, disk.most)),
        λ offset within. replayed_byte d block (copy_after d block block (headers d)) offset disk below within refl,
      );
  asked = w.asked;
}

pub out_of_journal : (f : Family) (at transaction : ℕ) → InEach f (IsLike f.base) → 4 + f.base.journal ≤ at
    → InEach f (λ d. is_header d at transaction (block_of d at) ≡ false)
out_of_journal f at transaction like past set m =
    let d : Disk = image_of f.base f.patches set in
    no_header_out d at transaction (block_of d at) (omega (arith, (like set m).journal))

-- targets are blocks
pub all_blocks : (d : Disk) (at : ℕ) (targets : List ℕ) → IsDisk d → may_have d at targets ≡ true
    → All (λ target. target < 128) targets
all_blocks d at targets disk may = λ k x below. one (get_or targets k x) (each targets (right_of (nat_le (at + length
    targets) (3 + d.journal)) (is_ascending targets) (list_all (is_target d) targets) may) k x below)
  where
    right_of : (a b c : Bool) → (a && b && c) ≡ true → c ≡ true
    right_of a b c h = grind (arith, tests)

    left_one : (a b : Bool) → (a && b) ≡ true → a ≡ true
    left_one true b h = refl
    left_one false b h = absurd (cc)

    right_one : (a b : Bool) → (a && b) ≡ true → b ≡ true
    right_one true b h = h
    right_one false b h = absurd (cc)

    one : (t : ℕ) → is_target d t ≡ true → t < 128
    one t h = let most : d.blocks ≤ 128 = disk.most in grind (arith, tests)

    each : (ts : List ℕ) → list_all (is_target d) ts ≡ true → (k x : ℕ) → k < length ts
        → is_target d (get_or ts k x) ≡ true
    each [] h k x less = absurd (omega arith)
    each (t ∷ ts) h zero x less = left_one (is_target d t) (list_all (is_target d) ts) h
    each (t ∷ ts) h (suc k) x less = each ts (right_one (is_target d t) (list_all (is_target d) ts) h) k x (omega arith)

-- an undecided patch is one of the graph
pub err_small : (f : Family) (test : Disk → Bool) (found : Result Bool ℕ) → length f.patches < 128
    → IsKnown (left f) test found → IfErr found (λ id. id < 128)
err_small f test (Ok value) few known = tt
err_small f test (Err id) few known = omega (arith, known.known)
