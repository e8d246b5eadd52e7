-- Replay by a walk that copies while it goes.
use Rattle.std.proofs.Common.{◌≡◌, ◌≢◌, ℕ, zero, suc, ◌+◌, ◌-◌, ◌*◌, ◌<◌, ◌≤◌, ◌⊎◌, inl, inr, List, [], ◌∷◌, ◌++◌}
use Rattle.std.proofs.Common.{length, take, drop, get_or, Bool, true, false, Option, None, arith, refl, sym, ◌∙◌, ap}
use Rattle.std.proofs.Common.{subst}
use Rattle.std.specs.Prelude.{slice_index, unwrap_or, option_map, if◌then◌else◌, ◌==◌}
use Rattle.std.specs.List.{position, All}
use Rattle.std.proofs.lemmas.List.{length-take, length-drop, length-take-le}
use Rattle.std.proofs.lemmas.List.Elements.{All-nil, All-cons, All-same}
use Rattle.crash_model.specs.Disk.{Disk, block_of, with_bytes, IsDisk}
use Rattle.crash_model.specs.Replay.{is_header, headers_from, headers, copy_in, copy_after, count_of, targets_of}
use Rattle.crash_model.specs.Replay.{is_ascending, image_after_replay}
use Rattle.journal_replay.specs.Walk.{with_copies}
use Rattle.journal_replay.specs.Header.{Head, IsHeaderAt}
use Rattle.journal_replay.proofs.Blocks.{IsShaped, shaped-inside, length-block, shaped-copy, copy-other, copy-same}
use Rattle.journal_replay.proofs.Blocks.{joined_blocks}
use Rattle.journal_replay.proofs.Targets.{bool_is, found_or_not, Apart, AreTargets, IsOutside, apart_above, apart_none}
use Rattle.journal_replay.proofs.Targets.{apart_journal, outside_apart, tail_up, targets, same_header, header_in}
use Rattle.journal_replay.proofs.Targets.{header_some, header_few, header_fits, header_up, header_aimed, no_header_out}
use Rattle.journal_replay.proofs.Targets.{no_copy}

abbrev pub with_row_copies : Disk → ℕ → List ℕ → Disk
with_row_copies d j row = if slice_index row 0 == 0xC7 then with_copies d (j + 1) (targets_of row) else d

-- the disk after a walk over at most `most` headers from block j on
abbrev pub disk_after_walk : ℕ → Disk → ℕ → ℕ → Disk
disk_after_walk zero d j t = d
disk_after_walk (suc most) d j t =
    if is_header d j t (block_of d j) then disk_after_walk most (with_row_copies d j (block_of d j))
    (j + 1 + count_of (block_of d j)) (t + 1) else d

-- ---- copies

pub shaped-with_copies : (n jl : ℕ) (d : Disk) (j : ℕ) (bs : List ℕ) → IsShaped n jl d → j + length bs ≤ n
    → AreTargets n jl bs → IsShaped n jl (with_copies d j bs)
shaped-with_copies n jl d j [] s h t = s
shaped-with_copies n jl d j (b ∷ bs) s h t =
    shaped-with_copies n jl (with_bytes d b 0 (block_of d j)) (j + 1) bs (shaped-copy n jl d j b s (omega arith) t.0.0)
    (omega arith) t.1

-- a block apart from the targets stays
pub copied_none : (n jl : ℕ) (d : Disk) (j x : ℕ) (bs : List ℕ) → IsShaped n jl d → j + length bs ≤ n
    → AreTargets n jl bs → x < n → Apart x bs → block_of (with_copies d j bs) x ≡ block_of d x
copied_none n jl d j x [] s h t less apart = refl
copied_none n jl d j x (b ∷ bs) s h t less apart =
    copied_none n jl (with_bytes d b 0 (block_of d j)) (j + 1) x bs (shaped-copy n jl d j b s (omega arith) t.0.0)
    (omega arith) t.1 less apart.1
    ∙ copy-other n jl d j b x s (omega arith) t.0.0 less apart.0

-- the m-th target gets the m-th block
pub copied_found : (n jl : ℕ) (d : Disk) (j b m : ℕ) (bs : List ℕ) → IsShaped n jl d → 4 ≤ j → j + length bs ≤ 4 + jl
    → 4 + jl ≤ n → AreTargets n jl bs → is_ascending bs ≡ true → b < n → m < length bs → get_or bs m 0 ≡ b
    → block_of (with_copies d j bs) b ≡ block_of d (j + m)
copied_found n jl d j b m [] s least h room t up less inside is = absurd (omega arith)
copied_found n jl d j b zero (x ∷ bs) s least h room t up less inside is =
    subst (λ (y : ℕ). block_of (with_copies (with_bytes d x 0 (block_of d j)) (j + 1) bs) y ≡ block_of d (j + 0)) is
    (copied_none n jl (with_bytes d x 0 (block_of d j)) (j + 1) x bs (shaped-copy n jl d j x s (omega arith) t.0.0)
    (omega arith) t.1 t.0.0 (apart_above x x bs up (omega arith))
    ∙ copy-same n jl d j x s (omega arith) t.0.0
    ∙ ap (λ (y : ℕ). block_of d y) (zero_more j))
  where
    zero_more : (j : ℕ) → j ≡ j + 0
    zero_more j = omega arith
copied_found n jl d j b (suc m) (x ∷ bs) s least h room t up less inside is =
    let apart : j + 1 + m ≢ x = λ e. outside_apart jl x (j + 1 + m) t.0.1 (omega arith) (omega arith) (sym e) in
    copied_found n jl (with_bytes d x 0 (block_of d j)) (j + 1) b m bs (shaped-copy n jl d j x s (omega arith) t.0.0)
    (omega arith) (omega arith) room t.1 (tail_up x bs up) less (omega arith) is
    ∙ copy-other n jl d j x (j + 1 + m) s (omega arith) t.0.0 (omega arith) apart
    ∙ ap (λ (y : ℕ). block_of d y) (more j m)
  where
    more : (j m : ℕ) → j + 1 + m ≡ j + suc m
    more j m = omega arith

pub with_copies-append : (d : Disk) (j : ℕ) (bs : List ℕ) (b : ℕ)
    → with_copies d j (bs ++ b ∷ []) ≡ with_bytes (with_copies d j bs) b 0
    (block_of (with_copies d j bs) (j + length bs))
with_copies-append d j [] b = ap (λ (m : ℕ). with_bytes d b 0 (block_of d m)) (omega arith)
with_copies-append d j (x ∷ bs) b =
    with_copies-append (with_bytes d x 0 (block_of d j)) (j + 1) bs b
    ∙ ap (λ (m : ℕ). with_bytes (with_copies d j (x ∷ bs)) b 0 (block_of (with_copies d j (x ∷ bs)) m)) (omega arith)

-- ---- the walk

-- one header: the journal stays, and a block outside it is where replay then looks for it
pub record IsWalked (n jl : ℕ) (d e f : Disk) (j b cur : ℕ) : Type 0 where
  pub shaped : IsShaped n jl f
  pub journal : (x : ℕ) → 4 ≤ x → x < 4 + jl → block_of f x ≡ block_of e x
  pub found : block_of f b ≡ block_of d (unwrap_or (copy_in (block_of d j) j b) cur)

walk_one : (n jl : ℕ) (d e : Disk) (j b cur : ℕ) (row : List ℕ) → IsShaped n jl e → 4 + jl ≤ n → 4 ≤ j
    → ((x : ℕ) → 4 ≤ x → x < 4 + jl → block_of e x ≡ block_of d x) → row ≡ block_of d j → j + count_of row ≤ 3 + jl
    → is_ascending (targets_of row) ≡ true → AreTargets n jl (targets_of row)
    → b < n → IsOutside jl b → block_of e b ≡ block_of d cur → IsWalked n jl d e (with_row_copies e j row) j b cur
walk_one n jl d e j b cur row r room least same here fits up aimed less out at =
    elim (bool_is (slice_index row 0 == 0xC7)) [
      | inr done ↦
          let none : copy_in row j b ≡ None = rw done refl in
          let stays : with_row_copies e j row ≡ e = rw done refl in
          let none' : copy_in (block_of d j) j b ≡ None = ap (λ (m : List ℕ). copy_in m j b) (sym here) ∙ none in
          subst (λ (f : Disk). IsWalked n jl d e f j b cur) (sym stays)
          (record {
            shaped = r;
            journal = λ x from to. refl;
            found = at
                ∙ ap (λ (o : Option ℕ). block_of d (unwrap_or o cur)) (sym none');
          })
      | inl held ↦
          let copies : with_row_copies e j row ≡ with_copies e (j + 1) (targets_of row) = rw held refl in
          let e1 : length (take (count_of row) (drop 3 row)) ≡ _ = length-take (count_of row) (drop 3 row) in
          let long : length (targets_of row) ≤ count_of row = omega arith in
          let where_it_is : copy_in row j b ≡ option_map (λ m. j + 1 + m) (position (λ x. x == b) (targets_of row)) =
          rw held refl in
          let there : copy_in (block_of d j) j b ≡ option_map (λ m. j + 1 + m)
          (position (λ x. x == b) (targets_of row)) =
          ap (λ (m : List ℕ). copy_in m j b) (sym here) ∙ where_it_is in
          subst (λ (f : Disk). IsWalked n jl d e f j b cur) (sym copies)
          (record {
            shaped = shaped-with_copies n jl e (j + 1) (targets_of row) r (omega arith) aimed;
            journal = λ x from to. copied_none n jl e (j + 1) x (targets_of row) r (omega arith) aimed (omega arith)
                (apart_journal n jl x (targets_of row) aimed from to);
            found = elim (found_or_not b (targets_of row)) [
              | inl at_m ↦
                  let m : ℕ = at_m.0 in let inside : m < length (targets_of row) = at_m.2 in
                  copied_found n jl e (j + 1) b m (targets_of row) r (omega arith) (omega arith) room aimed up less
                  inside
                  at_m.3
                  ∙ same (j + 1 + m) (omega arith) (omega arith)
                  ∙ ap (λ (o : Option ℕ). block_of d (unwrap_or o cur))
                  (sym (there ∙ ap (λ (o : Option ℕ). option_map (λ m. j + 1 + m) o) at_m.1))
              | inr none ↦
                  copied_none n jl e (j + 1) b (targets_of row) r (omega arith) aimed less
                  (apart_none b (targets_of row) none.1)
                  ∙ at
                  ∙ ap (λ (o : Option ℕ). block_of d (unwrap_or o cur))
                  (sym (there ∙ ap (λ (o : Option ℕ). option_map (λ m. j + 1 + m) o) none.0))
            ];
          })
    ]

-- Walking and copying gives each block outside the journal its last committed copy, on every disk
pub walk_from : (most n jl : ℕ) (d e : Disk) (j t b cur : ℕ) → IsShaped n jl d → IsShaped n jl e → 4 + jl ≤ n → 4 ≤ j
    → ((x : ℕ) → 4 ≤ x → x < 4 + jl → block_of e x ≡ block_of d x) → b < n → IsOutside jl b
    → block_of e b ≡ block_of d cur
    → (block_of (disk_after_walk most e j t) b ≡ block_of d (copy_after d b cur (headers_from most d j t)))
    × ((x : ℕ) → 4 ≤ x → x < 4 + jl → block_of (disk_after_walk most e j t) x ≡ block_of d x)
walk_from zero n jl d e j t b cur s r room least same less out at = (at, same)
walk_from (suc most) n jl d e j t b cur s r room least same less out at =
    let je : e.journal ≡ jl = r.journal in
    let jd : d.journal ≡ jl = s.journal in
    let alike : is_header e j t (block_of e j) ≡ is_header d j t (block_of d j) = elim (in_or_out j (4 + jl)) [
      | inl is_in ↦ ap (λ (row : List ℕ). is_header e j t row) (same j least is_in)
          ∙ same_header d e j t (block_of d j) (r.blocks ∙ sym s.blocks) (je ∙ sym jd)
      | inr past ↦ no_header_out e j t (block_of e j) (omega arith)
          ∙ sym (no_header_out d j t (block_of d j) (omega arith))
    ] in
    elim (bool_is (is_header d j t (block_of d j))) [
      | inr none ↦ rw (alike, none) (at, same)
      | inl is ↦
          let inside : j < 4 + d.journal = header_in d j t (block_of d j) is in
          let fits : j + count_of (block_of d j) ≤ 3 + d.journal = header_fits d j t (block_of d j) is in
          let here : block_of e j ≡ block_of d j = same j least (omega arith) in
          let fits' : j + count_of (block_of e j) ≤ 3 + jl = subst (λ (row : List ℕ). j + count_of row ≤ 3 + jl)
          (sym here) (omega arith) in
          let up : is_ascending (targets_of (block_of e j)) ≡ true =
          subst (λ (row : List ℕ). is_ascending (targets_of row) ≡ true) (sym here)
          (header_up d j t (block_of d j) is) in
          let aimed : AreTargets n jl (targets_of (block_of e j)) =
          subst (λ (row : List ℕ). AreTargets n jl (targets_of row)) (sym here)
          (targets n jl d (targets_of (block_of d j)) s room (header_aimed d j t (block_of d j) is)) in
          let f : Disk = with_row_copies e j (block_of e j) in
          let one : IsWalked n jl d e f j b cur = walk_one n jl d e j b cur (block_of e j) r room least same here fits'
          up aimed less out at in
          let k : ℕ = count_of (block_of d j) in
          let next = walk_from most n jl d f (j + 1 + k) (t + 1) b (unwrap_or (copy_in (block_of d j) j b) cur) s
          one.shaped room (omega arith) (λ x from to. one.journal x from to ∙ same x from to) less out one.found in
          let step : disk_after_walk (suc most) e j t ≡ disk_after_walk most f (j + 1 + k) (t + 1) =
          opened most e j t k (alike ∙ is) (ap (λ (row : List ℕ). count_of row) here) in (
            ap (λ (g : Disk). block_of g b) step ∙ next.0 ∙ ap (λ (m : ℕ). block_of d m)
                (sym (found_step most d j t b cur is)),
            λ x from to. ap (λ (g : Disk). block_of g x) step ∙ next.1 x from to,
          )
    ]
  where
    in_or_out : (j m : ℕ) → (j < m) ⊎ (m ≤ j)
    in_or_out j m = grind arith

    opened : (most : ℕ) (e : Disk) (j t k : ℕ) → is_header e j t (block_of e j) ≡ true → count_of (block_of e j) ≡ k
        → disk_after_walk (suc most) e j t ≡ disk_after_walk most (with_row_copies e j (block_of e j)) (j + 1 + k)
        (t + 1)
    opened most e j t k is count = rw (is, count) refl

    found_step : (most : ℕ) (d : Disk) (j t b cur : ℕ) → is_header d j t (block_of d j) ≡ true
        → copy_after d b cur (headers_from (suc most) d j t)
        ≡ copy_after d b (unwrap_or (copy_in (block_of d j) j b) cur)
        (headers_from most d (j + 1 + count_of (block_of d j)) (t + 1))
    found_step most d j t b cur is =
        let js : headers_from (suc most) d j t ≡ j ∷ headers_from most d (j + 1 + count_of (block_of d j)) (t + 1) =
        rw is refl in
        ap (λ (js : List ℕ). copy_after d b cur js) js

-- ---- the loop

-- what is left of the walk from block `at` on leads to where the whole walk does
pub record IsWalking (start d : Disk) (at transaction : ℕ) : Type 0 where
  pub inside : at ≤ 4 + d.journal
  pub from : 4 ≤ at
  pub counted : transaction + 3 ≤ at
  pub journal : d.journal ≡ start.journal
  pub blocks : d.blocks ≡ start.blocks
  pub disk : IsDisk d
  pub rest : (most : ℕ) × (4 + d.journal ≤ at + most)
      × (disk_after_walk most d at transaction ≡ disk_after_walk start.journal
      start 4 1)

pub walking-start : (d : Disk) → IsDisk d → IsWalking d d 4 1
walking-start d disk = record {
  inside = omega arith;
  from = omega arith;
  counted = omega arith;
  journal = refl;
  blocks = refl;
  disk = disk;
  rest = (d.journal, omega arith, refl);
}

pub shaped-disk : (d : Disk) → IsDisk d → IsShaped d.blocks d.journal d
shaped-disk d i = record { blocks = refl; journal = refl; long = i.whole }

disk-shaped : (d e : Disk) → IsDisk d → IsShaped d.blocks d.journal e → IsDisk e
disk-shaped d e i s =
    let a : 16 ≤ d.blocks = i.least in
    let b : d.blocks ≤ 128 = i.most in
    let c : d.journal + 6 ≤ d.blocks = i.room in
    let p : e.blocks ≡ d.blocks = s.blocks in
    let q : e.journal ≡ d.journal = s.journal in
    let r : length e.bytes ≡ 128 * d.blocks = s.long in
    record { least = omega arith; most = omega arith; room = omega arith; whole = omega arith }

pub count_targets : (d : Disk) (j t : ℕ) → IsDisk d → j < d.blocks → is_header d j t (block_of d j) ≡ true
    → length (targets_of (block_of d j)) ≡ count_of (block_of d j)
count_targets d j t i inside is =
    let row : List ℕ = block_of d j in
    let l : length row ≡ 128 = length-block d j (shaped-inside d.blocks d.journal d j (shaped-disk d i) inside) in
    let few : count_of row ≤ 8 = header_few d j t row is in
    let dropped : length (drop 3 row) ≡ length row - 3 = length-drop 3 row in
    length-take-le (count_of row) (drop 3 row) (omega arith)

pub header_targets : (d : Disk) (j t : ℕ) → IsDisk d → is_header d j t (block_of d j) ≡ true
    → AreTargets d.blocks d.journal (targets_of (block_of d j))
header_targets d j t i is = let room : d.journal + 6 ≤ d.blocks = i.room in
    targets d.blocks d.journal d (targets_of (block_of d j)) (shaped-disk d i) (omega arith)
    (header_aimed d j t (block_of d j) is)

all_known : (n jl : ℕ) (bs : List ℕ) → AreTargets n jl bs → All (λ b. b < n) bs
all_known n jl [] t = All-nil (λ b. b < n)
all_known n jl (b ∷ bs) t = All-cons (λ b. b < n) b bs t.0.0 (all_known n jl bs t.1)

pub targets_known : (d : Disk) (j t : ℕ) → IsDisk d → is_header d j t (block_of d j) ≡ true
    → All (λ b. b < d.blocks) (targets_of (block_of d j))
targets_known d j t i is = all_known d.blocks d.journal (targets_of (block_of d j)) (header_targets d j t i is)

walk_opened : (most : ℕ) (d : Disk) (j t : ℕ) → is_header d j t (block_of d j) ≡ true
    → disk_after_walk (suc most) d j t ≡ disk_after_walk most (with_row_copies d j (block_of d j))
    (j + 1 + count_of (block_of d j)) (t + 1)
walk_opened most d j t is = rw is refl

row_shaped : (d : Disk) (at : ℕ) (row : List ℕ) → IsDisk d → at + 1 + length (targets_of row) ≤ d.blocks
    → AreTargets d.blocks d.journal (targets_of row) → IsShaped d.blocks d.journal (with_row_copies d at row)
row_shaped d at row i fits t = elim (bool_is (slice_index row 0 == 0xC7)) [
  | inl held ↦ rw held (shaped-with_copies d.blocks d.journal d (at + 1) (targets_of row) (shaped-disk d i) fits t)
  | inr done ↦ rw done (shaped-disk d i)
]

row_disk : (d : Disk) (at transaction : ℕ) → IsDisk d → is_header d at transaction (block_of d at) ≡ true
    → IsShaped d.blocks d.journal (with_row_copies d at (block_of d at))
row_disk d at transaction i is =
    let row : List ℕ = block_of d at in
    let a : at < 4 + d.journal = header_in d at transaction row is in
    let room : d.journal + 6 ≤ d.blocks = i.room in
    let fits : at + count_of row ≤ 3 + d.journal = header_fits d at transaction row is in
    let same : length (targets_of row) ≡ count_of row = count_targets d at transaction i (omega arith) is in
    row_shaped d at row i (omega arith) (header_targets d at transaction i is)

pub walking-step : (start d e : Disk) (at transaction len : ℕ) → IsWalking start d at transaction
    → is_header d at transaction (block_of d at) ≡ true → len ≡ length (targets_of (block_of d at))
    → e ≡ with_row_copies d at (block_of d at) → IsWalking start e (at + (1 + len)) (transaction + 1)
walking-step start d e at transaction len w is long here =
    let i : IsDisk d = w.disk in
    let row : List ℕ = block_of d at in
    let a : at < 4 + d.journal = header_in d at transaction row is in
    let room : d.journal + 6 ≤ d.blocks = i.room in
    let some : 1 ≤ count_of row = header_some d at transaction row is in
    let fits : at + count_of row ≤ 3 + d.journal = header_fits d at transaction row is in
    let same : length (targets_of row) ≡ count_of row = count_targets d at transaction i (omega arith) is in
    let first : 4 ≤ at = w.from in
    let counted : transaction + 3 ≤ at = w.counted in
    let s : IsShaped d.blocks d.journal e = subst (λ (f : Disk). IsShaped d.blocks d.journal f) (sym here)
    (row_disk d at transaction i is) in
    let j : e.journal ≡ d.journal = s.journal in
    record {
      inside = omega arith;
      from = omega arith;
      counted = omega arith;
      journal = s.journal ∙ w.journal;
      blocks = s.blocks ∙ w.blocks;
      disk = disk-shaped d e i s;
      rest = rest_of w.rest.0 w.rest.1 w.rest.2 a same j;
    }
  where
    rest_of : (most : ℕ) → 4 + d.journal ≤ at + most
        → disk_after_walk most d at transaction ≡ disk_after_walk start.journal
        start 4 1 → at < 4 + d.journal → length (targets_of (block_of d at)) ≡ count_of (block_of d at)
        → e.journal ≡ d.journal
        → (next : ℕ) × (4 + e.journal ≤ at + (1 + len) + next)
        × (disk_after_walk next e (at + (1 + len)) (transaction + 1) ≡ disk_after_walk start.journal start 4 1)
    rest_of zero enough leads a same j = absurd (omega arith)
    rest_of (suc next) enough leads a same j = (
      next,
      omega arith,
      ap (λ (f : Disk). disk_after_walk next f (at + (1 + len)) (transaction + 1)) here
          ∙ ap (λ (k : ℕ). disk_after_walk next (with_row_copies d at (block_of d at)) k (transaction + 1))
          (omega arith)
          ∙ sym (walk_opened next d at transaction is) ∙ leads,
    )

-- the same by what was read of the header
pub header_known : (d : Disk) (at transaction : ℕ) (h : Head) (xs : List ℕ) → IsDisk d → IsHeaderAt d at transaction h
    → xs ≡ h.targets → All (λ b. b < d.blocks) xs
header_known d at transaction h xs i is same =
    All-same (λ b. b < d.blocks) xs (targets_of (block_of d at)) (same ∙ is.targets)
    (targets_known d at transaction i is.is)

pub header_inside : (d : Disk) (at transaction : ℕ) (h : Head) (xs : List ℕ) → IsDisk d → IsHeaderAt d at transaction h
    → xs ≡ h.targets → (at + 1) + length xs ≤ d.blocks
header_inside d at transaction h xs i is same =
    let row : List ℕ = block_of d at in
    let a : at < 4 + d.journal = header_in d at transaction row is.is in
    let room : d.journal + 6 ≤ d.blocks = i.room in
    let fits : at + count_of row ≤ 3 + d.journal = header_fits d at transaction row is.is in
    let counted : length (targets_of row) ≡ count_of row = count_targets d at transaction i (omega arith) is.is in
    let long : length xs ≡ length (targets_of row) = ap (λ (ys : List ℕ). length ys) (same ∙ is.targets) in
    omega arith

pub header_copied : (d : Disk) (at transaction : ℕ) (h : Head) (xs : List ℕ) → IsHeaderAt d at transaction h
    → xs ≡ h.targets
    → h.committed ≡ true → with_copies d (at + 1) xs ≡ with_row_copies d at (block_of d at)
header_copied d at transaction h xs is same held =
    let t : (slice_index (block_of d at) 0 == 0xC7) ≡ true = sym is.held ∙ held in
    ap (λ (ys : List ℕ). with_copies d (at + 1) ys) (same ∙ is.targets) ∙ taken d at (block_of d at) t
  where
    taken : (d : Disk) (at : ℕ) (row : List ℕ) → (slice_index row 0 == 0xC7) ≡ true
        → with_copies d (at + 1) (targets_of row) ≡ with_row_copies d at row
    taken d at row t = rw t refl

pub header_left : (d : Disk) (at transaction : ℕ) (h : Head) → IsHeaderAt d at transaction h → h.committed ≡ false
    → d ≡ with_row_copies d at (block_of d at)
header_left d at transaction h is done =
    let f : (slice_index (block_of d at) 0 == 0xC7) ≡ false = sym is.held ∙ done in
    left d at (block_of d at) f
  where
    left : (d : Disk) (at : ℕ) (row : List ℕ) → (slice_index row 0 == 0xC7) ≡ false → d ≡ with_row_copies d at row
    left d at row f = rw f refl

pub header_step : (start d e : Disk) (at transaction len : ℕ) (h : Head) → IsWalking start d at transaction
    → IsHeaderAt d at transaction h
    → len ≡ length h.targets → e ≡ with_row_copies d at (block_of d at)
    → IsWalking start e (at + (1 + len)) (transaction + 1)
header_step start d e at transaction len h w is long here = walking-step start d e at transaction len w is.is
    (long ∙ ap (λ (xs : List ℕ). length xs) is.targets) here

pub walking-end : (start d : Disk) (at transaction : ℕ) → IsWalking start d at transaction
    → is_header d at transaction (block_of d at) ≡ false → d ≡ disk_after_walk start.journal start 4 1
walking-end start d at transaction w none = ended w.rest.0 d at transaction none ∙ w.rest.2
  where
    ended : (most : ℕ) (d : Disk) (j t : ℕ) → is_header d j t (block_of d j) ≡ false → d ≡ disk_after_walk most d j t
    ended zero d j t none = refl
    ended (suc most) d j t none = rw none refl

-- ---- the whole disk

shaped-disk_after_walk : (most : ℕ) (d : Disk) (j t : ℕ) → IsDisk d
    → IsShaped d.blocks d.journal (disk_after_walk most d j t)
shaped-disk_after_walk zero d j t i = shaped-disk d i
shaped-disk_after_walk (suc most) d j t i = elim (bool_is (is_header d j t (block_of d j))) [
  | inr none ↦ rw none (shaped-disk d i)
  | inl is ↦
      let e : Disk = with_row_copies d j (block_of d j) in
      let s : IsShaped d.blocks d.journal e = row_disk d j t i is in
      let r : IsShaped e.blocks e.journal (disk_after_walk most e (j + 1 + count_of (block_of d j)) (t + 1)) =
      shaped-disk_after_walk most e (j + 1 + count_of (block_of d j)) (t + 1) (disk-shaped d e i s) in
      rw is (record {
        blocks = r.blocks ∙ s.blocks;
        journal = r.journal ∙ s.journal;
        long = r.long
            ∙ ap (λ (n : ℕ). 128 * n) s.blocks;
      })
]

-- no header has a copy of a journal block
stays_found : (most : ℕ) (d : Disk) (j t x found : ℕ) → IsDisk d → 4 ≤ x → x < 4 + d.journal
    → copy_after d x found (headers_from most d j t) ≡ found
stays_found zero d j t x found i from to = refl
stays_found (suc most) d j t x found i from to = elim (bool_is (is_header d j t (block_of d j))) [
  | inr none ↦ rw none refl
  | inl is ↦
      let none : copy_in (block_of d j) j x ≡ None = no_copy (block_of d j) j x
      (apart_journal d.blocks d.journal x (targets_of (block_of d j)) (header_targets d j t i is) from to) in
      let rest : List ℕ = headers_from most d (j + 1 + count_of (block_of d j)) (t + 1) in
      opened most d j t x found is ∙ ap (λ (o : Option ℕ). copy_after d x (unwrap_or o found) rest) none
      ∙ stays_found most d (j + 1 + count_of (block_of d j)) (t + 1) x found i from to
]
  where
    opened : (most : ℕ) (d : Disk) (j t x found : ℕ) → is_header d j t (block_of d j) ≡ true
        → copy_after d x found (headers_from (suc most) d j t)
        ≡ copy_after d x (unwrap_or (copy_in (block_of d j) j x) found)
        (headers_from most d (j + 1 + count_of (block_of d j)) (t + 1))
    opened most d j t x found is =
        let js : headers_from (suc most) d j t ≡ j ∷ headers_from most d (j + 1 + count_of (block_of d j)) (t + 1) =
        rw is refl in
        ap (λ (js : List ℕ). copy_after d x found js) js

pub disk_after_walk-journal : (d : Disk) (x : ℕ) → IsDisk d → 4 ≤ x → x < 4 + d.journal
    → block_of (disk_after_walk d.journal d 4 1) x ≡ block_of d x
disk_after_walk-journal d x i from to =
    let room : d.journal + 6 ≤ d.blocks = i.room in
    let s : IsShaped d.blocks d.journal d = shaped-disk d i in
    (walk_from d.journal d.blocks d.journal d d 4 1 0 0 s s (omega arith) (omega arith) (λ x a b. refl) (omega arith)
    (inl (omega arith)) refl).1 x from to

disk_after_walk-block : (d : Disk) (b : ℕ) → IsDisk d → b < d.blocks
    → block_of (disk_after_walk d.journal d 4 1) b ≡ block_of d (copy_after d b b (headers d))
disk_after_walk-block d b i below =
    let room : d.journal + 6 ≤ d.blocks = i.room in
    let s : IsShaped d.blocks d.journal d = shaped-disk d i in
    elim (in_or_out b d.journal) [
      | inl out ↦ (walk_from d.journal d.blocks d.journal d d 4 1 b b s s (omega arith) (omega arith) (λ x a b. refl)
          below out refl).0
      | inr is_in ↦ disk_after_walk-journal d b i is_in.0 is_in.1
          ∙ ap (λ (x : ℕ). block_of d x) (sym (stays_found d.journal d 4 1 b b i is_in.0 is_in.1))
    ]
  where
    in_or_out : (b jl : ℕ) → IsOutside jl b ⊎ ((4 ≤ b) × (b < 4 + jl))
    in_or_out b jl = grind arith

-- copies leave what says whether there are generations
generations-with_copies : (d : Disk) (j : ℕ) (bs : List ℕ) → (with_copies d j bs).generations ≡ d.generations
generations-with_copies d j [] = refl
generations-with_copies d j (b ∷ bs) = generations-with_copies (with_bytes d b 0 (block_of d j)) (j + 1) bs

generations-with_row_copies : (d : Disk) (j : ℕ) (row : List ℕ) → (with_row_copies d j row).generations ≡ d.generations
generations-with_row_copies d j row = elim (bool_is (slice_index row 0 == 0xC7)) [
  | inr done ↦ rw done refl
  | inl held ↦ rw held (generations-with_copies d (j + 1) (targets_of row))
]

generations-disk_after_walk : (most : ℕ) (d : Disk) (j t : ℕ)
    → (disk_after_walk most d j t).generations ≡ d.generations
generations-disk_after_walk zero d j t = refl
generations-disk_after_walk (suc most) d j t = elim (bool_is (is_header d j t (block_of d j))) [
  | inr none ↦ rw none refl
  | inl is ↦ rw is (generations-disk_after_walk most (with_row_copies d j (block_of d j))
      (j + 1 + count_of (block_of d j)) (t + 1) ∙ generations-with_row_copies d j (block_of d j))
]

same_disk : (e d : Disk) → e.blocks ≡ d.blocks → e.journal ≡ d.journal → e.generations ≡ d.generations
    → e.bytes ≡ d.bytes → e ≡ d
same_disk e d p q g r =
    let disk : ℕ → ℕ → Bool → List ℕ → Disk =
    λ a b c xs. record { blocks = a; journal = b; generations = c; bytes = xs } in
    ap (λ (a : ℕ). disk a e.journal e.generations e.bytes) p
    ∙ ap (λ (b : ℕ). disk d.blocks b e.generations e.bytes) q
    ∙ ap (λ (c : Bool). disk d.blocks d.journal c e.bytes) g
    ∙ ap (λ (xs : List ℕ). disk d.blocks d.journal d.generations xs) r

pub disk_after_walk-image_after_replay : (d : Disk) → IsDisk d → disk_after_walk d.journal d 4 1 ≡ image_after_replay d
disk_after_walk-image_after_replay d i =
    let e : Disk = disk_after_walk d.journal d 4 1 in
    let s : IsShaped d.blocks d.journal e = shaped-disk_after_walk d.journal d 4 1 i in
    same_disk e (image_after_replay d) s.blocks s.journal (generations-disk_after_walk d.journal d 4 1)
    (joined_blocks d.blocks e (λ block. block_of d (copy_after d block block (headers d))) s.long
    (λ b below. disk_after_walk-block d b i below))

pub replay_ends : (start d : Disk) (at transaction : ℕ) → IsDisk start → IsWalking start d at transaction
    → is_header d at transaction (block_of d at) ≡ false → d ≡ image_after_replay start
replay_ends start d at transaction i w none =
    walking-end start d at transaction w none ∙ disk_after_walk-image_after_replay start i

pub replay_keeps_journal : (start d : Disk) (at transaction block : ℕ) → IsDisk start → IsWalking start d at transaction
    → is_header d at transaction (block_of d at) ≡ false → 4 ≤ block → block < 4 + start.journal
    → block_of d block ≡ block_of start block
replay_keeps_journal start d at transaction block i w none from to =
    ap (λ (e : Disk). block_of e block) (walking-end start d at transaction w none)
    ∙ disk_after_walk-journal start block i from to

-- the image after replay is a disk
pub disk-replayed : (d : Disk) → IsDisk d → IsDisk (image_after_replay d)
disk-replayed d i = subst (λ (e : Disk). IsDisk e) (disk_after_walk-image_after_replay d i)
    (disk-shaped d (disk_after_walk d.journal d 4 1) i (shaped-disk_after_walk d.journal d 4 1 i))
