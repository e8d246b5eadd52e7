-- Of a log all whose changes go through the journal, replay leaves what the committed operations left.
use Rattle.std.proofs.Common.{◌≡◌, ℕ, zero, suc, ◌+◌, ◌<◌, ◌≤◌, ◌⊎◌, inl, inr, List, [], ◌∷◌, length, get_or, Bool}
use Rattle.std.proofs.Common.{true, false, nat_lt, arith, tests, refl, sym, ◌∙◌, ap, subst}
use Rattle.std.specs.Prelude.{unwrap_or}
use Rattle.crash_model.specs.Disk.{Disk, block_of}
use Rattle.patch_sets.specs.Sets.{has}
use Rattle.crash_model.specs.Patches.{image_from}
use Rattle.crash_model.specs.Plan.{with_changes}
use Rattle.crash_model.specs.Trace.{touched_blocks}
use Rattle.crash_model.specs.Replay.{is_header, copy_in, copy_after, count_of, headers_from}
use Rattle.crash_model.specs.declared.plans.Change.{Change}
use Rattle.full_journal_laws.proofs.Transactions.{IsLogClosed, turn_places, log_places, IsLog, committed_disk}
use Rattle.full_journal_laws.proofs.Transactions.{replayed_block, LogSafe}
use Rattle.full_journal_laws.specs.Full.{IsOutside}
use Rattle.journal_replay.proofs.Blocks.{IsShaped}
use Rattle.journal_replay.proofs.Targets.{bool_is}
use Rattle.full_journal_laws.proofs.Images.{image-append, kept-image, shaped-image}
use Rattle.full_journal_laws.proofs.TurnPlaces.{length-turn, shaped-with_changes, placed-log, avoid-log}
use Rattle.full_journal_laws.proofs.Turns.{IsTurned, turned}

-- no header where the journal ends, or where byte 0 is 0
no_header : (d : Disk) (j t : ℕ) (row : List ℕ) → (j < 4 + d.journal → get_or row 0 0 ≡ 0) → is_header d j t row ≡ false
no_header d j t row h = elim (bool_is (nat_lt j (4 + d.journal))) [
  | inr out ↦ rw out refl
  | inl is_in ↦ let z : get_or row 0 0 ≡ 0 = h (grind (arith, tests)) in rw (is_in, z) refl
]

no_headers : (most : ℕ) (d : Disk) (j t : ℕ) → (j < 4 + d.journal → get_or (block_of d j) 0 0 ≡ 0)
    → headers_from most d j t ≡ []
no_headers zero d j t h = refl
no_headers (suc most) d j t h = rw (no_header d j t (block_of d j) h) refl

one_header : (most : ℕ) (d : Disk) (j t k : ℕ) → is_header d j t (block_of d j) ≡ true → count_of (block_of d j) ≡ k
    → headers_from (suc most) d j t ≡ j ∷ headers_from most d (j + 1 + k) (t + 1)
one_header most d j t k is count = rw (is, count) refl

replay_none : (f : Disk) (most j t b cur : ℕ) → (j < 4 + f.journal → get_or (block_of f j) 0 0 ≡ 0)
    → replayed_block f most j t b cur ≡ block_of f cur
replay_none f most j t b cur h = rw (no_headers most f j t h) refl

replay_one : (f : Disk) (most j t b cur k : ℕ) → is_header f j t (block_of f j) ≡ true → count_of (block_of f j) ≡ k
    → replayed_block f (suc most) j t b cur ≡ replayed_block f most (j + 1 + k) (t + 1) b
    (unwrap_or (copy_in (block_of f j) j b) cur)
replay_one f most j t b cur k is count = ap (λ (js : List ℕ). block_of f (copy_after f b cur js))
    (one_header most f j t k is count)

committed_none : (n : ℕ) (d : Disk) (id : ℕ) (cs : List Change) (ops : List (List Change)) (set : ℕ)
    → has set (id + length (touched_blocks n cs)) ≡ false → committed_disk n d id (cs ∷ ops) set ≡ d
committed_none n d id cs ops set unheld = rw unheld refl

committed_one : (n : ℕ) (d : Disk) (id : ℕ) (cs : List Change) (ops : List (List Change)) (set : ℕ)
    → has set (id + length (touched_blocks n cs)) ≡ true
    → committed_disk n d id (cs ∷ ops) set ≡ committed_disk n (with_changes d cs)
    (id + length (touched_blocks n cs) + 1 + length cs + 1) ops set
committed_one n d id cs ops set held = rw held refl

-- the image of a log is that of the rest on the first transaction's
log_step : (n : ℕ) (d e : Disk) (id t j : ℕ) (cs : List Change) (ops : List (List Change)) (set : ℕ)
    → image_from id e (log_places n d t j (cs ∷ ops)) set
    ≡ image_from (id + length (touched_blocks n cs) + 1 + length cs + 1)
    (image_from id e (turn_places (with_changes d cs) t j (touched_blocks n cs) cs) set)
    (log_places n (with_changes d cs) (t + 1) (j + 1 + length (touched_blocks n cs)) ops) set
log_step n d e id t j cs ops set =
    let long : length (turn_places (with_changes d cs) t j (touched_blocks n cs) cs) ≡ length (touched_blocks n cs) + 1
    + length cs + 1 = length-turn (with_changes d cs) t j (touched_blocks n cs) cs in
    image-append id e (turn_places (with_changes d cs) t j (touched_blocks n cs) cs)
    (log_places n (with_changes d cs) (t + 1) (j + 1 + length (touched_blocks n cs)) ops) set
    (id + length (touched_blocks n cs) + 1 + length cs + 1) (omega arith)

-- blocks of the journal below the next free one stay
kept_log : (n jl : ℕ) (d e : Disk) (id t j : ℕ) (ops : List (List Change)) (set x : ℕ) → IsShaped n jl d
    → IsShaped n jl e → 4 + jl ≤ n → 4 ≤ j → IsLog n jl d j ops
    → 4 ≤ x → x < j → x < 4 + jl → block_of (image_from id e (log_places n d t j ops) set) x ≡ block_of e x
kept_log n jl d e id t j ops set x s r room least log a b c =
    kept-image n jl id e (log_places n d t j ops) set x r (placed-log n jl d t j ops s room least log) (omega arith)
    (avoid-log n jl d t j x ops s log a b c)

-- without its first commit a log writes nothing outside the journal
open_log : (ops : List (List Change)) (n jl : ℕ) (d e : Disk) (id t j : ℕ) (c done : Bool) (set x : ℕ) → c ≡ false
    → IsShaped n jl d → IsShaped n jl e → 4 + jl ≤ n → 4 ≤ j → IsLog n jl d j ops
    → IsLogClosed n id c done ops set → x < n → IsOutside jl x
    → block_of (image_from id e (log_places n d t j ops) set) x ≡ block_of e x
open_log [] n jl d e id t j c done set x none s r room least log closed below out = refl
open_log (cs ∷ ops) n jl d e id t j c done set x none s r room least log closed below out =
    let k : ℕ = length (touched_blocks n cs) in
    let e' : Disk = image_from id e (turn_places (with_changes d cs) t j (touched_blocks n cs) cs) set in
    let one : IsTurned n jl d e e' t j cs (has set (id + k)) (has set (id + k + 1 + length cs)) =
    turned n jl d e id t j cs c done set s r room least log.0 closed.0 in
    let unheld : has set (id + k) ≡ false = elim (bool_is (has set (id + k))) [
      | inr f ↦ f
      | inl y ↦ let z : c ≡ true = closed.0.chained y in absurd (cc)
    ] in
    ap (λ (f : Disk). block_of f x) (log_step n d e id t j cs ops set)
    ∙ open_log ops n jl (with_changes d cs) e' (id + k + 1 + length cs + 1) (t + 1) (j + 1 + k) (has set (id + k))
    (has set (id + k + 1 + length cs)) set x unheld
    (shaped-with_changes n jl d j cs s log.0) one.shaped room (omega arith) log.1 closed.1 below out
    ∙ one.open_outside unheld x below out

pub safe_from : (ops : List (List Change)) (n jl : ℕ) (d e : Disk) (id t j most : ℕ) (c done : Bool) (set b cur : ℕ)
    → IsShaped n jl d → IsShaped n jl e → 4 + jl ≤ n → 4 ≤ j → j ≤ 4 + jl → IsLog n jl d j ops
    → IsLogClosed n id c done ops set
    → 4 + jl ≤ j + most
    → ((x : ℕ) → j ≤ x → x < 4 + jl → get_or (block_of e x) 0 0 ≡ 0)
    → IsOutside jl b → b < n → (done ≡ true → cur ≡ b) → ((cur ≡ b) ⊎ ((4 ≤ cur) × (cur < j)))
    → block_of e cur ≡ block_of d b
    → replayed_block (image_from id e (log_places n d t j ops) set) most j t b cur
    ≡ block_of (committed_disk n d id ops set) b
safe_from [] n jl d e id t j most c done set b cur s r room least last log closed fuel fresh out below settled source
    same =
    let jo : e.journal ≡ jl = r.journal in
    replay_none e most j t b cur (λ h. fresh j (omega arith) (omega arith)) ∙ same
safe_from (cs ∷ ops) n jl d e id t j zero c done set b cur s r room least last log closed fuel fresh out below settled
    source same =
    let fits : j + 1 + length (touched_blocks n cs) ≤ 4 + jl = log.0.room in absurd (omega arith)
safe_from (cs ∷ ops) n jl d e id t j (suc most) c done set b cur s r room least last log closed fuel fresh out below
    settled source same =
    let k : ℕ = length (touched_blocks n cs) in
    let d' : Disk = with_changes d cs in
    let e' : Disk = image_from id e (turn_places d' t j (touched_blocks n cs) cs) set in
    let id' : ℕ = id + k + 1 + length cs + 1 in
    let f : Disk = image_from id' e' (log_places n d' (t + 1) (j + 1 + k) ops) set in
    let fits : j + 1 + k ≤ 4 + jl = log.0.room in
    let s' : IsShaped n jl d' = shaped-with_changes n jl d j cs s log.0 in
    let one : IsTurned n jl d e e' t j cs (has set (id + k)) (has set (id + k + 1 + length cs)) =
    turned n jl d e id t j cs c done set s r room least log.0 closed.0 in
    let shaped : IsShaped n jl f = shaped-image n jl id' e' (log_places n d' (t + 1) (j + 1 + k) ops) set one.shaped
    (placed-log n jl d' (t + 1) (j + 1 + k) ops s' room (omega arith) log.1) in
    let at_j : block_of f j ≡ block_of e' j = kept_log n jl d' e' id' (t + 1) (j + 1 + k) ops set j s' one.shaped room
    (omega arith) log.1 least (omega arith) (omega arith) in
    ap (λ (g : Disk). replayed_block g (suc most) j t b cur) (log_step n d e id t j cs ops set)
    ∙ elim (bool_is (has set (id + k))) [
      | inr unheld ↦
          let byte : get_or (block_of f j) 0 0 ≡ 0 = ap (λ (row : List ℕ). get_or row 0 0)
          (at_j ∙ one.open_header unheld) ∙ fresh j (omega arith) (omega arith) in
          replay_none f (suc most) j t b cur (λ h. byte)
          ∙ elim source [
            | inl is ↦
                subst (λ (x : ℕ). block_of f x ≡ block_of e x) (sym is)
                (open_log ops n jl d' e' id' (t + 1) (j + 1 + k) (has set (id + k)) (has set (id + k + 1 + length cs))
                set b unheld s' one.shaped room (omega arith) log.1 closed.1 below out
                ∙ one.open_outside unheld b below out)
            | inr old ↦
                kept_log n jl d' e' id' (t + 1) (j + 1 + k) ops set cur s' one.shaped room (omega arith) log.1 old.0
                (omega arith) (omega arith)
                ∙ one.below cur old.0 old.1
          ]
          ∙ same
          ∙ ap (λ (g : Disk). block_of g b) (sym (committed_none n d id cs ops set unheld))
      | inl held ↦
          let head : (is_header f j t (block_of f j) ≡ true)
          × (count_of (block_of f j) ≡ k) = one.header held f shaped.blocks shaped.journal at_j in
          let now : ℕ = unwrap_or (copy_in (block_of e' j) j b) cur in
          let next : ((has set (id + k + 1 + length cs)) ≡ true → now ≡ b)
          × ((now ≡ b) ⊎ ((4 ≤ now) × (now < j + 1 + k))) × (block_of e' now ≡ block_of d' b) =
          one.found held b cur below out (λ h. settled (closed.0.done_chained h)) source same in
          replay_one f most j t b cur k head.0 head.1
          ∙ ap (λ (row : List ℕ). replayed_block f most (j + 1 + k) (t + 1) b (unwrap_or (copy_in row j b) cur)) at_j
          ∙ safe_from ops n jl d' e' id' (t + 1) (j + 1 + k) most (has set (id + k)) (has set (id + k + 1 + length cs))
          set b now s' one.shaped room (omega arith) fits log.1 closed.1 (omega arith)
          (λ x from to. ap (λ (row : List ℕ). get_or row 0 0) (one.above x from to) ∙ fresh x (omega arith) to)
          out below next.0 next.1 next.2
          ∙ ap (λ (g : Disk). block_of g b) (sym (committed_one n d id cs ops set held))
    ]

pub log_safe : LogSafe
log_safe ops n jl d set b s room log closed zeros out below =
    safe_from ops n jl d d 0 1 4 jl true true set b b s s room (omega arith) (omega arith) log closed (omega arith)
    zeros out below (λ h. refl) (inl refl) refl
