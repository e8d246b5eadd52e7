-- Disks block by block.
use Rattle.std.proofs.Common.{◌≡◌, ◌≢◌, ℕ, zero, suc, ◌+◌, ◌-◌, ◌*◌, ◌<◌, ◌≤◌, ◌⊎◌, inl, inr, List, ◌++◌, length, take}
use Rattle.std.proofs.Common.{drop, get_or, arith, sym, ◌∙◌, ap}
use Rattle.std.specs.List.{flat_map, range_with_len}
use Rattle.std.proofs.lemmas.Grind.{elements, same_number_lists}
use Rattle.std.proofs.lemmas.List.{length-take-le, length-drop, get_or-take, get_or-drop, drop-drop, drop_all}
use Rattle.std.proofs.lemmas.List.{take-append-drop}
use Rattle.crash_model.specs.Disk.{Disk, overwrite, block_of, with_bytes}
use Rattle.crash_model.proofs.Bytes.{length-overwrite, overwrite-inside, overwrite-below, overwrite-above}

-- block b lies inside the disk
pub record Inside (d : Disk) (b : ℕ) : Type 0 where
  pub fits : 128 * b + 128 ≤ length d.bytes

pub length-block : (d : Disk) (b : ℕ) → Inside d b → length (block_of d b) ≡ 128
length-block d b i =
    let f : 128 * b + 128 ≤ length d.bytes = i.fits in
    let e : length (drop (128 * b) d.bytes) ≡ length d.bytes - 128 * b = length-drop (128 * b) d.bytes in
    length-take-le 128 (drop (128 * b) d.bytes) (omega arith)

pub block-at : (d : Disk) (b k : ℕ) → k < 128 → get_or (block_of d b) k 0 ≡ get_or d.bytes (128 * b + k) 0
block-at d b k h = get_or-take 128 (drop (128 * b) d.bytes) k 0 h ∙ get_or-drop (128 * b) d.bytes k 0

pub inside-with_bytes : (d : Disk) (b off : ℕ) (new : List ℕ) (x : ℕ) → off + length new ≤ 128 → Inside d b → Inside d x
    → Inside (with_bytes d b off new) x
inside-with_bytes d b off new x h i y =
    let f : 128 * b + 128 ≤ length d.bytes = i.fits in
    let g : 128 * x + 128 ≤ length d.bytes = y.fits in
    let fits : (128 * b + off) + length new ≤ length d.bytes = omega arith in
    let same : length (overwrite d.bytes (128 * b + off) new) ≡ length d.bytes =
    length-overwrite d.bytes (128 * b + off) new fits in
    record { fits = omega arith }

-- another block stays
pub block-put_other : (d : Disk) (b off : ℕ) (new : List ℕ) (x : ℕ) → x ≢ b → off + length new ≤ 128 → Inside d b
    → Inside d x → block_of (with_bytes d b off new) x ≡ block_of d x
block-put_other d b off new x other h i y =
    let f : 128 * b + 128 ≤ length d.bytes = i.fits in
    let g : 128 * x + 128 ≤ length d.bytes = y.fits in
    let fits : (128 * b + off) + length new ≤ length d.bytes = omega arith in
    let p : Disk = with_bytes d b off new in
    let l1 : length (block_of p x) ≡ 128 = length-block p x (inside-with_bytes d b off new x h i y) in
    let l2 : length (block_of d x) ≡ 128 = length-block d x y in
    same_number_lists _ _ (l1 ∙ sym l2) (λ k below.
    let k_below : k < 128 = omega arith in
    block-at p x k k_below ∙ elim (apart x b other) [
      | inl l ↦ overwrite-below d.bytes (128 * b + off) new (128 * x + k) fits (omega arith)
      | inr r ↦ overwrite-above d.bytes (128 * b + off) new (128 * x + k) fits (omega arith)
    ] ∙ sym (block-at d x k k_below))
  where
    apart : (x b : ℕ) → x ≢ b → (x < b) ⊎ (b < x)
    apart x b h = grind arith

-- the block itself is overwritten
pub block-put_same : (d : Disk) (b off : ℕ) (new : List ℕ) → off + length new ≤ 128 → Inside d b
    → block_of (with_bytes d b off new) b ≡ overwrite (block_of d b) off new
block-put_same d b off new h i =
    let f : 128 * b + 128 ≤ length d.bytes = i.fits in
    let fits : (128 * b + off) + length new ≤ length d.bytes = omega arith in
    let p : Disk = with_bytes d b off new in
    let l1 : length (block_of p b) ≡ 128 = length-block p b (inside-with_bytes d b off new b h i i) in
    let l2 : length (block_of d b) ≡ 128 = length-block d b i in
    let fits' : off + length new ≤ length (block_of d b) = omega arith in
    let l3 : length (overwrite (block_of d b) off new) ≡ length (block_of d b) =
    length-overwrite (block_of d b) off new fits' in
    same_number_lists _ _ (l1 ∙ sym l2 ∙ sym l3) (λ k below.
    let k_below : k < 128 = omega arith in
    block-at p b k k_below ∙ elim (where_is k off (off + length new)) [
      | inl l ↦ overwrite-below d.bytes (128 * b + off) new (128 * b + k) fits (omega arith)
          ∙ sym (block-at d b k k_below) ∙ sym (overwrite-below (block_of d b) off new k fits' l)
      | inr r ↦ elim r [
        | inl m ↦ overwrite-inside d.bytes (128 * b + off) new (128 * b + k) fits (omega arith) (omega arith)
            ∙ ap (λ (i : ℕ). get_or new i 0) (omega arith) ∙ sym
            (overwrite-inside (block_of d b) off new k fits' m.0 m.1)
        | inr a ↦ overwrite-above d.bytes (128 * b + off) new (128 * b + k) fits (omega arith)
            ∙ sym (block-at d b k k_below) ∙ sym (overwrite-above (block_of d b) off new k fits' a)
      ]
    ])
  where
    where_is : (k from to : ℕ) → (k < from) ⊎ (((from ≤ k) × (k < to)) ⊎ (to ≤ k))
    where_is k from to = grind arith

-- a disk of n blocks, jl of them the journal's
pub record IsShaped (n jl : ℕ) (d : Disk) : Type 0 where
  pub blocks : d.blocks ≡ n
  pub journal : d.journal ≡ jl
  pub long : length d.bytes ≡ 128 * n

pub shaped-inside : (n jl : ℕ) (d : Disk) (x : ℕ) → IsShaped n jl d → x < n → Inside d x
shaped-inside n jl d x s h = let l : length d.bytes ≡ 128 * n = s.long in record { fits = omega arith }

pub shaped-with_bytes : (n jl : ℕ) (d : Disk) (b off : ℕ) (new : List ℕ) → IsShaped n jl d → off + length new ≤ 128
    → b < n → IsShaped n jl (with_bytes d b off new)
shaped-with_bytes n jl d b off new s inside known =
    let l : length d.bytes ≡ 128 * n = s.long in
    record {
      blocks = s.blocks;
      journal = s.journal;
      long = length-overwrite d.bytes (128 * b + off) new (omega arith)
          ∙ l;
    }

-- a block replaced by another: the others stay, and it is the other
pub shaped-copy : (n jl : ℕ) (d : Disk) (from to : ℕ) → IsShaped n jl d → from < n → to < n
    → IsShaped n jl (with_bytes d to 0 (block_of d from))
shaped-copy n jl d from to s f t =
    let l : length (block_of d from) ≡ 128 = length-block d from (shaped-inside n jl d from s f) in
    shaped-with_bytes n jl d to 0 (block_of d from) s (omega arith) t

pub copy-other : (n jl : ℕ) (d : Disk) (from to x : ℕ) → IsShaped n jl d → from < n → to < n → x < n → x ≢ to
    → block_of (with_bytes d to 0 (block_of d from)) x ≡ block_of d x
copy-other n jl d from to x s f t h other =
    let l : length (block_of d from) ≡ 128 = length-block d from (shaped-inside n jl d from s f) in
    block-put_other d to 0 (block_of d from) x other (omega arith) (shaped-inside n jl d to s t)
    (shaped-inside n jl d x s h)

pub overwrite-all : (xs new : List ℕ) → length xs ≤ length new → overwrite xs 0 new ≡ new
unfolding overwrite
overwrite-all xs new h = same_number_lists _ _ (grind (arith, elements)) (λ k below. grind (arith, elements))

pub copy-same : (n jl : ℕ) (d : Disk) (from to : ℕ) → IsShaped n jl d → from < n → to < n
    → block_of (with_bytes d to 0 (block_of d from)) to ≡ block_of d from
copy-same n jl d from to s f t =
    let l : length (block_of d from) ≡ 128 = length-block d from (shaped-inside n jl d from s f) in
    let l' : length (block_of d to) ≡ 128 = length-block d to (shaped-inside n jl d to s t) in
    block-put_same d to 0 (block_of d from) (omega arith) (shaped-inside n jl d to s t)
    ∙ overwrite-all (block_of d to) (block_of d from) (omega arith)

-- a disk's bytes are its blocks, one after another
joined_from : (n m : ℕ) (xs : List ℕ) (f : ℕ → List ℕ) → length xs ≡ 128 * (n + m)
    → ((b : ℕ) → b < n + m → take 128 (drop (128 * b) xs) ≡ f b) → drop (128 * n) xs ≡ flat_map f (range_with_len n m)
joined_from n zero xs f long same = drop_all (128 * n) xs (omega arith)
joined_from n (suc m) xs f long same =
    sym (take-append-drop 128 (drop (128 * n) xs))
    ∙ ap (λ (ys : List ℕ). ys ++ drop 128 (drop (128 * n) xs)) (same n (omega arith))
    ∙ ap (λ (ys : List ℕ). f n ++ ys) (drop-drop 128 (128 * n) xs ∙ ap (λ (k : ℕ). drop k xs) (omega arith)
    ∙ joined_from (n + 1) m xs f (omega arith) (λ b below. same b (omega arith)))

pub joined_blocks : (n : ℕ) (d : Disk) (f : ℕ → List ℕ) → length d.bytes ≡ 128 * n
    → ((b : ℕ) → b < n → block_of d b ≡ f b) → d.bytes ≡ flat_map f (range_with_len 0 n)
joined_blocks n d f long same = joined_from 0 n d.bytes f (omega arith) (λ b below. same b (omega arith))
