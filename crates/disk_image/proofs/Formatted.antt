-- The bytes of the formatted disk: it holds the root directory alone, so it is sound, and its journal is zero.
use Rattle.std.proofs.Common.{◌≡◌, ℕ, ◌+◌, ◌-◌, ◌*◌, ◌<◌, ◌≤◌, ◌⊎◌, inl, inr, List, [], ◌∷◌, length, get_or, replicate}
use Rattle.std.proofs.Common.{arith, ap, sym, refl, ◌∙◌, Bool, true, false}
use Rattle.std.proofs.lemmas.Bool.{cases_lt}
use Rattle.std.proofs.lemmas.List.{get_or-replicate, length-replicate, get_or_past}
use Rattle.crash_model.specs.Disk.{IsGeometry, overwrite}
use Rattle.crash_model.specs.Generations.{new_disk, generation_of, mark_generation}
use Rattle.crash_model.specs.Sound.{IsSound, HasZeroJournal}
use Rattle.crash_model.proofs.Bytes.{length-overwrite, overwrite-inside, overwrite-below, overwrite-above}
use Rattle.disk_image.proofs.RootAlone.{HasRootAlone, sound-root}

-- one range overwritten: a byte of the range, and one of another place
overwritten-here : (xs : List ℕ) (at : ℕ) (new : List ℕ) (p k : ℕ) → at + length new ≤ length xs → k < length new
    → p ≡ at + k → get_or (overwrite xs at new) p 0 ≡ get_or new k 0
overwritten-here xs at new p k fits within place =
    overwrite-inside xs at new p fits (omega arith) (omega arith)
    ∙ ap (λ (j : ℕ). get_or new j 0) (let e : p - at ≡ k = omega arith in e)

overwritten-elsewhere : (xs : List ℕ) (at : ℕ) (new : List ℕ) (p : ℕ) → at + length new ≤ length xs → (p < at)
    ⊎ (at + length new ≤ p) → get_or (overwrite xs at new) p 0 ≡ get_or xs p 0
overwritten-elsewhere xs at new p fits (inl below) = overwrite-below xs at new p fits below
overwritten-elsewhere xs at new p fits (inr above) = overwrite-above xs at new p fits above

zeros : (n p : ℕ) → get_or (replicate {A = ℕ} n 0) p 0 ≡ 0
zeros n p = elim (cases_lt p n) [
  | inl below ↦ get_or-replicate {A = ℕ} n p 0 0 below
  | inr past ↦ get_or_past (replicate {A = ℕ} n 0) p 0 (omega (arith, length-replicate {A = ℕ} n 0))
]

-- the bytes after each of the four puts
abbrev bytes0 : ℕ → ℕ → List ℕ
bytes0 n j = replicate (128 * n) 0

abbrev bytes1 : ℕ → ℕ → List ℕ
bytes1 n j = overwrite (bytes0 n j) (128 * 0 + 0) (0x53 ∷ n ∷ j ∷ [])

abbrev bytes2 : ℕ → ℕ → List ℕ
bytes2 n j = overwrite (bytes1 n j) (128 * 1 + 0) (replicate (5 + j) 1)

abbrev bytes3 : ℕ → ℕ → List ℕ
bytes3 n j = overwrite (bytes2 n j) (128 * 2 + 0) (2 ∷ 1 ∷ 0 ∷ 0 ∷ (4 + j) ∷ [])

abbrev bytes4 : ℕ → ℕ → List ℕ
bytes4 n j = overwrite (bytes3 n j) (128 * (4 + j) + 0) (0x44 ∷ 0 ∷ [])

length-bytes1 : (n j : ℕ) → IsGeometry n j → length (bytes1 n j) ≡ 128 * n
length-bytes1 n j good =
    let size = length-replicate {A = ℕ} (128 * n) 0 in
    length-overwrite (bytes0 n j) (128 * 0 + 0) (0x53 ∷ n ∷ j ∷ []) (omega (arith, size)) ∙ size

length-bytes2 : (n j : ℕ) → IsGeometry n j → length (bytes2 n j) ≡ 128 * n
length-bytes2 n j good =
    let size = length-bytes1 n j good in
    length-overwrite (bytes1 n j) (128 * 1 + 0) (replicate (5 + j) 1)
    (omega (arith, size, length-replicate {A = ℕ} (5 + j) 1)) ∙ size

length-bytes3 : (n j : ℕ) → IsGeometry n j → length (bytes3 n j) ≡ 128 * n
length-bytes3 n j good =
    let size = length-bytes2 n j good in
    length-overwrite (bytes2 n j) (128 * 2 + 0) (2 ∷ 1 ∷ 0 ∷ 0 ∷ (4 + j) ∷ []) (omega (arith, size)) ∙ size

length-bytes4 : (n j : ℕ) → IsGeometry n j → length (bytes4 n j) ≡ 128 * n
length-bytes4 n j good =
    let size = length-bytes3 n j good in
    length-overwrite (bytes3 n j) (128 * (4 + j) + 0) (0x44 ∷ 0 ∷ []) (omega (arith, size)) ∙ size

-- a place that the last put leaves alone, and so on
after4 : (n j p : ℕ) → IsGeometry n j → (p < 128 * (4 + j)) ⊎ (128 * (4 + j) + 2 ≤ p)
    → get_or (bytes4 n j) p 0 ≡ get_or (bytes3 n j) p 0
after4 n j p good away = overwritten-elsewhere (bytes3 n j) (128 * (4 + j) + 0) (0x44 ∷ 0 ∷ []) p
    (omega (arith, length-bytes3 n j good)) (elim away [
      | inl below ↦ inl (omega arith)
      | inr above ↦ inr (omega arith)
    ])

after3 : (n j p : ℕ) → IsGeometry n j → (p < 256) ⊎ (261 ≤ p) → get_or (bytes3 n j) p 0 ≡ get_or (bytes2 n j) p 0
after3 n j p good away = overwritten-elsewhere (bytes2 n j) (128 * 2 + 0) (2 ∷ 1 ∷ 0 ∷ 0 ∷ (4 + j) ∷ []) p
    (omega (arith, length-bytes2 n j good)) (elim away [
      | inl below ↦ inl (omega arith)
      | inr above ↦ inr (omega arith)
    ])

after2 : (n j p : ℕ) → IsGeometry n j → 133 + j ≤ p → get_or (bytes2 n j) p 0 ≡ 0
after2 n j p good above =
    overwritten-elsewhere (bytes1 n j) (128 * 1 + 0) (replicate (5 + j) 1) p
    (omega (arith, length-bytes1 n j good, length-replicate {A = ℕ} (5 + j) 1))
    (inr (omega (arith, length-replicate {A = ℕ} (5 + j) 1)))
    ∙ overwritten-elsewhere (bytes0 n j) (128 * 0 + 0) (0x53 ∷ n ∷ j ∷ []) p
    (omega (arith, length-replicate {A = ℕ} (128 * n) 0)) (inr (omega arith))
    ∙ zeros (128 * n) p

-- after inode 0's first pointer, all bytes but the root block's mark are 0
zero-byte : (n j p : ℕ) → IsGeometry n j → 261 ≤ p → (p < 128 * (4 + j)) ⊎ (128 * (4 + j) + 2 ≤ p)
    → get_or (bytes4 n j) p 0 ≡ 0
zero-byte n j p good from away = after4 n j p good away ∙ after3 n j p good (inr from)
    ∙ after2 n j p good (omega (arith, good.room, good.most))

-- inode 0
inode-byte : (n j p k : ℕ) → IsGeometry n j → k < 5 → p ≡ 256 + k
    → get_or (bytes4 n j) p 0 ≡ get_or (2 ∷ 1 ∷ 0 ∷ 0 ∷ (4 + j) ∷ []) k 0
inode-byte n j p k good within place =
    after4 n j p good (inl (omega arith))
    ∙ overwritten-here (bytes2 n j) (128 * 2 + 0) (2 ∷ 1 ∷ 0 ∷ 0 ∷ (4 + j) ∷ []) p k
    (omega (arith, length-bytes2 n j good)) (omega arith) (omega arith)

-- the root's block
mark-byte : (n j p k : ℕ) → IsGeometry n j → k < 2 → p ≡ 128 * (4 + j) + k
    → get_or (bytes4 n j) p 0 ≡ get_or (0x44 ∷ 0 ∷ []) k 0
mark-byte n j p k good within place =
    overwritten-here (bytes3 n j) (128 * (4 + j) + 0) (0x44 ∷ 0 ∷ []) p k (omega (arith, length-bytes3 n j good))
    (omega arith) (omega arith)

-- the map
used-byte : (n j b : ℕ) → IsGeometry n j → b < 5 + j → get_or (bytes4 n j) (128 + b) 0 ≡ 1
used-byte n j b good below =
    after4 n j (128 + b) good (inl (omega arith))
    ∙ after3 n j (128 + b) good (inl (omega (arith, good.room, good.most)))
    ∙ overwritten-here (bytes1 n j) (128 * 1 + 0) (replicate (5 + j) 1) (128 + b) b
    (omega (arith, length-bytes1 n j good, length-replicate {A = ℕ} (5 + j) 1))
    (omega (arith, length-replicate {A = ℕ} (5 + j) 1)) (omega arith)
    ∙ get_or-replicate {A = ℕ} (5 + j) b 1 0 below

unused-byte : (n j b : ℕ) → IsGeometry n j → 5 + j ≤ b → b < n → get_or (bytes4 n j) (128 + b) 0 ≡ 0
unused-byte n j b good from below =
    after4 n j (128 + b) good (inl (omega (arith, good.most)))
    ∙ after3 n j (128 + b) good (inl (omega (arith, good.most)))
    ∙ after2 n j (128 + b) good (omega arith)

-- the root's block is of the root's generation, 0
root-generations : (n j : ℕ) (g : Bool) → IsGeometry n j
    → mark_generation (new_disk n j g) (4 + j) ≡ generation_of (new_disk n j g) 0
unfolding mark_generation generation_of
root-generations n j false good = refl
root-generations n j true good =
    zero-byte n j (128 * (4 + j) + 2) good (omega arith) (inr (omega arith))
    ∙ sym (inode-byte n j 258 2 good (omega arith) (omega arith))

root-alone : (n j : ℕ) (g : Bool) → IsGeometry n j → HasRootAlone (new_disk n j g)
root-alone n j g good = record {
  disk = record { least = good.least; most = good.most; room = good.room; whole = length-bytes4 n j good };
  kind = inode-byte n j 256 0 good (omega arith) (omega arith);
  links = inode-byte n j 257 1 good (omega arith) (omega arith);
  block = inode-byte n j 260 4 good (omega arith) (omega arith);
  one_block = λ s some b. zero-byte n j _ good (omega arith) (inl (omega arith));
  others = λ i some a. zero-byte n j _ good (omega arith) (inl (omega arith));
  mark = mark-byte n j _ 0 good (omega arith) (omega arith);
  owner = mark-byte n j _ 1 good (omega arith) (omega arith);
  generations = root-generations n j g good;
  empty = λ k b. zero-byte n j _ good (omega arith) (inr (omega arith));
  used = λ b below e. absurd (omega (arith, used-byte n j b good below, e));
  unused = λ b from below. unused-byte n j b good from below;
}

pub sound-new_disk : (n j : ℕ) (g : Bool) → IsGeometry n j → IsSound (new_disk n j g)
sound-new_disk n j g good = sound-root (new_disk n j g) (root-alone n j g good)

pub zero-journal-new_disk : (n j : ℕ) (g : Bool) → IsGeometry n j → HasZeroJournal (new_disk n j g)
zero-journal-new_disk n j g good block from to offset within = zero-byte n j (128 * block + offset) good (omega arith)
    (inl (omega arith))
