-- Images of sets, a stretch of patches at a time.
use Rattle.std.proofs.Common.{◌≡◌, ◌≢◌, ℕ, ◌+◌, ◌<◌, ◌≤◌, ◌⊎◌, inl, inr, List, [], ◌∷◌, ◌++◌, length, Bool, true, false}
use Rattle.std.proofs.Common.{cond, arith, refl, sym, ◌∙◌, ap, subst}
use Rattle.crash_model.specs.Disk.{Disk, block_of, with_bytes, overwrite}
use Rattle.patch_sets.specs.Sets.{has}
use Rattle.crash_model.specs.Patches.{Place, image_from}
use Rattle.full_journal_laws.proofs.Transactions.{IsPlaced, ArePlaced}
use Rattle.journal_replay.proofs.Blocks as blocks
use Rattle.journal_replay.proofs.Blocks.{IsShaped, shaped-inside, block-put_other, block-put_same}

-- the disk with places put one after another
abbrev pub with_places : Disk → List Place → Disk
with_places d [] = d
with_places d (p ∷ ps) = with_places (with_bytes d p.block p.offset p.new) ps

pub image-append : (id : ℕ) (d : Disk) (xs ys : List Place) (set n : ℕ) → n ≡ id + length xs
    → image_from id d (xs ++ ys) set ≡ image_from n (image_from id d xs set) ys set
image-append id d [] ys set n e = let here : n ≡ id = omega arith in rw here refl
image-append id d (x ∷ xs) ys set n e = image-append (id + 1)
    (cond (has set id) (with_bytes d x.block x.offset x.new) d) xs ys set n (omega arith)

-- a stretch of which the set has nothing
pub image-none : (id : ℕ) (d : Disk) (ps : List Place) (set : ℕ)
    → ((q : ℕ) → id ≤ q → q < id + length ps → has set q ≡ false) → image_from id d ps set ≡ d
image-none id d [] set none = refl
image-none id d (p ∷ ps) set none = rw (none id (omega arith) (omega arith))
    (image-none (id + 1) d ps set (λ q a b. none q (omega arith) (omega arith)))

-- a stretch of which it has all
pub image-all : (id : ℕ) (d : Disk) (ps : List Place) (set : ℕ)
    → ((q : ℕ) → id ≤ q → q < id + length ps → has set q ≡ true) → image_from id d ps set ≡ with_places d ps
image-all id d [] set every = refl
image-all id d (p ∷ ps) set every = rw (every id (omega arith) (omega arith))
    (image-all (id + 1) (with_bytes d p.block p.offset p.new) ps set (λ q a b. every q (omega arith) (omega arith)))

-- patches leave what says whether there are generations
pub image-generations : (id : ℕ) (d : Disk) (ps : List Place) (set : ℕ)
    → (image_from id d ps set).generations ≡ d.generations
image-generations id d [] set = refl
image-generations id d (p ∷ ps) set = image-generations (id + 1)
    (cond (has set id) (with_bytes d p.block p.offset p.new) d) ps set ∙ step (has set id)
  where
    step : (b : Bool) → (cond b (with_bytes d p.block p.offset p.new) d).generations ≡ d.generations
    step true = refl
    step false = refl

abbrev pub Avoid : ℕ → List Place → Type 0
Avoid x [] = Unit {0}
Avoid x (p ∷ ps) = (x ≢ p.block) × Avoid x ps

pub shaped-with_bytes : (n jl : ℕ) (d : Disk) (p : Place) → IsShaped n jl d → IsPlaced n p
    → IsShaped n jl (with_bytes d p.block p.offset p.new)
shaped-with_bytes n jl d p s i = blocks.shaped-with_bytes n jl d p.block p.offset p.new s i.inside i.known

shaped-step : (n jl : ℕ) (b : Bool) (d : Disk) (p : Place) → IsShaped n jl d → IsPlaced n p
    → IsShaped n jl (cond b (with_bytes d p.block p.offset p.new) d)
shaped-step n jl true d p s i = shaped-with_bytes n jl d p s i
shaped-step n jl false d p s i = s

pub shaped-image : (n jl id : ℕ) (d : Disk) (ps : List Place) (set : ℕ) → IsShaped n jl d → ArePlaced n ps
    → IsShaped n jl (image_from id d ps set)
shaped-image n jl id d [] set s a = s
shaped-image n jl id d (p ∷ ps) set s a = shaped-image n jl (id + 1)
    (cond (has set id) (with_bytes d p.block p.offset p.new) d) ps set (shaped-step n jl (has set id) d p s a.0) a.1

pub shaped-all : (n jl : ℕ) (d : Disk) (ps : List Place) → IsShaped n jl d → ArePlaced n ps
    → IsShaped n jl (with_places d ps)
shaped-all n jl d [] s a = s
shaped-all n jl d (p ∷ ps) s a = shaped-all n jl (with_bytes d p.block p.offset p.new) ps
    (shaped-with_bytes n jl d p s a.0) a.1

pub kept-with_bytes : (n jl : ℕ) (d : Disk) (p : Place) (x : ℕ) → IsShaped n jl d → IsPlaced n p → x < n → x ≢ p.block
    → block_of (with_bytes d p.block p.offset p.new) x ≡ block_of d x
kept-with_bytes n jl d p x s i h other = block-put_other d p.block p.offset p.new x other i.inside
    (shaped-inside n jl d p.block s i.known) (shaped-inside n jl d x s h)

kept-step : (n jl : ℕ) (b : Bool) (d : Disk) (p : Place) (x : ℕ) → IsShaped n jl d → IsPlaced n p → x < n → x ≢ p.block
    → block_of (cond b (with_bytes d p.block p.offset p.new) d) x ≡ block_of d x
kept-step n jl true d p x s i h other = kept-with_bytes n jl d p x s i h other
kept-step n jl false d p x s i h other = refl

-- a block that no place names stays, whatever the set
pub kept-image : (n jl id : ℕ) (d : Disk) (ps : List Place) (set x : ℕ) → IsShaped n jl d → ArePlaced n ps → x < n
    → Avoid x ps → block_of (image_from id d ps set) x ≡ block_of d x
kept-image n jl id d [] set x s a h avoid = refl
kept-image n jl id d (p ∷ ps) set x s a h avoid =
    kept-image n jl (id + 1) (cond (has set id) (with_bytes d p.block p.offset p.new) d) ps set x
    (shaped-step n jl (has set id) d p s a.0) a.1 h avoid.1
    ∙ kept-step n jl (has set id) d p x s a.0 h avoid.0

pub kept-all : (n jl : ℕ) (d : Disk) (ps : List Place) (x : ℕ) → IsShaped n jl d → ArePlaced n ps → x < n → Avoid x ps
    → block_of (with_places d ps) x ≡ block_of d x
kept-all n jl d [] x s a h avoid = refl
kept-all n jl d (p ∷ ps) x s a h avoid =
    kept-all n jl (with_bytes d p.block p.offset p.new) ps x (shaped-with_bytes n jl d p s a.0) a.1 h avoid.1
    ∙ kept-with_bytes n jl d p x s a.0 h avoid.0

-- what is the same of two disks stays so when both take the same places
pub same-all : (n jl : ℕ) (d e : Disk) (ps : List Place) (x : ℕ) → IsShaped n jl d → IsShaped n jl e → ArePlaced n ps
    → x < n → block_of e x ≡ block_of d x → block_of (with_places e ps) x ≡ block_of (with_places d ps) x
same-all n jl d e [] x s r a h same = same
same-all n jl d e (p ∷ ps) x s r a h same =
    same-all n jl (with_bytes d p.block p.offset p.new) (with_bytes e p.block p.offset p.new) ps x
    (shaped-with_bytes n jl d p s a.0) (shaped-with_bytes n jl e p r a.0) a.1 h
    (elim (is_same x p.block) [
      | inl eq ↦ subst (λ (y : ℕ). block_of (with_bytes e p.block p.offset p.new) y
          ≡ block_of (with_bytes d p.block p.offset p.new) y) (sym eq)
          (block-put_same e p.block p.offset p.new a.0.inside (shaped-inside n jl e p.block r a.0.known)
          ∙ ap (λ (row : List ℕ). overwrite row p.offset p.new) (subst (λ (y : ℕ). block_of e y ≡ block_of d y) eq same)
          ∙ sym (block-put_same d p.block p.offset p.new a.0.inside (shaped-inside n jl d p.block s a.0.known)))
      | inr other ↦ kept-with_bytes n jl e p x r a.0 h other ∙ same ∙ sym (kept-with_bytes n jl d p x s a.0 h other)
    ])
  where
    is_same : (x y : ℕ) → (x ≡ y) ⊎ (x ≢ y)
    is_same x y = grind arith
