-- Where names may lead, put together.
use Rattle.std.proofs.Common.{◌≡◌, ℕ, zero, suc, ◌+◌, ◌-◌, ◌<◌, ◌≤◌, inl, inr, List, [], ◌∷◌, ◌++◌, take}
use Rattle.std.proofs.Common.{Bool, true, false, ◌&&◌, ◌||◌, not, Option, Some, None, arith, refl, sym, ap, subst, ◌∙◌}
use Rattle.std.proofs.Common.{add-one, length, get_or}
use Rattle.std.specs.Prelude.{◌≢◌, bit_or, Result, Ok, ◌==◌}
use Rattle.std.specs.Option.{option_or}
use Rattle.std.proofs.lemmas.Bool.{false≢true, cases_eq, and_right, eq-eqb, ne_eqb, le-ltb}
use Rattle.std.proofs.lemmas.List.{take_more}
use Rattle.patch_sets.specs.Sets.{Has, with_id}
use Rattle.patch_sets.proofs.Bits.{in_or_left, in_or_right, in_or_cases, in_with_cases, none_in_empty}
use Rattle.crash_model.specs.Disk.{Disk, byte}
use Rattle.crash_model.specs.Layout.{is_live, is_data, counts, pointer_of, kind_of, is_owned}
use Rattle.crash_model.specs.Paths.{end_of, child_of}
use Rattle.known_bytes.specs.Directories.{IsItsBlock}
use Rattle.known_bytes.specs.NamedIn.{IsEnd, end_by, child_in, first_child_in}
use Rattle.known_bytes.specs.Reading.{Reading, InEachDisk, IsKnown}

pub or_left : (a b : Bool) → a ≡ true → (a || b) ≡ true
or_left true b h = refl
or_left false b h = absurd (false≢true h)

or_right : (a b : Bool) → b ≡ true → (a || b) ≡ true
or_right true b h = refl
or_right false b h = h

-- ---- known answers

pub surely : (r : Reading) (test : Disk → Bool) (answer : Result Bool ℕ) (value : Bool) → answer ≡ Ok value
    → IsKnown r test answer → InEachDisk r (λ d. test d ≡ value)
surely r test answer value is known = subst (λ (a : Result Bool ℕ). IsKnown r test a) is known

-- ---- two ends

-- the inodes of two sets are below a bound, and so are those of both
pub within_either : (a b all n : ℕ) → all ≡ bit_or a b → ((inode : ℕ) → Has a inode → inode < n)
    → ((inode : ℕ) → Has b inode → inode < n) → (inode : ℕ) → Has all inode → inode < n
within_either a b all n is first second inode h =
    elim (in_or_cases a b inode (subst (λ (s : ℕ). Has s inode) is h)) [
      | inl one ↦ first inode one
      | inr other ↦ second inode other
    ]

pub none_within : (all n : ℕ) → all ≡ 0 → (inode : ℕ) → Has all inode → inode < n
none_within all n none inode h = absurd (none_in_empty inode (subst (λ (s : ℕ). Has s inode) none h))

pub one_within : (one all n : ℕ) → all ≡ with_id 0 one → one < n → (inode : ℕ) → Has all inode → inode < n
one_within one all n is less inode h =
    elim (in_with_cases 0 one inode (subst (λ (s : ℕ). Has s inode) is h)) [
      | inl same ↦ omega (arith, same, less)
      | inr none ↦ absurd (none_in_empty inode none)
    ]

pub same_within : (a all n : ℕ) → all ≡ a → ((inode : ℕ) → Has a inode → inode < n) → (inode : ℕ) → Has all inode
    → inode < n
same_within a all n is within inode h = within inode (subst (λ (s : ℕ). Has s inode) is h)

module _ (a b all : ℕ) (x y any : Bool) (inodes : all ≡ bit_or a b) (nowhere : any ≡ (x || y)) where
  pub end_first : (end : Option ℕ) → IsEnd end a x → IsEnd end all any
  end_first None h = nowhere ∙ or_left x y h
  end_first (Some inode) h = subst (λ (s : ℕ). Has s inode) (sym inodes) (in_or_left a b inode h)

  pub end_second : (end : Option ℕ) → IsEnd end b y → IsEnd end all any
  end_second None h = nowhere ∙ or_right x y h
  end_second (Some inode) h = subst (λ (s : ℕ). Has s inode) (sym inodes) (in_or_right a b inode h)

-- something leads to the inodes only if a test holds of the disk; if that is not sure, perhaps nowhere
pub end_if_sure : (end other : Option ℕ) (test : Bool) (a all : ℕ) (x sure any : Bool) → all ≡ a
    → any ≡ (x || not sure) → (sure ≡ true → test ≡ true) → (test ≡ true → other ≡ end) → (test ≡ false → end ≡ None)
    → IsEnd other a x → IsEnd end all any
end_if_sure end other true a all x sure any inodes nowhere is_sure here gone h =
    subst (λ (o : Option ℕ). IsEnd o all any) (here refl) (wider other h)
  where
    wider : (o : Option ℕ) → IsEnd o a x → IsEnd o all any
    wider None g = nowhere ∙ or_left x (not sure) g
    wider (Some inode) g = subst (λ (s : ℕ). Has s inode) (sym inodes) g
end_if_sure end other false a all x sure any inodes nowhere is_sure here gone h =
    subst (λ (o : Option ℕ). IsEnd o all any) (sym (gone refl)) (nowhere ∙ unsure sure is_sure)
  where
    unsure : (s : Bool) → (s ≡ true → false ≡ true) → (x || not s) ≡ true
    unsure true must = absurd (false≢true (must refl))
    unsure false must = or_right x true refl

-- something that leads nowhere
pub end_none : (end : Option ℕ) (inodes : ℕ) (nowhere : Bool) → nowhere ≡ true → end ≡ None → IsEnd end inodes nowhere
end_none end inodes nowhere is none = subst (λ (o : Option ℕ). IsEnd o inodes nowhere) (sym none) is

-- ---- an entry by its byte 0

module _ (entry : ℕ) (d : Disk) where
  pub by_none : entry ≡ 0 → end_by entry d ≡ None
  by_none none = rw (eq-eqb entry 0 none) refl

  pub by_dead : is_live d (entry - 1) ≡ false → end_by entry d ≡ None
  by_dead dead = rw (dead, and_right (not (entry == 0)) false refl) refl

  -- no inode has such a number
  pub by_high : 16 < entry → end_by entry d ≡ None
  by_high high = by_dead (rw (le-ltb (entry - 1) 16 (omega arith)) refl)

  pub by_live : entry ≢ 0 → is_live d (entry - 1) ≡ true → end_by entry d ≡ Some (entry - 1)
  by_live some live = rw (ne_eqb entry 0 some, live) refl

-- ---- the first entry of a name

either_end : (first second : Option ℕ) (a b all : ℕ) (nowhere : Bool) → all ≡ bit_or a b → IsEnd first a true
    → IsEnd second b nowhere → IsEnd (option_or first second) all nowhere
either_end (Some inode) second a b all nowhere is one two = subst (λ (s : ℕ). Has s inode) (sym is)
    (in_or_left a b inode one)
either_end None None a b all nowhere is one two = two
either_end None (Some inode) a b all nowhere is one two = subst (λ (s : ℕ). Has s inode) (sym is)
    (in_or_right a b inode two)

sure_end : (first second : Option ℕ) (a : ℕ) → IsEnd first a false → IsEnd (option_or first second) a false
sure_end (Some inode) second a h = h
sure_end None second a h = absurd (false≢true h)

module _ (block : ℕ) (spelled : List ℕ) (d : Disk) where
  pub first_end_more : (k a b all : ℕ) (nowhere : Bool) → all ≡ bit_or a b
      → IsEnd (first_child_in k block spelled d) a true → IsEnd (child_in block k spelled d) b nowhere
      → IsEnd (first_child_in (k + 1) block spelled d) all nowhere
  unfolding first_child_in
  first_end_more k a b all nowhere is before here =
      subst (λ (n : ℕ). IsEnd (first_child_in n block spelled d) all nowhere) (sym (add-one k))
      (either_end (first_child_in k block spelled d) (child_in block k spelled d) a b all nowhere is before here)

  pub first_end_sure : (n k a : ℕ) → k ≤ n → IsEnd (first_child_in k block spelled d) a false
      → IsEnd (first_child_in n block spelled d) a false
  unfolding first_child_in
  first_end_sure zero k a less h =
      let same : k ≡ 0 = omega arith in
      subst (λ (m : ℕ). IsEnd (first_child_in m block spelled d) a false) same h
  first_end_sure (suc n) k a less h = elim (cases_eq k (suc n)) [
    | inl same ↦ subst (λ (m : ℕ). IsEnd (first_child_in m block spelled d) a false) same h
    | inr other ↦ sure_end (first_child_in n block spelled d) (child_in block n spelled d) a
        (first_end_sure n k a (omega (arith, less, other)) h)
  ]

-- ---- directories

-- a directory does not count with a block outside the data area
pub no_directory : (d : Disk) (dir block : ℕ) → is_data d block ≡ false → pointer_of d dir 0 ≡ block
    → counts d dir ≡ false
no_directory d dir block wild at =
    let here : ℕ = pointer_of d dir 0 in
    three (kind_of d dir == 2) (is_data d here) (byte d here 0 == 0x44) (is_owned d here dir)
    (ap (λ (b : ℕ). is_data d b) at ∙ wild)
  where
    three : (a b c e : Bool) → b ≡ false → (a && b && c && e) ≡ false
    three true true c e h = absurd (false≢true (sym h))
    three true false c e h = refl
    three false b c e h = refl

pub its_block : (d : Disk) (dir block : ℕ) → is_data d block ≡ true → pointer_of d dir 0 ≡ block
    → IsItsBlock dir block d
its_block d dir block tame at = record { tame = tame; only = λ counted. at }

-- ---- names one by one

pub end_of-append : (d : Disk) (end : Option ℕ) (xs ys : List (List ℕ))
    → end_of d end (xs ++ ys) ≡ end_of d (end_of d end xs) ys
end_of-append d end [] ys = refl
end_of-append d None (x ∷ xs) [] = refl
end_of-append d None (x ∷ xs) (y ∷ ys) = refl
end_of-append d (Some dir) (x ∷ xs) ys = end_of-append d (child_of d dir x) xs ys

pub end_of-more : (d : Disk) (end : Option ℕ) (names : List (List ℕ)) (i : ℕ) (name : List ℕ) → i < length names
    → name ≡ get_or names i name
    → end_of d (end_of d end (take i names)) (name ∷ []) ≡ end_of d end (take (i + 1) names)
end_of-more d end names i name less is =
    sym (end_of-append d end (take i names) (name ∷ []))
    ∙ ap (λ (xs : List (List ℕ)). end_of d end xs)
    (ap (λ (x : List ℕ). take i names ++ x ∷ []) is ∙ sym (take_more names i name less))

-- a name from the inodes where others may lead
pub end_of-step : (d : Disk) (name : List ℕ) (end : Option ℕ) (here inodes : ℕ) (maybe nowhere : Bool)
    → (maybe ≡ true → nowhere ≡ true) → ((dir : ℕ) → Has here dir → IsEnd (child_of d dir name) inodes nowhere)
    → IsEnd end here maybe → IsEnd (end_of d end (name ∷ [])) inodes nowhere
end_of-step d name None here inodes maybe nowhere lost each h = lost h
end_of-step d name (Some dir) here inodes maybe nowhere lost each h = each dir h
