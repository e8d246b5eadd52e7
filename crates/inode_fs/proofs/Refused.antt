-- On a sound disk an operation is refused exactly as the tests of views say.
use Rattle.std.proofs.Common.{◌≡◌, ◌≢◌, ℕ, ◌<◌, ◌⊎◌, ◌↔◌, inl, inr, List, [], ◌∷◌, Bool, true, false, not, eqb, Option}
use Rattle.std.proofs.Common.{Some, None, Result, Ok, Err, arith, refl, sym, ◌∙◌, ap, subst}
use Rattle.std.proofs.lemmas.Bool.{eq-eqb, eqb-true}
use Rattle.crash_model.specs.Disk.{Disk, IsDisk}
use Rattle.crash_model.specs.Layout.{kind_of, target_of}
use Rattle.crash_model.specs.Plan.{plan_of, name_spelling, entry_named, directory_named, walk_end, then_ok, unless}
use Rattle.crash_model.specs.Plan.{with_found, at_path, relink_plan}
use Rattle.crash_model.specs.Sound.{IsSound}
use Rattle.crash_model.specs.View.{View, view_of}
use Rattle.crash_model.specs.Meaning.{LeadsTo, IsKind, Walks, WalkFails, AtPath, AtName, Relinks, IsRefused}
use Rattle.crash_model.specs.declared.refusals.FsFault.{FsFault}
use Rattle.crash_model.specs.declared.refusals.FsFault.TheVariants.{NotFound, NotADirectory}
use Rattle.crash_model.specs.declared.operations.Op.{Op}
use Rattle.crash_model.specs.declared.names.Path.{Path}
use Rattle.crash_model.specs.declared.operations.Op.TheVariants.{Create, Write, Link, Unlink, Rename, Mkdir, Rmdir}
use Rattle.crash_model.specs.declared.operations.Op.TheVariants.{Overwrite, Truncate, Replace}
use Rattle.crash_model.specs.declared.plans.Change.{Change}
use Rattle.soundness_laws.specs.Tables.{tables_of, Sound}
use Rattle.soundness_laws.proofs.Answered.{test-holds}
use Rattle.soundness_laws.proofs.ByTables.{kind-at}
use Rattle.soundness_laws.proofs.Views.{same-view}
use Rattle.soundness_laws.proofs.ToTables.{sound-tables}
use Rattle.inode_fs.proofs.Searched.{Walked, walk-found, NamedEntry, named-found}
use Rattle.inode_fs.proofs.Means.{kind-of, name-of, walks, root-walk_end}
use Rattle.inode_fs.proofs.ViewTests.{named-by, test-named, test-inode, test-block, test-slot, test-full, test-kind}
use Rattle.inode_fs.proofs.ViewTests.{test-links, test-entries, test-lacks_block, test-same}

-- an answer is a refusal exactly if something holds of the fault
abbrev pub Refuses : {B : Type 0} → Result B FsFault → (FsFault → Type 0) → Type 0
Refuses r P = (fault : FsFault) → ((r ≡ Err fault) ↔ P fault)

-- ---- a list of tests

-- a test fails, or it does not and the others decide
abbrev First : Type 0 → Type 0 → FsFault → (FsFault → Type 0) → FsFault → Type 0
First P Q fault R f = (P × (f ≡ fault)) ⊎ (Q × R f)

fails : {B : Type 0} (P Q : Type 0) (fault : FsFault) (R : FsFault → Type 0) → P → (¬ Q)
    → Refuses {B = B} (Err fault) (First P Q fault R)
fails P Q fault R p none f = (
  λ e. inl (p, cc),
  λ h. elim h [ inl w ↦ ap (λ (x : FsFault). Err x) (sym w.1) | inr w ↦ absurd (none w.0) ],
)

passes : {B : Type 0} (P Q : Type 0) (fault : FsFault) (rest : Result B FsFault) (R : FsFault → Type 0) → (¬ P) → Q
    → Refuses rest R → Refuses rest (First P Q fault R)
passes P Q fault rest R none q others f = (
  λ e. inr (q, (others f).0 e),
  λ h. elim h [ inl w ↦ absurd (none w.0) | inr w ↦ (others f).1 w.1 ],
)

-- a test, and what it leaves
one : {B : Type 0} (b : Bool) (P : Type 0) (fault : FsFault) (rest : Result B FsFault) (R : FsFault → Type 0)
    → ((b ≡ true) ↔ P) → Refuses rest R → Refuses (unless b fault rest) (First P (¬ P) fault R)
one true P fault rest R test others = let p = test.0 refl in fails P (¬ P) fault R p (λ none. none p)
one false P fault rest R test others =
    let none : ¬ P = λ p. let no : false ≡ true = test.1 p in cc in
    passes P (¬ P) fault rest R none none others

-- a search, and what is made of what it finds
found : {A B : Type 0} (o : Option A) (P : Type 0) (fault : FsFault) (answer : A → Result B FsFault)
    (R : FsFault → Type 0) → ((o ≡ None) ↔ P) → ((x : A) → Refuses (answer x) R)
    → Refuses (with_found o fault answer) (First P (¬ P) fault R)
found None P fault answer R test others = let p = test.0 refl in fails P (¬ P) fault R p (λ none. none p)
found (Some x) P fault answer R test others =
    let none : ¬ P = λ p. let no : Some x ≡ None = test.1 p in cc in
    passes P (¬ P) fault (answer x) R none none (others x)

accepted : {B : Type 0} (answer : B) → Refuses {B = B} (Ok answer) (λ _. ⊥)
accepted answer f = (λ e. cc, λ z. absurd z)

-- ---- names

-- the name is absent, or it leads to an inode for which more is tested
abbrev AtInode : View → ℕ → List ℕ → (ℕ → FsFault → Type 0) → FsFault → Type 0
AtInode v dir name Then f = ((¬ (LeadsTo v dir name)) × (f ≡ NotFound)) ⊎ ((i : ℕ) × v.name dir name i × Then i f)

-- a name leads to one inode
one-inode : (d : Disk) (dir : ℕ) (name : List ℕ) (i j : ℕ) → Sound (tables_of d) → dir < 16
    → (view_of d).name dir name i → (view_of d).name dir name j → i ≡ j
one-inode d dir name i j sound below h g =
    let a = named-by d dir name i sound below h in
    let b = named-by d dir name j sound below g in
    let same : Some a.k ≡ Some b.k = sym a.named ∙ b.named in
    let place : a.k ≡ b.k = cc in
    sym a.target ∙ ap (target_of d dir) place ∙ b.target

named : {B : Type 0} (d : Disk) (dir : ℕ) (name : List ℕ) (answer : ℕ → Result B FsFault) (Then : ℕ → FsFault → Type 0)
    → Sound (tables_of d) → dir < 16
    → ((k : ℕ) → NamedEntry d dir name k → Refuses (answer k) (Then (target_of d dir k)))
    → Refuses (with_found (entry_named d dir name) NotFound answer) (AtInode (view_of d) dir name Then)
named {B = B} d dir name answer Then sound below next = here (entry_named d dir name) refl
  where
    here : (o : Option ℕ) → entry_named d dir name ≡ o
        → Refuses (with_found o NotFound answer) (AtInode (view_of d) dir name Then)
    here None e f =
        let absent : ¬ (LeadsTo (view_of d) dir name) = λ h.
        let by = named-by d dir name h.0 sound below h.1 in
        let no : None ≡ Some by.k = sym e ∙ by.named in cc in (
          λ q. inl (absent, cc),
          λ h. elim h [ inl x ↦ ap (λ (y : FsFault). Err y) (sym x.1) | inr x ↦ absurd (absent (x.0, x.1)) ],
        )
    here (Some k) e f =
        let n = named-found d dir name k below e in
        let i = target_of d dir k in
        let leads = name-of d dir k i name n.leads in
        let only : (j : ℕ) → (view_of d).name dir name j → j ≡ i =
        λ j h. one-inode d dir name j i sound below h leads in (
          λ q. inr (i, leads, (next k n f).0 q),
          λ h. elim h [
            | inl x ↦ absurd (x.0 (i, leads))
            | inr x ↦ (next k n f).1 (subst (λ (y : ℕ). Then y f) (only x.0 x.1) x.2)
          ],
        )

-- ---- walks

-- a name that is a directory's is entered
enters : (d : Disk) (dir : ℕ) (name : List ℕ) (child : ℕ) → Sound (tables_of d) → dir < 16
    → (view_of d).name dir name child → kind_of d child ≡ 2 → directory_named d dir name ≡ Ok child
enters d dir name child sound below h two =
    let by = named-by d dir name child sound below h in
    rw (by.named, by.target, eq-eqb (kind_of d child) 2 two) refl

walk-ends : (d : Disk) (names : List (List ℕ)) (from to : ℕ) → Sound (tables_of d) → Walked d from
    → Walks (view_of d) from names to → walk_end d from names ≡ Ok to
walk-ends d [] from to sound at same = ap (λ (x : ℕ). Ok x) (sym same)
walk-ends d (name ∷ names) from to sound at w =
    let by = named-by d from name w.0 sound at.below w.1 in
    let entry = named-found d from name by.k at.below by.named in
    let below : w.0 < 16 = subst (λ (x : ℕ). x < 16) by.target entry.target_below in
    let in_tables = ((same-view d).inodes w.0 2 w.2.0).0 w.2.1 in
    let two : kind_of d w.0 ≡ 2 = sym (kind-at d w.0 below) ∙ in_tables.0 in
    let is = enters d from name w.0 sound at.below w.1 two in
    ap (λ (x : Result ℕ FsFault). then_ok x (λ child. walk_end d child names)) is
    ∙ walk-ends d names w.0 to sound (record { below = below; kind = in_tables.0 }) w.3

-- what is made of the directory that is entered
entered : {A B : Type 0} (o : Option ℕ) (test : ℕ → Bool) (to : ℕ → A) (next : A → Result B FsFault)
    → then_ok (with_found o NotFound (λ k. unless (test k) NotADirectory (Ok (to k)))) next
    ≡ with_found o NotFound (λ k. unless (test k) NotADirectory (next (to k)))
entered None test to next = refl
entered {B = B} (Some k) test to next = go (test k)
  where
    go : (b : Bool) → then_ok (unless b NotADirectory (Ok (to k))) next ≡ unless b NotADirectory (next (to k))
    go true = refl
    go false = refl

-- only an inode of the kind passes
of-kind : {B : Type 0} (b : Bool) (K : Type 0) (fault : FsFault) (rest : Result B FsFault) (R : FsFault → Type 0)
    → ((b ≡ true) → ¬ K) → ((b ≡ false) → K × Refuses rest R) → Refuses (unless b fault rest) (First (¬ K) K fault R)
of-kind true K fault rest R other same = fails (¬ K) K fault R (other refl) (other refl)
of-kind false K fault rest R other same =
    let is = same refl in
    passes (¬ K) K fault rest R (λ none. none is.0) is.0 is.1

walk-fails : (d : Disk) (names : List (List ℕ)) (from : ℕ) → Sound (tables_of d) → Walked d from
    → Refuses (walk_end d from names) (WalkFails (view_of d) from names)
walk-fails d [] from sound at = accepted from
walk-fails d (name ∷ names) from sound at =
    let v = view_of d in
    let other : ℕ → Bool = λ k. not (eqb (kind_of d (target_of d from k)) 2) in
    subst (λ (r : Result ℕ FsFault). Refuses r (WalkFails v from (name ∷ names)))
    (sym (entered (entry_named d from name) other (target_of d from) (λ child. walk_end d child names)))
    (named d from name (λ k. unless (other k) NotADirectory (walk_end d (target_of d from k) names))
    (λ child. First (¬ (IsKind v child 2)) (IsKind v child 2) NotADirectory (WalkFails v child names)) sound
    at.below (λ k n.
    let child = target_of d from k in
    let test = test-kind d child 2 n.target_below (λ z. omega arith) in
    of-kind (other k) (IsKind v child 2) NotADirectory (walk_end d child names) (WalkFails v child names) test.0 (λ e.
    let kind = kind-at d child n.target_below ∙ eqb-true (kind_of d child) 2 (test-holds _ e) in
    let walk : Walked d child = record { below = n.target_below; kind = kind } in
    (kind-of d child 2 kind (λ z. omega arith), walk-fails d names child sound walk))))

-- ---- at a path

at-path : {B : Type 0} (d : Disk) (path : Path) (plan : ℕ → Result B FsFault) (Then : ℕ → FsFault → Type 0)
    → Sound (tables_of d)
    → ((dir : ℕ) → Walked d dir → Refuses (plan dir) (Then dir))
    → Refuses (then_ok (walk_end d 0 path.through.items) plan) (AtPath (view_of d) path Then)
at-path {B = B} d path plan Then sound next f = go (walk_end d 0 path.through.items) refl
  where
    root : Walked d 0
    root = root-walk_end d sound

    at_end : Refuses (walk_end d 0 path.through.items) (WalkFails (view_of d) 0 path.through.items)
    at_end = walk-fails d path.through.items 0 sound root

    ends : (to : ℕ) → Walks (view_of d) 0 path.through.items to → walk_end d 0 path.through.items ≡ Ok to
    ends to = walk-ends d path.through.items 0 to sound root

    go : (r : Result ℕ FsFault) → walk_end d 0 path.through.items ≡ r
        → ((then_ok r plan ≡ Err f) ↔ AtPath (view_of d) path Then f)
    go (Err g) e = (
      λ q. let same : Err g ≡ Err f = cc in inl ((at_end f).0 (e ∙ same)),
      λ h. elim h [
        | inl x ↦ let same : Err g ≡ Err f = sym e ∙ (at_end f).1 x in cc
        | inr x ↦ absurd (let no : ◌≡◌ {A = Result ℕ FsFault} (Err g) (Ok x.0) = sym e ∙ ends x.0 x.1 in cc)
      ],
    )
    go (Ok dir) e = (
      λ q.
          let walk = walk-found d path.through.items dir sound e in
          inr (dir, walks d path.through.items 0 dir root e, (next dir walk f).0 q),
      λ h. elim h [
        | inl x ↦ absurd (let no : ◌≡◌ {A = Result ℕ FsFault} (Ok dir) (Err f) = sym e ∙ (at_end f).1 x in cc)
        | inr x ↦
            let both : ◌≡◌ {A = Result ℕ FsFault} (Ok dir) (Ok x.0) = sym e ∙ ends x.0 x.1 in
            let same : dir ≡ x.0 = cc in
            (next dir (walk-found d path.through.items dir sound e) f).1 (subst (λ (y : ℕ). Then y f) (sym same) x.2)
      ],
    )

at-name : {B : Type 0} (d : Disk) (path : Path) (plan : ℕ → ℕ → Result B FsFault) (Then : ℕ → ℕ → FsFault → Type 0)
    → Sound (tables_of d)
    → ((dir k : ℕ) → Walked d dir → NamedEntry d dir path.last k → Refuses (plan dir k) (Then dir (target_of d dir k)))
    → Refuses (at_path d path (λ dir name. with_found (entry_named d dir name) NotFound (λ k. plan dir k)))
    (AtName (view_of d) path Then)
at-name d path plan Then sound next =
    at-path d path (λ dir. with_found (entry_named d dir path.last) NotFound (λ k. plan dir k))
    (λ dir. AtInode (view_of d) dir path.last (Then dir)) sound (λ dir walk.
    named d dir path.last (plan dir) (Then dir) sound walk.below (λ k n. next dir k walk n))

-- ---- the operations

live-target : (d : Disk) (dir : ℕ) (name : List ℕ) (k : ℕ) → Sound (tables_of d) → NamedEntry d dir name k
    → (tables_of d).kind (target_of d dir k) ≢ 0
live-target d dir name k sound n = sound.names.no_dangling dir k (target_of d dir k) (name_spelling name) n.leads

-- `link` and `rename`
relink-refused : (d : Disk) (old new : Path) (more : ℕ → ℕ → List Change) → Sound (tables_of d)
    → Refuses (relink_plan d old new (λ dir k _. more dir k)) (Relinks (view_of d) old new)
relink-refused d old new more t =
    at-name d old _ _ t (λ old_dir k _ n.
    at-path d new _ _ t (λ dir walk.
    let target = target_of d old_dir k in
    one _ _ _ _ _ (test-named d dir new.last t walk.below)
    (one _ _ _ _ _ (test-kind d target 1 n.target_below (λ z. omega arith))
    (found _ _ _ _ _ (test-full d dir t walk) (λ place.
    one _ _ _ _ _ (test-links d target t n.target_below (live-target d old_dir old.last k t n)) (accepted _))))))

pub plan-refused : (d : Disk) (op : Op) → IsDisk d → IsSound d
    → Refuses (plan_of d op) (IsRefused d.blocks d.journal (view_of d) op)
unfolding plan_of
plan-refused d (Create path) disk sound =
    let t = sound-tables d disk sound in
    at-path d path _ _ t (λ dir walk.
    one _ _ _ _ _ (test-named d dir path.last t walk.below)
    (found _ _ _ _ _ (test-inode d) (λ inode.
    found _ _ _ _ _ (test-full d dir t walk) (λ place. accepted _))))
plan-refused d (Write path) disk sound =
    let t = sound-tables d disk sound in
    at-name d path _ _ t (λ dir k walk n.
    one _ _ _ _ _ (test-kind d (target_of d dir k) 1 n.target_below (λ z. omega arith))
    (found _ _ _ _ _ (test-block d) (λ block.
    let live = live-target d dir path.last k t n in
    found _ _ _ _ _ (test-slot d (target_of d dir k) n.target_below live) (λ slot. accepted _))))
plan-refused d (Link old new) disk sound = relink-refused d old new _ (sound-tables d disk sound)
plan-refused d (Unlink path) disk sound =
    let t = sound-tables d disk sound in
    at-name d path _ _ t (λ dir k walk n.
    one _ _ _ _ _ (test-kind d (target_of d dir k) 1 n.target_below (λ z. omega arith)) (accepted _))
plan-refused d (Rename old new) disk sound = relink-refused d old new _ (sound-tables d disk sound)
plan-refused d (Mkdir path) disk sound =
    let t = sound-tables d disk sound in
    at-path d path _ _ t (λ dir walk.
    one _ _ _ _ _ (test-named d dir path.last t walk.below)
    (found _ _ _ _ _ (test-inode d) (λ inode.
    found _ _ _ _ _ (test-block d) (λ block.
    found _ _ _ _ _ (test-full d dir t walk) (λ place. accepted _)))))
plan-refused d (Rmdir path) disk sound =
    let t = sound-tables d disk sound in
    at-name d path _ _ t (λ dir k walk n.
    one _ _ _ _ _ (test-kind d (target_of d dir k) 2 n.target_below (λ z. omega arith))
    (one _ _ _ _ _ (test-entries d (target_of d dir k) t n.target_below) (accepted _)))
plan-refused d (Overwrite path slot) disk sound =
    let t = sound-tables d disk sound in
    at-name d path _ _ t (λ dir k walk n.
    let live = live-target d dir path.last k t n in
    one _ _ _ _ _ (test-kind d (target_of d dir k) 1 n.target_below (λ z. omega arith))
    (one _ _ _ _ _ (test-lacks_block d (target_of d dir k) slot n.target_below live) (accepted _)))
plan-refused d (Truncate path) disk sound =
    let t = sound-tables d disk sound in
    at-name d path _ _ t (λ dir k walk n.
    one _ _ _ _ _ (test-kind d (target_of d dir k) 1 n.target_below (λ z. omega arith)) (accepted _))
plan-refused d (Replace old new) disk sound =
    let t = sound-tables d disk sound in
    at-name d old _ _ t (λ old_dir old_k _ n.
    at-name d new _ _ t (λ dir k _ m.
    let target = target_of d old_dir old_k in
    let other = target_of d dir k in
    one _ _ _ _ _ (test-kind d target 1 n.target_below (λ z. omega arith))
    (one _ _ _ _ _ (test-kind d other 1 m.target_below (λ z. omega arith))
    (one _ _ _ _ _ (test-same target other)
    (one _ _ _ _ _ (test-links d target t n.target_below (live-target d old_dir old.last old_k t n)) (accepted _))))))
