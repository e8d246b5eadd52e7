use Rattle.std.proofs.Common.{◌≡◌, ℕ, ◌+◌, ◌<◌, ◌≤◌, List, [], ◌∷◌, ◌++◌, length, drop, get_or, sym, ap, subst, ◌∙◌}
use Rattle.std.specs.Prelude.{Option, Some, IfSome}
use Rattle.std.proofs.lemmas.List.{drop_all}
use Rattle.crash_model.specs.Paths.{end_of, child_of, names_of}
use Rattle.crash_model.specs.Patches.{image_of}
use Rattle.known_bytes.specs.Reading.{disk_of}
use Rattle.known_bytes.proofs.Answered.{known_in}
use Rattle.known_bytes.proofs.ChildrenIn.{end_of-none, names_from}
use Rattle.known_bytes.proofs.disk.KnownDisk.end_of.Goals as goal

pub returns-in_default-clause-known : goal.returns-in_default-clause-known
returns-in_default-clause-known g c = λ set m.
    let r = c.args.self.now in
    let d = disk_of r (image_of r.family.base r.family.patches set) in
    let path = c.args.path.now in
    let name = c.name-item.result in
    let i = c.loop-name.name-index in
    let rest = drop (i + 1) path.through.items ++ path.last ∷ [] in
    let inside : i < length path.through.items =
    subst (λ (names : List (List ℕ)). i < length names) c.as_slice-name-items.ensures.value c.loop-name-test.true in
    let read : name ≡ get_or path.through.items i name =
    subst (λ (names : List (List ℕ)). name ≡ get_or names i name) c.as_slice-name-items.ensures.value c.name-item.is in
    sym (c.loop-name.invariant.rest set m)
    ∙ (ap (end_of d (Some c.loop-name.dir)) (names_from path.through.items (path.last ∷ []) i name inside read)
    ∙ (ap (λ (o : Option ℕ). end_of d o rest) (c.in_ok-child.ensures.known set m ∙ c.in_default.is)
    ∙ end_of-none d rest))

pub loop-name-preserved : goal.loop-name-preserved
loop-name-preserved g c =
    let r = c.args.self.now in
    let path = c.args.path.now in
    let name = c.name-item.result in
    let i = c.loop-name.name-index in
    let rest = drop (i + 1) path.through.items ++ path.last ∷ [] in
    let inside : i < length path.through.items =
    subst (λ (names : List (List ℕ)). i < length names) c.as_slice-name-items.ensures.value c.loop-name-test.true in
    let read : name ≡ get_or path.through.items i name =
    subst (λ (names : List (List ℕ)). name ≡ get_or names i name) c.as_slice-name-items.ensures.value c.name-item.is in
    record {
      rest = λ set m.
          let d = disk_of r (image_of r.family.base r.family.patches set) in
          ap (λ (o : Option ℕ). end_of d o rest) (sym (c.in_ok-child.ensures.known set m ∙ c.in-Some.is))
          ∙ (ap (end_of d (Some c.loop-name.dir))
          (sym (names_from path.through.items (path.last ∷ []) i name inside read))
          ∙ c.loop-name.invariant.rest set m);
      within = subst (λ (o : Option ℕ). IfSome o (λ inode. inode < 16)) c.in-Some.is c.in_ok-child.ensures.within;
    }

pub returns-clause-known : goal.returns-clause-known
returns-clause-known g c =
    let r = c.args.self.now in
    let path = c.args.path.now in
    let i = c.loop-name.name-index in
    let whole : length path.through.items ≤ i =
    subst (λ (names : List (List ℕ)). length names ≤ i) c.as_slice-name-items.ensures.value c.loop-name-test.false in
    known_in r (λ d. child_of d c.loop-name.dir path.last) (λ d. end_of d (Some 0) (names_of path)) c.child-2.result
    (λ set m.
    let d = disk_of r (image_of r.family.base r.family.patches set) in
    sym (ap (λ (xs : List (List ℕ)). end_of d (Some c.loop-name.dir) (xs ++ path.last ∷ []))
    (drop_all i path.through.items whole)) ∙ c.loop-name.invariant.rest set m)
    c.child-2.ensures.known
