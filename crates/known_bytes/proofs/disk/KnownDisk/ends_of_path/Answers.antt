use Rattle.std.proofs.Common.{◌≡◌, ℕ, ◌<◌, ◌≤◌, List, [], ◌∷◌, ◌++◌, length, take, get_or, arith, refl, sym}
use Rattle.std.proofs.Common.{ap, subst, ◌∙◌, lit<}
use Rattle.std.specs.Prelude.{Option, Some}
use Rattle.std.proofs.lemmas.List.{take_all}
use Rattle.patch_sets.proofs.Bits.{below_from_small}
use Rattle.crash_model.specs.Patches.{image_of}
use Rattle.crash_model.specs.Paths.{end_of}
use Rattle.known_bytes.specs.NamedIn.{IsEnd}
use Rattle.known_bytes.specs.Reading.{disk_of}
use Rattle.known_bytes.proofs.MaybeEnds.{end_of-append, end_of-more}
use Rattle.known_bytes.proofs.disk.KnownDisk.ends_of_path.Goals as goal

pub loop-name-init : goal.loop-name-init
loop-name-init g c = record {
  within = λ inode is. let low = below_from_small 1 1 inode (lit< tt) is in omega (arith, low);
  ends = λ set m. refl;
}

pub loop-name-preserved : goal.loop-name-preserved
loop-name-preserved g c =
    let r = c.args.self.now in
    let names = c.args.path.now.through.items in
    let name = c.name-item.result in
    let i = c.loop-name.name-index in
    let new = c.ends_from-here.result in
    let inside : i < length names =
    subst (λ (xs : List (List ℕ)). i < length xs) c.as_slice-name-items.ensures.value c.loop-name-test.true in
    let read : name ≡ get_or names i name =
    subst (λ (xs : List (List ℕ)). name ≡ get_or xs i name) c.as_slice-name-items.ensures.value c.name-item.is in
    record {
      within = c.ends_from-here.ensures.within;
      ends = λ set m.
          let d = disk_of r (image_of r.family.base r.family.patches set) in
          subst (λ (o : Option ℕ). IsEnd o new.inodes new.nowhere) (end_of-more d (Some 0) names i name inside read)
          (c.ends_from-here.ensures.ends (λ d. end_of d (Some 0) (take i names)) c.loop-name.invariant.ends set m);
    }

pub returns-clause-ends : goal.returns-clause-ends
returns-clause-ends g c =
    let r = c.args.self.now in
    let path = c.args.path.now in
    let names = path.through.items in
    let i = c.loop-name.name-index in
    let new = c.ends_from.result in
    let whole : length names ≤ i =
    subst (λ (xs : List (List ℕ)). length xs ≤ i) c.as_slice-name-items.ensures.value c.loop-name-test.false in
    λ set m.
    let d = disk_of r (image_of r.family.base r.family.patches set) in
    subst (λ (o : Option ℕ). IsEnd o new.inodes new.nowhere)
    (sym (end_of-append d (Some 0) (take i names) (path.last ∷ []))
    ∙ ap (λ (xs : List (List ℕ)). end_of d (Some 0) (xs ++ path.last ∷ [])) (take_all i names whole))
    (c.ends_from.ensures.ends (λ d. end_of d (Some 0) (take i names)) c.loop-name.invariant.ends set m)
