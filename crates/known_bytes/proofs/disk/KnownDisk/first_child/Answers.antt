use Rattle.std.proofs.Common.{◌≡◌, ℕ, List, arith, sym, subst, ◌∙◌}
use Rattle.std.specs.Prelude.{None}
use Rattle.crash_model.specs.Patches.{image_of}
use Rattle.known_bytes.specs.Reading.{disk_of}
use Rattle.known_bytes.specs.NamedIn.{child_in, first_child_in}
use Rattle.known_bytes.proofs.ChildrenIn.{first_none-start, first_none-more, first_found}
use Rattle.known_bytes.proofs.disk.KnownDisk.first_child.Goals as goal

pub loop-k-init : goal.loop-k-init
loop-k-init g c = λ set m.
    let r = c.args.self.now in
    first_none-start c.args.block c.spelled-spelled.result.items
    (disk_of r (image_of r.family.base r.family.patches set))

pub returns-then-is_some-clause-known : goal.returns-then-is_some-clause-known
returns-then-is_some-clause-known g c = λ set m.
    let r = c.args.self.now in
    let d = disk_of r (image_of r.family.base r.family.patches set) in
    let spelled = c.spelled-spelled.result.items in
    let here = subst (λ (xs : List ℕ). child_in c.args.block c.loop-k.k xs d ≡ c.in_ok-found.found)
    c.as_slice.ensures.value (c.in_ok-found.ensures.known set m) in
    subst (λ (xs : List ℕ). first_child_in 10 c.args.block xs d ≡ c.in_ok-found.found) c.spelled-spelled.ensures.bytes
    (first_found c.args.block spelled d 10 c.loop-k.k c.in_ok-found.found (omega arith) here
    (sym c.is_some.ensures ∙ c.if-is_some.true) (c.loop-k.invariant set m))

pub loop-k-preserved : goal.loop-k-preserved
loop-k-preserved g c = λ set m.
    let r = c.args.self.now in
    let d = disk_of r (image_of r.family.base r.family.patches set) in
    let spelled = c.spelled-spelled.result.items in
    let here = subst (λ (xs : List ℕ). child_in c.args.block c.loop-k.k xs d ≡ c.in_ok-found.found)
    c.as_slice.ensures.value (c.in_ok-found.ensures.known set m) in
    first_none-more c.args.block spelled d c.loop-k.k c.in_ok-found.found here
    (sym c.is_some.ensures ∙ c.if-is_some.false) (c.loop-k.invariant set m)

pub returns-clause-known : goal.returns-clause-known
returns-clause-known g c = λ set m.
    let r = c.args.self.now in
    let d = disk_of r (image_of r.family.base r.family.patches set) in
    let end : c.loop-k.k ≡ 10 = omega arith in
    subst (λ (xs : List ℕ). first_child_in 10 c.args.block xs d ≡ None) c.spelled-spelled.ensures.bytes
    (subst (λ (n : ℕ). first_child_in n c.args.block c.spelled-spelled.result.items d ≡ None) end
    (c.loop-k.invariant set m))
