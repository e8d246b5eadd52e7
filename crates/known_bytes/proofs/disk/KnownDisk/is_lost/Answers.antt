use Rattle.std.proofs.Common.{◌≡◌, ℕ, Bool, true, false, not, ◌&&◌, refl, subst}
use Rattle.patch_sets.specs.Sets.{Has, has}
use Rattle.patch_sets.proofs.Ids.{has_true}
use Rattle.crash_model.specs.Patches.{image_of}
use Rattle.crash_model.specs.Strict.{is_lost, is_reached}
use Rattle.known_bytes.specs.Reading.{disk_of}
use Rattle.known_bytes.proofs.Answered.{known_as}
use Rattle.known_bytes.proofs.disk.KnownDisk.is_lost.Goals as goal

kept_one : (h : Bool) (r : Bool) → h ≡ true → not r ≡ (h && not r)
kept_one true r e = refl
kept_one false r e = absurd (cc)

pub returns : goal.returns
returns g c =
    let r = c.args.self.now in
    let i = c.args.inode in
    let there : Has c.from.result c.from-2.result = c.has.ensures.0 c.if-not-has.false in
    let here : has c.args.kept i ≡ true = has_true c.args.kept i (subst (λ (s : ℕ). Has s i) c.from.ensures
    (subst (λ (k : ℕ). Has c.from.result k) c.from-2.ensures there)) in
    known_as r (λ d. not (is_reached d i)) (λ d. is_lost d c.args.kept i) c.negation.result
    (λ set. kept_one (has c.args.kept i) (is_reached (disk_of r (image_of r.family.base r.family.patches set)) i) here)
    (c.negation.ensures r (λ d. is_reached d i) c.is_reached.ensures)
