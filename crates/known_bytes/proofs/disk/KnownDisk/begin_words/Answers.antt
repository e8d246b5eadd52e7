use Rattle.std.proofs.Common.{◌≡◌, ◌<◌, ◌^◌, ℕ, List, [], ◌∷◌, ◌++◌, arith, sym, subst}
use Rattle.std.specs.List.{Contains}
use Rattle.std.proofs.lemmas.List.Elements.{Contains-push}
use Rattle.crash_model.specs.Disk.{byte}
use Rattle.crash_model.specs.Patches.{image_of}
use Rattle.known_bytes.specs.Family.{HasValue}
use Rattle.known_bytes.specs.Reading.{disk_of}
use Rattle.known_bytes.proofs.EachValue.{value_small}
use Rattle.known_bytes.proofs.ListedSlots.{first_bytes, bytes_none, bytes_more, bytes_all}
use Rattle.known_bytes.proofs.disk.KnownDisk.begin_words.Goals as goal

pub loop-at-init : goal.loop-at-init
loop-at-init g c = λ set m.
    let r = c.args.self.now in
    let d = disk_of r (image_of r.family.base r.family.patches set) in
    let zeros : List ℕ = 0 ∷ 0 ∷ 0 ∷ 0 ∷ [] in
    subst (λ (words : List (List ℕ)). Contains words (first_bytes 0 c.args.block d)) (sym c.push.ensures.items)
    (subst (λ (word : List ℕ). Contains (c.new-words.result.items ++ zeros ∷ []) word) (bytes_none c.args.block d)
    (Contains-push c.new-words.result.items zeros))

pub loop-at-preserved : goal.loop-at-preserved
loop-at-preserved g c = λ set m.
    let r = c.args.self.now in
    let d = disk_of r (image_of r.family.base r.family.patches set) in
    let block = c.args.block in
    let at = c.loop-at.at in
    let values = c.values-values.result in
    let word = first_bytes at block d in
    let has = subst (λ (n : ℕ). HasValue values.low values.high (byte d n at)) c.from.ensures
    (c.values-values.ensures set m) in
    let few : values.high < 2 ^ 128 = omega arith in
    let inside = subst (λ (words : List (List ℕ)). Contains words word) (sym c.as_slice.ensures.value)
    (c.loop-at.invariant set m) in
    subst (λ (w : List ℕ). Contains c.in_ok-words.words.items w) (bytes_more block d at)
    (c.in_ok-words.ensures word (byte d block at) inside
    (value_small values.low values.high (byte d block at) few has) has)

pub returns : goal.returns
returns g c = λ set m.
    let r = c.args.self.now in
    let d = disk_of r (image_of r.family.base r.family.patches set) in
    let block = c.args.block in
    let like = c.base.ensures.alike set m in
    let end : c.loop-at.at ≡ 4 = omega arith in
    subst (λ (word : List ℕ). Contains c.loop-at.words.items word)
    (bytes_all block d like.disk (omega (arith, like.blocks, c.requires)))
    (subst (λ (n : ℕ). Contains c.loop-at.words.items (first_bytes n block d)) end (c.loop-at.invariant set m))
