use Rattle.std.proofs.Common.{◌≡◌, ◌∷◌, [], ◌≤◌, ◌||◌, ℕ, List, true, sym, subst, ◌∙◌}
use Rattle.set_families.proofs.Links.{subset_le}
use Rattle.crash_model.specs.Patches.{image_of}
use Rattle.crash_model.specs.Promises.{Promise, is_allowed, is_spared, paths_show}
use Rattle.crash_model.specs.declared.names.Path.{Path}
use Rattle.crash_model.specs.declared.promises.Allowance.{Allowance}
use Rattle.crash_model.specs.declared.promises.Spare.{Spare as StandIn}
use Rattle.known_bytes.specs.Reading.{disk_of}
use Rattle.fault_deciding.specs.OfSets.{is_excused}
use Rattle.fault_deciding.proofs.Excusing.{excused_of, only_path}
use Rattle.fault_deciding.proofs.promise.is_surely_excused.Goals as goal

pub returns : goal.returns
returns g c = λ yes set m.
    let r = c.args.disk.now in
    let d = disk_of r (image_of r.family.base r.family.patches set) in
    let inside = c.promise.inside in
    let only = c.only-item.result in
    let more : c.args.held ≤ set = subst (λ (h : ℕ). h ≤ set) (sym c.requires) (subset_le r.family.held set m.held) in
    let one : inside.paths.items ≡ only ∷ [] = sym c.as_slice-paths.ensures.value
    ∙ only_path c.as_slice-paths.result.now only c.in-len1.len_at_least c.in-len1.len_below c.only-item.is in
    subst (λ (p : Promise). is_excused p set d ≡ true) c.promise.view_is
    (subst (λ (allowed : List Allowance). (is_allowed allowed set (paths_show d inside.paths.items)
    || is_spared inside.spares.items d) ≡ true) c.as_slice-allowed.ensures.value
    (subst (λ (spares : List StandIn). (is_allowed c.as_slice-allowed.result.now set (paths_show d inside.paths.items)
    || is_spared spares d) ≡ true) c.as_slice-spares.ensures.value
    (subst (λ (paths : List Path). (is_allowed c.as_slice-allowed.result.now set (paths_show d paths)
    || is_spared c.as_slice-spares.result.now d) ≡ true) (sym one)
    (excused_of c.args.held c.as_slice-allowed.result.now c.as_slice-spares.result.now only d set more
    (c.shows_allowed.ensures yes set m)))))
