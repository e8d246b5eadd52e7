use Rattle.std.proofs.Common.{ℕ, List, Option, subst}
use Rattle.crash_model.specs.Patches.{image_of}
use Rattle.crash_model.specs.Promises.{Promise}
use Rattle.crash_model.specs.Replay.{image_after_replay}
use Rattle.fault_deciding.specs.Listed.{HasStrictUnder, HasPromised}
use Rattle.fault_deciding.proofs.AllFaults.{listed_by_parts, all_listed, found_by_text}
use Rattle.fault_deciding.proofs.candidates.listing.listed_faults.Goals as goal

pub returns-clause-all : goal.returns-clause-all
returns-clause-all g c set m =
    let f = c.args.bytes.now in
    let d = image_after_replay (image_of f.base f.patches set) in
    let demands = c.args.demands.now in
    all_listed demands c.push_promises.new.faults.items c.in_ok-most.most d
    (listed_by_parts demands c.in_ok-most.most d c.push_entries.new.faults.items c.push_twice.new.faults.items
    c.push_slots.new.faults.items c.push_low_links.new.faults.items c.push_strict.new.faults.items
    c.push_half_done.new.faults.items c.push_promises.new.faults.items
    (c.in_ok-most.ensures.dangling set m) (c.in_ok-most.ensures.most set m)
    c.in_ok-push_twice.ensures.kept (c.in_ok-push_twice.ensures.twice set m)
    c.in_ok-push_slots.ensures.kept (c.in_ok-push_slots.ensures.slots set m)
    c.in_ok-push_low_links.ensures.kept (c.in_ok-push_low_links.ensures.low set m)
    c.in_ok-push_strict.ensures.kept
    (subst (λ (kept : Option ℕ). HasStrictUnder kept c.push_strict.new.faults.items) c.kept.ensures
    c.in_ok-push_strict.ensures.strict)
    c.in_ok-push_half_done.ensures.kept c.in_ok-push_half_done.ensures.half_done
    c.in_ok-push_promises.ensures.kept
    (subst (λ (promises : List Promise). HasPromised promises c.push_promises.new.faults.items) c.promises.ensures
    c.in_ok-push_promises.ensures.promised)) set

pub returns-clause-found : goal.returns-clause-found
returns-clause-found g c set m =
    let f = c.args.bytes.now in
    let d = image_after_replay (image_of f.base f.patches set) in
    found_by_text c.args.demands.now c.push_entries.new.faults.items set d (c.in_ok-most.ensures.dangling set m)
