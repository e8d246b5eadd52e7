use Rattle.std.proofs.Common.{List, map, sym, subst, ap, ◌∙◌, ◌≡◌, IsPermutation, length, drop}
use Rattle.std.specs.List.{All}
use Rattle.std.proofs.lemmas.Result.{IfOk-weaker}
use Rattle.question_model.specs.Decided.{AreDecided}
use Rattle.known_bytes.specs.Chains.{Change}
use Rattle.fault_deciding.specs.declared.sharing.Trial.{Trial}
use Rattle.fault_deciding.specs.Asked.{HasFaultOf}
use Rattle.fault_deciding.specs.Trials.{fault_of, IsTried, AreFound, HaveSameFaults}
use Rattle.fault_deciding.proofs.Whole.{put_back, decided}
use Rattle.fault_deciding.proofs.decider.Decider.faults.Goals as goal

pub returns : goal.returns
returns g c =
    let demands = c.args.self.now.demands.now in
    let blank : List Trial = c.in_ok-trials.trials.items in
    let mixed : List Trial = c.spread.new.trials.items in
    let tried : List Trial = c.try_all.new.trials in
    let sorted : List Trial = c.sort_trials.new.trials.items in
    let old : List Trial = c.deref_mut.result.now in
    let long : length tried ≡ length old = c.try_all.ensures.long in
    let same : HaveSameFaults old tried = c.try_all.ensures.same in
    let each : All (IsTried (HasFaultOf demands c.in_ok-chains.chains)) tried = c.try_all.ensures.tried in
    let moved : IsPermutation tried sorted = subst (λ (ts : List Trial). IsPermutation ts sorted)
    (put_back tried (drop (length tried) mixed) c.spread.new.trials.len (sym (long ∙ c.deref_mut.ensures.len)))
    c.sort_trials.ensures.same in
    let value : old ≡ mixed = c.deref_mut.ensures.value in
    let all : map fault_of blank ≡ c.deref-2.result.now = c.in_ok-trials.ensures in
    let spread : IsPermutation blank mixed = c.spread.ensures in
    let mixed_tried : HaveSameFaults mixed tried = subst (λ (ts : List Trial). HaveSameFaults ts tried) value same in
    let as_long : length tried ≡ length mixed = long ∙ ap (λ (ts : List Trial). length ts) value in
    let all_blank : map fault_of blank ≡ c.in_ok-candidates.candidates.items = all ∙ c.deref-2.ensures.value in
    IfOk-weaker c.found.result _ _
    (λ faults found. subst (λ (ch : Change). AreDecided (HasFaultOf demands ch) faults.items) c.in_ok-chains.ensures
    (decided (HasFaultOf demands c.in_ok-chains.chains) c.in_ok-candidates.candidates.items blank mixed tried sorted
    c.in_ok-candidates.ensures.all all_blank spread as_long mixed_tried each moved faults.items
    (subst (λ (ts : List Trial). AreFound ts faults.items) c.deref-3.ensures.value found))) c.found.ensures
