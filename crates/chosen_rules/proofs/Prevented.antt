-- Where other lines wait, which faults of a set stay.
use Rattle.std.proofs.Common.{◌≡◌, ℕ, ◌+◌, ◌≤◌, List, [], ◌∷◌, map, Some, arith, refl, sym, ◌∙◌, ap, subst, inl, inr}
use Rattle.std.proofs.Common.{◌<◌}
use Rattle.std.specs.Prelude.{slice_get}
use Rattle.std.specs.Int.{bit_at}
use Rattle.std.specs.List.{Contains}
use Rattle.patch_sets.specs.Closed.{IsClosed}
use Rattle.patch_sets.specs.Sets.{Has, IsSubset}
use Rattle.patch_sets.proofs.Bits.{eq_or_not}
use Rattle.patch_sets.proofs.Lists.{in_front, in_none}
use Rattle.crash_model.specs.ChosenWaits.{tracing_waiting, demands_waiting, emitted_waiting, forced_before}
use Rattle.crash_model.specs.Checker.{Demands, IsFailingUnder, faults_under}
use Rattle.crash_model.specs.Disk.{Disk}
use Rattle.crash_model.specs.FirstSets.{HasFault}
use Rattle.crash_model.specs.Patches.{Place, deps_of, image_from, image_of}
use Rattle.crash_model.specs.Replay.{image_after_replay}
use Rattle.crash_model.specs.Trace.{Emitted, IsGraphOf}
use Rattle.crash_model.specs.Tracing.{Tracing}
use Rattle.crash_model.specs.Waiting.{Wait}
use Rattle.crash_model.specs.declared.fault.Fault.{Fault}
use Rattle.crash_model.specs.declared.fault.Fault.TheVariants.{BrokenPromise}
use Rattle.crash_model.specs.declared.patches.Patch.{Patch}
use Rattle.crash_model.specs.declared.rules.Rule.{Rule}
use Rattle.chosen_rules.specs.ExcludedBy.{HoldsBack, ExcludesFaultAt}
use Rattle.chosen_rules.proofs.Forced.{forced_by, in_forced}
use Rattle.chosen_rules.proofs.Promised.{fault_has_forced, fault_still_found}
use Rattle.chosen_rules.proofs.Waiting.{not_held, still_closed}

-- a set whose every id is not lacking
module _ (ids set : ℕ) where
  lacks_none : ((IsSubset ids set → ⊥) → ⊥) → IsSubset ids set
  lacks_none not id is = elim (eq_or_not (bit_at set id) 1) [
    | inl inside ↦ inside
    | inr lacks ↦ absurd (not (λ within. lacks (within id is)))
  ]

-- the waiting lines change no place
places_kept : (s : Tracing) (chosen : ℕ)
    → map (λ (e : Emitted). e.place) (tracing_waiting chosen s).emitted ≡ map (λ (e : Emitted). e.place) s.emitted
places_kept s chosen = go s.emitted
  where
    go : (es : List Emitted)
        → map (λ (e : Emitted). e.place) (map (emitted_waiting s.waits chosen) es) ≡ map (λ (e : Emitted). e.place) es
    go [] = refl
    go (e ∷ es) = ap (λ (ps : List Place). e.place ∷ ps) (go es)

pub same_waiting_places : (s : Tracing) (some others : ℕ)
    → map (λ (e : Emitted). e.place) (tracing_waiting some s).emitted
    ≡ map (λ (e : Emitted). e.place) (tracing_waiting others s).emitted
same_waiting_places s some others = places_kept s some ∙ sym (places_kept s others)

module _ (demands : Demands) (rules : List Rule) (base : Disk) (s : Tracing) (some : ℕ) (patches : List Patch)
    (graph : IsGraphOf rules base (tracing_waiting some s) patches) (fault : Fault) (set : ℕ)
    (has : HasFault (demands_waiting s.waits some demands) base patches fault set) where
  -- none of the lines that wait excludes a fault
  pub not_excluded : (place : ℕ) → Has some place → ExcludesFaultAt s.emitted s.waits set fault place → ⊥
  not_excluded place inside (wait, at, inl holds) =
      not_held rules base s some patches graph set has.failing.closed place wait inside at holds
  not_excluded place inside (wait, at, inr delays) =
      let d : Disk = image_after_replay (image_of base patches set) in
      let forced = fault_has_forced s.waits set d demands some some fault delays.of delays.is has.found in
      let before : wait.line < delays.of + 1 = omega (arith, delays.before) in
      delays.lacks (λ id is. forced id (in_forced s.waits some (delays.of + 1) id place wait at inside before is))

  -- where other lines wait that do not exclude it, the set has it, too
  module _ (others : ℕ) (changed : List Patch) (other : IsGraphOf rules base (tracing_waiting others s) changed)
      (none : (place : ℕ) → Has others place → ExcludesFaultAt s.emitted s.waits set fault place → ⊥) where
    none_held : (place : ℕ) (wait : Wait) → Has others place → slice_get s.waits place ≡ Some wait
        → HoldsBack s.emitted set wait → ⊥
    none_held place wait inside at holds = none place inside (wait, at, inl holds)

    has_all_forced : (of : ℕ) → fault ≡ BrokenPromise of → IsSubset (forced_before s.waits others (of + 1)) set
    has_all_forced of is id forced =
        let it = forced_by s.waits others (of + 1) id forced in
        let before : it.wait.line ≤ of = omega (arith, it.before) in
        lacks_none it.wait.ids set (λ lacks. none it.place it.inside
        (it.wait, it.at, inr (record { of = of; is = is; before = before; lacks = lacks }))) id it.forced

    same_image : image_of base patches set ≡ image_of base changed set
    same_image = ap (λ (ps : List Place). image_from 0 base ps set)
        (graph.places ∙ (same_waiting_places s some others ∙ sym other.places))

    found_too : Contains (faults_under (demands_waiting s.waits others demands) set
        (image_after_replay (image_of base changed set))) fault
    found_too = subst (λ (d : Disk). Contains (faults_under (demands_waiting s.waits others demands) set
        (image_after_replay d)) fault) same_image
        (fault_still_found s.waits set (image_after_replay (image_of base patches set)) demands some others fault
        has_all_forced has.found)

    pub fault_stays : HasFault (demands_waiting s.waits others demands) base changed fault set
    fault_stays = record {
      failing = record {
        closed = still_closed rules base s some patches graph set has.failing.closed others changed other none_held;
        unclean = λ clean. in_none fault (subst (λ (fs : List Fault). Contains fs fault) clean.faultless found_too);
      };
      found = found_too;
    }

-- a failing set has a fault
pub some_fault : (demands : Demands) (base : Disk) (patches : List Patch) (set : ℕ)
    → IsFailingUnder demands base patches set → (fault : Fault) × HasFault demands base patches fault set
some_fault demands base patches set fails =
    by (faults_under demands set (image_after_replay (image_of base patches set))) refl
  where
    by : (fs : List Fault) → faults_under demands set (image_after_replay (image_of base patches set)) ≡ fs
        → (fault : Fault) × HasFault demands base patches fault set
    by [] e = absurd (fails.unclean (record { faultless = e }))
    by (f ∷ fs) e = (
      f,
      record {
        failing = fails;
        found = subst (λ (gs : List Fault). Contains gs f) (sym e) (in_front f fs);
      },
    )

-- ---- more waiting

module _ (rules : List Rule) (base : Disk) (s : Tracing) (few more : ℕ) (less waited : List Patch) (set : ℕ)
    (within : IsSubset few more) (graph : IsGraphOf rules base (tracing_waiting few s) less)
    (wider : IsGraphOf rules base (tracing_waiting more s) waited) where
  pub closed_fewer : IsClosed (deps_of waited) set → IsClosed (deps_of less) set
  closed_fewer closed = still_closed rules base s more waited wider set closed few less graph
      (λ place wait inside. not_held rules base s more waited wider set closed place wait (within place inside))

  module _ (demands : Demands) where
    pub fault_fewer : (fault : Fault) → HasFault (demands_waiting s.waits more demands) base waited fault set
        → HasFault (demands_waiting s.waits few demands) base less fault set
    fault_fewer fault has = fault_stays demands rules base s more waited wider fault set has few less graph
        (λ place inside. not_excluded demands rules base s more waited wider fault set has place (within place inside))

    pub failing_fewer : IsFailingUnder (demands_waiting s.waits more demands) base waited set
        → IsFailingUnder (demands_waiting s.waits few demands) base less set
    failing_fewer failing =
        let it = some_fault (demands_waiting s.waits more demands) base waited set failing in
        (fault_fewer it.0 it.1).failing
