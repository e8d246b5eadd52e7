-- Closed sets, where of the lines that wait only some do.
use Rattle.std.proofs.Common.{◌≡◌, ℕ, ◌<◌, List, length, map, Bool, true, false, Some, arith, refl, ◌∙◌, ap, inl, inr}
use Rattle.std.specs.Prelude.{◌⊎◌, ◌||◌, slice_get, option_map}
use Rattle.std.specs.Int.{bit_at}
use Rattle.std.specs.List.{list_any}
use Rattle.std.proofs.lemmas.List.{length-map}
use Rattle.std.proofs.lemmas.Option.{slice_get-map, slice_get_within}
use Rattle.patch_sets.specs.Closed.{IsClosed}
use Rattle.patch_sets.specs.Sets.{Has, has}
use Rattle.patch_sets.proofs.Bits.{eq_or_not}
use Rattle.patch_sets.proofs.Ids.{has_true, from_has}
use Rattle.crash_model.specs.ChosenWaits.{emitted_waiting, tracing_waiting, forced_before}
use Rattle.crash_model.specs.Disk.{Disk}
use Rattle.crash_model.specs.Patches.{deps_of, overlap}
use Rattle.crash_model.specs.Trace.{Emitted, IsGraphOf, applies, groups_depend}
use Rattle.crash_model.specs.Tracing.{Tracing}
use Rattle.crash_model.specs.WholeBlocks.{shares_block}
use Rattle.crash_model.specs.Waiting.{Wait}
use Rattle.crash_model.specs.declared.patches.Patch.{Patch}
use Rattle.crash_model.specs.declared.rules.Rule.{Rule}
use Rattle.rule_laws.proofs.Closed.{get_some, length-deps}
use Rattle.chosen_rules.specs.ExcludedBy.{HoldsBack}
use Rattle.chosen_rules.proofs.Forced.{forced_by, in_forced}

-- ---- why a patch depends on another

-- a line makes it wait, or it depends on the other whatever it waits for
wait_or_else : (x w y : Bool) → (x || w || y) ≡ true → (w ≡ true) ⊎ ((v : Bool) → (x || v || y) ≡ true)
wait_or_else true w y is = inr (λ v. refl)
wait_or_else false true y is = inl refl
wait_or_else false false true is = inr anyway
  where
    anyway : (v : Bool) → (false || v || true) ≡ true
    anyway true = refl
    anyway false = refl
wait_or_else false false false is = absurd (cc)

waiting : (x w y : Bool) → w ≡ true → (x || w || y) ≡ true
waiting true w y is = refl
waiting false true y is = refl
waiting false false y is = absurd (cc)

module _ (rules : List Rule) (s : Tracing) (q p : Emitted) where
  abbrev always : Bool
  always = overlap q.place p.place || shares_block s.whole q p || groups_depend s.links q p

  abbrev by_rule : Bool
  by_rule = list_any (λ rule. applies rule q p) rules

-- ---- closed sets

module _ (rules : List Rule) (base : Disk) (s : Tracing) (chosen : ℕ) (patches : List Patch)
    (graph : IsGraphOf rules base (tracing_waiting chosen s) patches) where
  as_many : length (deps_of patches) ≡ length s.emitted
  as_many = length-deps rules base (tracing_waiting chosen s) patches graph
      ∙ length-map s.emitted (emitted_waiting s.waits chosen)

  at_waiting : (id : ℕ) (e : Emitted) → slice_get s.emitted id ≡ Some e
      → slice_get (map (emitted_waiting s.waits chosen) s.emitted) id ≡ Some (emitted_waiting s.waits chosen e)
  at_waiting id e at = slice_get-map (emitted_waiting s.waits chosen) s.emitted id
      ∙ ap (option_map (emitted_waiting s.waits chosen)) at

module _ (rules : List Rule) (base : Disk) (s : Tracing) (chosen : ℕ) (patches : List Patch)
    (graph : IsGraphOf rules base (tracing_waiting chosen s) patches) (set : ℕ)
    (closed : IsClosed (deps_of patches) set) where
  -- no line of the graph holds back a closed set of it
  pub not_held : (place : ℕ) (wait : Wait) → Has chosen place → slice_get s.waits place ≡ Some wait
      → HoldsBack s.emitted set wait → ⊥
  not_held place wait inside at holds =
      let b = holds.behind in
      let within = slice_get_within s.emitted b.q b.later b.later_at in
      let earlier = get_some s.emitted holds.p (omega (arith, b.order, within)) in
      let forced = has_true (forced_before s.waits chosen b.later.origin.line) holds.p
      (in_forced s.waits chosen b.later.origin.line holds.p place wait at inside b.before holds.forced) in
      holds.lacks (closed.whole b.q holds.p b.inside ((graph.exactly b.q holds.p
      (emitted_waiting s.waits chosen b.later) (emitted_waiting s.waits chosen earlier.0) b.order
      (at_waiting rules base s chosen patches graph b.q b.later b.later_at)
      (at_waiting rules base s chosen patches graph holds.p earlier.0 earlier.1)).1
      (waiting (always rules s b.later earlier.0)
      (has (forced_before s.waits chosen b.later.origin.line) holds.p) (by_rule rules s b.later earlier.0) forced)))

  -- it is closed in another graph, if no line of that one holds it back
  module _ (others : ℕ) (changed : List Patch) (other : IsGraphOf rules base (tracing_waiting others s) changed)
      (none : (place : ℕ) (wait : Wait) → Has others place → slice_get s.waits place ≡ Some wait
      → HoldsBack s.emitted set wait → ⊥) where
    pub still_closed : IsClosed (deps_of changed) set
    still_closed =
        let long = as_many rules base s chosen patches graph in
        let short = as_many rules base s others changed other in
        record {
          known = λ id has. let below : id < length (deps_of patches) = closed.known id has in omega
              (arith, long, short, below);
          whole = λ q p inside dep.
              let order = other.earlier q p dep in
              let below = closed.known q inside in
              let later = get_some s.emitted q (omega (arith, long, below)) in
              let earlier = get_some s.emitted p (omega (arith, long, below, order)) in
              let depends = (other.exactly q p (emitted_waiting s.waits others later.0)
              (emitted_waiting s.waits others earlier.0) order
              (at_waiting rules base s others changed other q later.0 later.1)
              (at_waiting rules base s others changed other p earlier.0 earlier.1)).0 dep in
              elim (wait_or_else (always rules s later.0 earlier.0)
              (has (forced_before s.waits others later.0.origin.line) p) (by_rule rules s later.0 earlier.0) depends) [
                | inl waits ↦ elim (eq_or_not (bit_at set p) 1) [
                  | inl is_in ↦ is_in
                  | inr lacks ↦
                      let it = forced_by s.waits others later.0.origin.line p
                      (from_has (forced_before s.waits others later.0.origin.line) p waits) in
                      absurd (none it.place it.wait it.inside it.at (record {
                        p = p;
                        forced = it.forced;
                        lacks = lacks;
                        behind = record {
                          q = q;
                          later = later.0;
                          inside = inside;
                          order = order;
                          later_at = later.1;
                          before = it.before;
                        };
                      }))
                ]
                | inr anyway ↦ closed.whole q p inside ((graph.exactly q p
                    (emitted_waiting s.waits chosen later.0) (emitted_waiting s.waits chosen earlier.0) order
                    (at_waiting rules base s chosen patches graph q later.0 later.1)
                    (at_waiting rules base s chosen patches graph p earlier.0 earlier.1)).1
                    (anyway (has (forced_before s.waits chosen later.0.origin.line) p)))
              ];
        }
