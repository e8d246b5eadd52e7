-- Closed sets, and the rules that exclude sets.
use Rattle.std.proofs.Common.{◌≡◌, ℕ, ◌<◌, List, length, Bool, true, false, Some, arith, refl, sym, ◌∙◌, ap, subst}
use Rattle.std.proofs.Common.{inl, inr}
use Rattle.std.specs.Prelude.{◌⊎◌, ◌↔◌, ◌||◌, IsTrue, slice_get}
use Rattle.std.specs.Int.{bit_at}
use Rattle.std.specs.List.{Contains, list_any}
use Rattle.std.proofs.lemmas.List.Folds.{Any-from_list_any, list_any_at}
use Rattle.patch_sets.specs.Closed.{IsClosed}
use Rattle.patch_sets.proofs.Bits.{eq_or_not}
use Rattle.crash_model.specs.Disk.{Disk}
use Rattle.crash_model.specs.Patches.{Place, places_of, deps_of, image_from, overlap}
use Rattle.crash_model.specs.Replay.{image_after_replay}
use Rattle.crash_model.specs.Checker.{Demands, IsCleanUnder, IsFailingUnder}
use Rattle.crash_model.specs.Trace.{Emitted, IsGraphOf, applies, depends, groups_depend, waits_for}
use Rattle.crash_model.specs.Tracing.{Tracing}
use Rattle.crash_model.specs.WholeBlocks.{shares_block}
use Rattle.crash_model.specs.declared.patches.Patch.{Patch}
use Rattle.crash_model.specs.declared.rules.Rule.{Rule}
use Rattle.rule_laws.proofs.Closed.{get_some, length-deps}
use Rattle.traced_patches.specs.Labels.{emitted_at, emitted_of}
use Rattle.traced_patches.specs.declared.labels.Label.{Label}
use Rattle.chosen_rules.specs.Excluded.{MakesWait, Excludes}

-- ---- why a patch depends on another

pub or_cases : (a b : Bool) → (a || b) ≡ true → (a ≡ true) ⊎ (b ≡ true)
or_cases true b h = inl refl
or_cases false b h = inr h

or_left : (a b : Bool) → a ≡ true → (a || b) ≡ true
or_left true b h = refl
or_left false b h = absurd (cc)

or_right : (a b : Bool) → b ≡ true → (a || b) ≡ true
or_right true b h = refl
or_right false b h = h

-- without any rule the patch depends on the other too, or a rule makes it wait
depends_by : (rules others : List Rule) (whole : Bool) (links : List (List ℕ × List ℕ)) (q : Emitted) (id : ℕ)
    (p : Emitted)
    → depends rules whole links q id p ≡ true
    → (depends others whole links q id p ≡ true) ⊎ ((rule : Rule) × Contains rules rule × (applies rule q p ≡ true))
depends_by rules others whole links q id p h =
    let first = overlap q.place p.place || shares_block whole q p || groups_depend links q p || waits_for q id in
    elim (or_cases first (list_any (λ rule. applies rule q p) rules) h) [
      | inl always ↦ inl (or_left first (list_any (λ rule. applies rule q p) others) always)
      | inr any ↦
          let found = Any-from_list_any (λ rule. applies rule q p) rules any in
          inr (found.1, (found.0, found.2, found.3), found.4)
    ]

depends_from : (rules : List Rule) (whole : Bool) (links : List (List ℕ × List ℕ)) (q : Emitted) (id : ℕ) (p : Emitted)
    (rule : Rule)
    → Contains rules rule → applies rule q p ≡ true → depends rules whole links q id p ≡ true
depends_from rules whole links q id p rule (at, within, is) holds =
    or_right (overlap q.place p.place || shares_block whole q p || groups_depend links q p || waits_for q id)
    (list_any (λ r. applies r q p) rules)
    (list_any_at (λ r. applies r q p) rules at rule within (ap (λ r. applies r q p) is ∙ holds))

-- ---- a rule and two labels

module _ (emitted : List Emitted) (rule : Rule) (q p : ℕ) (late early : Label) where
  pub wait_read : (b : Bool) → p < q → q < length emitted
      → ((e : Emitted) → slice_get emitted q ≡ Some e → e ≡ emitted_at e.place late)
      → ((e : Emitted) → slice_get emitted p ≡ Some e → e ≡ emitted_at e.place early)
      → b ≡ applies rule (emitted_of late) (emitted_of early) → IsTrue b ↔ MakesWait emitted rule q p
  wait_read b less within is_late is_early is =
      let later = get_some emitted q within in
      let before = get_some emitted p (omega (arith, less, within)) in (
        λ holds. record {
          order = less;
          later = later.0;
          before = before.0;
          later_at = later.1;
          before_at = before.1;
          waits = same later.0 before.0 (is_late later.0 later.1) (is_early before.0 before.1) ∙ (sym is ∙ holds);
        },
        λ wait. is ∙ (sym (same wait.later wait.before (is_late wait.later wait.later_at)
            (is_early wait.before wait.before_at)) ∙ wait.waits),
      )
    where
      same : (x y : Emitted) → x ≡ emitted_at x.place late → y ≡ emitted_at y.place early
          → applies rule x y ≡ applies rule (emitted_of late) (emitted_of early)
      same x y is_x is_y = ap (λ (e : Emitted). applies rule e y) is_x
          ∙ ap (λ (e : Emitted). applies rule (emitted_of late) e) is_y

-- ---- closed sets

module _ (rules : List Rule) (base : Disk) (s : Tracing) (patches : List Patch)
    (graph : IsGraphOf rules base s patches) (set : ℕ) where
  -- no rule of a graph excludes a closed set of it
  pub not_excluded : IsClosed (deps_of patches) set → (rule : Rule) → Contains rules rule
      → Excludes s.emitted rule set → ⊥
  not_excluded closed rule is (q, has, (p, wait, outside)) =
      let depends_on = depends_from rules s.whole s.links wait.later p wait.before rule is wait.waits in
      outside (closed.whole q p has
      ((graph.exactly q p wait.later wait.before wait.order wait.later_at wait.before_at).1 depends_on))

  -- what is closed in one graph is also closed in another, if no rule of that one excludes it
  module _ (others : List Rule) (changed : List Patch) (other : IsGraphOf others base s changed)
      (none : (rule : Rule) → Contains others rule → Excludes s.emitted rule set → ⊥) where
    pub closed_too : IsClosed (deps_of patches) set → IsClosed (deps_of changed) set
    closed_too closed =
        let long = length-deps rules base s patches graph in
        let short = length-deps others base s changed other in
        record {
          known = λ id has. let below : id < length (deps_of patches) = closed.known id has in omega
              (arith, long, short, below);
          whole = λ q p has dep.
              let before = other.earlier q p dep in
              let below = closed.known q has in
              let later = get_some s.emitted q (omega (arith, long, below)) in
              let earlier = get_some s.emitted p (omega (arith, long, below, before)) in
              let waits = (other.exactly q p later.0 earlier.0 before later.1 earlier.1).0 dep in
              elim (depends_by others rules s.whole s.links later.0 p earlier.0 waits) [
                | inl here ↦ closed.whole q p has
                    ((graph.exactly q p later.0 earlier.0 before later.1 earlier.1).1 here)
                | inr it ↦ elim (eq_or_not (bit_at set p) 1) [
                  | inl inside ↦ inside
                  | inr outside ↦ absurd (none it.0 it.1 (
                    q,
                    has,
                    (
                      p,
                      record {
                        order = before;
                        later = later.0;
                        before = earlier.0;
                        later_at = later.1;
                        before_at = earlier.1;
                        waits = it.2;
                      },
                      outside,
                    ),
                  ))
                ]
              ];
        }

    pub failing_too : (demands : Demands) → IsFailingUnder demands base patches set
        → IsFailingUnder demands base changed set
    failing_too demands failing =
        let same : places_of changed ≡ places_of patches = other.places ∙ sym graph.places in
        record {
          closed = closed_too failing.closed;
          unclean = λ clean. failing.unclean (subst (λ (ps : List Place).
              IsCleanUnder demands set (image_after_replay (image_from 0 base ps set))) same clean);
        }
