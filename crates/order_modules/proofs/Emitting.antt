-- A log with a patch more, or a link more.
use Rattle.std.proofs.Common.{◌≡◌, ℕ, zero, suc, ◌+◌, ◌*◌, ◌<◌, ◌≤◌, ◌⊎◌, inl, inr, List, [], ◌∷◌, ◌++◌, ◌-◌, length}
use Rattle.std.proofs.Common.{◌&&◌, ◌==◌, bit_or}
use Rattle.std.proofs.Common.{take, drop, map, Bool, true, false, ◌||◌, Some, arith, tests, refl, sym, ◌∙◌, ap, subst}
use Rattle.std.proofs.Common.{length-append}
use Rattle.std.specs.Prelude.{◌↔◌, IsTrue, slice_index, slice_get, slice_range}
use Rattle.std.specs.List.{list_any}
use Rattle.std.proofs.lemmas.List.{get_or_append_left, get_or_push, get_or_past, length-map, map_push, drop-take}
use Rattle.std.proofs.lemmas.List.{drop-drop, take-take}
use Rattle.std.proofs.lemmas.List.Elements.{All-push}
use Rattle.std.proofs.lemmas.Option.{slice_get_within}
use Rattle.std.proofs.lemmas.Bool.{cases_lt}
use Rattle.arrayvec.specs.ArrayVec.{ArrayVec}
use Rattle.patch_sets.specs.Sets.{Has}
use Rattle.patch_sets.proofs.Bits.{eq_or_not, none_in_empty, in_or_cases, in_or_left, in_or_right}
use Rattle.crash_model.specs.Disk.{Disk, block_of, with_bytes}
use Rattle.crash_model.specs.Patches.{Place, place, places_of, deps_of, overlap, AreUndo}
use Rattle.crash_model.specs.Trace.{Emitted, is_same_group, groups_depend, waits_for, applies, depends}
use Rattle.crash_model.specs.WholeBlocks.{shares_block}
use Rattle.crash_model.specs.declared.patches.Patch.{Patch}
use Rattle.crash_model.specs.declared.rules.Rule.{Rule}
use Rattle.crash_model.specs.declared.modules.Module.{Module}
use Rattle.patch_graph.specs.Graph.{Overlaps, OverlapsAt, AddsOverlaps}
use Rattle.traced_patches.specs.Labels.{emitted_at, emitted_of, emitted_by, group_by, links_by}
use Rattle.order_modules.specs.Log.{Log, IsLog, WaitsAt, SharesAt, with_places}
use Rattle.traced_patches.specs.declared.labels.Label.{Label}
use Rattle.traced_patches.specs.declared.labels.Link.{Link}

-- ---- lists with one element more

get_push : {X : Type 0} (xs : List X) (y x : X) (i : ℕ) → slice_get (xs ++ y ∷ []) i ≡ Some x
    → (slice_get xs i ≡ Some x) ⊎ ((i ≡ length xs) × (x ≡ y))
get_push [] y x zero at = inr (refl, cc)
get_push [] y x (suc i) at = absurd (cc)
get_push (a ∷ xs) y x zero at = inl at
get_push (a ∷ xs) y x (suc i) at = elim (get_push xs y x i at) [
  | inl old ↦ inl old
  | inr new ↦ inr (ap suc new.0, new.1)
]

get_old : {X : Type 0} (xs : List X) (y x z : X) (i : ℕ) → slice_get xs i ≡ Some x → slice_get (xs ++ y ∷ []) i ≡ Some z
    → z ≡ x
get_old [] y x z i at here = absurd (cc)
get_old (a ∷ xs) y x z zero at here = cc
get_old (a ∷ xs) y x z (suc i) at here = get_old xs y x z i at here

with_places-push : (d : Disk) (ps : List Place) (p : Place)
    → with_places d (ps ++ p ∷ []) ≡ with_bytes (with_places d ps) p.block p.offset p.new
with_places-push d [] p = refl
with_places-push d (x ∷ ps) p = with_places-push (with_bytes d x.block x.offset x.new) ps p

with_places-blocks : (d : Disk) (ps : List Place) → (with_places d ps).blocks ≡ d.blocks
with_places-blocks d [] = refl
with_places-blocks d (x ∷ ps) = with_places-blocks (with_bytes d x.block x.offset x.new) ps

undo-push : (d : Disk) (ps : List Patch) (p : Patch) → AreUndo d ps
    → p.undo.items ≡ slice_range (with_places d (places_of ps)).bytes (128 * p.block + p.offset)
    (128 * p.block + p.offset + length p.new.items) → AreUndo d (ps ++ p ∷ [])
undo-push d [] p u here = (here, tt)
undo-push d (x ∷ ps) p u here = (u.0, undo-push (with_bytes d x.block x.offset x.new.items) ps p u.1 here)

pub emitted-push : (ps : List Place) (ls : List Label) (p : Place) (l : Label) → length ls ≡ length ps
    → emitted_by (ps ++ p ∷ []) (ls ++ l ∷ []) ≡ emitted_by ps ls ++ emitted_at p l ∷ []
emitted-push [] [] p l same = refl
emitted-push [] (x ∷ ls) p l same = absurd (omega arith)
emitted-push (y ∷ ps) [] p l same = absurd (omega arith)
emitted-push (y ∷ ps) (x ∷ ls) p l same = ap (λ (es : List Emitted). emitted_at y x ∷ es)
    (emitted-push ps ls p l (omega arith))

-- an emitted patch is a place and a label of one id
label_at : (ps : List Place) (ls : List Label) (id : ℕ) (e : Emitted) → slice_get (emitted_by ps ls) id ≡ Some e
    → (l : Label) × (slice_get ls id ≡ Some l) × ((p : Place) × (slice_get ps id ≡ Some p) × (e ≡ emitted_at p l))
label_at [] ls id e at = absurd (cc)
label_at (p ∷ ps) [] id e at = absurd (cc)
label_at (p ∷ ps) (l ∷ ls) zero e at = (l, refl, (p, refl, cc))
label_at (p ∷ ps) (l ∷ ls) (suc id) e at = label_at ps ls id e at

-- ---- tests

overlap_true : (q p : Emitted) → p.place.block ≡ q.place.block → p.place.offset < q.place.offset + length q.place.new
    → q.place.offset < p.place.offset + length p.place.new → overlap q.place p.place ≡ true
overlap_true q p same below above = grind (arith, tests)

from_overlap : (q p : Emitted) → overlap q.place p.place ≡ true → (p.place.block ≡ q.place.block)
    × (p.place.offset < q.place.offset + length q.place.new) × (q.place.offset < p.place.offset + length p.place.new)
from_overlap q p t = (grind (arith, tests), grind (arith, tests), grind (arith, tests))

or_cases : (a b c w d : Bool) → (a || b || c || w || d) ≡ true
    → (a ≡ true) ⊎ ((b ≡ true) ⊎ ((c || w || d) ≡ true))
or_cases true b c w d t = inl refl
or_cases false true c w d t = inr (inl refl)
or_cases false false c w d t = inr (inr t)

or_first : (a b c w d : Bool) → a ≡ true → (a || b || c || w || d) ≡ true
or_first true b c w d t = refl
or_first false b c w d t = absurd (cc)

or_second : (a b c w d : Bool) → b ≡ true → (a || b || c || w || d) ≡ true
or_second true b c w d t = refl
or_second false true c w d t = refl
or_second false false c w d t = absurd (cc)

or_rest : (a b c w d : Bool) → (c || w || d) ≡ true → (a || b || c || w || d) ≡ true
or_rest true b c w d t = refl
or_rest false true c w d t = refl
or_rest false false c w d t = t

-- ---- one patch more

-- the dependencies of groups and of rules look at labels alone
rule_labels : (rules : List Rule) (links : List (List ℕ × List ℕ)) (p q r s : Place) (l : Label) (id : ℕ) (m : Label)
    → (groups_depend links (emitted_at p l) (emitted_at q m) || waits_for (emitted_at p l) id
    || list_any (λ rule. applies rule (emitted_at p l) (emitted_at q m)) rules)
    ≡ (groups_depend links (emitted_at r l) (emitted_at s m) || waits_for (emitted_at r l) id
    || list_any (λ rule. applies rule (emitted_at r l) (emitted_at s m)) rules)
rule_labels rules links p q r s l id m = refl

patch_at : (ps : List Patch) (id : ℕ) (at : Place) → slice_get (places_of ps) id ≡ Some at → (x : Patch)
    × (slice_get ps id ≡ Some x) × (at ≡ place x.block x.offset x.new.items)
patch_at [] id at here = absurd (cc)
patch_at (x ∷ ps) zero at here = (x, refl, cc)
patch_at (x ∷ ps) (suc id) at here = patch_at ps id at here

-- a patch as it is emitted
abbrev pub emitted_patch : Patch → Label → Emitted
emitted_patch patch label = emitted_at (place patch.block patch.offset patch.new.items) label

module _ (log : Log) (labels : List Label) (label : Label) (patch : Patch) (set : ℕ)
    (is : IsLog log) (labelled : length labels ≡ length log.patches)
    (emitted : log.emitted ≡ emitted_by (places_of log.patches) labels)
    (adds : (id : ℕ) → Has set id ↔ (Has patch.deps id ⊎ OverlapsAt log.patches patch id))
    (waits : (id : ℕ) → Has patch.deps id
    ↔ (WaitsAt log.rules log.links labels label id ⊎ SharesAt log.whole log.patches patch.block id)) where
  same_long : length log.emitted ≡ length log.patches
  same_long =
      let places : length (places_of log.patches) ≡ length log.patches =
      length-map log.patches (λ p. place p.block p.offset p.new.items) in
      let outer : length (map (λ (e : Emitted). e.place) log.emitted) ≡ length log.emitted =
      length-map log.emitted (λ e. e.place) in
      let equal : length (places_of log.patches) ≡ length (map (λ (e : Emitted). e.place) log.emitted) =
      ap (λ (xs : List Place). length xs) is.graph.places in
      omega arith

  -- the dependencies of the new patch are those that it is to have
  new_deps : (p : ℕ) (before : Emitted) → slice_get log.emitted p ≡ Some before → Has set p
      ↔ IsTrue (depends log.rules log.whole log.links (emitted_patch patch label) p before)
  new_deps p before at =
      let found = label_at (places_of log.patches) labels p before
      (subst (λ (es : List Emitted). slice_get es p ≡ Some before) emitted at) in
      let other : Label = found.0 in
      let other_at : slice_get labels p ≡ Some other = found.1 in
      let stood : Place = found.2.0 in
      let is_it : before ≡ emitted_at stood other = found.2.2 in
      let there = patch_at log.patches p stood found.2.1 in
      let earlier : Patch = there.0 in
      let earlier_at : slice_get log.patches p ≡ Some earlier = there.1 in
      let place_is : stood ≡ place earlier.block earlier.offset earlier.new.items = there.2 in
      let rule = rule_labels log.rules log.links (place 0 0 []) (place 0 0 [])
      (place patch.block patch.offset patch.new.items) stood label p other in
      let e : Emitted = emitted_patch patch label in
      let full : before ≡ emitted_patch earlier other = is_it ∙ ap (λ (at : Place). emitted_at at other) place_is in (
        λ has. elim ((adds p).0 has) [
          | inl own ↦ elim ((waits p).0 own) [
            | inl w ↦
                let same : w.0 ≡ other = some_same (sym w.1 ∙ other_at) in
                let t = subst (λ (l : Label). IsTrue (groups_depend log.links (emitted_of label) (emitted_of l)
                || waits_for (emitted_of label) p
                || list_any (λ rule. applies rule (emitted_of label) (emitted_of l)) log.rules)) same w.2 in
                subst (λ (b : Emitted). IsTrue (depends log.rules log.whole log.links e p b)) (sym is_it)
                (or_rest (overlap e.place stood) (shares_block log.whole e (emitted_at stood other))
                (groups_depend log.links e (emitted_at stood other)) (waits_for e p)
                (list_any (λ rule. applies rule e (emitted_at stood other)) log.rules) (sym rule ∙ t))
            | inr shared ↦
                let same : shared.0 ≡ earlier = patch_same (sym shared.1 ∙ earlier_at) in
                let t = subst (λ (x : Patch). IsTrue (log.whole && patch.block == x.block)) same shared.2 in
                subst (λ (b : Emitted). IsTrue (depends log.rules log.whole log.links e p b)) (sym full)
                (or_second (overlap e.place (place earlier.block earlier.offset earlier.new.items))
                (shares_block log.whole e (emitted_patch earlier other))
                (groups_depend log.links e (emitted_patch earlier other)) (waits_for e p)
                (list_any (λ rule. applies rule e (emitted_patch earlier other)) log.rules) t)
          ]
          | inr over ↦
              let same : over.0 ≡ earlier = patch_same (sym over.1 ∙ earlier_at) in
              let o : Overlaps earlier patch = subst (λ (x : Patch). Overlaps x patch) same over.2 in
              subst (λ (b : Emitted). IsTrue (depends log.rules log.whole log.links e p b)) (sym full)
              (or_first (overlap e.place (place earlier.block earlier.offset earlier.new.items))
              (shares_block log.whole e (emitted_patch earlier other))
              (groups_depend log.links e (emitted_patch earlier other)) (waits_for e p)
              (list_any (λ rule. applies rule e (emitted_patch earlier other)) log.rules)
              (overlap_true e (emitted_patch earlier other) o.together o.below o.above))
        ],
        λ t. elim (or_cases (overlap e.place before.place) (shares_block log.whole e before)
            (groups_depend log.links e before) (waits_for e p) (list_any (λ rule. applies rule e before) log.rules) t) [
              | inl over ↦
                  let o = from_overlap e (emitted_patch earlier other)
                  (subst (λ (b : Emitted). overlap e.place b.place ≡ true) full over) in
                  (adds p).1 (inr (earlier, earlier_at, record { together = o.0; below = o.1; above = o.2 }))
              | inr more ↦ elim more [
                | inl shared ↦
                    let s = subst (λ (b : Emitted). shares_block log.whole e b ≡ true) full shared in
                    (adds p).1 (inl ((waits p).1 (inr (earlier, earlier_at, s))))
                | inr rest ↦
                    let r = subst (λ (b : Emitted). (groups_depend log.links e b || waits_for e p
                    || list_any (λ rule. applies rule e b) log.rules) ≡ true) is_it rest in
                    (adds p).1 (inl ((waits p).1 (inl (other, other_at, rule ∙ r))))
              ]
            ],
      )
    where
      some_same : {l m : Label} → Some l ≡ Some m → l ≡ m
      some_same h = cc

      patch_same : {l m : Patch} → Some l ≡ Some m → l ≡ m
      patch_same h = cc

  emit_core : patch.block < log.base.blocks → patch.undo.items ≡ slice_range log.written.bytes
      (128 * patch.block + patch.offset) (128 * patch.block + patch.offset + length patch.new.items)
      → IsLog (record log {
        written = with_bytes log.written patch.block patch.offset patch.new.items;
        emitted = log.emitted ++ emitted_patch patch label ∷ [];
        patches = log.patches ++ record patch { deps = set }
            ∷ [];
      })
  emit_core known undo = record {
    known = All-push (λ p. p.block < log.base.blocks) log.patches (record patch { deps = set }) is.known known;
    written = ap (λ (d : Disk). with_bytes d patch.block patch.offset patch.new.items) is.written
        ∙ sym (with_places-push log.base (places_of log.patches) (place patch.block patch.offset patch.new.items))
        ∙ ap (λ (ps : List Place). with_places log.base ps) (sym placed);
    graph = record {
      places = placed ∙ ap (λ (ps : List Place). ps ++ place patch.block patch.offset patch.new.items ∷ [])
          is.graph.places ∙ sym (map_push (λ (e : Emitted). e.place) log.emitted (emitted_patch patch label));
      undo = undo-push log.base log.patches (record patch { deps = set }) is.graph.undo
          (undo ∙ ap (λ (d : Disk). slice_range d.bytes (128 * patch.block + patch.offset)
          (128 * patch.block + patch.offset + length patch.new.items)) is.written);
      earlier = λ q p has. earlier q p (subst (λ (xs : List ℕ). Has (slice_index xs q) p) deps_push has);
      exactly = exactly;
    };
  }
    where
      placed : places_of (log.patches ++ record patch { deps = set } ∷ []) ≡ places_of log.patches
          ++ place patch.block patch.offset patch.new.items ∷ []
      placed = map_push (λ (p : Patch). place p.block p.offset p.new.items) log.patches (record patch { deps = set })

      deps_long : length (deps_of log.patches) ≡ length log.patches
      deps_long = length-map log.patches (λ p. p.deps)

      deps_push : deps_of (log.patches ++ record patch { deps = set } ∷ []) ≡ deps_of log.patches ++ set ∷ []
      deps_push = map_push (λ (p : Patch). p.deps) log.patches (record patch { deps = set })

      before : (p : ℕ) → Has set p → p < length log.patches
      before p has = elim ((adds p).0 has) [
        | inl own ↦ elim ((waits p).0 own) [
          | inl w ↦ let inside : p < length labels = slice_get_within labels p w.0 w.1 in
              omega (arith, inside, labelled)
          | inr shared ↦ slice_get_within log.patches p shared.0 shared.1
        ]
        | inr over ↦ slice_get_within log.patches p over.0 over.1
      ]

      earlier : (q p : ℕ) → Has (slice_index (deps_of log.patches ++ set ∷ []) q) p → p < q
      earlier q p has = elim (cases_lt q (length (deps_of log.patches))) [
        | inl old ↦ is.graph.earlier q p (subst (λ (s : ℕ). Has s p)
            (get_or_append_left (deps_of log.patches) (set ∷ []) 0 q old) has)
        | inr from ↦ elim (eq_or_not q (length (deps_of log.patches))) [
          | inl e ↦ let less : p < length log.patches = before p
              (subst (λ (s : ℕ). Has s p) (get_or_push (deps_of log.patches) set 0 q (sym e)) has) in
              omega (arith, less, e, deps_long)
          | inr ne ↦
              let past : length (deps_of log.patches ++ set ∷ []) ≤ q =
              omega (arith, length-append (deps_of log.patches) (set ∷ [])) in
              absurd (none_in_empty p (subst (λ (s : ℕ). Has s p)
              (get_or_past (deps_of log.patches ++ set ∷ []) q 0 past) has))
        ]
      ]

      exactly : (q p : ℕ) (later before : Emitted) → p < q
          → slice_get (log.emitted ++ emitted_patch patch label ∷ []) q ≡ Some later
          → slice_get (log.emitted ++ emitted_patch patch label ∷ []) p ≡ Some before
          → (Has (slice_index (deps_of (log.patches ++ record patch { deps = set } ∷ [])) q) p
          ↔ IsTrue (depends log.rules log.whole log.links later p before))
      exactly q p later before less at_q at_p =
          elim (get_push log.emitted (emitted_patch patch label) later q at_q) [
            | inl old_q ↦
                let inside : q < length log.emitted = slice_get_within log.emitted q later old_q in
                elim (get_push log.emitted (emitted_patch patch label) before p at_p) [
                  | inl old_p ↦
                      let within : q < length (deps_of log.patches) = omega (arith, same_long, deps_long) in
                      let here : slice_index (deps_of (log.patches ++ record patch { deps = set } ∷ [])) q
                      ≡ slice_index (deps_of log.patches) q =
                      ap (λ (xs : List ℕ). slice_index xs q) deps_push
                      ∙ get_or_append_left (deps_of log.patches) (set ∷ []) 0 q within in
                      subst (λ (s : ℕ). Has s p ↔ IsTrue (depends log.rules log.whole log.links later p before))
                      (sym here)
                      (is.graph.exactly q p later before less old_q old_p)
                  | inr new_p ↦ let where_p : p ≡ length log.emitted = new_p.0 in absurd (omega arith)
                ]
            | inr new_q ↦
                let where_q : q ≡ length log.emitted = new_q.0 in
                elim (get_push log.emitted (emitted_patch patch label) before p at_p) [
                  | inl old_p ↦
                      let here : slice_index (deps_of (log.patches ++ record patch { deps = set } ∷ [])) q ≡ set =
                      ap (λ (xs : List ℕ). slice_index xs q) deps_push
                      ∙ get_or_push (deps_of log.patches) set 0 q (omega (arith, same_long, deps_long)) in
                      subst (λ (s : ℕ). Has s p ↔ IsTrue (depends log.rules log.whole log.links later p before))
                      (sym here)
                      (subst (λ (l : Emitted). Has set p ↔ IsTrue (depends log.rules log.whole log.links l p before))
                      (sym new_q.1)
                      (new_deps p before old_p))
                  | inr new_p ↦ let where_p : p ≡ length log.emitted = new_p.0 in absurd (omega arith)
                ]
          ]

-- the patch as it was added is the one that was handed in, with more dependencies
same_patch : (patches : List Patch) (patch added : Patch) → AddsOverlaps patches patch added
    → added ≡ record patch { deps = added.deps }
same_patch patches patch added adds =
    let make : ℕ → ℕ → ArrayVec ℕ → ArrayVec ℕ → Patch = λ b o n u.
    record { block = b; offset = o; new = n; undo = u; deps = added.deps } in
    ap (λ (b : ℕ). make b added.offset added.new added.undo) adds.block
    ∙ ap (λ (o : ℕ). make patch.block o added.new added.undo) adds.offset
    ∙ ap (λ (n : ArrayVec ℕ). make patch.block patch.offset n added.undo) adds.new
    ∙ ap (λ (u : ArrayVec ℕ). make patch.block patch.offset patch.new u) adds.undo

pub log-emit : (log : Log) (labels : List Label) (label : Label) (patch added : Patch)
    → IsLog log → length labels ≡ length log.patches → log.emitted ≡ emitted_by (places_of log.patches) labels
    → AddsOverlaps log.patches patch added → ((id : ℕ) → Has patch.deps id
    ↔ (WaitsAt log.rules log.links labels label id ⊎ SharesAt log.whole log.patches patch.block id))
    → patch.block < log.base.blocks → patch.undo.items ≡ slice_range log.written.bytes
    (128 * patch.block + patch.offset) (128 * patch.block + patch.offset + length patch.new.items)
    → IsLog (record log {
      written = with_bytes log.written patch.block patch.offset patch.new.items;
      emitted = log.emitted ++ emitted_patch patch label ∷ [];
      patches = log.patches ++ added ∷ [];
    })
log-emit log labels label patch added is labelled emitted adds waits known undo =
    let eq : added ≡ record patch { deps = added.deps } = same_patch log.patches patch added adds in
    subst (λ (a : Patch). IsLog (record log {
      written = with_bytes log.written patch.block patch.offset patch.new.items;
      emitted = log.emitted ++ emitted_patch patch label ∷ [];
      patches = log.patches ++ a ∷ [];
    })) (sym eq)
    (emit_core log labels label patch added.deps is labelled emitted adds.deps waits known undo)

pub written_blocks : (log : Log) → IsLog log → log.written.blocks ≡ log.base.blocks
written_blocks log is = ap (λ (d : Disk). d.blocks) is.written ∙ with_places-blocks log.base (places_of log.patches)

-- the same by what is in the fields
module _ (base written : Disk) (kind : Module) (rules : List Rule) (whole : Bool)
    (links : List (List ℕ × List ℕ)) (labels : List Label) (label : Label) (patches : List Patch)
    (patch added : Patch) where
  abbrev pub log_before : Log
  log_before = record {
    base = base;
    written = written;
    kind = kind;
    rules = rules;
    whole = whole;
    links = links;
    emitted = emitted_by (places_of patches) labels;
    patches = patches;
  }

  pub emitted_after : length labels ≡ length patches → AddsOverlaps patches patch added
      → emitted_by (places_of (patches ++ added ∷ [])) (labels ++ label ∷ []) ≡ emitted_by (places_of patches) labels
      ++ emitted_patch patch label ∷ []
  emitted_after labelled adds =
      let long : length (places_of patches) ≡ length patches =
      length-map patches (λ p. place p.block p.offset p.new.items) in
      let placed : places_of (patches ++ added ∷ []) ≡ places_of patches ++ place added.block added.offset
      added.new.items ∷ [] = map_push (λ (p : Patch). place p.block p.offset p.new.items) patches added in
      let at : place added.block added.offset added.new.items ≡ place patch.block patch.offset patch.new.items =
      ap (λ (b : ℕ). place b added.offset added.new.items) adds.block
      ∙ ap (λ (o : ℕ). place patch.block o added.new.items) adds.offset
      ∙ ap (λ (n : ArrayVec ℕ). place patch.block patch.offset n.items) adds.new in
      ap (λ (ps : List Place). emitted_by ps (labels ++ label ∷ []))
      (placed ∙ ap (λ (p : Place). places_of patches ++ p ∷ []) at)
      ∙ emitted-push (places_of patches) labels (place patch.block patch.offset patch.new.items) label (omega arith)

  pub emitted_new : (new : List Patch) (labels' : List Label) → length labels ≡ length patches
      → AddsOverlaps patches patch added → new ≡ patches ++ added ∷ [] → labels' ≡ labels ++ label ∷ []
      → emitted_by (places_of new) labels' ≡ emitted_by (places_of patches) labels ++ emitted_patch patch label ∷ []
  emitted_new new labels' labelled adds new_is labels_is =
      ap (λ (ps : List Patch). emitted_by (places_of ps) labels') new_is
      ∙ ap (λ (ls : List Label). emitted_by (places_of (patches ++ added ∷ [])) ls) labels_is
      ∙ emitted_after labelled adds

  pub emit_fields : (new : List Patch) (labels' : List Label) (written' : Disk)
      → IsLog log_before → length labels ≡ length patches → AddsOverlaps patches patch added
      → ((id : ℕ) → Has patch.deps id
      ↔ (WaitsAt rules links labels label id ⊎ SharesAt whole patches patch.block id))
      → patch.block < base.blocks → patch.undo.items ≡ slice_range written.bytes (128 * patch.block + patch.offset)
      (128 * patch.block + patch.offset + length patch.new.items)
      → new ≡ patches ++ added ∷ [] → labels' ≡ labels ++ label ∷ []
      → written' ≡ with_bytes written patch.block patch.offset patch.new.items
      → IsLog (record {
        base = base;
        written = written';
        kind = kind;
        rules = rules;
        whole = whole;
        links = links;
        emitted = emitted_by (places_of new) labels';
        patches = new;
      }) × (length labels' ≡ length new)
  emit_fields new labels' written' is labelled adds waits known undo new_is labels_is written_is =
      let last = log-emit log_before labels label patch added is labelled refl adds waits known undo in
      let make : List Patch → List Emitted → Disk → Log = λ ps es d.
      record {
        base = base;
        written = d;
        kind = kind;
        rules = rules;
        whole = whole;
        links = links;
        emitted = es;
        patches = ps;
      } in
      let es : emitted_by (places_of new) labels' ≡ emitted_by (places_of patches) labels ++ emitted_patch patch label
      ∷ [] =
      emitted_new new labels' labelled adds new_is labels_is in
      let to : make new (emitted_by (places_of new) labels') written' ≡ make (patches ++ added ∷ [])
      (emitted_by (places_of patches) labels ++ emitted_patch patch label ∷ [])
      (with_bytes written patch.block patch.offset patch.new.items) =
      ap (λ (ps : List Patch). make ps (emitted_by (places_of new) labels') written') new_is
      ∙ ap (λ (xs : List Emitted). make (patches ++ added ∷ []) xs written') es
      ∙ ap (λ (d : Disk). make (patches ++ added ∷ []) (emitted_by (places_of patches) labels ++ emitted_patch patch
      label ∷ []) d) written_is in
      let long : length labels' ≡ length labels + 1 = ap (λ (ls : List Label). length ls) labels_is
      ∙ length-append labels (label ∷ []) in
      let tall : length new ≡ length patches + 1 = ap (λ (ps : List Patch). length ps) new_is
      ∙ length-append patches (added ∷ []) in
      (subst IsLog (sym to) last, omega arith)

-- whether some patch is in a group is seen by the labels
pub any_emitted : (ps : List Place) (ls : List Label) (name : List ℕ) → length ls ≡ length ps
    → list_any (λ (l : Label). is_same_group (group_by l.origin.group) name) ls
    ≡ list_any (λ e. is_same_group e.origin.group name) (emitted_by ps ls)
any_emitted [] [] name same = refl
any_emitted [] (l ∷ ls) name same = absurd (omega arith)
any_emitted (p ∷ ps) [] name same = absurd (omega arith)
any_emitted (p ∷ ps) (l ∷ ls) name same = ap (λ (t : Bool). is_same_group (group_by l.origin.group) name || t)
    (any_emitted ps ls name (omega arith))

-- the bytes of a range within a block
pub block_range : (d : Disk) (b o n : ℕ) → o + n ≤ 128
    → take ((o + n) - o) (drop o (block_of d b)) ≡ slice_range d.bytes (128 * b + o) (128 * b + o + n)
block_range d b o n fits =
    let first : (o + n) - o ≡ n = omega arith in
    let whole : 128 ≡ o + (128 - o) = omega arith in
    let width : (128 * b + o + n) - (128 * b + o) ≡ n = omega arith in
    ap (λ (k : ℕ). take k (drop o (block_of d b))) first
    ∙ ap (λ (k : ℕ). take n (drop o (take k (drop (128 * b) d.bytes)))) whole
    ∙ ap (λ (xs : List ℕ). take n xs) (drop-take o (128 - o) (drop (128 * b) d.bytes))
    ∙ take-take n (128 - o) (drop o (drop (128 * b) d.bytes)) (omega arith)
    ∙ ap (λ (xs : List ℕ). take n xs) (drop-drop o (128 * b) d.bytes)
    ∙ ap (λ (k : ℕ). take k (drop (128 * b + o) d.bytes)) (sym width)

pub undo_read : (d : Disk) (b o b' o' : ℕ) (row undo bytes new : List ℕ) → b' ≡ b → o' ≡ o → o + length bytes ≤ 128
    → row ≡ block_of d b' → undo ≡ take ((o' + length bytes) - o') (drop o' row) → new ≡ bytes
    → undo ≡ slice_range d.bytes (128 * b + o) (128 * b + o + length new)
undo_read d b o b' o' row undo bytes new same_b same_o fits row_is undo_is new_is =
    undo_is
    ∙ ap (λ (xs : List ℕ). take ((o' + length bytes) - o') (drop o' xs)) row_is
    ∙ ap (λ (k : ℕ). take ((o' + length bytes) - o') (drop o' (block_of d k))) same_b
    ∙ ap (λ (k : ℕ). take ((k + length bytes) - k) (drop k (block_of d b))) same_o
    ∙ block_range d b o (length bytes) fits
    ∙ ap (λ (xs : List ℕ). slice_range d.bytes (128 * b + o) (128 * b + o + length xs)) (sym new_is)

pub put_read : (d e : Disk) (b o b' o' : ℕ) (bytes new : List ℕ) → b' ≡ b → o' ≡ o → e ≡ with_bytes d b' o' bytes
    → new ≡ bytes → e ≡ with_bytes d b o new
put_read d e b o b' o' bytes new same_b same_o here new_is =
    here ∙ ap (λ (k : ℕ). with_bytes d k o' bytes) same_b ∙ ap (λ (k : ℕ). with_bytes d b k bytes) same_o
    ∙ ap (λ (xs : List ℕ). with_bytes d b o xs) (sym new_is)

pub waits_read : (rules rules' : List Rule) (set : ℕ) (links links' : List Link) (labels labels' : List Label)
    (label : Label) → rules' ≡ rules → links' ≡ links → labels' ≡ labels
    → ((id : ℕ) → Has set id ↔ WaitsAt rules' (links_by links') labels' label id) → (id : ℕ) → Has set id
    ↔ WaitsAt rules (links_by links) labels label id
waits_read rules rules' set links links' labels labels' label same_rules same_links same_labels waits =
    subst (λ (rs : List Rule). (id : ℕ) → Has set id ↔ WaitsAt rs (links_by links) labels label id) same_rules
    (subst (λ (ls : List Label). (id : ℕ) → Has set id ↔ WaitsAt rules' (links_by links) ls label id) same_labels
    (subst (λ (ls : List Link). (id : ℕ) → Has set id ↔ WaitsAt rules' (links_by ls) labels' label id) same_links
    waits))

-- the ids that a label waits for, and those of patches that share its block
pub deps_read : (own shared : ℕ) (rules : List Rule) (links : List (List ℕ × List ℕ)) (labels : List Label)
    (label : Label) (whole : Bool) (patches : List Patch) (block : ℕ)
    → ((id : ℕ) → Has own id ↔ WaitsAt rules links labels label id)
    → ((id : ℕ) → Has shared id ↔ SharesAt whole patches block id) → (id : ℕ)
    → Has (bit_or own shared) id ↔ (WaitsAt rules links labels label id ⊎ SharesAt whole patches block id)
deps_read own shared rules links labels label whole patches block waits shares id = (
  λ is. elim (in_or_cases own shared id is) [
    | inl one ↦ inl ((waits id).0 one)
    | inr other ↦ inr ((shares id).0 other)
  ],
  λ it. elim it [
    | inl one ↦ in_or_left own shared id ((waits id).1 one)
    | inr other ↦ in_or_right own shared id ((shares id).1 other)
  ],
)

-- two at one place are one
pub one_at : (patches : List Patch) (id : ℕ) (a b : Patch) → slice_get patches id ≡ Some a → slice_get patches id
    ≡ Some b
    → a ≡ b
one_at patches id a b first second = one (sym first ∙ second)
  where
    one : Some a ≡ Some b → a ≡ b
    one h = cc
