-- A log with a link more.
use Rattle.std.proofs.Common.{◌≡◌, ℕ, zero, suc, List, [], ◌∷◌, ◌++◌, Bool, true, false, ◌&&◌, ◌||◌, Some, refl, sym}
use Rattle.std.proofs.Common.{◌∙◌, ap, subst}
use Rattle.std.specs.Prelude.{◌↔◌, IsTrue, slice_index, slice_get}
use Rattle.std.specs.List.{list_any}
use Rattle.std.proofs.lemmas.List.{map_push}
use Rattle.std.proofs.lemmas.List.Folds.{list_any-append}
use Rattle.patch_sets.specs.Sets.{Has}
use Rattle.crash_model.specs.Disk.{Disk}
use Rattle.crash_model.specs.Patches.{places_of, deps_of, overlap}
use Rattle.crash_model.specs.Trace.{Emitted, is_same_group, groups_depend, waits_for, applies, depends}
use Rattle.crash_model.specs.WholeBlocks.{shares_block}
use Rattle.crash_model.specs.declared.patches.Patch.{Patch}
use Rattle.crash_model.specs.declared.rules.Rule.{Rule}
use Rattle.crash_model.specs.declared.modules.Module.{Module}
use Rattle.traced_patches.specs.Labels.{emitted_by, links_by}
use Rattle.order_modules.specs.Log.{Log, IsLog}
use Rattle.traced_patches.specs.declared.labels.Label.{Label}
use Rattle.traced_patches.specs.declared.labels.Link.{Link}

pub log-link : (log : Log) (later earlier : List ℕ) → IsLog log
    → list_any (λ e. is_same_group e.origin.group later) log.emitted ≡ false
    → IsLog (record log { links = log.links ++ (later, earlier) ∷ [] })
log-link log later earlier is none = record {
  written = is.written;
  known = is.known;
  graph = record {
    places = is.graph.places;
    undo = is.graph.undo;
    earlier = is.graph.earlier;
    exactly = λ q p l b less at_q at_p.
        subst (λ (t : Bool). Has (slice_index (deps_of log.patches) q) p ↔ IsTrue t)
        (sym (more_links log.rules log.whole log.links later earlier l p b (none_at log.emitted later q l none at_q)))
        (is.graph.exactly q p l b less at_q at_p);
  };
}
  where
    or_left : (a b : Bool) → (a || b) ≡ false → a ≡ false
    or_left true b h = absurd (cc)
    or_left false b h = refl

    or_right : (a b : Bool) → (a || b) ≡ false → b ≡ false
    or_right true b h = absurd (cc)
    or_right false b h = h

    none_at : (es : List Emitted) (name : List ℕ) (q : ℕ) (l : Emitted)
        → list_any (λ e. is_same_group e.origin.group name) es ≡ false → slice_get es q ≡ Some l
        → is_same_group l.origin.group name ≡ false
    none_at [] name q l none at = absurd (cc)
    none_at (e ∷ es) name zero l none at = let same : e ≡ l = cc in
        subst (λ (x : Emitted). is_same_group x.origin.group name ≡ false) same
        (or_left (is_same_group e.origin.group name) (list_any (λ e. is_same_group e.origin.group name) es) none)
    none_at (e ∷ es) name (suc q) l none at = none_at es name q l
        (or_right (is_same_group e.origin.group name) (list_any (λ e. is_same_group e.origin.group name) es) none) at

    or_false : (a b : Bool) → b ≡ false → (a || b) ≡ a
    or_false true b h = refl
    or_false false b h = h

    and_false : (a b : Bool) → a ≡ false → (a && b || false) ≡ false
    and_false a b h = rw h refl

    more_links : (rules : List Rule) (whole : Bool) (links : List (List ℕ × List ℕ)) (later earlier : List ℕ)
        (q : Emitted) (id : ℕ) (p : Emitted) → is_same_group q.origin.group later ≡ false
        → depends rules whole (links ++ (later, earlier) ∷ []) q id p ≡ depends rules whole links q id p
    more_links rules whole links later earlier q id p none =
        ap (λ (t : Bool). overlap q.place p.place || shares_block whole q p || t || waits_for q id
        || list_any (λ rule. applies rule q p) rules)
        (list_any-append (λ link. is_same_group q.origin.group link.0 && is_same_group p.origin.group link.1) links
        ((later, earlier) ∷ [])
        ∙ or_false (groups_depend links q p) (is_same_group q.origin.group later && is_same_group p.origin.group earlier
        || false) (and_false (is_same_group q.origin.group later) (is_same_group p.origin.group earlier) none))

pub links_push : (links new : List Link) (link : Link) → new ≡ links ++ link ∷ []
    → links_by new ≡ links_by links ++ (link.later.now, link.earlier.now) ∷ []
links_push links new link more = ap (λ (ls : List Link). links_by ls) more
    ∙ map_push (λ (l : Link). (l.later.now, l.earlier.now)) links link

pub link_fields : (base written : Disk) (kind : Module) (rules : List Rule) (whole : Bool) (links new : List Link)
    (labels : List Label) (patches : List Patch) (link : Link)
    → IsLog (record {
      base = base;
      written = written;
      kind = kind;
      rules = rules;
      whole = whole;
      links = links_by links;
      emitted = emitted_by (places_of patches) labels;
      patches = patches;
    })
    → list_any (λ e. is_same_group e.origin.group link.later.now) (emitted_by (places_of patches) labels) ≡ false
    → new ≡ links ++ link ∷ []
    → IsLog (record {
      base = base;
      written = written;
      kind = kind;
      rules = rules;
      whole = whole;
      links = links_by new;
      emitted = emitted_by (places_of patches) labels;
      patches = patches;
    })
link_fields base written kind rules whole links new labels patches link is none more =
    let make : List (List ℕ × List ℕ) → Log = λ ls. record {
      base = base;
      written = written;
      kind = kind;
      rules = rules;
      whole = whole;
      links = ls;
      emitted = emitted_by (places_of patches) labels;
      patches = patches;
    } in
    let to : links_by new ≡ links_by links ++ (link.later.now, link.earlier.now) ∷ [] =
    links_push links new link more in
    subst (λ (ls : List (List ℕ × List ℕ)). IsLog (make ls)) (sym to)
    (log-link (make (links_by links)) link.later.now link.earlier.now is none)
