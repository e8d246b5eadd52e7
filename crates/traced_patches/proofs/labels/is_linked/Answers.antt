use Rattle.std.proofs.Common.{◌≡◌, ◌<◌, ℕ, List, Bool, true, ◌&&◌, length, get_or, map, refl, sym, ap, ◌∙◌, subst}
use Rattle.std.proofs.lemmas.List.{get_or-map, length-map}
use Rattle.std.proofs.lemmas.List.Folds.{list_any_at}
use Rattle.crash_model.specs.Trace.{Emitted, is_same_group, groups_depend}
use Rattle.traced_patches.specs.Labels.{links_by, emitted_of}
use Rattle.traced_patches.specs.declared.labels.Link.{Link}
use Rattle.traced_patches.proofs.labels.is_linked.Goals as goal

linked_at : (links : List Link) (i : ℕ) (link : Link) (later earlier : Emitted) → i < length links
    → link ≡ get_or links i link
    → is_same_group later.origin.group link.later.now ≡ true
    → is_same_group earlier.origin.group link.earlier.now ≡ true
    → groups_depend (links_by links) later earlier ≡ true
linked_at links i link later earlier inside read one two =
    let f : Link → List ℕ × List ℕ = λ l. (l.later.now, l.earlier.now) in
    let p : List ℕ × List ℕ → Bool = λ pair. is_same_group later.origin.group pair.0
    && is_same_group earlier.origin.group pair.1 in
    let here : get_or (map f links) i (f link) ≡ f link = get_or-map f links i link (f link) inside ∙ ap f (sym read) in
    let both : p (f link) ≡ true = rw (one, two) refl in
    list_any_at p (map f links) i (f link) (subst (λ (n : ℕ). i < n) (sym (length-map links f)) inside)
    (ap p here ∙ both)

pub returns-then-is_in_group-2 : goal.returns-then-is_in_group-2
returns-then-is_in_group-2 c =
    sym (linked_at c.args.links.now c.loop-link.link-index c.link-item.result (emitted_of c.args.later.now)
    (emitted_of c.args.earlier.now) c.loop-link-test.true c.link-item.is (sym c.if-is_in_group.ensures)
    (sym c.if-is_in_group-2.ensures))
