use Rattle.std.proofs.Common.{◌≡◌, ℕ, ◌+◌, ◌<◌, List, [], ◌∷◌, ◌++◌, length, map, take, get_or, subst, sym, ap, ◌∙◌}
use Rattle.std.proofs.Common.{arith}
use Rattle.std.proofs.Common.{length-append}
use Rattle.std.specs.Prelude.{Option}
use Rattle.std.specs.List.{range_with_len}
use Rattle.std.proofs.Math.ListN.{get_or-append}
use Rattle.std.proofs.Math.Seq.{get_or-append_seam}
use Rattle.crash_model.specs.Paths.{end_of, names_of, names_show, inode_shown}
use Rattle.crash_model.specs.declared.showing.Shown.{Shown}
use Rattle.path_lookup.proofs.Ways.{one_further, shown_after}
use Rattle.path_lookup.proofs.showing.way_shows.Goals as goal

pub loop-name-preserved : goal.loop-name-preserved
loop-name-preserved g c =
    let d = c.args.image.now in
    let path = c.args.path.now in
    let names = names_of path in
    let name = c.name-item.result in
    let i = c.loop-name.name-index in
    let inside : i < length path.through.items =
    subst (λ (names : List (List ℕ)). i < length names) c.as_slice-name-items.ensures.value c.loop-name-test.true in
    let read : name ≡ get_or names i name =
    subst (λ (names : List (List ℕ)). name ≡ get_or names i name) c.as_slice-name-items.ensures.value c.name-item.is
    ∙ sym (get_or-append path.through.items (path.last ∷ []) name i inside) in
    let within : i < length names = omega (arith, inside, length-append path.through.items (path.last ∷ [])) in
    record {
      shows = c.push.ensures.items
          ∙ (ap (λ (shown : Shown). c.loop-name.shows.items ++ shown ∷ [])
          (c.inode_shows.ensures ∙ ap (λ (inode : Option ℕ). inode_shown d inode) c.after-inode.ensures.value)
          ∙ shown_after d names i name c.loop-name.inode c.loop-name.shows.items within read c.loop-name.invariant.leads
          c.loop-name.invariant.shows);
      leads = c.after-inode.ensures.value
          ∙ (ap (λ (inode : Option ℕ). end_of d inode (name ∷ [])) c.loop-name.invariant.leads
          ∙ one_further d names i name within read);
      within = c.after-inode.ensures.within;
      room = omega (arith, c.push.ensures.len, c.loop-name.invariant.room);
    }

pub returns : goal.returns
returns g c =
    let d = c.args.image.now in
    let path = c.args.path.now in
    let names = names_of path in
    let i = c.loop-name.name-index in
    let long : length names ≡ length path.through.items + 1 = length-append path.through.items (path.last ∷ []) in
    let same : length c.as_slice-name-items.result.now ≡ length path.through.items =
    ap (λ (names : List (List ℕ)). length names) c.as_slice-name-items.ensures.value in
    let last : i ≡ length path.through.items =
    omega (arith, same, c.loop-name-test.false, c.loop-name.auto.name-index-end) in
    let read : path.last ≡ get_or names i path.last =
    subst (λ (n : ℕ). path.last ≡ get_or names n path.last) (sym last)
    (sym (get_or-append_seam path.through.items path.last [] path.last)) in
    c.push-2.ensures.items
    ∙ (ap (λ (shown : Shown). c.loop-name.shows.items ++ shown ∷ [])
    (c.inode_shows-2.ensures ∙ ap (λ (inode : Option ℕ). inode_shown d inode) c.after.ensures.value)
    ∙ (shown_after d names i path.last c.loop-name.inode c.loop-name.shows.items (omega (arith, long, last)) read
    c.loop-name.invariant.leads c.loop-name.invariant.shows
    ∙ ap (λ (n : ℕ). map (λ m. names_show d (take (m + 1) names)) (range_with_len 0 n))
    (let up : i + 1 ≡ length names = omega (arith, long, last) in up)))
