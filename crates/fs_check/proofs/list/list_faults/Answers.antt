use Rattle.std.proofs.Common.{◌<◌, List, sym, ◌∙◌, subst}
use Rattle.std.specs.List.{All}
use Rattle.fs_check.specs.References.{wrong_pointers, fault_of}
use Rattle.fs_check.specs.declared.references.Pointer.{Pointer}
use Rattle.fs_check.specs.declared.list.Test.TheVariants.{IsUnwritten, IsMarkedFree, IsWild}
use Rattle.fs_check.proofs.Found.{six_lists, in_slice, wrong-held}
use Rattle.fs_check.proofs.list.list_faults.Goals as goal

pub push_wrong-requires : goal.push_wrong-requires
push_wrong-requires g c =
    subst (λ (ps : List Pointer). All (λ (p : Pointer). p.inode < 16) ps)
    (sym (c.as_slice-wrong.ensures.value ∙ c.read_pointers.ensures.wrong)) (wrong-held c.args.image.now)

pub push_wrong-requires-2 : goal.push_wrong-requires-2
push_wrong-requires-2 g c =
    subst (λ (ps : List Pointer). All (λ (p : Pointer). p.inode < 16) ps)
    (sym (c.as_slice-wrong.ensures.value ∙ c.read_pointers.ensures.wrong)) (wrong-held c.args.image.now)

pub push_wrong-requires-3 : goal.push_wrong-requires-3
push_wrong-requires-3 g c =
    subst (λ (ps : List Pointer). All (λ (p : Pointer). p.inode < 16) ps)
    (sym (c.as_slice-wrong.ensures.value ∙ c.read_pointers.ensures.wrong)) (wrong-held c.args.image.now)

pub returns : goal.returns
returns g c =
    let d = c.args.image.now in
    let pointers = c.read_pointers.new.wrong.items in
    let slice = c.as_slice-wrong.ensures.value in
    let same = c.read_pointers.ensures.wrong in
    six_lists d c.clear.new.self.items c.push_dangling.new.found.items c.push_twice.new.found.items
    c.push_wrong.new.found.items
    c.push_low_links.new.found.items c.push_wrong-2.new.found.items c.push_wrong-3.new.found.items
    c.clear.ensures.items
    c.in_ok-entry_counts.ensures.found
    c.in_ok-push_twice.ensures
    (in_slice (fault_of d IsUnwritten) c.as_slice-wrong.result.now pointers (wrong_pointers d) _ _ slice same
    c.in_ok-push_wrong.ensures)
    c.in_ok-push_low_links.ensures
    (in_slice (fault_of d IsMarkedFree) c.as_slice-wrong.result.now pointers (wrong_pointers d) _ _ slice same
    c.in_ok-push_wrong-2.ensures)
    (in_slice (fault_of d IsWild) c.as_slice-wrong.result.now pointers (wrong_pointers d) _ _ slice same
    c.in_ok-push_wrong-3.ensures)
