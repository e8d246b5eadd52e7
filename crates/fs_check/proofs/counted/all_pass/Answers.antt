use Rattle.std.proofs.Common.{◌<◌, List, sym, ap, subst, ◌∙◌}
use Rattle.std.specs.List.{All, filter_map}
use Rattle.fs_check.specs.References.{fault_of}
use Rattle.fs_check.specs.declared.references.Pointer.{Pointer}
use Rattle.fs_check.proofs.Found.{wrong-held}
use Rattle.fs_check.proofs.PointersPass.{passes-from_none, none-from_passes}
use Rattle.fs_check.proofs.counted.all_pass.Goals as goal

pub finds_none-requires : goal.finds_none-requires
finds_none-requires g c =
    subst (λ (ps : List Pointer). All (λ (p : Pointer). p.inode < 16) ps) (sym c.requires) (wrong-held c.args.image.now)

pub returns : goal.returns
returns g c =
    let d = c.args.image.now in
    let same = ap (filter_map (fault_of d c.args.test)) c.requires in (
      λ is. passes-from_none d c.args.test (sym same ∙ c.finds_none.ensures.0 is),
      λ none. c.finds_none.ensures.1 (same ∙ none-from_passes d c.args.test none),
    )
