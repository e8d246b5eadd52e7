use Rattle.std.proofs.Common.{sym, ◌∙◌}
use Rattle.fs_check.proofs.BrokenLines.{kept_from_none, none_from_kept, is_false, not_false}
use Rattle.fs_check.proofs.promises.keeps_promises.Goals as goal

pub returns : goal.returns
returns g c =
    let set = c.args.set in
    let d = c.args.image.now in
    let promises = c.args.promises.now in (
      λ is. kept_from_none set d promises (sym c.breaks_any.ensures ∙ is_false c.breaks_any.result is),
      λ kept. not_false c.breaks_any.result (c.breaks_any.ensures ∙ none_from_kept set d promises kept),
    )
