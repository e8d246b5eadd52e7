use Rattle.std.proofs.Common.{rules, List, ◌∷◌, ◌++◌, codes, sym, ap, ◌∙◌}
use Rattle.std.proofs.Output.{has_written_of_eq}
use Rattle.std.specs.List.{flat_map}
use Rattle.crash_model.specs.Lists.{join_of}
use Rattle.crash_model.specs.Script.{words_of}
use Rattle.crash_model.specs.PathTexts.{path_text}
use Rattle.crash_model.specs.declared.names.Path.{Path}
use Rattle.crash_model.specs.declared.steps.Act.{Act}
use Rattle.crash_model.proofs.Words.{join_paths}
use Rattle.crash_model.proofs.steps.ActDisplay.fmt.Goals as goal

pub returns-in-Keep-clause-writes : goal.returns-in-Keep-clause-writes
returns-in-Keep-clause-writes g c plain ok =
    has_written_of_eq _ _ _ _ _
    (ap (λ (paths : List Path). codes "keep" ++ flat_map (λ (path : Path). 32 ∷ path_text path) paths)
    c.as_slice.ensures.value
    ∙ (join_paths (codes "keep") c.in-Keep.paths.items
    ∙ sym (ap (λ (act : Act). join_of 32 (words_of act)) c.in-Keep.is)))
    (search rules)
