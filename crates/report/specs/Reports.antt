-- The report on the failing sets of a script.
use Rattle.std.specs.Prelude.{ℕ, List, ◌++◌, length, Bool, codes}
use Rattle.std.specs.List.{flat_map}
use Rattle.crash_model.specs.Promises.{Promise}
use Rattle.crash_model.specs.Reasons.{ExplainedPatch}
use Rattle.crash_model.specs.Waiting.{Wait}
use Rattle.crash_model.specs.declared.settings.Settings.{Settings}
use Rattle.report.specs.Texts.{count_line}
use Rattle.report.specs.Parts.{Section}
use Rattle.report.specs.Crashes.{section_text}
use Rattle.report.specs.Explained.{patch_text, wait_text, promise_text}
use Rattle.report.specs.Head.{settings_text}

-- What each of them says of the graph: the settings, how many patches and closed sets there are, and if patches are
-- explained the blocks of the base, what the patches are, which lines wait and what is promised; and whether a line
-- waits or promises then.
pub record Head : Type 0 where
  pub settings : Settings
  pub patches : ℕ
  pub closed : ℕ
  pub base : List (List ℕ)
  pub trace : List ExplainedPatch
  pub waits : List Wait
  pub promises : List Promise
  pub promising : Bool

unfoldable pub head_text : Head → List ℕ
head_text h =
    settings_text h.settings
    ++ count_line (codes "patches") h.patches
    ++ count_line (codes "closed") h.closed

unfoldable pub explained_text : Head → List ℕ
explained_text h =
    flat_map patch_text h.trace ++ flat_map wait_text h.waits ++ flat_map promise_text h.promises

pub record FailingSets : Type 0 where
  pub head : Head
  pub sections : List Section

abbrev pub sets_text : FailingSets → List ℕ
sets_text r =
    head_text r.head
    ++ count_line (codes "failing") (length r.sections)
    ++ explained_text r.head
    ++ flat_map section_text r.sections
