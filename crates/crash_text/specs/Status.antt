-- What an exit status means.
use Rattle.std.specs.Prelude.{ℕ, ◌<◌, List, Option, Some, None}
use Rattle.command_line.specs.declared.Call.{Call}
use Rattle.crash_text.specs.Served.{IsServed}
use Rattle.question_model.specs.declared.question.Request.{Request}

-- the bytes of the call's script, where they are known: those of the source, and none of a file
abbrev pub script_of : Call → Option (List ℕ) → Option (List ℕ)
script_of call coming = elim call.script [ Some name ↦ None | None ↦ coming ]

-- the whole report on the script, with at least one failing set or fault
abbrev pub IsServedFailing : Option (List ℕ) → Request → Option (List ℕ) → Option (List ℕ) → Type 0
IsServedFailing script request before after =
    (number : ℕ) × (0 < number) × IsServed script request number before after
