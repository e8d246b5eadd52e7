-- How many lines wait.
use Rattle.std.proofs.Common.{◌≡◌, ◌≤◌, List, length, refl, sym, subst, ap, ◌∙◌}
use Rattle.std.specs.Borrow.{Bor}
use Rattle.std.specs.Prelude.{Some, None, option_map, slice_get}
use Rattle.std.specs.Slice.{IsItemAt}
use Rattle.std.proofs.lemmas.List.{length-map}
use Rattle.std.proofs.lemmas.Option.{slice_get-map, slice_get_read}
use Rattle.crash_model.specs.Waiting.{Wait}
use Rattle.crash_model.specs.declared.refusals.RunFault.TheVariants.{TooManySyncs}
use Rattle.question_model.specs.declared.question.TheConstants.{MAX_SYNCS}
use Rattle.traced_patches.specs.Labels.{wait_by, waits_by}
use Rattle.traced_patches.specs.declared.labels.Wait as code
use Rattle.crash_text.specs.Lines.{HasTooManyWaits}

-- as many as the tracer has
pub same_length : (waits : List code.Wait) (all : List Wait) → waits_by waits ≡ all → length waits ≡ length all
same_length waits all same = sym (length-map waits wait_by) ∙ ap (λ (ws : List Wait). length ws) same

-- not more than can be asked about, where there is none past these
pub none_past : (waits : List code.Wait) (all : List Wait) → waits_by waits ≡ all → IsItemAt waits MAX_SYNCS None
    → length all ≤ MAX_SYNCS
none_past waits all same is = subst (λ n. n ≤ MAX_SYNCS) (same_length waits all same) is.3

-- or this one is
pub one_past : (waits : List code.Wait) (all : List Wait) (wait : Bor code.Wait) → waits_by waits ≡ all
    → IsItemAt waits MAX_SYNCS (Some wait) → HasTooManyWaits all (TooManySyncs wait.now.step.now.line)
one_past waits all wait same is =
    let at : slice_get waits MAX_SYNCS ≡ Some wait.now =
    slice_get_read waits (length waits) MAX_SYNCS wait.now refl is.3.0 is.1 in (
      wait_by wait.now,
      ap (λ (ws : List Wait). slice_get ws MAX_SYNCS) (sym same)
          ∙ (slice_get-map wait_by waits MAX_SYNCS ∙ ap (option_map wait_by) at),
      refl,
    )
