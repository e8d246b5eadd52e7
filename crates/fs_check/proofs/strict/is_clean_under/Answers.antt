use Rattle.std.proofs.Common.{◌≡◌, sym, ◌∙◌}
use Rattle.std.specs.Prelude.{None}
use Rattle.crash_model.proofs.Demanded.{clean_parts, clean_from_parts}
use Rattle.fs_check.proofs.strict.is_clean_under.Goals as goal

pub returns-in-None : goal.returns-in-None
returns-in-None g c =
    let demands = c.args.demands.now in
    let image = c.args.image.now in
    let set = c.args.set in
    let all : demands.counted ≡ None = sym c.counted.ensures ∙ c.in-None.is in (
      λ is.
          let parts = c.is_clean_of_all.ensures.0 is in
          clean_from_parts demands set image parts.keeping parts.whole parts.kept,
      λ clean.
          let parts = clean_parts demands set image all clean in
          c.is_clean_of_all.ensures.1 record { keeping = parts.0; whole = parts.1; kept = parts.2 },
    )
