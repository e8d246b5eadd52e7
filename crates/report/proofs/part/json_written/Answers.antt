use Rattle.std.proofs.Common.{List, ℕ, ◌++◌, ap, codes}
use Rattle.serde_json.proofs.Texts.{print-outline}
use Rattle.report.specs.Written.{tokens_of}
use Rattle.report.proofs.part.json_written.Goals as goal

pub returns : goal.returns
unfolding tokens_of
returns g c = rw (
  c.in_ok-push_str.ensures.bytes,
  c.in-Ok.ensures.ok,
  c.into_inner.ensures.items,
  c.in_ok-write_json.ensures.added.before,
  c.new-out.ensures.before,
  c.new.ensures.items,
  c.in_ok-write_json.ensures.added.whole,
  c.new-out.ensures.tokens,
) (ap (λ (t : List ℕ). t ++ codes "\n") (print-outline (g.P.Part.json c.args.numbers c.args.report.now)))
