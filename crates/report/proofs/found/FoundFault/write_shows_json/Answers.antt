use Rattle.report.proofs.Adding.{ends, no_tokens, string_json, tokens_then}
use Rattle.report.proofs.found.FoundFault.write_shows_json.Goals as goal

pub returns : goal.returns
returns c = ends c.string.result c.string.ensures.ok (λ last. rw c.in-Some.is (tokens_then
    (string_json {b = c.string.new.self} (rw (
      c.as_str.ensures.value,
      c.in_ok-write_joined.ensures.whole,
      c.new-text.ensures.bytes,
      c.as_slice.ensures.value,
    ) at last) c.string.ensures.room.0).added no_tokens))
