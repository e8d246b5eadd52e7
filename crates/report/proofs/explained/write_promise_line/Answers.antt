use Rattle.std.proofs.Common.{◌≡◌, List, ℕ, ◌++◌, cond, codes, decimal, string_bytes, append_assoc, ◌∙◌}
use Rattle.report.specs.Explained.{promise_line}
use Rattle.report.proofs.Adding.{added, ends, pushed, then}
use Rattle.report.proofs.explained.write_promise_line.Goals as goal

grouped : (old line word : List ℕ) → old ++ (codes "promise line " ++ (line ++ (codes " " ++ word)))
    ≡ old ++ (codes "promise line " ++ line ++ codes " " ++ word)
grouped old line word = simp append_assoc

pub returns : goal.returns
unfolding promise_line
returns g c =
    let word : List ℕ = cond c.promise.inside.keeps (codes "keep") (codes "hold") in
    ends c.push_str.result (pushed c.push_str.result _ _ c.push_str.ensures.bytes) (λ last.
    rw (← c.promise.view_is) (then
    (then (added ((rw (c.word_of-word.ensures, ← c.promise.view_is) at c.in_ok-write.ensures.bytes)
    ∙ grouped (string_bytes c.args.out.now) (decimal c.promise.inside.line) word))
    (rw c.as_slice.ensures.value at c.in_ok-write_spaced.ensures))
    (added last)))
