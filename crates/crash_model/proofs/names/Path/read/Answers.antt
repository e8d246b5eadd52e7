use Rattle.std.proofs.Common.{◌≡◌, ◌≢◌, ◌≤◌, [], ◌∷◌, ◌++◌, List, ℕ, length, arith, ap, refl}
use Rattle.std.proofs.lemmas.List.{length_push}
use Rattle.std.proofs.lemmas.List.Elements.{All-push}
use Rattle.std.proofs.lemmas.Bool.Decides.{nat_tests}
use Rattle.crash_model.specs.Names.{IsName}
use Rattle.crash_model.specs.PathTexts.{IsPathWord}
use Rattle.crash_model.proofs.Paths.{path_has_first, path_goes_on, slash_text-push, path_ends}
use Rattle.crash_model.proofs.names.Path.read.Goals as goal

not_empty : (xs : List ℕ) → length xs ≢ 0 → xs ≢ []
not_empty xs some e = some (ap length e)

pub returns-in_err-last : goal.returns-in_err-last
returns-in_err-last c =
    rw c.from_residual.ensures (path_has_first c.args.text.now (rw c.as_bytes.ensures.value at c.in_err-last.ensures))

pub returns-then-is_full : goal.returns-then-is_full
returns-then-is_full c word =
    let loop = c.loop-rest in
    let kept = loop.invariant in
    let on = path_goes_on c.args.text.now (loop.through.items ++ loop.last ∷ []) loop.rest.now kept.names kept.text
    kept.ends (not_empty _ (grind (arith, nat_tests))) word in
    let lengths = length_push loop.through.items loop.last in
    grind (arith, nat_tests)

pub returns-in_err-name : goal.returns-in_err-name
returns-in_err-name c =
    let loop = c.loop-rest in
    let kept = loop.invariant in
    let none : ¬ (IsPathWord c.args.text.now) = λ word. c.in_err-name.ensures
    (path_goes_on c.args.text.now (loop.through.items ++ loop.last ∷ []) loop.rest.now kept.names kept.text
    kept.ends (not_empty _ (grind (arith, nat_tests))) word).0 in
    rw c.from_residual-in_err-name.ensures none

pub loop-rest-preserved : goal.loop-rest-preserved
loop-rest-preserved c =
    let loop = c.loop-rest in
    let kept = loop.invariant in
    let first = c.in_ok-name.ensures in
    let names = loop.through.items ++ loop.last ∷ [] in
    let through : c.push.new.self.items ≡ names = cc in
    let last : c.replace.new.dest ≡ c.in_ok-name.name = cc in
    let lengths = length_push loop.through.items loop.last in
    let few : length names ≤ 3 = grind (arith, nat_tests) in
    rw (through, last) (record {
      few = few;
      names = All-push IsName names c.in_ok-name.name kept.names first.is_name;
      text = slash_text-push names c.in_ok-name.name loop.rest.now c.args.text.now c.in_ok-name.after.now kept.text
          first.whole;
      ends = first.ends;
    })

pub returns : goal.returns
returns c =
    let loop = c.loop-rest in
    let kept = loop.invariant in
    path_ends loop.through loop.last loop.rest.now c.args.text.now kept.few kept.names kept.text
    (empty _ (grind (arith, nat_tests)))
  where
    empty : (xs : List ℕ) → length xs ≡ 0 → xs ≡ []
    empty [] e = refl
    empty (x ∷ xs) e = absurd (omega arith)
