use Rattle.std.proofs.Common.{◌≡◌, List, arith, ap, sym, ◌∙◌, map, vec_len}
use Rattle.std.proofs.lemmas.Bool.{eqb-true}
use Rattle.arrayvec.specs.ArrayVec.{ArrayVec}
use Rattle.workload_search.specs.Tries.{items_of}
use Rattle.workload_search.proofs.Kept.{without_first, none_first}
use Rattle.workload_search.proofs.searching.drop_first.Goals as goal

pub returns-then-is_empty : goal.returns-then-is_empty
returns-then-is_empty g c = λ first rest is.
    let sequences = c.args.sequences.now in
    let none : vec_len sequences ≡ 0 = eqb-true (vec_len sequences) 0 (sym c.is_empty.ensures ∙ c.if-is_empty.true) in
    absurd (none_first sequences.items first rest is (omega (arith, none, sequences.ok.0)))

pub returns : goal.returns
returns g c = λ first rest is.
    ap (λ (xs : List (ArrayVec _)). map items_of xs) c.remove-first.ensures.items
    ∙ without_first c.args.sequences.now.items first rest is
