use Rattle.std.proofs.Common.{◌≡◌, ℕ, List, Bool, ◌&&◌, ◌∙◌, sym, arith}
use Rattle.std.specs.Prelude.{bytes_eq}
use Rattle.crash_model.specs.Disk.{Disk}
use Rattle.crash_model.specs.Layout.{is_entry, is_live, target_of, spelling_of}
use Rattle.crash_model.proofs.EachBelow.{first_below-none, first_below-lowest}
use Rattle.crash_model.specs.Plan.{name_spelling, is_named}
use Rattle.path_lookup.proofs.lookup.entry_named.Goals as goal

-- a test of the spelling is a test of the name
named : (d : Disk) (dir k : ℕ) (name spelling : List ℕ) (test : Bool) → spelling ≡ name_spelling name
    → test ≡ ((is_entry d dir k && is_live d (target_of d dir k)) && bytes_eq (spelling_of d dir k) spelling)
    → is_named d dir name k ≡ test
named d dir k name spelling test same is = rw (← same) (sym is)

pub returns-then-is_spelled-clause-value : goal.returns-then-is_spelled-clause-value
returns-then-is_spelled-clause-value g c =
    let d = c.args.image.now in
    sym (first_below-lowest 10 c.loop-k.k (is_named d c.args.dir c.args.name.now) (omega arith) c.loop-k.invariant
    (named d c.args.dir c.loop-k.k c.args.name.now _ _ (c.as_slice.ensures.value ∙ c.spelled-spelled.ensures.bytes)
    c.is_spelled.ensures ∙ c.if-is_spelled.true))

pub returns-clause-value : goal.returns-clause-value
returns-clause-value g c = sym (first_below-none 10 (is_named c.args.image.now c.args.dir c.args.name.now)
    (λ k below. c.loop-k.invariant k (omega arith)))
