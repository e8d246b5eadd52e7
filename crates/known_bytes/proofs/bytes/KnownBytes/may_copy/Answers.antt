use Rattle.std.proofs.Common.{◌≡◌, ◌≢◌, ℕ, ◌+◌, ◌-◌, inl, inr, arith, sym, subst, ◌∙◌}
use Rattle.std.proofs.lemmas.Bool.{cases_eq, false≢true}
use Rattle.crash_model.specs.Disk.{byte}
use Rattle.known_bytes.specs.Family.{InEach}
use Rattle.known_bytes.proofs.bytes.KnownBytes.may_copy.Goals as goal
use Rattle.known_bytes.proofs.bytes.KnownBytes.may_copy.Goals.{else-at-place-via-then-at-place+else-may_name}
use Rattle.known_bytes.proofs.bytes.KnownBytes.may_copy.Goals.{else-at-place-via-else-at-place}

pub loop-place-preserved : goal.loop-place-preserved
loop-place-preserved g c = λ place header less from behind. elim (cases_eq place c.loop-place.place) [
  | inl same ↦ elim c.else-at-place.branch [
    | else-at-place-via-then-at-place+else-may_name w ↦
        let f = c.args.self.now in
        let there : c.args.at - 1 - c.loop-place.place ≡ header = omega arith in
        let never = w.may_name.ensures (λ is. false≢true (sym w.if-may_name.false ∙ is)) in
        subst (λ (n : ℕ). InEach f (λ d. byte d header (3 + n) ≢ c.args.block)) (sym same)
        (subst (λ (h : ℕ). InEach f (λ d. byte d h (3 + c.loop-place.place) ≢ c.args.block)) there never)
    | else-at-place-via-else-at-place w ↦ absurd (omega (arith, w.if-at-place.false))
  ]
  | inr other ↦ c.loop-place.invariant place header (omega arith) from behind
]

pub returns : goal.returns
returns g c = λ not_so set m is.
    c.loop-place.invariant is.place is.header (omega (arith, c.loop-place-test.false, is.few)) is.from is.behind set m
    is.names
