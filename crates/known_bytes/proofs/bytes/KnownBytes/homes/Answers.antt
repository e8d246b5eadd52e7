use Rattle.std.proofs.Common.{◌≡◌, ◌+◌, ◌<◌, ℕ, List, Bool, ◌&&◌, true, false, Option, arith, refl, sym, ap, subst, ◌∙◌}
use Rattle.std.specs.Prelude.{◌==◌, MatchOption, Result, Ok, Err}
use Rattle.std.specs.List.{All}
use Rattle.std.specs.Result.{result_eq}
use mathlib.Core.Bool.{beq}
use lib.Dec.{eqb}
use Rattle.crash_model.specs.Disk.{Disk, byte, block_of}
use Rattle.crash_model.specs.Replay.{is_header}
use Rattle.known_bytes.specs.Reading.{IsKnown, left}
use Rattle.known_bytes.specs.Headers.{HasNoHeader, HasTargets, AreNoted, may_have}
use Rattle.known_bytes.proofs.Walked.{walking_start, walking_step, walking_end, none_may, out_of_journal, all_blocks}
use Rattle.known_bytes.proofs.Walked.{err_small, IsWalking}
use Rattle.known_bytes.proofs.bytes.KnownBytes.homes.Goals as goal

is_none : (r : Result Bool ℕ) → true ≡ result_eq beq eqb r (Ok false) → r ≡ Ok false
is_none (Ok true) h = absurd (cc)
is_none (Ok false) h = refl
is_none (Err id) h = absurd (cc)

pub loop-at-init : goal.loop-at-init
loop-at-init g c = walking_start c.args.self.now c.own-homes.result.blocks c.own-homes.result.others
    c.own-homes.result.asks c.base.ensures.disk c.own-homes.ensures.own c.own-homes.ensures.settled

pub returns-in_default-clause-ok : goal.returns-in_default-clause-ok
returns-in_default-clause-ok g c =
    let f = c.args.self.now in
    let at = c.loop-at.at in
    let none = subst (λ (o : Option _). MatchOption o (HasNoHeader f at) (λ ts. HasTargets f at ts.items))
    c.in_default.is
    c.in_ok-targets.ensures.ok in
    walking_end f c.loop-at.homes.blocks c.loop-at.homes.others c.loop-at.homes.asks at c.loop-at.transaction
    c.loop-at.comes
    c.base.ensures.alike (λ set m. none set m c.loop-at.transaction) c.loop-at.invariant

pub returns-then-not-may_have-clause-ok : goal.returns-then-not-may_have-clause-ok
returns-then-not-may_have-clause-ok g c =
    let f = c.args.self.now in
    let at = c.loop-at.at in
    let ts = c.in-Some.targets.items in
    let shape = subst (λ (o : Option _). MatchOption o (HasNoHeader f at) (λ ts. HasTargets f at ts.items)) c.in-Some.is
    c.in_ok-targets.ensures.ok in
    let never : may_have f.base at ts ≡ false =
    ap (λ (d : Disk). may_have d at ts) (sym c.base-in-loop-at.ensures.base)
    ∙ ap (λ (xs : List ℕ). may_have c.base-in-loop-at.result.now at xs) (sym c.deref.ensures.0)
    ∙ sym c.may_have.ensures ∙ c.if-not-may_have.true in
    walking_end f c.loop-at.homes.blocks c.loop-at.homes.others c.loop-at.homes.asks at c.loop-at.transaction
    c.loop-at.comes
    c.base.ensures.alike (λ set m. none_may f at ts c.base.ensures.alike shape never
    (omega (
      arith,
      c.loop-at.invariant.inside,
      c.loop-at-test.true,
      c.journal-end.ensures.value,
      c.base.ensures.disk.room,
    ))
    set m c.loop-at.transaction) c.loop-at.invariant

pub has_header-is_there-requires-clause-targets : goal.has_header-is_there-requires-clause-targets
has_header-is_there-requires-clause-targets g c =
    let f = c.args.self.now in
    let at = c.loop-at.at in
    let shape = subst (λ (o : Option _). MatchOption o (HasNoHeader f at) (λ ts. HasTargets f at ts.items)) c.in-Some.is
    c.in_ok-targets.ensures.ok in
    subst (λ (xs : List ℕ). HasTargets f at xs) (sym c.deref-in-loop-at.ensures.0) shape

pub returns-then-eq-clause-ok : goal.returns-then-eq-clause-ok
returns-then-eq-clause-ok g c =
    let f = c.args.self.now in
    let at = c.loop-at.at in
    let transaction = c.loop-at.transaction in
    let none = subst (λ (r : Result Bool ℕ). IsKnown (left f) (λ d. is_header d at transaction (block_of d at)) r)
    (is_none c.has_header-is_there.result c.if-eq.ensures)
    c.has_header-is_there.ensures in
    walking_end f c.loop-at.homes.blocks c.loop-at.homes.others c.loop-at.homes.asks at transaction c.loop-at.comes
    c.base.ensures.alike none c.loop-at.invariant

pub note-requires-clause-known : goal.note-requires-clause-known
note-requires-clause-known g c =
    let f = c.args.self.now in
    let at = c.loop-at.at in
    let ts = c.in-Some.targets.items in
    let may : may_have f.base at ts ≡ true =
    ap (λ (d : Disk). may_have d at ts) (sym c.base-in-loop-at.ensures.base)
    ∙ ap (λ (xs : List ℕ). may_have c.base-in-loop-at.result.now at xs) (sym c.deref.ensures.0)
    ∙ sym c.may_have.ensures ∙ c.if-not-may_have.false in
    subst (λ (xs : List ℕ). All (λ target. target < 128) xs) (sym c.deref-in-loop-at-2.ensures.0)
    (all_blocks f.base at ts c.base.ensures.disk may)

pub note-requires-clause-patch : goal.note-requires-clause-patch
note-requires-clause-patch g c =
    let f = c.args.self.now in
    let at = c.loop-at.at in
    let transaction = c.loop-at.transaction in
    let test = c.loop-at.invariant.test in
    let read = c.both-is_read.ensures (left f) (λ d. is_header d at transaction (block_of d at)) test
    c.has_header-is_there.ensures
    c.loop-at.invariant.known in
    err_small f (λ d. (is_header d at transaction (block_of d at) && test d) && (byte d at 0 == 0xC7))
    c.both-copied.result
    c.base.ensures.few
    (c.both-copied.ensures (left f) (λ d. is_header d at transaction (block_of d at) && test d)
    (λ d. byte d at 0 == 0xC7) read
    c.byte_is.ensures)

pub loop-at-preserved : goal.loop-at-preserved
loop-at-preserved g c =
    let f = c.args.self.now in
    let at = c.loop-at.at in
    let transaction = c.loop-at.transaction in
    let ts = c.in-Some.targets.items in
    let test = c.loop-at.invariant.test in
    let shape = subst (λ (o : Option _). MatchOption o (HasNoHeader f at) (λ ts. HasTargets f at ts.items)) c.in-Some.is
    c.in_ok-targets.ensures.ok in
    let may : may_have f.base at ts ≡ true =
    ap (λ (d : Disk). may_have d at ts) (sym c.base-in-loop-at.ensures.base)
    ∙ ap (λ (xs : List ℕ). may_have c.base-in-loop-at.result.now at xs) (sym c.deref.ensures.0)
    ∙ sym c.may_have.ensures ∙ c.if-not-may_have.false in
    let read = c.both-is_read.ensures (left f) (λ d. is_header d at transaction (block_of d at)) test
    c.has_header-is_there.ensures
    c.loop-at.invariant.known in
    let copied = c.both-copied.ensures (left f) (λ d. is_header d at transaction (block_of d at) && test d)
    (λ d. byte d at 0 == 0xC7) read c.byte_is.ensures in
    let next =
    c.both-comes.ensures (left f) test (λ d. is_header d at transaction (block_of d at)) c.loop-at.invariant.known
    c.has_header-is_there.ensures in
    let new = c.note.new.self in
    subst (λ (n : ℕ). IsWalking f new.blocks new.others new.asks (at + (1 + n)) (transaction + 1) c.both-comes.result)
    (sym c.len.ensures.value)
    (walking_step f c.loop-at.homes.blocks c.loop-at.homes.others new.blocks new.others c.loop-at.homes.asks new.asks
    at transaction c.loop-at.comes ts c.base.ensures.disk c.base.ensures.alike c.loop-at.invariant may shape
    c.has_header-is_there.result c.both-copied.result c.both-comes.result c.has_header-is_there.ensures copied next
    (subst (λ (xs : List ℕ). AreNoted c.both-copied.result c.loop-at.homes.blocks c.loop-at.homes.others new.blocks
    new.others (at + 1) xs) c.deref-in-loop-at-2.ensures.0 c.note.ensures.noted) c.note.ensures.asks)

pub returns-clause-ok : goal.returns-clause-ok
returns-clause-ok g c =
    let f = c.args.self.now in
    walking_end f c.loop-at.homes.blocks c.loop-at.homes.others c.loop-at.homes.asks c.loop-at.at c.loop-at.transaction
    c.loop-at.comes c.base.ensures.alike
    (out_of_journal f c.loop-at.at c.loop-at.transaction c.base.ensures.alike
    (omega (
      arith,
      c.loop-at-test.false,
      c.journal-end.ensures.value,
      ap (λ (d : Disk). d.journal)
          c.base.ensures.base,
    )))
    c.loop-at.invariant
