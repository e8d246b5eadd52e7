use Rattle.std.proofs.Common.{◌≡◌, ℕ, ◌+◌, ◌⊎◌, ◌<◌, Ok, inl, inr, false, arith, sym, subst}
use Rattle.std.proofs.lemmas.Bool.{cases_lt}
use Rattle.patch_sets.specs.Sets.{Has}
use Rattle.known_bytes.specs.Reading.{IsKnown}
use Rattle.known_bytes.specs.Reached.{names_live}
use Rattle.known_bytes.specs.declared.reach.ReachedInodes.{ReachedInodes}
use Rattle.known_bytes.proofs.Named.{IsReading, reading_on, reading_add, few_live, known_few}
use Rattle.known_bytes.proofs.disk.KnownDisk.read.Goals as goal
use Rattle.known_bytes.proofs.disk.KnownDisk.read.Goals.{then-not-is_settled, else-not-is_settled}

pub add-requires-clause-dir : goal.add-requires-clause-dir
add-requires-clause-dir g c =
    let same : c.args.dir ≡ c.from-then-not-is_settled.result = sym c.from-then-not-is_settled.ensures in
    let few : c.args.dir < 16 = c.requires.dir.0 in (
      omega arith,
      subst (λ (k : ℕ). Has c.loop-inode.reach.may k) same
          (c.loop-inode.invariant.grown c.args.dir c.requires.dir.1),
    )

pub add-requires-clause-patch : goal.add-requires-clause-patch
add-requires-clause-patch g c = known_few c.args.self.now (names_live c.args.dir c.loop-inode.inode)
    c.names_live-named.result c.base-base.ensures.few c.names_live-named.ensures

pub loop-inode-init : goal.loop-inode-init
loop-inode-init g c = record {
  reach = c.requires.reach;
  grown = λ id there. there;
  read = λ i less. absurd (omega arith);
}

pub loop-inode-preserved : goal.loop-inode-preserved
loop-inode-preserved g c =
    let r = c.args.self.now in
    let dir = c.args.dir in
    let i = c.loop-inode.inode in
    let before = c.args.reach.now.may in
    let was = c.loop-inode.reach in
    elim c.if-not-is_settled.branch [
      | then-not-is_settled w ↦
          let from = w.from-then-not-is_settled in
          let from_inode = w.from-then-not-is_settled-2 in
          let known : IsKnown r (names_live from.result from_inode.result) w.names_live-named.result =
          subst (λ (k : ℕ). IsKnown r (names_live k from_inode.result) w.names_live-named.result) (sym from.ensures)
          (subst (λ (k : ℕ). IsKnown r (names_live dir k) w.names_live-named.result) (sym from_inode.ensures)
          w.names_live-named.ensures) in
          let new = w.add.new.self in
          subst (λ (x : ReachedInodes). IsReading r dir (i + 1) before x.sure x.may x.asks) (sym w.reach-is)
          (reading_add r dir i before was.sure was.may was.asks c.loop-inode.invariant new.sure new.may new.asks
          w.names_live-named.result (w.add.ensures.reach r c.loop-inode.invariant.reach known) w.add.ensures.grown
          (subst (λ (k : ℕ). (w.names_live-named.result ≡ Ok false) ⊎ Has new.may k) from_inode.ensures
          w.add.ensures.added) w.names_live-named.ensures)
      | else-not-is_settled w ↦
          subst (λ (x : ReachedInodes). IsReading r dir (i + 1) before x.sure x.may x.asks) (sym w.reach-is)
          (reading_on r dir i before was.sure was.may was.asks c.loop-inode.invariant
          (subst (λ (k : ℕ). Has was.may k) c.from-in-loop-inode.ensures
          (c.is_settled.ensures w.if-not-is_settled.false)))
    ]

pub returns : goal.returns
returns g c =
    let r = c.args.self.now in
    let old = c.loop-inode.invariant in
    record {
      reach = old.reach;
      grown = old.grown;
      all = λ inode outside. elim (cases_lt inode 16) [
        | inl less ↦ old.read inode (omega arith) outside
        | inr high ↦ few_live r c.args.dir inode (λ less. omega arith)
      ];
    }
