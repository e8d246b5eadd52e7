use Rattle.std.proofs.Common.{ℕ}
use Rattle.std.specs.Prelude.{Some}
use Rattle.crash_model.specs.Paths.{inode_shown}
use Rattle.known_bytes.specs.Reading.{InEachDisk}
use Rattle.known_bytes.proofs.AtHomes.{seen_none, seen_more, seen_all}
use Rattle.known_bytes.proofs.disk.KnownDisk.inodes_allowed.Goals as goal

pub loop-inode-init : goal.loop-inode-init
loop-inode-init g c = seen_none
    (λ inode. InEachDisk c.args.self.now (λ d. g.S.Showing.excuses c.args.showing.now (inode_shown d (Some inode))))
    c.args.inodes

pub inode_allowed-requires : goal.inode_allowed-requires
inode_allowed-requires g c = c.requires c.in-Some.inode
    (c.loop-inode.invariant.inside c.in-Some.inode c.in-Some.ensures.found.inside)

pub loop-inode-preserved : goal.loop-inode-preserved
loop-inode-preserved g c =
    let P : ℕ → Type 0 = λ inode.
    InEachDisk c.args.self.now (λ d. g.S.Showing.excuses c.args.showing.now (inode_shown d (Some inode))) in
    seen_more P P c.args.inodes c.loop-inode.left c.without_lowest-left.result c.in-Some.inode (λ other so. so)
    (c.without_lowest-left.ensures.others c.in-Some.inode c.in-Some.ensures.found)
    (c.inode_allowed.ensures c.if-not-inode_allowed.false) c.loop-inode.invariant

pub returns : goal.returns
returns g c = λ allowed inode is.
    seen_all (λ inode. InEachDisk c.args.self.now
    (λ d. g.S.Showing.excuses c.args.showing.now (inode_shown d (Some inode)))) c.args.inodes c.loop-inode.left
    c.in_default.ensures.found c.loop-inode.invariant inode is
