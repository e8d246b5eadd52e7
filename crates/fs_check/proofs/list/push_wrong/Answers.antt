use Rattle.fs_check.specs.References.{fault_of}
use Rattle.fs_check.proofs.Found.{found_more}
use Rattle.fs_check.proofs.list.push_wrong.Goals as goal

pub loop-pointer-preserved : goal.loop-pointer-preserved
loop-pointer-preserved g c =
    found_more (fault_of c.args.image.now c.args.test) c.args.pointers.now c.loop-pointer.pointer-index _
    c.args.found.now.items c.loop-pointer.found.items c.push_some.new.found.items c.fault_of.result
    c.loop-pointer-test.true c.fault_of.ensures c.in_ok-push_some.ensures c.loop-pointer.invariant
