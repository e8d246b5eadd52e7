use Rattle.crash_model.specs.Disk.{IsDisk}
use Rattle.crash_model.specs.Plan.{plan_of}
use Rattle.inode_fs.proofs.Counts.{ok-both, same-fault, plan-count}
use Rattle.inode_fs.proofs.Sounds.{plan-keeps}
use Rattle.inode_fs.proofs.Means.{plan-means}
use Rattle.inode_fs.proofs.Refused.{plan-refused}
use Rattle.inode_fs.proofs.Lands.{plan-lands, all-inside, with_changes-journal}
use Rattle.inode_fs.proofs.planning.plan.Goals as goal

pub returns-clause-count : goal.returns-clause-count
returns-clause-count g c =
    let d = c.args.image.now in
    let op = c.args.op.now in
    ok-both c.changes_of.result _ c.changes_of.ensures.changes c.changes_of.ensures.name
    (λ plan is name. plan-count d op plan.items is)

pub returns-clause-inside : goal.returns-clause-inside
returns-clause-inside g c =
    let d = c.args.image.now in
    let op = c.args.op.now in
    let disk : IsDisk d = c.blocks-blocks.ensures.disk in
    ok-both c.changes_of.result _ c.changes_of.ensures.changes c.changes_of.ensures.name
    (λ plan is name. all-inside d plan.items (plan-lands d op plan.items disk name is))

pub returns-clause-journal : goal.returns-clause-journal
returns-clause-journal g c =
    let d = c.args.image.now in
    let op = c.args.op.now in
    let disk : IsDisk d = c.blocks-blocks.ensures.disk in
    ok-both c.changes_of.result _ c.changes_of.ensures.changes c.changes_of.ensures.name
    (λ plan is name. with_changes-journal d plan.items disk (plan-lands d op plan.items disk name is))

pub returns-clause-refused : goal.returns-clause-refused
returns-clause-refused g c = λ sound fault.
    let d = c.args.image.now in
    let op = c.args.op.now in
    let disk : IsDisk d = c.blocks-blocks.ensures.disk in
    let same = same-fault c.changes_of.result (plan_of d op) (λ plan. plan.items) fault c.changes_of.ensures.changes in
    let refused = plan-refused d op disk sound fault in
    ((λ e. refused.0 (same.0 e)), λ h. same.1 (refused.1 h))

pub returns-clause-sound : goal.returns-clause-sound
returns-clause-sound g c = λ sound.
    let d = c.args.image.now in
    let op = c.args.op.now in
    let disk : IsDisk d = c.blocks-blocks.ensures.disk in
    ok-both c.changes_of.result _ c.changes_of.ensures.changes c.changes_of.ensures.name
    (λ plan is name. plan-keeps d op plan.items disk sound name is)

pub returns-clause-means : goal.returns-clause-means
returns-clause-means g c = λ sound.
    let d = c.args.image.now in
    let op = c.args.op.now in
    let disk : IsDisk d = c.blocks-blocks.ensures.disk in
    ok-both c.changes_of.result _ c.changes_of.ensures.changes c.changes_of.ensures.name
    (λ plan is name. plan-means d op plan.items disk sound name is)
