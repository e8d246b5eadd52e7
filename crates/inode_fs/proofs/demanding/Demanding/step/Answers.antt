use Rattle.std.proofs.Common.{refl, subst}
use Rattle.std.specs.Prelude.{Some, option_map}
use Rattle.inode_fs.specs.Demanding.{SoFar, TakesStep, image_demands}
use Rattle.inode_fs.proofs.SoFar.{taken}
use Rattle.inode_fs.proofs.demanding.Demanding.step.Goals as goal

pub returns-in_ok-add_disk : goal.returns-in_ok-add_disk
returns-in_ok-add_disk g c =
    let inside = c.self.inside in
    let old : SoFar = record {
      disk = inside.disk;
      demands = image_demands inside.kept (option_map (λ v. v.items) inside.disks);
    } in
    let new : SoFar = record {
      disk = Some c.advance.new.disk;
      demands = image_demands c.still_kept-self-inside.result (option_map (λ v. v.items) c.add_disk.new.disks);
    } in
    subst (λ (before : SoFar). TakesStep c.args.step.now before new) c.self.view_is
    (taken c.args.step.now old new c.in-Some.disk c.advance.new.disk c.in-Some.is refl c.advance.ensures
    c.still_kept-self-inside.ensures c.in_ok-add_disk.ensures refl refl)
