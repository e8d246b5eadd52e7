use Rattle.std.proofs.Common.{◌≡◌, arith, sym, subst}
use Rattle.std.proofs.lemmas.Grind.{common_steps}
use Rattle.crash_model.specs.Disk.{Disk, IsGeometry}
use Rattle.crash_model.specs.Generations.{new_disk}
use Rattle.crash_model.specs.Sound.{IsSound, HasZeroJournal}
use Rattle.disk_image.proofs.Formatted.{sound-new_disk, zero-journal-new_disk}
use Rattle.disk_image.proofs.image.Image.formatted_with.Goals as goal

pub returns-clause-sound : goal.returns-clause-sound
returns-clause-sound g c =
    let good : IsGeometry c.args.blocks c.args.journal = record {
      least = omega arith;
      most = omega arith;
      room = omega arith;
    } in
    let made : c.put-3.new.self ≡ new_disk c.args.blocks c.args.journal c.args.generations =
    grind (arith, common_steps) in
    subst (λ (d : Disk). IsSound d × HasZeroJournal d) (sym made) (
      sound-new_disk c.args.blocks c.args.journal c.args.generations good,
      zero-journal-new_disk c.args.blocks
          c.args.journal c.args.generations good,
    )
