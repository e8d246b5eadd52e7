use Rattle.std.proofs.Common.{ap, ◌∙◌}
use Rattle.std.proofs.lemmas.List.{take-replicate}
use Rattle.crash_model.specs.Disk.{with_bytes}
use Rattle.disk_image.proofs.image.Image.mark_used.Goals as goal

pub returns : goal.returns
returns g c = c.put.ensures ∙ ap (with_bytes c.args.self.now 1 0) (take-replicate c.args.count 128 1 c.requires)
