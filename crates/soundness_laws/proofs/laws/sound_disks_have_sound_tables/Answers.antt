use Rattle.soundness_laws.proofs.ToTables.{sound-tables}
use Rattle.soundness_laws.proofs.FromTables.{tables-sound}
use Rattle.soundness_laws.proofs.laws.sound_disks_have_sound_tables.Goals as goal

pub returns : goal.returns
returns c = λ d disk. (sound-tables d disk, tables-sound d disk)
