use Rattle.std.proofs.Common.{refl, ◌∙◌}
use Rattle.std.specs.Prelude.{Some, if◌then◌else◌}
use Rattle.crash_model.specs.Layout.{counts}
use Rattle.crash_model.specs.Paths.{inode_shown, file_shown}
use Rattle.crash_model.specs.declared.showing.Shown.TheVariants.{Nothing, Directory}
use Rattle.known_bytes.proofs.Answered.{known_in}
use Rattle.known_bytes.proofs.disk.KnownDisk.inode_shows.Goals as goal

pub returns-then-is_directory : goal.returns-then-is_directory
returns-then-is_directory g c = known_in c.args.self.now (λ d. if counts d c.args.inode then Directory else Nothing)
    (λ d. inode_shown d (Some c.args.inode)) c.directory_shows.result
    (λ set m. rw (c.in_ok-is_directory.ensures set m ∙ c.if-is_directory.true) refl) c.directory_shows.ensures

pub returns-else-is_directory : goal.returns-else-is_directory
returns-else-is_directory g c = known_in c.args.self.now (λ d. file_shown d c.args.inode)
    (λ d. inode_shown d (Some c.args.inode)) c.file_shows.result
    (λ set m. rw (c.in_ok-is_directory.ensures set m ∙ c.if-is_directory.false) refl) c.file_shows.ensures
