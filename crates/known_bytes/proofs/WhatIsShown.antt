-- What is shown where names lead, by cases.
use Rattle.std.proofs.Common.{◌≡◌, ℕ, Bool, true, false, Option, Some, None, refl}
use Rattle.std.specs.Prelude.{◌==◌, if◌then◌else◌}
use Rattle.patch_sets.specs.Sets.{Has}
use Rattle.crash_model.specs.declared.showing.Shown.{Shown}
use Rattle.crash_model.specs.declared.showing.Shown.TheVariants.{Nothing, Directory}
use Rattle.crash_model.specs.Disk.{Disk}
use Rattle.crash_model.specs.Layout.{kind_of, counts}
use Rattle.crash_model.specs.Paths.{path_shows, names_show, names_of, end_of, inode_shown, file_shown}
use Rattle.crash_model.specs.declared.names.Path.{Path}
use Rattle.known_bytes.specs.NamedIn.{IsEnd}

by_test : (P : Shown → Type 0) (first second : Shown) (test : Bool) → (test ≡ true → P first)
    → (test ≡ false → P second) → P (if test then first else second)
by_test P first second true first_so second_so = first_so refl
by_test P first second false first_so second_so = second_so refl

module _ (P : Shown → Type 0) (d : Disk) where
  pub so_of_directory : (dir : ℕ) → (counts d dir ≡ true → P Directory) → (counts d dir ≡ false → P Nothing)
      → P (if counts d dir then Directory else Nothing)
  so_of_directory dir first_so second_so = by_test P Directory Nothing (counts d dir) first_so second_so

  pub so_of_inode : (inode : ℕ)
      → ((kind_of d inode == 2) ≡ true → P (if counts d inode then Directory else Nothing))
      → ((kind_of d inode == 2) ≡ false → P (file_shown d inode)) → P (inode_shown d (Some inode))
  so_of_inode inode first_so second_so =
      by_test P (if counts d inode then Directory else Nothing) (file_shown d inode) (kind_of d inode == 2) first_so
      second_so

  so_of_end : (end : Option ℕ) (inodes : ℕ) (nowhere : Bool) → (nowhere ≡ true → P Nothing)
      → ((inode : ℕ) → Has inodes inode → P (inode_shown d (Some inode))) → IsEnd end inodes nowhere
      → P (inode_shown d end)
  so_of_end None inodes nowhere none each h = none h
  so_of_end (Some inode) inodes nowhere none each h = each inode h

  pub so_of_path : (path : Path) (inodes : ℕ) (nowhere : Bool) → (nowhere ≡ true → P Nothing)
      → ((inode : ℕ) → Has inodes inode → P (inode_shown d (Some inode)))
      → IsEnd (end_of d (Some 0) (names_of path)) inodes nowhere → P (path_shows d path)
  unfolding path_shows names_show
  so_of_path path inodes nowhere none each h =
      so_of_end (end_of d (Some 0) (names_of path)) inodes nowhere none each h
