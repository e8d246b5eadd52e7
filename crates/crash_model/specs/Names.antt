-- Names of directory entries and of groups.
use Rattle.std.specs.Prelude.{ℕ, ◌≤◌, ◌<◌, List, length, Bool, ◌&&◌, ◌||◌, nat_le, IsTrue}
use Rattle.std.specs.List.{list_all}
use Rattle.crash_model.specs.declared.disk_bytes.TheConstants.{LONGEST_NAME}

-- a to z, or 0 to 9
abbrev pub is_name_byte : ℕ → Bool
is_name_byte c = (nat_le 97 c && nat_le c 122) || (nat_le 48 c && nat_le c 57)

-- the same, or A to Z
abbrev pub is_group_byte : ℕ → Bool
is_group_byte c = is_name_byte c || (nat_le 65 c && nat_le c 90)

-- 1 to 10 bytes that pass
pub record IsWord (passes : ℕ → Bool) (word : List ℕ) : Type 0 where
  pub some : 0 < length word
  pub few : length word ≤ LONGEST_NAME
  pub plain : IsTrue (list_all passes word)

abbrev pub IsName : List ℕ → Type 0
IsName name = IsWord is_name_byte name

abbrev pub IsGroupName : List ℕ → Type 0
IsGroupName name = IsWord is_group_byte name
