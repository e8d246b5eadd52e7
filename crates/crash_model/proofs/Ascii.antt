-- Names and hexadecimal digits are ASCII text.
use Rattle.std.proofs.Common.{◌≡◌, ℕ, ◌<◌, Bool, true, List, [], ◌∷◌, arith, refl, IsUtf8}
use Rattle.std.specs.Str.{IsAscii}
use Rattle.std.specs.List.{list_all}
use Rattle.std.proofs.lemmas.Bool.{and_parts}
use Rattle.std.proofs.lemmas.Bool.Decides.{nat_tests}
use Rattle.std.proofs.lemmas.Str.{IsUtf8-from_ascii}
use Rattle.std.proofs.lemmas.Str.Ascii.{IsAscii-nil, IsAscii-cons}
use Rattle.hex.specs.Hex.{encode_lower, lower_digits}
use Rattle.hex.proofs.HexLemmas.{IsAscii-encode_with}
use Rattle.crash_model.specs.Names.{is_name_byte, is_group_byte, IsName, IsGroupName}

low : (c : ℕ) → is_name_byte c ≡ true → c < 128
low c e = grind (arith, nat_tests)

low_group : (c : ℕ) → is_group_byte c ≡ true → c < 128
low_group c e = grind (arith, nat_tests)

ascii : (passes : ℕ → Bool) → ((c : ℕ) → passes c ≡ true → c < 128) → (word : List ℕ)
    → list_all passes word ≡ true → IsAscii word
ascii passes below [] e = IsAscii-nil
ascii passes below (c ∷ cs) e = let both = and_parts (passes c) (list_all passes cs) e in
    IsAscii-cons c cs (below c both.0) (ascii passes below cs both.1)

pub name_utf8 : (name : List ℕ) → IsName name → IsUtf8 name
name_utf8 name is = IsUtf8-from_ascii name (ascii is_name_byte low name is.plain)

pub group_utf8 : (name : List ℕ) → IsGroupName name → IsUtf8 name
group_utf8 name is = IsUtf8-from_ascii name (ascii is_group_byte low_group name is.plain)

pub hex_ascii : (bytes : List ℕ) → IsAscii (encode_lower bytes)
hex_ascii bytes = IsAscii-encode_with lower_digits bytes (ascii is_name_byte low lower_digits refl)
