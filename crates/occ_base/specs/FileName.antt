-- What a file name is: letters, digits, '.', '_' and '-', at most 64, the last four of them '.occ', '.inc' or '.lbb'.
use Rattle.std.specs.Prelude.{ℕ, Bool, nat_le, nat_eq, ◌&&◌, ◌||◌, ◌==◌, ◌≡◌, List, length, codes, cond, Option, Some, None}
use Rattle.std.specs.Char.{is_ascii_alphanumeric}
use Rattle.std.specs.List.{list_all, ends_with}
use Rattle.occ_base.specs.declared.file_name.NameFault.{NameFault}
use Rattle.occ_base.specs.declared.file_name.NameFault.TheVariants as fault

-- the byte may stand in a file name
abbrev pub is_file_byte : ℕ → Bool
is_file_byte b = is_ascii_alphanumeric b || (b == 46 || (b == 95 || b == 45))

-- the name of a unit ends so
abbrev pub is_unit : List ℕ → Bool
is_unit bytes = ends_with nat_eq bytes (codes ".occ")

abbrev pub has_suffix : List ℕ → Bool
has_suffix bytes = is_unit bytes || (ends_with nat_eq bytes (codes ".inc") || ends_with nat_eq bytes (codes ".lbb"))

abbrev pub has_length : List ℕ → Bool
has_length bytes = nat_le 1 (length bytes) && nat_le (length bytes) 64

-- what is wrong with the bytes as a file name, the first that holds
abbrev pub name_fault : List ℕ → Option NameFault
name_fault bytes = cond (has_length bytes) (cond (list_all is_file_byte bytes) (cond (has_suffix bytes) None (Some fault.Suffix)) (Some fault.Byte)) (Some fault.Length)

abbrev pub IsFileName : List ℕ → Type 0
IsFileName bytes = name_fault bytes ≡ None
