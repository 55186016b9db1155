-- Why a file is not checked, in words.
use Rattle.std.specs.Prelude.{ℕ, List, codes}
use Rattle.std.specs.declared.io.ErrorKind.{ErrorKind}
use Rattle.std.specs.declared.io.ErrorKind.TheVariants as kind
use Rattle.occ_base.specs.declared.file_name.NameFault.{NameFault}
use Rattle.occ_base.specs.declared.file_name.NameFault.TheVariants as name
use Rattle.occ_files.specs.declared.refusal.Why.{Why}
use Rattle.occ_files.specs.declared.refusal.Why.TheVariants as why
use Rattle.occ_lines.specs.declared.text.TextFault.{TextFault}
use Rattle.occ_lines.specs.declared.text.TextFault.TheVariants as text

-- why the system refuses it
abbrev pub disk_words : ErrorKind → List ℕ
disk_words kind.PermissionDenied = codes "may not be read"
disk_words kind.IsADirectory = codes "is a folder"
disk_words _ = codes "cannot be read"

-- why its name is no name of a file
abbrev pub name_words : NameFault → List ℕ
name_words name.Length = codes "the name of a file has 1 to 64 bytes"
name_words name.Byte = codes "the name of a file has letters, digits, '.', '_' and '-' alone"
name_words name.Suffix = codes "the name of a file ends in .occ, .inc or .lbb"

-- why its text is not taken
abbrev pub text_words : TextFault → List ℕ
text_words text.TooLarge = codes "a text has 262,144 bytes at most"
text_words text.TooManyLines = codes "a text has 16,384 lines at most"
text_words text.Memory = codes "memory is refused"

abbrev pub why_words : Why → List ℕ
why_words why.NotThere = codes "there is no such file"
why_words why.NoUnit = codes "no unit: the name of a unit ends in .occ"
why_words (why.Disk kind) = disk_words kind
why_words (why.Name fault) = name_words fault
why_words (why.Text fault) = text_words fault
why_words why.Twice = codes "another file of that name is checked there"
why_words why.TooMany = codes "over 4,096 files would be checked together"
