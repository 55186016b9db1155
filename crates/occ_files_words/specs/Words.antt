-- What `occ` may be asked to do.
use Rattle.std.specs.Prelude.{◌<◌, length}
use Rattle.occ_files_words.specs.declared.words.Subcommand.{Subcommand}
use Rattle.occ_files_words.specs.declared.words.Subcommand.TheVariants as asked

-- a check is of at least one file
abbrev pub IsAllowed : Subcommand → Type 0
IsAllowed (asked.Check checking) = 0 < length checking.files.items
IsAllowed (asked.Explain code) = Unit {0}
IsAllowed (asked.Serve folders) = Unit {0}
