-- Uses of parts.
use Rattle.std.specs.Prelude.{Bool, true, false}
use Rattle.occ_types.specs.declared.interface.UseKind.{UseKind}
use Rattle.occ_types.specs.declared.interface.UseKind.TheVariants as kind
use Rattle.occ_project.specs.declared.expanded.Location.{Location}
use Rattle.occ_usage_values.specs.declared.uses.Use.{Use}

-- whether it is a write
abbrev pub is_write : UseKind → Bool
is_write kind.Read = false
is_write kind.Write = true
is_write kind.Input = false
is_write kind.Output = false

-- the same use, at another line
abbrev pub at_line : Use → Location → Use
at_line u line = record u { line = line }
