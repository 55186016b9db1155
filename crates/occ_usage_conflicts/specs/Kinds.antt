-- Kinds of uses.
use Rattle.std.specs.Prelude.{Bool, true, false, ◌&&◌, ◌||◌}
use Rattle.occ_types.specs.declared.interface.UseKind.{UseKind}
use Rattle.occ_types.specs.declared.interface.UseKind.TheVariants as kind
pub use Rattle.occ_usage_values.specs.Uses.{is_write}

abbrev pub is_read : UseKind → Bool
is_read kind.Read = true
is_read kind.Write = false
is_read kind.Input = false
is_read kind.Output = false

abbrev pub is_input : UseKind → Bool
is_input kind.Read = false
is_input kind.Write = false
is_input kind.Input = true
is_input kind.Output = false

abbrev pub is_output : UseKind → Bool
is_output kind.Read = false
is_output kind.Write = false
is_output kind.Input = false
is_output kind.Output = true

abbrev pub same_kind : UseKind → UseKind → Bool
same_kind k l = (is_read k && is_read l) || (is_write k && is_write l) || (is_input k && is_input l) || (is_output k && is_output l)
