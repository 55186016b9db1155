-- Which lines have components that are compared.
use Rattle.std.specs.Prelude.{Bool, true, false}
use Rattle.occ_typing.specs.Forms.{BlockKind, TypedForm}
use Rattle.occ_typing.specs.BlockVariants as block
use Rattle.occ_typing.specs.FormVariants as form

abbrev pub is_compared : BlockKind → Bool
is_compared block.Parallel = true
is_compared block.Sequence = false
is_compared block.Conditional = false
is_compared block.Alternation = false

-- the line is a PAR
abbrev pub are_compared : TypedForm → Bool
are_compared (form.Block kind r) = is_compared kind
are_compared other = false
