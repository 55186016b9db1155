-- Data types as parts of a tag or variant.
use Rattle.std.specs.Prelude.{ℕ, List, [], ◌∷◌, Option, Some, None}
use Rattle.occ_forms_expressions.specs.declared.tree.Builtin.TheVariants as uv
use Rattle.occ_forms_expressions.specs.declared.tree.DataBase.{DataBase}
use Rattle.occ_forms_expressions.specs.declared.tree.DataBase.TheVariants as da
use Rattle.occ_forms_expressions.specs.declared.tree.DataForm.{DataForm}
use Rattle.occ_forms_expressions.specs.declared.tree.Dimension.{Dimension}
use Rattle.occ_forms.specs.declared.tree.Detail.{Detail}
use Rattle.occ_forms.specs.declared.tree.Detail.TheVariants as de

-- a name after a first dimension
abbrev pub named_detail : List Dimension → List ℕ → Option Detail
named_detail [] n = None
named_detail (d ∷ ds) n = Some (de.Array d ds n)

abbrev pub based_detail : DataBase → List Dimension → Option Detail
based_detail (da.Primitive p) ds = Some (de.Builtin ds (uv.Primitive p))
based_detail (da.Named n) ds = named_detail ds n

-- the type, if it is more than a name alone
abbrev pub typed_of : DataForm → Option Detail
typed_of form = based_detail form.base form.dimensions
