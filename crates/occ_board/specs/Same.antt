-- Whether two inputs of checks are one. All that an input is made of can be written as a tree of numbers, each in its own
-- way (its code); so two are one exactly if their trees are.
use base.Stored.{Coded, Gv, gnil, gnum, gcons}
use Rattle.std.specs.Prelude.{Bool, true, false, ◌&&◌, ◌==◌}
use Rattle.std.specs.Coded.{codes}
use Rattle.occ_check.specs.Input.{Input}
use Rattle.occ_check.specs.declared.used.UsedUnit.{UsedUnit}
use Rattle.occ_forms_expressions.specs.contracts.tree.Builtin as builtins
use Rattle.occ_forms_expressions.specs.contracts.tree.Dimension as dimensions
use Rattle.occ_forms_expressions.specs.contracts.tree.Element as elements
use Rattle.occ_forms_expressions.specs.contracts.tree.Expr as expressions
use Rattle.occ_forms_expressions.specs.contracts.tree.TypeForm as type_forms
use Rattle.occ_types.specs.contracts.types.OccType as types

abbrev pub same_tree : Gv → Gv → Bool
same_tree gnil gnil = true
same_tree (gnum m) (gnum n) = m == n
same_tree (gcons a b) (gcons c d) = same_tree a c && same_tree b d
same_tree gnil (gnum n) = false
same_tree gnil (gcons c d) = false
same_tree (gnum m) gnil = false
same_tree (gnum m) (gcons c d) = false
same_tree (gcons a b) gnil = false
same_tree (gcons a b) (gnum n) = false

-- how a used unit stands
pub coded_used : Coded UsedUnit
coded_used = Prim.hlevel (codes, types.the_row.coded)

unfoldable pub same_used : UsedUnit → UsedUnit → Bool
same_used a b = same_tree (coded_used.code a) (coded_used.code b)

pub coded_input : Coded Input
coded_input = Prim.hlevel (codes, builtins.the_row.coded, dimensions.the_row.coded, elements.the_row.coded, expressions.the_row.coded, type_forms.the_row.coded, types.the_row.coded)

unfoldable pub same_input : Input → Input → Bool
same_input i j = same_tree (coded_input.code i) (coded_input.code j)
