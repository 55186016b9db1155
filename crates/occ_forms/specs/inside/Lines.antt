-- The lines that give a name of a type what it stands for.
use Rattle.std.specs.Prelude.{ℕ, List, Some}
use Rattle.occ_forms_expressions.specs.declared.tree.Element.{Element}
use Rattle.occ_forms_expressions.specs.declared.tree.Expr.{Expr}
use Rattle.occ_forms_expressions.specs.declared.tree.TypeForm.{TypeForm}
use Rattle.occ_forms.specs.declared.binding.Binding.{Binding}
use Rattle.occ_forms.specs.declared.binding.Binding.TheVariants as bi
use Rattle.occ_forms.specs.declared.specification_tree.Specification.{Specification}
use Rattle.occ_forms.specs.declared.specification_tree.Specification.TheVariants as sp

-- `t n IS el:`, `t n RETYPES el:` or `t n RESHAPES el:`
abbrev pub element_line : Binding → TypeForm → List ℕ → Element → Specification
element_line bi.Is form n el = sp.Abbreviation (Some form) n el
element_line (bi.Recast recast) form n el = sp.Retyped recast form n el

-- `VAL t n IS e:`, `VAL t n RETYPES e:` or `VAL t n RESHAPES e:`
abbrev pub value_line : Binding → TypeForm → List ℕ → Expr → Specification
value_line bi.Is form n e = sp.Value (Some form) n e
value_line (bi.Recast recast) form n e = sp.RetypedValue recast form n e
