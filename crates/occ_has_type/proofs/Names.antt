-- Forms that are a name alone.
use Rattle.std.proofs.Common.{◌≡◌, ℕ, List, [], ◌∷◌, Option, Some, None, refl, ap}
use Rattle.occ_expr_operations.specs.Views.{expr_views, name_alone as alone_in}
use Rattle.occ_forms_expressions.specs.declared.tree.Element.{Element}
use Rattle.occ_forms_expressions.specs.declared.tree.Element.TheVariants as ev
use Rattle.occ_forms_expressions.specs.declared.tree.Expr.{Expr}
use Rattle.occ_forms_expressions.specs.declared.tree.Expr.TheVariants as xv
use Rattle.occ_forms_expressions.specs.declared.tree.Operand.{Operand}
use Rattle.occ_forms_expressions.specs.declared.tree.Operand.TheVariants as ov
use Rattle.occ_has_type.specs.Trees.{name_alone}

-- a form that is a name alone, and what it is then
abbrev pub IsNamed : {X : Type 0} → X → (List ℕ → X) → Option (List ℕ) → Type 0
IsNamed x as_name None = Unit {0}
IsNamed x as_name (Some name) = x ≡ as_name name

pub name_if_alone : (name : List ℕ) (es : List Expr) → IsNamed (ev.Named name es) (λ name. ev.Named name []) (alone_in name (expr_views es))
name_if_alone name [] = refl
name_if_alone name (e ∷ es) = tt

pub name_through : (e : Operand) (name : Option (List ℕ)) → IsNamed e (λ name. ov.Element (ev.Named name [])) name → IsNamed (xv.Alone e) name_alone name
name_through e None h = tt
name_through e (Some name) h = ap xv.Alone h

pub element_through : (e : Element) (name : Option (List ℕ)) → IsNamed e (λ name. ev.Named name []) name → IsNamed (ov.Element e) (λ name. ov.Element (ev.Named name [])) name
element_through e None h = tt
element_through e (Some name) h = ap ov.Element h
