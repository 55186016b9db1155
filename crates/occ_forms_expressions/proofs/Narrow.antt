-- Operands that may stand after the name of a type.
use Rattle.std.proofs.Common.{◌≡◌, ◌∙◌, sym, ap, ℕ, Bool, List, [], ◌∷◌, length, slice_get, remove, Some, None, arith}
use Rattle.occ_forms_expressions.specs.declared.tree.Bounds.TheOpen.{Operand-F}
use Rattle.occ_forms_expressions.specs.declared.tree.Bounds.TheViews.{out-roll-Operand}
use Rattle.occ_forms_expressions.specs.declared.tree.Element.{Element}
use Rattle.occ_forms_expressions.specs.declared.tree.Expr.{Expr}
use Rattle.occ_forms_expressions.specs.declared.tree.Literal.{Literal}
use Rattle.occ_forms_expressions.specs.declared.tree.NamedOperand.TheVariants as nv
use Rattle.occ_forms_expressions.specs.declared.tree.Operand.TheVariants as ov
use Rattle.occ_forms_expressions.specs.declared.tree.TypeForm.{TypeForm}
use Rattle.occ_forms_expressions.specs.inside.Brackets.{narrow_of, narrow_step, narrow_table}

pub narrow_element : (el : Element) → narrow_of (ov.Element el) ≡ Some (nv.Element el)
unfolding narrow_of
narrow_element el = ap narrow_of (sym (ov.rolls-Element el)) ∙ ap narrow_step (out-roll-Operand (Operand-F.Operand::Element el))

pub narrow_literal : (l : Literal) → narrow_of (ov.Literal l) ≡ Some (nv.Literal l)
unfolding narrow_of
narrow_literal l = ap narrow_of (sym (ov.rolls-Literal l)) ∙ ap narrow_step (out-roll-Operand (Operand-F.Operand::Literal l))

pub narrow_decorated : (l : Literal) (type : TypeForm) → narrow_of (ov.Decorated l type) ≡ Some (nv.Decorated l type)
unfolding narrow_of
narrow_decorated l type = ap narrow_of (sym (ov.rolls-Decorated l type)) ∙ ap narrow_step (out-roll-Operand (Operand-F.Operand::Decorated l type))

pub narrow_truth : (b : Bool) → narrow_of (ov.Truth b) ≡ Some (nv.Truth b)
unfolding narrow_of
narrow_truth b = ap narrow_of (sym (ov.rolls-Truth b)) ∙ ap narrow_step (out-roll-Operand (Operand-F.Operand::Truth b))

pub narrow_parens : (e : Expr) → narrow_of (ov.Parens e) ≡ None
unfolding narrow_of
narrow_parens e = ap narrow_of (sym (ov.rolls-Parens e)) ∙ ap narrow_step (out-roll-Operand (Operand-F.Parens e))

pub narrow_of_table : (e : Expr) (es : List Expr) → narrow_of (ov.Table e es) ≡ narrow_table e es
unfolding narrow_of
narrow_of_table e es = ap narrow_of (sym (ov.rolls-Table e es)) ∙ ap narrow_step (out-roll-Operand (Operand-F.Operand::Table e es))

pub narrow_decorated_table : (e : Expr) (es : List Expr) (type : TypeForm) → narrow_of (ov.DecoratedTable e es type) ≡ Some (nv.DecoratedTable e es type)
unfolding narrow_of
narrow_decorated_table e es type = ap narrow_of (sym (ov.rolls-DecoratedTable e es type)) ∙ ap narrow_step (out-roll-Operand (Operand-F.Operand::DecoratedTable e es type))

pub narrow_call : (n : List ℕ) (es : List Expr) → narrow_of (ov.Call n es) ≡ Some (nv.Call n es)
unfolding narrow_of
narrow_call n es = ap narrow_of (sym (ov.rolls-Call n es)) ∙ ap narrow_step (out-roll-Operand (Operand-F.Operand::Call n es))

-- a table of one item, and one of more
pub narrow_one : (e : Expr) (es : List Expr) → length es ≡ 0 → narrow_of (ov.Table e es) ≡ None
narrow_one e [] is = narrow_of_table e []
narrow_one e (x ∷ es) is = absurd (omega (arith, is))

pub narrow_more : (e : Expr) (es : List Expr) (x : Expr) (rest : List Expr) → slice_get es 0 ≡ Some x → rest ≡ remove es 0 → narrow_of (ov.Table e es) ≡ Some (nv.Table e x rest)
narrow_more e [] x rest first is = absurd cc
narrow_more e (y ∷ es) x rest first is = narrow_of_table e (y ∷ es) ∙ ap (λ (z : Expr). Some (nv.Table e z es)) (let h : Some y ≡ Some x = first in (cc)) ∙ ap (λ (z : List Expr). Some (nv.Table e x z)) (sym is)

pub ruleset narrow_rules = (narrow_element, narrow_literal, narrow_decorated, narrow_truth, narrow_parens, narrow_of_table, narrow_decorated_table, narrow_call)
