-- Which forms are free, form by form.
use Rattle.std.proofs.Common.{◌≡◌, ◌∙◌, ◌&&◌, ℕ, Bool, false, List, [], ◌∷◌, map, refl, ap, sym}
use Rattle.occ_expr_operations.specs.Operations.{run_operator}
use Rattle.occ_forms_expressions.specs.declared.tree.Bounds.TheFolds.{fold-Expr, fold-NamedOperand, fold-Operand, fold-roll-Expr, fold-roll-NamedOperand, fold-roll-Operand}
use Rattle.occ_forms_expressions.specs.declared.tree.Bounds.TheOpen.{Expr-F, NamedOperand-F, Operand-F}
use Rattle.occ_forms_expressions.specs.declared.tree.Builtin.{Builtin}
use Rattle.occ_forms_expressions.specs.declared.tree.Dimension.{Dimension}
use Rattle.occ_forms_expressions.specs.declared.tree.Element.{Element}
use Rattle.occ_forms_expressions.specs.declared.tree.Expr.{Expr}
use Rattle.occ_forms_expressions.specs.declared.tree.Expr.TheVariants as xv
use Rattle.occ_forms_expressions.specs.declared.tree.Extreme.{Extreme}
use Rattle.occ_forms_expressions.specs.declared.tree.Literal.{Literal}
use Rattle.occ_forms_expressions.specs.declared.tree.MonadicOperator.{MonadicOperator}
use Rattle.occ_forms_expressions.specs.declared.tree.NamedOperand.{NamedOperand}
use Rattle.occ_forms_expressions.specs.declared.tree.NamedOperand.TheVariants as nv
use Rattle.occ_forms_expressions.specs.declared.tree.Operand.{Operand}
use Rattle.occ_forms_expressions.specs.declared.tree.Operand.TheVariants as ov
use Rattle.occ_forms_expressions.specs.declared.tree.PairOperator.{PairOperator}
use Rattle.occ_forms_expressions.specs.declared.tree.RunOperator.{RunOperator}
use Rattle.occ_forms_expressions.specs.declared.tree.TypeForm.{TypeForm}
use Rattle.occ_typing_operands.specs.Operators.{class_of, is_arithmetic}
use Rattle.occ_has_type.specs.Free.{all_true, are_free, expr_step, is_free, is_free_named, is_free_operand, is_integer, named_step, operand_step, pair_is_free, stays_free}

pub alone : (o : Operand) → is_free (xv.Alone o) ≡ is_free_operand o
unfolding is_free is_free_operand
alone o = ap (fold-Expr (Unit {0}) (Unit {0}) (Unit {0}) (Unit {0}) Bool Bool Bool (Unit {0}) (λ _. tt) (λ _. tt) (λ _. tt) (λ _. tt) expr_step named_step operand_step (λ _. tt)) (sym (xv.rolls-Alone o)) ∙ fold-roll-Expr (Unit {0}) (Unit {0}) (Unit {0}) (Unit {0}) Bool Bool Bool (Unit {0}) (λ _. tt) (λ _. tt) (λ _. tt) (λ _. tt) expr_step named_step operand_step (λ _. tt) (Expr-F.Alone o)

same_free : (os : List Operand) → all_true (map (fold-Operand (Unit {0}) (Unit {0}) (Unit {0}) (Unit {0}) Bool Bool Bool (Unit {0}) (λ _. tt) (λ _. tt) (λ _. tt) (λ _. tt) expr_step named_step operand_step (λ _. tt)) os) ≡ are_free os
unfolding is_free is_free_operand
same_free [] = refl
same_free (o ∷ os) = ap (λ (b : Bool). is_free_operand o && b) (same_free os)

pub run : (op : RunOperator) (a : Operand) (b : Operand) (os : List Operand) → is_free (xv.Run op a b os) ≡ (is_arithmetic (class_of (run_operator op)) && are_free (a ∷ b ∷ os))
unfolding is_free is_free_operand
run op a b os = ap (fold-Expr (Unit {0}) (Unit {0}) (Unit {0}) (Unit {0}) Bool Bool Bool (Unit {0}) (λ _. tt) (λ _. tt) (λ _. tt) (λ _. tt) expr_step named_step operand_step (λ _. tt)) (sym (xv.rolls-Run op a b os)) ∙ fold-roll-Expr (Unit {0}) (Unit {0}) (Unit {0}) (Unit {0}) Bool Bool Bool (Unit {0}) (λ _. tt) (λ _. tt) (λ _. tt) (λ _. tt) expr_step named_step operand_step (λ _. tt) (Expr-F.Run op a b os)
    ∙ ap (λ (c : Bool). is_arithmetic (class_of (run_operator op)) && (is_free_operand a && (is_free_operand b && c))) (same_free os)

pub pair : (a : Operand) (op : PairOperator) (b : Operand) → is_free (xv.Pair a op b) ≡ pair_is_free op (is_free_operand a) (is_free_operand b)
unfolding is_free is_free_operand
pair a op b = ap (fold-Expr (Unit {0}) (Unit {0}) (Unit {0}) (Unit {0}) Bool Bool Bool (Unit {0}) (λ _. tt) (λ _. tt) (λ _. tt) (λ _. tt) expr_step named_step operand_step (λ _. tt)) (sym (xv.rolls-Pair a op b)) ∙ fold-roll-Expr (Unit {0}) (Unit {0}) (Unit {0}) (Unit {0}) Bool Bool Bool (Unit {0}) (λ _. tt) (λ _. tt) (λ _. tt) (λ _. tt) expr_step named_step operand_step (λ _. tt) (Expr-F.Pair a op b)

pub applied : (op : MonadicOperator) (o : Operand) → is_free (xv.Applied op o) ≡ (stays_free op && is_free_operand o)
unfolding is_free is_free_operand
applied op o = ap (fold-Expr (Unit {0}) (Unit {0}) (Unit {0}) (Unit {0}) Bool Bool Bool (Unit {0}) (λ _. tt) (λ _. tt) (λ _. tt) (λ _. tt) expr_step named_step operand_step (λ _. tt)) (sym (xv.rolls-Applied op o)) ∙ fold-roll-Expr (Unit {0}) (Unit {0}) (Unit {0}) (Unit {0}) Bool Bool Bool (Unit {0}) (λ _. tt) (λ _. tt) (λ _. tt) (λ _. tt) expr_step named_step operand_step (λ _. tt) (Expr-F.Applied op o)

pub converted : (ds : List Dimension) (b : Builtin) (o : Operand) → is_free (xv.Converted ds b o) ≡ false
unfolding is_free is_free_operand
converted ds b o = ap (fold-Expr (Unit {0}) (Unit {0}) (Unit {0}) (Unit {0}) Bool Bool Bool (Unit {0}) (λ _. tt) (λ _. tt) (λ _. tt) (λ _. tt) expr_step named_step operand_step (λ _. tt)) (sym (xv.rolls-Converted ds b o)) ∙ fold-roll-Expr (Unit {0}) (Unit {0}) (Unit {0}) (Unit {0}) Bool Bool Bool (Unit {0}) (λ _. tt) (λ _. tt) (λ _. tt) (λ _. tt) expr_step named_step operand_step (λ _. tt) (Expr-F.Converted ds b o)

pub array_converted : (d : Dimension) (ds : List Dimension) (name : List ℕ) (o : Operand) → is_free (xv.ArrayConverted d ds name o) ≡ false
unfolding is_free is_free_operand
array_converted d ds name o = ap (fold-Expr (Unit {0}) (Unit {0}) (Unit {0}) (Unit {0}) Bool Bool Bool (Unit {0}) (λ _. tt) (λ _. tt) (λ _. tt) (λ _. tt) expr_step named_step operand_step (λ _. tt)) (sym (xv.rolls-ArrayConverted d ds name o)) ∙ fold-roll-Expr (Unit {0}) (Unit {0}) (Unit {0}) (Unit {0}) Bool Bool Bool (Unit {0}) (λ _. tt) (λ _. tt) (λ _. tt) (λ _. tt) expr_step named_step operand_step (λ _. tt) (Expr-F.ArrayConverted d ds name o)

pub named_converted : (name : List ℕ) (o : NamedOperand) → is_free (xv.Named name o) ≡ false
unfolding is_free is_free_operand
named_converted name o = ap (fold-Expr (Unit {0}) (Unit {0}) (Unit {0}) (Unit {0}) Bool Bool Bool (Unit {0}) (λ _. tt) (λ _. tt) (λ _. tt) (λ _. tt) expr_step named_step operand_step (λ _. tt)) (sym (xv.rolls-Named name o)) ∙ fold-roll-Expr (Unit {0}) (Unit {0}) (Unit {0}) (Unit {0}) Bool Bool Bool (Unit {0}) (λ _. tt) (λ _. tt) (λ _. tt) (λ _. tt) expr_step named_step operand_step (λ _. tt) (Expr-F.Expr::Named name o)

pub most : (end : Extreme) (ty : TypeForm) → is_free (xv.Most end ty) ≡ false
unfolding is_free is_free_operand
most end ty = ap (fold-Expr (Unit {0}) (Unit {0}) (Unit {0}) (Unit {0}) Bool Bool Bool (Unit {0}) (λ _. tt) (λ _. tt) (λ _. tt) (λ _. tt) expr_step named_step operand_step (λ _. tt)) (sym (xv.rolls-Most end ty)) ∙ fold-roll-Expr (Unit {0}) (Unit {0}) (Unit {0}) (Unit {0}) Bool Bool Bool (Unit {0}) (λ _. tt) (λ _. tt) (λ _. tt) (λ _. tt) expr_step named_step operand_step (λ _. tt) (Expr-F.Most end ty)

pub element : (e : Element) → is_free_operand (ov.Element e) ≡ false
unfolding is_free is_free_operand
element e = ap (fold-Operand (Unit {0}) (Unit {0}) (Unit {0}) (Unit {0}) Bool Bool Bool (Unit {0}) (λ _. tt) (λ _. tt) (λ _. tt) (λ _. tt) expr_step named_step operand_step (λ _. tt)) (sym (ov.rolls-Element e)) ∙ fold-roll-Operand (Unit {0}) (Unit {0}) (Unit {0}) (Unit {0}) Bool Bool Bool (Unit {0}) (λ _. tt) (λ _. tt) (λ _. tt) (λ _. tt) expr_step named_step operand_step (λ _. tt) (Operand-F.Operand::Element e)

pub literal : (lit : Literal) → is_free_operand (ov.Literal lit) ≡ is_integer lit
unfolding is_free is_free_operand
literal lit = ap (fold-Operand (Unit {0}) (Unit {0}) (Unit {0}) (Unit {0}) Bool Bool Bool (Unit {0}) (λ _. tt) (λ _. tt) (λ _. tt) (λ _. tt) expr_step named_step operand_step (λ _. tt)) (sym (ov.rolls-Literal lit)) ∙ fold-roll-Operand (Unit {0}) (Unit {0}) (Unit {0}) (Unit {0}) Bool Bool Bool (Unit {0}) (λ _. tt) (λ _. tt) (λ _. tt) (λ _. tt) expr_step named_step operand_step (λ _. tt) (Operand-F.Operand::Literal lit)

pub decorated : (lit : Literal) (ty : TypeForm) → is_free_operand (ov.Decorated lit ty) ≡ false
unfolding is_free is_free_operand
decorated lit ty = ap (fold-Operand (Unit {0}) (Unit {0}) (Unit {0}) (Unit {0}) Bool Bool Bool (Unit {0}) (λ _. tt) (λ _. tt) (λ _. tt) (λ _. tt) expr_step named_step operand_step (λ _. tt)) (sym (ov.rolls-Decorated lit ty)) ∙ fold-roll-Operand (Unit {0}) (Unit {0}) (Unit {0}) (Unit {0}) Bool Bool Bool (Unit {0}) (λ _. tt) (λ _. tt) (λ _. tt) (λ _. tt) expr_step named_step operand_step (λ _. tt) (Operand-F.Operand::Decorated lit ty)

pub truth : (b : Bool) → is_free_operand (ov.Truth b) ≡ false
unfolding is_free is_free_operand
truth b = ap (fold-Operand (Unit {0}) (Unit {0}) (Unit {0}) (Unit {0}) Bool Bool Bool (Unit {0}) (λ _. tt) (λ _. tt) (λ _. tt) (λ _. tt) expr_step named_step operand_step (λ _. tt)) (sym (ov.rolls-Truth b)) ∙ fold-roll-Operand (Unit {0}) (Unit {0}) (Unit {0}) (Unit {0}) Bool Bool Bool (Unit {0}) (λ _. tt) (λ _. tt) (λ _. tt) (λ _. tt) expr_step named_step operand_step (λ _. tt) (Operand-F.Operand::Truth b)

pub parens : (e : Expr) → is_free_operand (ov.Parens e) ≡ is_free e
unfolding is_free is_free_operand
parens e = ap (fold-Operand (Unit {0}) (Unit {0}) (Unit {0}) (Unit {0}) Bool Bool Bool (Unit {0}) (λ _. tt) (λ _. tt) (λ _. tt) (λ _. tt) expr_step named_step operand_step (λ _. tt)) (sym (ov.rolls-Parens e)) ∙ fold-roll-Operand (Unit {0}) (Unit {0}) (Unit {0}) (Unit {0}) Bool Bool Bool (Unit {0}) (λ _. tt) (λ _. tt) (λ _. tt) (λ _. tt) expr_step named_step operand_step (λ _. tt) (Operand-F.Parens e)

pub table : (e : Expr) (es : List Expr) → is_free_operand (ov.Table e es) ≡ false
unfolding is_free is_free_operand
table e es = ap (fold-Operand (Unit {0}) (Unit {0}) (Unit {0}) (Unit {0}) Bool Bool Bool (Unit {0}) (λ _. tt) (λ _. tt) (λ _. tt) (λ _. tt) expr_step named_step operand_step (λ _. tt)) (sym (ov.rolls-Table e es)) ∙ fold-roll-Operand (Unit {0}) (Unit {0}) (Unit {0}) (Unit {0}) Bool Bool Bool (Unit {0}) (λ _. tt) (λ _. tt) (λ _. tt) (λ _. tt) expr_step named_step operand_step (λ _. tt) (Operand-F.Operand::Table e es)

pub decorated_table : (e : Expr) (es : List Expr) (ty : TypeForm) → is_free_operand (ov.DecoratedTable e es ty) ≡ false
unfolding is_free is_free_operand
decorated_table e es ty = ap (fold-Operand (Unit {0}) (Unit {0}) (Unit {0}) (Unit {0}) Bool Bool Bool (Unit {0}) (λ _. tt) (λ _. tt) (λ _. tt) (λ _. tt) expr_step named_step operand_step (λ _. tt)) (sym (ov.rolls-DecoratedTable e es ty)) ∙ fold-roll-Operand (Unit {0}) (Unit {0}) (Unit {0}) (Unit {0}) Bool Bool Bool (Unit {0}) (λ _. tt) (λ _. tt) (λ _. tt) (λ _. tt) expr_step named_step operand_step (λ _. tt) (Operand-F.Operand::DecoratedTable e es ty)

pub call : (name : List ℕ) (es : List Expr) → is_free_operand (ov.Call name es) ≡ false
unfolding is_free is_free_operand
call name es = ap (fold-Operand (Unit {0}) (Unit {0}) (Unit {0}) (Unit {0}) Bool Bool Bool (Unit {0}) (λ _. tt) (λ _. tt) (λ _. tt) (λ _. tt) expr_step named_step operand_step (λ _. tt)) (sym (ov.rolls-Call name es)) ∙ fold-roll-Operand (Unit {0}) (Unit {0}) (Unit {0}) (Unit {0}) Bool Bool Bool (Unit {0}) (λ _. tt) (λ _. tt) (λ _. tt) (λ _. tt) expr_step named_step operand_step (λ _. tt) (Operand-F.Operand::Call name es)

pub named_element : (e : Element) → is_free_named (nv.Element e) ≡ false
unfolding is_free is_free_operand is_free_named
named_element e = ap (fold-NamedOperand (Unit {0}) (Unit {0}) (Unit {0}) (Unit {0}) Bool Bool Bool (Unit {0}) (λ _. tt) (λ _. tt) (λ _. tt) (λ _. tt) expr_step named_step operand_step (λ _. tt)) (sym (nv.rolls-Element e)) ∙ fold-roll-NamedOperand (Unit {0}) (Unit {0}) (Unit {0}) (Unit {0}) Bool Bool Bool (Unit {0}) (λ _. tt) (λ _. tt) (λ _. tt) (λ _. tt) expr_step named_step operand_step (λ _. tt) (NamedOperand-F.NamedOperand::Element e)

pub named_literal : (lit : Literal) → is_free_named (nv.Literal lit) ≡ is_integer lit
unfolding is_free is_free_operand is_free_named
named_literal lit = ap (fold-NamedOperand (Unit {0}) (Unit {0}) (Unit {0}) (Unit {0}) Bool Bool Bool (Unit {0}) (λ _. tt) (λ _. tt) (λ _. tt) (λ _. tt) expr_step named_step operand_step (λ _. tt)) (sym (nv.rolls-Literal lit)) ∙ fold-roll-NamedOperand (Unit {0}) (Unit {0}) (Unit {0}) (Unit {0}) Bool Bool Bool (Unit {0}) (λ _. tt) (λ _. tt) (λ _. tt) (λ _. tt) expr_step named_step operand_step (λ _. tt) (NamedOperand-F.NamedOperand::Literal lit)

pub named_decorated : (lit : Literal) (ty : TypeForm) → is_free_named (nv.Decorated lit ty) ≡ false
unfolding is_free is_free_operand is_free_named
named_decorated lit ty = ap (fold-NamedOperand (Unit {0}) (Unit {0}) (Unit {0}) (Unit {0}) Bool Bool Bool (Unit {0}) (λ _. tt) (λ _. tt) (λ _. tt) (λ _. tt) expr_step named_step operand_step (λ _. tt)) (sym (nv.rolls-Decorated lit ty)) ∙ fold-roll-NamedOperand (Unit {0}) (Unit {0}) (Unit {0}) (Unit {0}) Bool Bool Bool (Unit {0}) (λ _. tt) (λ _. tt) (λ _. tt) (λ _. tt) expr_step named_step operand_step (λ _. tt) (NamedOperand-F.NamedOperand::Decorated lit ty)

pub named_truth : (b : Bool) → is_free_named (nv.Truth b) ≡ false
unfolding is_free is_free_operand is_free_named
named_truth b = ap (fold-NamedOperand (Unit {0}) (Unit {0}) (Unit {0}) (Unit {0}) Bool Bool Bool (Unit {0}) (λ _. tt) (λ _. tt) (λ _. tt) (λ _. tt) expr_step named_step operand_step (λ _. tt)) (sym (nv.rolls-Truth b)) ∙ fold-roll-NamedOperand (Unit {0}) (Unit {0}) (Unit {0}) (Unit {0}) Bool Bool Bool (Unit {0}) (λ _. tt) (λ _. tt) (λ _. tt) (λ _. tt) expr_step named_step operand_step (λ _. tt) (NamedOperand-F.NamedOperand::Truth b)

pub named_table : (e : Expr) (f : Expr) (es : List Expr) → is_free_named (nv.Table e f es) ≡ false
unfolding is_free is_free_operand is_free_named
named_table e f es = ap (fold-NamedOperand (Unit {0}) (Unit {0}) (Unit {0}) (Unit {0}) Bool Bool Bool (Unit {0}) (λ _. tt) (λ _. tt) (λ _. tt) (λ _. tt) expr_step named_step operand_step (λ _. tt)) (sym (nv.rolls-Table e f es)) ∙ fold-roll-NamedOperand (Unit {0}) (Unit {0}) (Unit {0}) (Unit {0}) Bool Bool Bool (Unit {0}) (λ _. tt) (λ _. tt) (λ _. tt) (λ _. tt) expr_step named_step operand_step (λ _. tt) (NamedOperand-F.NamedOperand::Table e f es)

pub named_decorated_table : (e : Expr) (es : List Expr) (ty : TypeForm) → is_free_named (nv.DecoratedTable e es ty) ≡ false
unfolding is_free is_free_operand is_free_named
named_decorated_table e es ty = ap (fold-NamedOperand (Unit {0}) (Unit {0}) (Unit {0}) (Unit {0}) Bool Bool Bool (Unit {0}) (λ _. tt) (λ _. tt) (λ _. tt) (λ _. tt) expr_step named_step operand_step (λ _. tt)) (sym (nv.rolls-DecoratedTable e es ty)) ∙ fold-roll-NamedOperand (Unit {0}) (Unit {0}) (Unit {0}) (Unit {0}) Bool Bool Bool (Unit {0}) (λ _. tt) (λ _. tt) (λ _. tt) (λ _. tt) expr_step named_step operand_step (λ _. tt) (NamedOperand-F.NamedOperand::DecoratedTable e es ty)

pub named_call : (name : List ℕ) (es : List Expr) → is_free_named (nv.Call name es) ≡ false
unfolding is_free is_free_operand is_free_named
named_call name es = ap (fold-NamedOperand (Unit {0}) (Unit {0}) (Unit {0}) (Unit {0}) Bool Bool Bool (Unit {0}) (λ _. tt) (λ _. tt) (λ _. tt) (λ _. tt) expr_step named_step operand_step (λ _. tt)) (sym (nv.rolls-Call name es)) ∙ fold-roll-NamedOperand (Unit {0}) (Unit {0}) (Unit {0}) (Unit {0}) Bool Bool Bool (Unit {0}) (λ _. tt) (λ _. tt) (λ _. tt) (λ _. tt) expr_step named_step operand_step (λ _. tt) (NamedOperand-F.NamedOperand::Call name es)
