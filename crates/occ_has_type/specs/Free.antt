-- Which expressions are free: an integer without a type of its own, and what an operator makes of such integers. A free one takes
-- the type that is wanted of it.
use Rattle.std.specs.Prelude.{Bool, true, false, ◌&&◌, List, [], ◌∷◌}
use Rattle.occ_typing_operands.specs.Operators.{class_of, is_arithmetic}
use Rattle.occ_forms_expressions.specs.declared.tree.Bounds.TheFolds.{fold-Expr, fold-NamedOperand, fold-Operand}
use Rattle.occ_forms_expressions.specs.declared.tree.Bounds.TheOpen.{Expr-F, NamedOperand-F, Operand-F}
use Rattle.occ_forms_expressions.specs.declared.tree.Expr.{Expr}
use Rattle.occ_forms_expressions.specs.declared.tree.Literal.{Literal}
use Rattle.occ_forms_expressions.specs.declared.tree.Literal.TheVariants as l
use Rattle.occ_forms_expressions.specs.declared.tree.MonadicOperator.{MonadicOperator}
use Rattle.occ_forms_expressions.specs.declared.tree.MonadicOperator.TheVariants as mo
use Rattle.occ_forms_expressions.specs.declared.tree.NamedOperand.{NamedOperand}
use Rattle.occ_forms_expressions.specs.declared.tree.Operand.{Operand}
use Rattle.occ_forms_expressions.specs.declared.tree.PairOperator.{PairOperator}
use Rattle.occ_forms_expressions.specs.declared.tree.PairOperator.TheVariants as po
use Rattle.occ_expr_operations.specs.Operations.{pair_operator, run_operator}

abbrev pub is_integer : Literal → Bool
is_integer (l.Decimal i) = true
is_integer (l.Hexadecimal i) = true
is_integer (l.Character b) = false
is_integer (l.String bytes) = false

abbrev pub all_true : List Bool → Bool
all_true [] = true
all_true (b ∷ bs) = b && all_true bs

-- an arithmetic or bit operator between free operands; of a shift, what is shifted decides
abbrev pub pair_is_free : PairOperator → Bool → Bool → Bool
pair_is_free po.ShiftLeft a b = a
pair_is_free po.ShiftRight a b = a
pair_is_free op a b = is_arithmetic (class_of (pair_operator op)) && (a && b)

-- an operator in front of a free operand, but for NOT and SIZE
abbrev pub stays_free : MonadicOperator → Bool
stays_free mo.Negate = true
stays_free mo.Minus = true
stays_free mo.BitNot = true
stays_free mo.BitNotWord = true
stays_free mo.Not = false
stays_free mo.Size = false

abbrev pub expr_step : Expr-F (Unit {0}) (Unit {0}) (Unit {0}) (Unit {0}) Bool Bool Bool (Unit {0}) → Bool
expr_step (Expr-F.Alone o) = o
expr_step (Expr-F.Run op a b os) = is_arithmetic (class_of (run_operator op)) && (a && (b && all_true os))
expr_step (Expr-F.Pair a op b) = pair_is_free op a b
expr_step (Expr-F.Applied op o) = stays_free op && o
expr_step (Expr-F.Converted ds to o) = false
expr_step (Expr-F.ArrayConverted d ds name o) = false
expr_step (Expr-F.Expr::Named name o) = false
expr_step (Expr-F.Most end of) = false

abbrev pub operand_step : Operand-F (Unit {0}) (Unit {0}) (Unit {0}) (Unit {0}) Bool Bool Bool (Unit {0}) → Bool
operand_step (Operand-F.Operand::Element el) = false
operand_step (Operand-F.Operand::Literal lit) = is_integer lit
operand_step (Operand-F.Operand::Decorated lit of) = false
operand_step (Operand-F.Operand::Truth b) = false
operand_step (Operand-F.Parens e) = e
operand_step (Operand-F.Operand::Table e es) = false
operand_step (Operand-F.Operand::DecoratedTable e es of) = false
operand_step (Operand-F.Operand::Call name es) = false

abbrev pub named_step : NamedOperand-F (Unit {0}) (Unit {0}) (Unit {0}) (Unit {0}) Bool Bool Bool (Unit {0}) → Bool
named_step (NamedOperand-F.NamedOperand::Element el) = false
named_step (NamedOperand-F.NamedOperand::Literal lit) = is_integer lit
named_step (NamedOperand-F.NamedOperand::Decorated lit of) = false
named_step (NamedOperand-F.NamedOperand::Truth b) = false
named_step (NamedOperand-F.NamedOperand::Table e f es) = false
named_step (NamedOperand-F.NamedOperand::DecoratedTable e es of) = false
named_step (NamedOperand-F.NamedOperand::Call name es) = false

unfoldable pub is_free : Expr → Bool
is_free = fold-Expr (Unit {0}) (Unit {0}) (Unit {0}) (Unit {0}) Bool Bool Bool (Unit {0}) (λ _. tt) (λ _. tt) (λ _. tt) (λ _. tt) expr_step named_step operand_step (λ _. tt)

unfoldable pub is_free_operand : Operand → Bool
is_free_operand = fold-Operand (Unit {0}) (Unit {0}) (Unit {0}) (Unit {0}) Bool Bool Bool (Unit {0}) (λ _. tt) (λ _. tt) (λ _. tt) (λ _. tt) expr_step named_step operand_step (λ _. tt)

unfoldable pub is_free_named : NamedOperand → Bool
is_free_named = fold-NamedOperand (Unit {0}) (Unit {0}) (Unit {0}) (Unit {0}) Bool Bool Bool (Unit {0}) (λ _. tt) (λ _. tt) (λ _. tt) (λ _. tt) expr_step named_step operand_step (λ _. tt)

abbrev pub are_free : List Operand → Bool
are_free [] = true
are_free (o ∷ os) = is_free_operand o && are_free os
