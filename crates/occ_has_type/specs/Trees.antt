-- Which typed trees are of a form as it is written: the same names, operators, subscripts, bounds, items and actuals, in order.
-- Parentheses are left out. Of a type that is written the tree has the type alone, and of a string no bytes.
use Rattle.std.specs.Prelude.{◌≡◌, ℕ, ℤ, pos, ◌-ℤ◌, Bool, Option, Some, None, List, [], ◌∷◌, ◌++◌}
use Rattle.occ_types.specs.Constant.{greatest_of, least_of, number_value, pattern_value, value_of}
use Rattle.occ_types.specs.declared.constant.Monadic.{Monadic}
use Rattle.occ_types.specs.declared.constant.Monadic.TheVariants as m
use Rattle.occ_types.specs.declared.interface.Formal.{Formal}
use Rattle.occ_types.specs.declared.types.OccType.{OccType}
use Rattle.occ_types.specs.declared.value.Primitive.{Primitive}
use Rattle.occ_types.specs.declared.value.Value.{Value}
use Rattle.occ_types.specs.declared.value.Value.TheVariants as v
use Rattle.occ_scope.specs.Visible.{referent, visible}
use Rattle.occ_scope.specs.declared.meaning.Meaning.TheVariants as meaning
use Rattle.occ_scope.specs.declared.meaning.Referent.{Referent}
use Rattle.occ_scope.specs.declared.scope.Scope.{Scope}
use Rattle.occ_typing_operands.specs.Settling.{base_of, number}
use Rattle.occ_typing_operands.specs.declared.kind.Known.{Known}
use Rattle.occ_typing_rules.specs.declared.expr.Selector.{Selector}
use Rattle.occ_typing_rules.specs.declared.expr.Selector.TheVariants as by
use Rattle.occ_typing_rules.specs.declared.expr.TypedActual.{TypedActual}
use Rattle.occ_typing_rules.specs.declared.expr.TypedActual.TheVariants as actual
use Rattle.occ_typing_rules.specs.declared.expr.TypedElement.{TypedElement, out-TypedElement, roll-TypedElement}
use Rattle.occ_typing_rules.specs.declared.expr.TypedExpr.{TypedExpr}
use Rattle.occ_typing_rules.specs.declared.expr.TypedExpr.TheVariants as typed
use Rattle.occ_forms_expressions.specs.declared.tree.Bounds.{Bounds}
use Rattle.occ_forms_expressions.specs.declared.tree.Bounds.TheOpen.{Operand-F}
use Rattle.occ_forms_expressions.specs.declared.tree.Bounds.TheVariants as bounds
use Rattle.occ_forms_expressions.specs.declared.tree.Builtin.{Builtin}
use Rattle.occ_forms_expressions.specs.declared.tree.Dimension.{Dimension}
use Rattle.occ_forms_expressions.specs.declared.tree.Element.{Element}
use Rattle.occ_forms_expressions.specs.declared.tree.Element.TheVariants as el
use Rattle.occ_forms_expressions.specs.declared.tree.Expr.{Expr}
use Rattle.occ_forms_expressions.specs.declared.tree.Expr.TheVariants as x
use Rattle.occ_forms_expressions.specs.declared.tree.Extreme.{Extreme}
use Rattle.occ_forms_expressions.specs.declared.tree.Extreme.TheVariants as extreme
use Rattle.occ_forms_expressions.specs.declared.tree.Literal.{Literal}
use Rattle.occ_forms_expressions.specs.declared.tree.Literal.TheVariants as l
use Rattle.occ_forms_expressions.specs.declared.tree.MonadicOperator.{MonadicOperator}
use Rattle.occ_forms_expressions.specs.declared.tree.MonadicOperator.TheVariants as mo
use Rattle.occ_forms_expressions.specs.declared.tree.NamedOperand.{NamedOperand}
use Rattle.occ_forms_expressions.specs.declared.tree.NamedOperand.TheVariants as n
use Rattle.occ_forms_expressions.specs.declared.tree.Operand.{Operand, out-Operand}
use Rattle.occ_forms_expressions.specs.declared.tree.Operand.TheVariants as o
use Rattle.occ_forms_expressions.specs.declared.tree.PairOperator.{PairOperator}
use Rattle.occ_forms_expressions.specs.declared.tree.RunOperator.{RunOperator}
use Rattle.occ_forms_expressions.specs.declared.tree.TypeForm.{TypeForm}
use Rattle.occ_expr_operations.specs.Operations.{pair_operator, run_operator}

-- ---- literals

-- the value of an integer in a type that is this one under its names, if that is an integer type or BYTE which the number fits
abbrev pub decimal_in : Option Primitive → ℤ → Option Value
decimal_in None i = None
decimal_in (Some base) i = number_value base i

abbrev pub hexadecimal_in : Option Primitive → ℕ → Option Value
hexadecimal_in None i = None
hexadecimal_in (Some base) i = pattern_value base i

-- a literal has its number as a value of its type; a character its byte; a string, as all arrays, has no value
abbrev pub IsOfLiteral : Literal → Known → Type 0
IsOfLiteral (l.Decimal i) k = k.value ≡ decimal_in (number (base_of k.of)) (pos i)
IsOfLiteral (l.Hexadecimal i) k = k.value ≡ hexadecimal_in (number (base_of k.of)) i
IsOfLiteral (l.Character b) k = k.value ≡ Some (v.Byte b)
IsOfLiteral (l.String bytes) k = k.value ≡ None

-- the number of `MOSTPOS` or `MOSTNEG`
abbrev pub end_of : Extreme → Primitive → ℤ
end_of extreme.Greatest = greatest_of
end_of extreme.Least = least_of

abbrev pub end_in : Extreme → Option Primitive → Option Value
end_in e None = None
end_in e (Some base) = Some (value_of base (end_of e base))

-- ---- operators

-- what an operator in front means; SIZE has trees of its own
abbrev pub front_operator : MonadicOperator → Option Monadic
front_operator mo.Negate = Some m.Negate
front_operator mo.Minus = Some m.Minus
front_operator mo.BitNot = Some m.BitNot
front_operator mo.BitNotWord = Some m.BitNot
front_operator mo.Not = Some m.Not
front_operator mo.Size = None

-- ---- forms

abbrev pub digits_layer : Operand-F Bounds Builtin Dimension Element Expr NamedOperand Operand TypeForm → Option ℕ
digits_layer (Operand-F.Operand::Literal (l.Decimal i)) = Some i
digits_layer _ = None

-- the integer in decimal digits that an operand is
unfoldable pub digits_in : Operand → Option ℕ
digits_in e = digits_layer (out-Operand e)

-- a name alone
abbrev pub name_alone : List ℕ → Expr
name_alone name = x.Alone (o.Element (el.Named name []))

-- what an element is: this part of what this specification gives its name
abbrev pub part : Known → List ℕ → Referent → List Selector → TypedElement
part k name r selecting = roll-TypedElement record { known = k; name = name; referent = r; selectors = selecting }

-- actuals for formals that are VAL
abbrev pub values : List TypedExpr → List TypedActual
values [] = []
values (t ∷ ts) = actual.Value t ∷ values ts

mutual
  -- in the scope, the tree is one of the expression
  pub data IsOfExpr (s : Scope) : Expr → TypedExpr → Type 0 where
    alone : (e : Operand) (t : TypedExpr) → IsOfOperand s e t → IsOfExpr s (x.Alone e) t
    -- `n [e]`, of a data type n: the conversion of a table of one item
    table_converted : (name : List ℕ) (e : Expr) (to : Option OccType) (k j : Known) (t : TypedExpr) → visible s name ≡ Some (meaning.Type to)
        → IsOfExpr s e t → IsOfExpr s (x.Alone (o.Element (el.Named name (e ∷ [])))) (typed.Converted k (typed.Table j (t ∷ [])))
    run : (op : RunOperator) (a b : Operand) (es : List Operand) (k : Known) (ts : List TypedExpr)
        → AreOfOperands s (a ∷ b ∷ es) ts → IsOfExpr s (x.Run op a b es) (typed.Operation k (run_operator op) ts)
    pair : (a : Operand) (op : PairOperator) (b : Operand) (k : Known) (t u : TypedExpr)
        → IsOfOperand s a t → IsOfOperand s b u → IsOfExpr s (x.Pair a op b) (typed.Operation k (pair_operator op) (t ∷ u ∷ []))
    front : (op : MonadicOperator) (means : Monadic) (e : Operand) (k : Known) (t : TypedExpr)
        → front_operator op ≡ Some means → IsOfOperand s e t → IsOfExpr s (x.Applied op e) (typed.Applied k means t)
    -- `-` and an integer in decimal digits are one literal
    negative : (i : ℕ) (k : Known) → k.value ≡ decimal_in (number (base_of k.of)) (pos 0 -ℤ pos i) → IsOfExpr s (x.Applied mo.Negate (o.Literal (l.Decimal i))) (typed.Literal k)
    size : (e : Operand) (k : Known) (t : TypedExpr) → IsOfOperand s e t → IsOfExpr s (x.Applied mo.Size e) (typed.Size k t)
    converted : (ds : List Dimension) (to : Builtin) (e : Operand) (k : Known) (t : TypedExpr)
        → IsOfOperand s e t → IsOfExpr s (x.Converted ds to e) (typed.Converted k t)
    array_converted : (d : Dimension) (ds : List Dimension) (name : List ℕ) (e : Operand) (k : Known) (t : TypedExpr)
        → IsOfOperand s e t → IsOfExpr s (x.ArrayConverted d ds name e) (typed.Converted k t)
    named_converted : (name : List ℕ) (e : NamedOperand) (k : Known) (t : TypedExpr)
        → IsOfNamed s e t → IsOfExpr s (x.Named name e) (typed.Converted k t)
    most : (end : Extreme) (of : TypeForm) (k : Known) → k.value ≡ end_in end (number (base_of k.of)) → IsOfExpr s (x.Most end of) (typed.Literal k)

  pub data IsOfOperand (s : Scope) : Operand → TypedExpr → Type 0 where
    element : (e : Element) (t : TypedElement) → IsOfElement s e t → IsOfOperand s (o.Element e) (typed.Element t)
    literal : (e : Literal) (k : Known) → IsOfLiteral e k → IsOfOperand s (o.Literal e) (typed.Literal k)
    decorated : (e : Literal) (of : TypeForm) (k : Known) → IsOfLiteral e k → IsOfOperand s (o.Decorated e of) (typed.Literal k)
    truth : (b : Bool) (k : Known) → k.value ≡ Some (v.Bool b) → IsOfOperand s (o.Truth b) (typed.Literal k)
    parens : (e : Expr) (t : TypedExpr) → IsOfExpr s e t → IsOfOperand s (o.Parens e) t
    table : (e : Expr) (es : List Expr) (k : Known) (ts : List TypedExpr) → AreOfExprs s (e ∷ es) ts → IsOfOperand s (o.Table e es) (typed.Table k ts)
    decorated_table : (e : Expr) (es : List Expr) (of : TypeForm) (k : Known) (ts : List TypedExpr)
        → AreOfExprs s (e ∷ es) ts → IsOfOperand s (o.DecoratedTable e es of) (typed.Table k ts)
    -- `n (e, ..)`, of a FUNCTION n
    call : (name : List ℕ) (es : List Expr) (k : Known) (r : Referent) (formals : List Formal) (results : List OccType) (ts : List TypedExpr)
        → visible s name ≡ Some (meaning.Function formals results) → referent s name ≡ Some r → AreOfExprs s es ts
        → IsOfOperand s (o.Call name es) (typed.Call k r (values ts))
    -- `n (e)`, of a data type n
    call_converted : (name : List ℕ) (e : Expr) (to : Option OccType) (k : Known) (t : TypedExpr) → visible s name ≡ Some (meaning.Type to)
        → IsOfExpr s e t → IsOfOperand s (o.Call name (e ∷ [])) (typed.Converted k t)

  -- an operand after the name of a type
  pub data IsOfNamed (s : Scope) : NamedOperand → TypedExpr → Type 0 where
    named_element : (e : Element) (t : TypedElement) → IsOfElement s e t → IsOfNamed s (n.Element e) (typed.Element t)
    named_literal : (e : Literal) (k : Known) → IsOfLiteral e k → IsOfNamed s (n.Literal e) (typed.Literal k)
    named_decorated : (e : Literal) (of : TypeForm) (k : Known) → IsOfLiteral e k → IsOfNamed s (n.Decorated e of) (typed.Literal k)
    named_truth : (b : Bool) (k : Known) → k.value ≡ Some (v.Bool b) → IsOfNamed s (n.Truth b) (typed.Literal k)
    named_table : (e f : Expr) (es : List Expr) (k : Known) (ts : List TypedExpr) → AreOfExprs s (e ∷ f ∷ es) ts → IsOfNamed s (n.Table e f es) (typed.Table k ts)
    named_decorated_table : (e : Expr) (es : List Expr) (of : TypeForm) (k : Known) (ts : List TypedExpr)
        → AreOfExprs s (e ∷ es) ts → IsOfNamed s (n.DecoratedTable e es of) (typed.Table k ts)
    named_call : (name : List ℕ) (es : List Expr) (k : Known) (r : Referent) (formals : List Formal) (results : List OccType) (ts : List TypedExpr)
        → visible s name ≡ Some (meaning.Function formals results) → referent s name ≡ Some r → AreOfExprs s es ts
        → IsOfNamed s (n.Call name es) (typed.Call k r (values ts))
    named_call_converted : (name : List ℕ) (e : Expr) (to : Option OccType) (k : Known) (t : TypedExpr) → visible s name ≡ Some (meaning.Type to)
        → IsOfExpr s e t → IsOfNamed s (n.Call name (e ∷ [])) (typed.Converted k t)

  pub data IsOfElement (s : Scope) : Element → TypedElement → Type 0 where
    named : (name : List ℕ) (es : List Expr) (k : Known) (r : Referent) (selecting : List Selector)
        → referent s name ≡ Some r → AreOfSubscripts s es selecting → IsOfElement s (el.Named name es) (part k name r selecting)
    -- of what the element is a part, then which segment, then the subscripts after it
    segment : (e : Element) (b : Bounds) (es : List Expr) (k : Known) (t : TypedElement) (by_bounds : Selector) (following : List Selector)
        → IsOfElement s e t → IsOfBounds s b by_bounds → AreOfSubscripts s es following
        → IsOfElement s (el.Segment e b es)
        (part k (out-TypedElement t).name (out-TypedElement t).referent (((out-TypedElement t).selectors ++ by_bounds ∷ []) ++ following))

  -- the selector has the bounds; of how many components it is, the form does not say
  pub data IsOfBounds (s : Scope) : Bounds → Selector → Type 0 where
    from : (e : Expr) (count : Option ℕ) (t : TypedExpr) → IsOfExpr s e t → IsOfBounds s (bounds.From e) (by.From count t)
    so_many : (e : Expr) (count : Option ℕ) (t : TypedExpr) → IsOfExpr s e t → IsOfBounds s (bounds.For e) (by.For count t)
    from_so_many : (e f : Expr) (count : Option ℕ) (t u : TypedExpr) → IsOfExpr s e t → IsOfExpr s f u → IsOfBounds s (bounds.FromFor e f) (by.FromFor count t u)

  -- each subscript selects a component at a place, or, if it is a name alone, the field of that name
  pub data AreOfSubscripts (s : Scope) : List Expr → List Selector → Type 0 where
    no_subscript : AreOfSubscripts s [] []
    component : (e : Expr) (es : List Expr) (t : TypedExpr) (following : List Selector)
        → IsOfExpr s e t → AreOfSubscripts s es following → AreOfSubscripts s (e ∷ es) (by.Component t ∷ following)
    field : (name : List ℕ) (place : ℕ) (es : List Expr) (following : List Selector)
        → AreOfSubscripts s es following → AreOfSubscripts s (name_alone name ∷ es) (by.Field place name ∷ following)

  -- as many, each of the one at its place
  pub data AreOfExprs (s : Scope) : List Expr → List TypedExpr → Type 0 where
    no_expr : AreOfExprs s [] []
    one_expr : (e : Expr) (es : List Expr) (t : TypedExpr) (ts : List TypedExpr) → IsOfExpr s e t → AreOfExprs s es ts → AreOfExprs s (e ∷ es) (t ∷ ts)

  pub data AreOfOperands (s : Scope) : List Operand → List TypedExpr → Type 0 where
    no_operand : AreOfOperands s [] []
    one_operand : (e : Operand) (es : List Operand) (t : TypedExpr) (ts : List TypedExpr)
        → IsOfOperand s e t → AreOfOperands s es ts → AreOfOperands s (e ∷ es) (t ∷ ts)
