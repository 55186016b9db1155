-- How many brackets are open at once in a line, and how many dimensions a type in a tree has at most.
use Rattle.std.specs.Prelude.{◌+◌, ◌-◌, max, ℕ, List, [], ◌∷◌, length, map}
use Rattle.occ_lines.specs.declared.token.Token.{Token}
use Rattle.occ_lines.specs.declared.token.Token.TheVariants as t
use Rattle.occ_lines.specs.declared.token.Symbol.{Symbol}
use Rattle.occ_lines.specs.declared.token.Symbol.TheVariants as s
use Rattle.occ_forms_expressions.specs.declared.tree.Bounds.{Bounds}
use Rattle.occ_forms_expressions.specs.declared.tree.Bounds.TheFolds.{fold-Bounds, fold-Builtin, fold-Dimension, fold-Element, fold-Expr, fold-NamedOperand, fold-Operand, fold-TypeForm}
use Rattle.occ_forms_expressions.specs.declared.tree.Bounds.TheOpen.{Bounds-F, Builtin-F, Dimension-F, Element-F, Expr-F, NamedOperand-F, Operand-F, TypeForm-F}
use Rattle.occ_forms_expressions.specs.declared.tree.Builtin.{Builtin}
use Rattle.occ_forms_expressions.specs.declared.tree.DataForm.{DataForm}
use Rattle.occ_forms_expressions.specs.declared.tree.Dimension.{Dimension}
use Rattle.occ_forms_expressions.specs.declared.tree.Element.{Element}
use Rattle.occ_forms_expressions.specs.declared.tree.Expr.{Expr}
use Rattle.occ_forms_expressions.specs.declared.tree.NamedOperand.{NamedOperand}
use Rattle.occ_forms_expressions.specs.declared.tree.Operand.{Operand}
use Rattle.occ_forms_expressions.specs.declared.tree.TypeForm.{TypeForm}

-- the brackets that are open after a token: both kinds count together, and one that closes none changes nothing
abbrev pub open_after_symbol : ℕ → Symbol → ℕ
open_after_symbol n s.Open = n + 1
open_after_symbol n s.OpenIndex = n + 1
open_after_symbol n s.Close = n - 1
open_after_symbol n s.CloseIndex = n - 1
open_after_symbol n other = n

abbrev pub open_after : ℕ → Token → ℕ
open_after n (t.Symbol symbol) = open_after_symbol n symbol
open_after n other = n

-- the most that are open at once, where n are already
abbrev pub most_open : ℕ → List Token → ℕ
most_open n [] = n
most_open n (token ∷ tokens) = max n (most_open (open_after n token) tokens)

abbrev pub greatest : List ℕ → ℕ
greatest [] = 0
greatest (n ∷ ns) = max n (greatest ns)

-- The greatest number of dimensions that a type in a tree has. The dimensions of a type are those in front of one
-- innermost type, and those after CHAN OF are another type's. Their sizes are expressions, which may hold types too.
abbrev pub type_of : List ℕ → ℕ
type_of ds = max (length ds) (greatest ds)

abbrev pub bounds_count : Bounds-F ℕ ℕ ℕ ℕ ℕ ℕ ℕ ℕ → ℕ
bounds_count (Bounds-F.From e) = e
bounds_count (Bounds-F.For e) = e
bounds_count (Bounds-F.FromFor e f) = max e f

-- in `T::[]U` the `[]` is one more than U has
abbrev pub builtin_count : Builtin-F ℕ ℕ ℕ ℕ ℕ ℕ ℕ ℕ → ℕ
builtin_count (Builtin-F.Primitive p) = 0
builtin_count Builtin-F.Timer = 0
builtin_count (Builtin-F.AnyChannel words) = 0
builtin_count (Builtin-F.Channel words ds base) = type_of ds
builtin_count (Builtin-F.Counted words ds base es other) = max (type_of ds) (max (length es + 1) (greatest es))

abbrev pub dimension_count : Dimension-F ℕ ℕ ℕ ℕ ℕ ℕ ℕ ℕ → ℕ
dimension_count Dimension-F.Open = 0
dimension_count (Dimension-F.Sized e) = e

abbrev pub type_form_count : TypeForm-F ℕ ℕ ℕ ℕ ℕ ℕ ℕ ℕ → ℕ
type_form_count (TypeForm-F.TypeForm::Named ds name) = type_of ds
type_form_count (TypeForm-F.Builtin ds builtin) = max (type_of ds) builtin

abbrev pub element_count : Element-F ℕ ℕ ℕ ℕ ℕ ℕ ℕ ℕ → ℕ
element_count (Element-F.Element::Named name es) = greatest es
element_count (Element-F.Segment element bounds es) = max element (max bounds (greatest es))

abbrev pub operand_count : Operand-F ℕ ℕ ℕ ℕ ℕ ℕ ℕ ℕ → ℕ
operand_count (Operand-F.Operand::Element element) = element
operand_count (Operand-F.Operand::Literal literal) = 0
operand_count (Operand-F.Operand::Decorated literal type) = type
operand_count (Operand-F.Operand::Truth truth) = 0
operand_count (Operand-F.Parens e) = e
operand_count (Operand-F.Operand::Table first more) = max first (greatest more)
operand_count (Operand-F.Operand::DecoratedTable first more type) = max first (max (greatest more) type)
operand_count (Operand-F.Operand::Call name es) = greatest es

abbrev pub named_operand_count : NamedOperand-F ℕ ℕ ℕ ℕ ℕ ℕ ℕ ℕ → ℕ
named_operand_count (NamedOperand-F.NamedOperand::Element element) = element
named_operand_count (NamedOperand-F.NamedOperand::Literal literal) = 0
named_operand_count (NamedOperand-F.NamedOperand::Decorated literal type) = type
named_operand_count (NamedOperand-F.NamedOperand::Truth truth) = 0
named_operand_count (NamedOperand-F.NamedOperand::Table first second more) = max first (max second (greatest more))
named_operand_count (NamedOperand-F.NamedOperand::DecoratedTable first more type) = max first (max (greatest more) type)
named_operand_count (NamedOperand-F.NamedOperand::Call name es) = greatest es

abbrev pub expr_count : Expr-F ℕ ℕ ℕ ℕ ℕ ℕ ℕ ℕ → ℕ
expr_count (Expr-F.Alone o) = o
expr_count (Expr-F.Run operator a b more) = max a (max b (greatest more))
expr_count (Expr-F.Pair a operator b) = max a b
expr_count (Expr-F.Applied operator o) = o
expr_count (Expr-F.Converted ds builtin o) = max (type_of ds) (max builtin o)
expr_count (Expr-F.ArrayConverted d ds name o) = max (type_of (d ∷ ds)) o
expr_count (Expr-F.Expr::Named name o) = o
expr_count (Expr-F.Most extreme type) = type

abbrev pub bounds_dimensions : Bounds → ℕ
bounds_dimensions = fold-Bounds ℕ ℕ ℕ ℕ ℕ ℕ ℕ ℕ bounds_count builtin_count dimension_count element_count expr_count named_operand_count operand_count type_form_count

abbrev pub builtin_dimensions : Builtin → ℕ
builtin_dimensions = fold-Builtin ℕ ℕ ℕ ℕ ℕ ℕ ℕ ℕ bounds_count builtin_count dimension_count element_count expr_count named_operand_count operand_count type_form_count

abbrev pub dimension_dimensions : Dimension → ℕ
dimension_dimensions = fold-Dimension ℕ ℕ ℕ ℕ ℕ ℕ ℕ ℕ bounds_count builtin_count dimension_count element_count expr_count named_operand_count operand_count type_form_count

abbrev pub element_dimensions : Element → ℕ
element_dimensions = fold-Element ℕ ℕ ℕ ℕ ℕ ℕ ℕ ℕ bounds_count builtin_count dimension_count element_count expr_count named_operand_count operand_count type_form_count

abbrev pub expr_dimensions : Expr → ℕ
expr_dimensions = fold-Expr ℕ ℕ ℕ ℕ ℕ ℕ ℕ ℕ bounds_count builtin_count dimension_count element_count expr_count named_operand_count operand_count type_form_count

abbrev pub named_operand_dimensions : NamedOperand → ℕ
named_operand_dimensions = fold-NamedOperand ℕ ℕ ℕ ℕ ℕ ℕ ℕ ℕ bounds_count builtin_count dimension_count element_count expr_count named_operand_count operand_count type_form_count

abbrev pub operand_dimensions : Operand → ℕ
operand_dimensions = fold-Operand ℕ ℕ ℕ ℕ ℕ ℕ ℕ ℕ bounds_count builtin_count dimension_count element_count expr_count named_operand_count operand_count type_form_count

abbrev pub type_form_dimensions : TypeForm → ℕ
type_form_dimensions = fold-TypeForm ℕ ℕ ℕ ℕ ℕ ℕ ℕ ℕ bounds_count builtin_count dimension_count element_count expr_count named_operand_count operand_count type_form_count

abbrev pub all_dimensions : List Dimension → ℕ
all_dimensions ds = max (length ds) (greatest (map dimension_dimensions ds))

abbrev pub data_form_dimensions : DataForm → ℕ
data_form_dimensions form = all_dimensions form.dimensions

-- in `T::[]U` the `[]` is one more than U has
abbrev pub counted_dimensions : DataForm → ℕ
counted_dimensions form = max (length form.dimensions + 1) (greatest (map dimension_dimensions form.dimensions))
