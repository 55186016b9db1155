-- What is said of expressions, elements and types in a scope, and their open expressions.
use Rattle.std.specs.Prelude.{ℕ, Option, Some, None, List, [], ◌∷◌, ◌++◌}
use Rattle.occ_types.specs.declared.types.OccType.TheVariants as t
use Rattle.occ_types.specs.declared.types.Protocol.TheVariants as protocol
use Rattle.occ_typing_operands.specs.Settling.{Finding}
use Rattle.occ_typing_operands.specs.declared.kind.Kind.{Kind}
use Rattle.occ_typing_operands.specs.declared.kind.Kind.TheVariants as k
use Rattle.occ_scope.specs.Lookup.{data_type, element, good}
use Rattle.occ_scope.specs.Visible.{referent, visible}
use Rattle.occ_scope.specs.declared.scope.Scope.{Scope}
use Rattle.occ_typing_tables.specs.Dimensions.{size}
use Rattle.occ_typing_tables.specs.Terms.{judged, judged_all}
use Rattle.occ_typing_tables.specs.declared.selection.BoundTerms.TheVariants as bounds
use Rattle.occ_typing_rules.specs.declared.open_expr.OpenExpr.{OpenExpr}
use Rattle.occ_typing_rules.specs.declared.open_expr.OpenExpr.TheVariants as d
use Rattle.occ_typing_rules.specs.declared.expr.Selector.{Selector}
use Rattle.occ_typing_rules.specs.declared.expr.Selector.TheVariants as by
use Rattle.occ_typing_rules.specs.declared.expr.TypedElement.{TypedElement, out-TypedElement}
use Rattle.occ_typing_rules.specs.declared.expr.TypedExpr.{TypedExpr}
use Rattle.occ_types.specs.Fits.{unnamed}
use Rattle.occ_types.specs.View.{as_array}
use Rattle.occ_types.specs.declared.types.OccType.{OccType}
use Rattle.occ_scope.specs.declared.meaning.Meaning.{Meaning}
use Rattle.occ_scope.specs.declared.meaning.Meaning.TheVariants as meaning
use Rattle.occ_forms_expressions.specs.declared.tree.Bounds.{Bounds}
use Rattle.occ_forms_expressions.specs.declared.tree.Bounds.TheFolds.{fold-Bounds, fold-Builtin, fold-Dimension, fold-Element, fold-Expr, fold-NamedOperand, fold-Operand, fold-TypeForm}
use Rattle.occ_forms_expressions.specs.declared.tree.Bounds.TheOpen.{Bounds-F, Builtin-F, Dimension-F, Element-F, Expr-F, NamedOperand-F, Operand-F, TypeForm-F}
use Rattle.occ_forms_expressions.specs.declared.tree.Builtin.{Builtin}
use Rattle.occ_forms_expressions.specs.declared.tree.Dimension.{Dimension}
use Rattle.occ_forms_expressions.specs.declared.tree.Element.{Element}
use Rattle.occ_forms_expressions.specs.declared.tree.Expr.{Expr}
use Rattle.occ_forms_expressions.specs.declared.tree.Literal.{Literal}
use Rattle.occ_forms_expressions.specs.declared.tree.Literal.TheVariants as l
use Rattle.occ_forms_expressions.specs.declared.tree.NamedOperand.{NamedOperand}
use Rattle.occ_forms_expressions.specs.declared.tree.Operand.{Operand}
use Rattle.occ_forms_expressions.specs.declared.tree.PairOperator.{PairOperator}
use Rattle.occ_forms_expressions.specs.declared.tree.RunOperator.{RunOperator}
use Rattle.occ_forms_expressions.specs.declared.tree.TypeForm.{TypeForm}
use Rattle.occ_expr_operations.specs.Literals.{decorated_literal, literal, truth}
use Rattle.occ_expr_operations.specs.Operations.{applied, converted, extreme_of, operation, pair, run_operator}
use Rattle.occ_expr_operations.specs.OpenExprs.{applied_open, conversion_open, decorated_open, literal_open, operand_call, operation_open, pair_open}
use Rattle.occ_expr_operations.specs.Elements.{element_open, element_of, one_selector, place_tree, selectors, with_selectors}
use Rattle.occ_expr_operations.specs.Parts.{ExprView, Said, SaidBounds, after, call, function_call, in_scope, named, named_element, only, own_faults, segment_element, segment_within, single, table, table_with_type, terms, whole_element}
use Rattle.occ_expr_operations.specs.Written.{Spanning, Written, array_over, array_over_more, channel, data_form, counted_channel, extent_of, open_dimension, primitive_of}
use Rattle.occ_expr_operations.specs.declared.written.Opening.{Opening}
use Rattle.occ_expr_operations.specs.declared.written.Opening.TheVariants as opening

-- ---- what a form is in any scope

-- an element: the name that it is alone, what is reported of it where it is no whole expression and as one, its typed tree, and
-- its open expression as a whole expression
pub record ElementView : Type 0 where
  pub name : Option (List ℕ)
  pub reported : Scope → Finding
  pub whole : Scope → Finding
  pub tree : Scope → Option TypedElement
  pub whole_open : Scope → OpenExpr

-- an operand: also the integer in decimal digits that it is, without a type of its own
pub record OperandView : Type 0 where
  pub name : Option (List ℕ)
  pub digits : Option ℕ
  pub said : Scope → Said
  pub whole : Scope → Said
  pub open_expr : Scope → OpenExpr
  pub whole_open : Scope → OpenExpr

-- which part a segment is of so many components, if their number is known
pub record BoundsView : Type 0 where
  pub said : Scope → SaidBounds
  pub tree : Scope → Option ℕ → Option Selector

abbrev pub BuiltinView : Type 0
BuiltinView = Scope → Written

-- `[]` may stand in it or not
abbrev pub DimensionView : Type 0
DimensionView = Opening → Scope → Spanning

abbrev pub TypeFormView : Type 0
TypeFormView = Opening → Scope → Written

-- an operand after the name of a type
pub record NamedOperandView : Type 0 where
  pub said : Scope → Said
  pub open_expr : Scope → OpenExpr

-- ---- dimensions and types

abbrev pub each : Opening → Scope → List DimensionView → List Spanning
each opening s [] = []
each opening s (d ∷ ds) = d opening s ∷ each opening s ds

abbrev pub sized_dimension : Said → Spanning
sized_dimension x = let y = size (judged x.term) in record { faults = x.faults ++ y.faults; extent = extent_of y.count }

abbrev pub dimension_step : Dimension-F BoundsView BuiltinView DimensionView ElementView ExprView NamedOperandView OperandView TypeFormView → DimensionView
dimension_step Dimension-F.Open opening s = open_dimension opening
dimension_step (Dimension-F.Sized e) opening s = sized_dimension (e.said s)

abbrev pub builtin_step : Builtin-F BoundsView BuiltinView DimensionView ElementView ExprView NamedOperandView OperandView TypeFormView → BuiltinView
builtin_step (Builtin-F.Primitive w) s = good (t.Primitive (primitive_of w))
builtin_step Builtin-F.Timer s = good t.Timer
builtin_step (Builtin-F.AnyChannel words) s = good (t.Channel protocol.Any)
builtin_step (Builtin-F.Channel words ds base) s = channel s (each opening.Refused s ds) base
builtin_step (Builtin-F.Counted words ds base es other) s =
    counted_channel (data_form s (each opening.Refused s ds) base) (data_form s (each opening.Refused s es) other)

abbrev pub type_form_step : TypeForm-F BoundsView BuiltinView DimensionView ElementView ExprView NamedOperandView OperandView TypeFormView → TypeFormView
type_form_step (TypeForm-F.TypeForm::Named ds name) opening s = array_over (each opening s ds) (data_type name (visible s name))
type_form_step (TypeForm-F.Builtin ds builtin) opening s = array_over (each opening s ds) (builtin s)

-- ---- elements

abbrev pub name_alone : List ℕ → List ExprView → Option (List ℕ)
name_alone name [] = Some name
name_alone name (e ∷ es) = None

abbrev pub said_bounds : Said → Said → SaidBounds
said_bounds x y = record { faults = x.faults ++ y.faults; bounds = bounds.FromFor x.term y.term }

abbrev pub from_of : Option ℕ → Option TypedExpr → Option Selector
from_of n None = None
from_of n (Some t) = Some (by.From n t)

abbrev pub for_of : Option ℕ → Option TypedExpr → Option Selector
for_of n None = None
for_of n (Some t) = Some (by.For n t)

abbrev pub from_for_of : Option ℕ → Option TypedExpr → Option TypedExpr → Option Selector
from_for_of n None u = None
from_for_of n (Some t) None = None
from_for_of n (Some t) (Some u) = Some (by.FromFor n t u)

abbrev pub bounds_step : Bounds-F BoundsView BuiltinView DimensionView ElementView ExprView NamedOperandView OperandView TypeFormView → BoundsView
bounds_step (Bounds-F.From e) =
    record { said = λ s. let x = e.said s in record { faults = x.faults; bounds = bounds.From x.term }; tree = λ s n. from_of n (place_tree s e) }
bounds_step (Bounds-F.For e) =
    record { said = λ s. let x = e.said s in record { faults = x.faults; bounds = bounds.For x.term }; tree = λ s n. for_of n (place_tree s e) }
bounds_step (Bounds-F.FromFor e f) =
    record { said = λ s. said_bounds (e.said s) (f.said s); tree = λ s n. from_for_of n (place_tree s e) (place_tree s f) }

-- a name with subscripts
unfoldable pub named_tree : Scope → List ℕ → List ExprView → Option TypedElement
named_tree s name es = element_of (named_element s name es).kind name (referent s name) (selectors s es (named (element name (visible s name))).kind)

abbrev pub count_in : Option (Option ℕ × OccType) → Option ℕ
count_in None = None
count_in (Some parts) = parts.0

-- the number of components of what is known, if it is an array and its number is known
abbrev pub components_of : Kind → Option ℕ
components_of k.Faulty = None
components_of (k.Untyped f) = None
components_of (k.Known x) = count_in (as_array (unnamed x.of))

-- of what the element is a part, then which segment, then the subscripts after it
unfoldable pub part_of : Kind → Option TypedElement → Option Selector → Option (List Selector) → Option TypedElement
part_of kind None part following = None
part_of kind (Some el) part following =
    let x = out-TypedElement el in
    element_of kind x.name (Some x.referent) (with_selectors (with_selectors (Some x.selectors) (one_selector part)) following)

abbrev pub segment_tree : Scope → ElementView → BoundsView → List ExprView → Option TypedElement
segment_tree s el b es =
    let whole = el.reported s in
    part_of (segment_element s whole (b.said s) es).kind (el.tree s) (b.tree s (components_of whole.kind)) (selectors s es (segment_within (b.said s) whole.kind).kind)

-- `n[e]` as a whole expression: the conversion of a table of one item, if n is a data type
abbrev pub converted_element : Scope → Option OccType → Option ExprView → OpenExpr → OpenExpr
converted_element s to None as_element = as_element
converted_element s to (Some e) as_element = conversion_open to (judged (table (e.said s ∷ [])).term) (d.Table (e.open_expr s ∷ []))

abbrev pub whole_open_of : Scope → List ExprView → Option Meaning → OpenExpr → OpenExpr
whole_open_of s es (Some (meaning.Type to)) as_element = converted_element s to (only es) as_element
whole_open_of s es found as_element = as_element

unfoldable pub whole_element_open : Scope → List ℕ → List ExprView → OpenExpr
whole_element_open s name es = whole_open_of s es (visible s name) (element_open (named_tree s name es))

abbrev pub element_step : Element-F BoundsView BuiltinView DimensionView ElementView ExprView NamedOperandView OperandView TypeFormView → ElementView
element_step (Element-F.Element::Named name es) =
    record {
      name = name_alone name es;
      reported = λ s. named_element s name es;
      whole = λ s. whole_element s name es;
      tree = λ s. named_tree s name es;
      whole_open = λ s. whole_element_open s name es;
    }
element_step (Element-F.Segment el b es) =
    record {
      name = None;
      reported = λ s. segment_element s (el.reported s) (b.said s) es;
      whole = λ s. segment_element s (el.reported s) (b.said s) es;
      tree = λ s. segment_tree s el b es;
      whole_open = λ s. element_open (segment_tree s el b es);
    }

-- ---- operands

abbrev pub digits_of : Literal → Option ℕ
digits_of (l.Decimal n) = Some n
digits_of (l.Hexadecimal n) = None
digits_of (l.Character b) = None
digits_of (l.String bytes) = None

abbrev pub decorated : Written → Literal → Finding
decorated of lit = after of.faults (decorated_literal of.found lit)

-- an operand that is the same as a whole expression
abbrev pub either_way : (Scope → Said) → (Scope → OpenExpr) → OperandView
either_way said open_expr = record { name = None; digits = None; said = said; whole = said; open_expr = open_expr; whole_open = open_expr }

-- a literal with its type, `TRUE` or `FALSE`
abbrev pub literal_operand : (Scope → Finding) → OperandView
literal_operand reported = either_way (λ s. single (reported s)) (λ s. literal_open (reported s).kind)

abbrev pub item_opens : Scope → List ExprView → List OpenExpr
item_opens s [] = []
item_opens s (e ∷ es) = e.open_expr s ∷ item_opens s es

-- `n (e, ..)`
abbrev pub converted_call : Scope → Option OccType → Option ExprView → OpenExpr
converted_call s to None = d.Faulty
converted_call s to (Some e) = conversion_open to (judged (e.said s).term) (e.open_expr s)

abbrev pub call_open_of : Scope → List ℕ → List ExprView → Option Meaning → OpenExpr
call_open_of s name es (Some (meaning.Type to)) = converted_call s to (only es)
call_open_of s name es (Some (meaning.Function formals results)) =
    operand_call (function_call formals results (in_scope s es)).kind (referent s name) formals (item_opens s es)
call_open_of s name es found = d.Faulty

unfoldable pub call_open : Scope → List ℕ → List ExprView → OpenExpr
call_open s name es = call_open_of s name es (visible s name)

-- a table with its type
abbrev pub decorated_table : Scope → List ExprView → TypeFormView → Finding
decorated_table s es of = table_with_type (in_scope s es) (of opening.Refused s)

abbrev pub operand_step : Operand-F BoundsView BuiltinView DimensionView ElementView ExprView NamedOperandView OperandView TypeFormView → OperandView
operand_step (Operand-F.Operand::Element el) =
    record {
      name = el.name;
      digits = None;
      said = λ s. single (el.reported s);
      whole = λ s. single (el.whole s);
      open_expr = λ s. element_open (el.tree s);
      whole_open = el.whole_open;
    }
operand_step (Operand-F.Operand::Literal lit) =
    record {
      name = None;
      digits = digits_of lit;
      said = λ s. single (literal lit);
      whole = λ s. single (literal lit);
      open_expr = λ s. literal_open (literal lit).kind;
      whole_open = λ s. literal_open (literal lit).kind;
    }
operand_step (Operand-F.Operand::Decorated lit of) = literal_operand (λ s. decorated (of opening.Refused s) lit)
operand_step (Operand-F.Operand::Truth b) = literal_operand (λ s. truth b)
operand_step (Operand-F.Parens e) = either_way e.said e.open_expr
operand_step (Operand-F.Operand::Table e es) = either_way (λ s. table (in_scope s (e ∷ es))) (λ s. d.Table (item_opens s (e ∷ es)))
operand_step (Operand-F.Operand::DecoratedTable e es of) =
    either_way
    (λ s. single (decorated_table s (e ∷ es) of))
    (λ s. decorated_open (decorated_table s (e ∷ es) of).kind (item_opens s (e ∷ es)))
operand_step (Operand-F.Operand::Call name es) = either_way (λ s. single (call s name es)) (λ s. call_open s name es)

-- a literal after the name of a type, with its type or without
abbrev pub named_literal : (Scope → Finding) → NamedOperandView
named_literal reported = record { said = λ s. single (reported s); open_expr = λ s. literal_open (reported s).kind }

abbrev pub named_operand_step : NamedOperand-F BoundsView BuiltinView DimensionView ElementView ExprView NamedOperandView OperandView TypeFormView → NamedOperandView
named_operand_step (NamedOperand-F.NamedOperand::Element el) = record { said = λ s. single (el.reported s); open_expr = λ s. element_open (el.tree s) }
named_operand_step (NamedOperand-F.NamedOperand::Literal lit) = named_literal (λ s. literal lit)
named_operand_step (NamedOperand-F.NamedOperand::Decorated lit of) = named_literal (λ s. decorated (of opening.Refused s) lit)
named_operand_step (NamedOperand-F.NamedOperand::Truth b) = named_literal (λ s. truth b)
named_operand_step (NamedOperand-F.NamedOperand::Table e f es) =
    record { said = λ s. table (in_scope s (e ∷ f ∷ es)); open_expr = λ s. d.Table (item_opens s (e ∷ f ∷ es)) }
named_operand_step (NamedOperand-F.NamedOperand::DecoratedTable e es of) =
    record {
      said = λ s. single (decorated_table s (e ∷ es) of);
      open_expr = λ s. decorated_open (decorated_table s (e ∷ es) of).kind (item_opens s (e ∷ es));
    }
named_operand_step (NamedOperand-F.NamedOperand::Call name es) = record { said = λ s. single (call s name es); open_expr = λ s. call_open s name es }

-- ---- expressions

abbrev pub operands : Scope → List OperandView → List Said
operands s [] = []
operands s (o ∷ os) = o.said s ∷ operands s os

abbrev pub operand_opens : Scope → List OperandView → List OpenExpr
operand_opens s [] = []
operand_opens s (o ∷ os) = o.open_expr s ∷ operand_opens s os

abbrev pub run_reported : Scope → RunOperator → List OperandView → Finding
run_reported s operator os = let xs = operands s os in after (own_faults xs) (operation (run_operator operator) (judged_all (terms xs)))

abbrev pub pair_reported : PairOperator → Said → Said → Finding
pair_reported operator x y = after (x.faults ++ y.faults) (pair operator (judged x.term) (judged y.term))

abbrev pub conversion : Written → Said → Finding
conversion to x = after (to.faults ++ x.faults) (converted to.found (judged x.term))

-- an expression with parts, of which this is reported, and its open expression
abbrev pub composed : (Scope → Finding) → (Scope → OpenExpr) → ExprView
composed reported open_expr = record { name = None; said = λ s. single (reported s); open_expr = open_expr }

-- a conversion of what is said so, with this open expression
abbrev pub conversion_of : (Scope → Written) → (Scope → Said) → (Scope → OpenExpr) → ExprView
conversion_of to said open_expr = composed (λ s. conversion (to s) (said s)) (λ s. conversion_open (to s).found (judged (said s).term) (open_expr s))

abbrev pub expr_step : Expr-F BoundsView BuiltinView DimensionView ElementView ExprView NamedOperandView OperandView TypeFormView → ExprView
expr_step (Expr-F.Alone o) = record { name = o.name; said = o.whole; open_expr = o.whole_open }
expr_step (Expr-F.Run operator a b os) =
    composed
    (λ s. run_reported s operator (a ∷ b ∷ os))
    (λ s. operation_open (run_reported s operator (a ∷ b ∷ os)).kind (run_operator operator) (operand_opens s (a ∷ b ∷ os)))
expr_step (Expr-F.Pair a operator b) =
    composed
    (λ s. pair_reported operator (a.said s) (b.said s))
    (λ s. pair_open (pair_reported operator (a.said s) (b.said s)).kind operator (a.open_expr s) (b.open_expr s))
expr_step (Expr-F.Applied operator o) =
    composed
    (λ s. let x = o.said s in after x.faults (applied operator o.digits (judged x.term)))
    (λ s. let x = judged (o.said s).term in applied_open (applied operator o.digits x).kind operator o.digits x (o.open_expr s))
expr_step (Expr-F.Converted ds builtin o) = conversion_of (λ s. array_over (each opening.Refused s ds) (builtin s)) o.said o.open_expr
expr_step (Expr-F.ArrayConverted d ds name o) =
    conversion_of (λ s. array_over_more (d opening.Refused s) (each opening.Refused s ds) (data_type name (visible s name))) o.said o.open_expr
expr_step (Expr-F.Expr::Named name o) = conversion_of (λ s. array_over [] (data_type name (visible s name))) o.said o.open_expr
expr_step (Expr-F.Most extreme of) =
    let reported = λ (s : Scope). let to = of opening.Refused s in after to.faults (extreme_of extreme to.found) in
    composed reported (λ s. literal_open (reported s).kind)

-- ---- of trees

abbrev pub bounds_view : Bounds → BoundsView
bounds_view = fold-Bounds BoundsView BuiltinView DimensionView ElementView ExprView NamedOperandView OperandView TypeFormView bounds_step builtin_step dimension_step element_step expr_step named_operand_step operand_step type_form_step

abbrev pub builtin_view : Builtin → BuiltinView
builtin_view = fold-Builtin BoundsView BuiltinView DimensionView ElementView ExprView NamedOperandView OperandView TypeFormView bounds_step builtin_step dimension_step element_step expr_step named_operand_step operand_step type_form_step

abbrev pub dimension_view : Dimension → DimensionView
dimension_view = fold-Dimension BoundsView BuiltinView DimensionView ElementView ExprView NamedOperandView OperandView TypeFormView bounds_step builtin_step dimension_step element_step expr_step named_operand_step operand_step type_form_step

abbrev pub element_view : Element → ElementView
element_view = fold-Element BoundsView BuiltinView DimensionView ElementView ExprView NamedOperandView OperandView TypeFormView bounds_step builtin_step dimension_step element_step expr_step named_operand_step operand_step type_form_step

abbrev pub expr_view : Expr → ExprView
expr_view = fold-Expr BoundsView BuiltinView DimensionView ElementView ExprView NamedOperandView OperandView TypeFormView bounds_step builtin_step dimension_step element_step expr_step named_operand_step operand_step type_form_step

abbrev pub named_operand_view : NamedOperand → NamedOperandView
named_operand_view = fold-NamedOperand BoundsView BuiltinView DimensionView ElementView ExprView NamedOperandView OperandView TypeFormView bounds_step builtin_step dimension_step element_step expr_step named_operand_step operand_step type_form_step

abbrev pub operand_view : Operand → OperandView
operand_view = fold-Operand BoundsView BuiltinView DimensionView ElementView ExprView NamedOperandView OperandView TypeFormView bounds_step builtin_step dimension_step element_step expr_step named_operand_step operand_step type_form_step

abbrev pub type_form_view : TypeForm → TypeFormView
type_form_view = fold-TypeForm BoundsView BuiltinView DimensionView ElementView ExprView NamedOperandView OperandView TypeFormView bounds_step builtin_step dimension_step element_step expr_step named_operand_step operand_step type_form_step

abbrev pub expr_views : List Expr → List ExprView
expr_views [] = []
expr_views (e ∷ es) = expr_view e ∷ expr_views es

abbrev pub operand_views : List Operand → List OperandView
operand_views [] = []
operand_views (o ∷ os) = operand_view o ∷ operand_views os

abbrev pub dimension_views : List Dimension → List DimensionView
dimension_views [] = []
dimension_views (d ∷ ds) = dimension_view d ∷ dimension_views ds
