-- What has a type in the relation: nothing is reported of it, and its type and value are known, form by form.
use Rattle.std.proofs.Common.{◌≡◌, ◌∙◌, ◌++◌, ◌&&◌, ◌||◌, ℕ, suc, Bool, true, false, List, [], ◌∷◌, map, length, Option, Some, None, if◌then◌else◌, refl, ap, sym, subst}
use Rattle.std.specs.List.{list_any}
use Rattle.std.specs.Prelude.{ℤ, pos, ◌-ℤ◌, not, nat_le}
use Rattle.occ_base.specs.Reporting.{nameless}
use Rattle.occ_base.specs.declared.code.Code.TheVariants as code
use Rattle.occ_base.specs.declared.fault.Fault.{Fault}
use Rattle.occ_expr_operations.specs.Literals.{decorated_literal, literal, truth}
use Rattle.occ_expr_operations.specs.Operations.{among, applied, converted, each_among, extreme_of, in_front, negated, number_of_faulty, operation, pair, pair_operator, plain, run_operator, shift, together}
use Rattle.occ_expr_operations.specs.Parts.{ExprView, Said, SaidBounds, named, after, call, call_of, in_scope, named_element, own_faults, segment_element, segment_of, segment_within, single, subscript, subscripts, table, table_as, terms, whole_element, whole_element_of}
use Rattle.occ_expr_operations.specs.Views.{BoundsView, BuiltinView, DimensionView, ElementView, NamedOperandView, OperandView, TypeFormView, bounds_view, builtin_view, decorated, decorated_table, dimension_view, dimension_views, each, element_view, expr_view, expr_views, named_operand_view, operand_view, operand_views, operands, sized_dimension, type_form_view}
use Rattle.occ_expr_operations.specs.Written.{Spanning, Written, all_spanning_faults, array_after, array_over, array_over_more, base_type, channel, count_fault, count_type, counted_channel, counted_type, channel_of_values, data_form, extent_of, extents, named_channel, primitive_of, values_channel as written_values}
use Rattle.occ_expr_operations.specs.declared.written.Extent.{Extent}
use Rattle.occ_expr_operations.specs.declared.written.Extent.TheVariants as extent
use Rattle.occ_expr_operations.specs.declared.written.Opening.TheVariants as opening
use Rattle.occ_expr_operations.proofs.Views as views
use Rattle.occ_forms_expressions.specs.declared.tree.Bounds.{Bounds}
use Rattle.occ_forms_expressions.specs.declared.tree.Bounds.TheVariants as bv
use Rattle.occ_forms_expressions.specs.declared.tree.Builtin.{Builtin}
use Rattle.occ_forms_expressions.specs.declared.tree.Builtin.TheVariants as uv
use Rattle.occ_forms_expressions.specs.declared.tree.ChannelWords.{ChannelWords}
use Rattle.occ_forms_expressions.specs.declared.tree.DataBase.{DataBase}
use Rattle.occ_forms_expressions.specs.declared.tree.DataBase.TheVariants as base
use Rattle.occ_forms_expressions.specs.declared.tree.Dimension.{Dimension}
use Rattle.occ_forms_expressions.specs.declared.tree.Dimension.TheVariants as dv
use Rattle.occ_forms_expressions.specs.declared.tree.Element.{Element}
use Rattle.occ_forms_expressions.specs.declared.tree.Element.TheVariants as ev
use Rattle.occ_forms_expressions.specs.declared.tree.Expr.{Expr}
use Rattle.occ_forms_expressions.specs.declared.tree.Expr.TheVariants as xv
use Rattle.occ_forms_expressions.specs.declared.tree.Extreme.{Extreme}
use Rattle.occ_forms_expressions.specs.declared.tree.Literal.{Literal}
use Rattle.occ_forms_expressions.specs.declared.tree.Literal.TheVariants as l
use Rattle.occ_forms_expressions.specs.declared.tree.MonadicOperator.{MonadicOperator}
use Rattle.occ_forms_expressions.specs.declared.tree.MonadicOperator.TheVariants as mo
use Rattle.occ_forms_expressions.specs.declared.tree.NamedOperand.{NamedOperand}
use Rattle.occ_forms_expressions.specs.declared.tree.NamedOperand.TheVariants as nv
use Rattle.occ_forms_expressions.specs.declared.tree.Operand.{Operand}
use Rattle.occ_forms_expressions.specs.declared.tree.Operand.TheVariants as ov
use Rattle.occ_forms_expressions.specs.declared.tree.PairOperator.{PairOperator}
use Rattle.occ_forms_expressions.specs.declared.tree.PairOperator.TheVariants as po
use Rattle.occ_forms_expressions.specs.declared.tree.PrimitiveWord.{PrimitiveWord}
use Rattle.occ_forms_expressions.specs.declared.tree.RunOperator.{RunOperator}
use Rattle.occ_forms_expressions.specs.declared.tree.TypeForm.{TypeForm}
use Rattle.occ_forms_expressions.specs.declared.tree.TypeForm.TheVariants as tv
use Rattle.occ_scope.specs.Lookup.{carries, data_type, element}
use Rattle.occ_scope.specs.Visible.{visible}
use Rattle.occ_scope.specs.declared.meaning.Meaning.{Meaning}
use Rattle.occ_scope.specs.declared.meaning.Meaning.TheVariants as meaning
use Rattle.occ_scope.specs.declared.meaning.Whole.{Whole}
use Rattle.occ_scope.specs.declared.scope.Scope.{Scope}
use Rattle.occ_typing_operands.specs.Operators.{all_faults, allows, class_of, front_operated, given, is_arithmetic, is_faulty, is_not, is_there, kinds, operated, shift_operated, takes}
use Rattle.occ_typing_operands.specs.Outcomes.{decimal, fitting}
use Rattle.occ_typing_operands.specs.Parts.{field_named, is_constant_outside}
use Rattle.occ_typing_operands.specs.Settling.{Finding, base_of, int, known, number}
use Rattle.occ_typing_operands.specs.Wanting.{converts}
use Rattle.occ_typing_operands.specs.declared.kind.Kind.{Kind}
use Rattle.occ_typing_rules.specs.Calling.{each_for}
use Rattle.occ_typing_tables.specs.Decorating.{field_value, field_values}
use Rattle.occ_typing_tables.specs.Extents.{is_too_large}
use Rattle.occ_typing_tables.specs.Measuring.{sized}
use Rattle.occ_typing_tables.specs.Segments.{bound, count_of, is_beyond, is_negative, number_in, to_the_end}
use Rattle.occ_typing_tables.specs.Segments as segments
use Rattle.occ_typing_tables.specs.Terms.{Judged, and_then, as_it_is, judged, judged_all, table_alone}
use Rattle.occ_typing_tables.specs.declared.term.Term.{Term}
use Rattle.occ_typing_tables.specs.declared.term.Term.TheVariants as v
use Rattle.occ_typing_tables.proofs.Judging.{judged_single}
use Rattle.occ_types.specs.Constant.{folded_one, number_of, number_value, value_of}
use Rattle.occ_types.specs.Fits.{counts_fit, fits, unnamed}
use Rattle.occ_types.specs.View.{as_array, as_primitive, fields_in, is_unknown}
use Rattle.occ_types.specs.declared.constant.Monadic.{Monadic}
use Rattle.occ_types.specs.declared.constant.Monadic.TheVariants as m
use Rattle.occ_types.specs.declared.constant.Operator.{Operator}
use Rattle.occ_types.specs.declared.constant.Operator.TheVariants as op
use Rattle.occ_types.specs.declared.interface.Formal.{Formal}
use Rattle.occ_types.specs.declared.types.Field.{Field}
use Rattle.occ_types.specs.declared.types.Item.TheVariants as item
use Rattle.occ_types.specs.declared.types.OccType.{OccType}
use Rattle.occ_types.specs.declared.types.OccType.TheVariants as t
use Rattle.occ_types.specs.declared.types.Protocol.{Protocol}
use Rattle.occ_types.specs.declared.types.Protocol.TheVariants as protocol
use Rattle.occ_types.specs.declared.value.Primitive.{Primitive}
use Rattle.occ_types.specs.declared.value.Primitive.TheVariants as p
use Rattle.occ_types.specs.declared.value.Value.{Value}
use Rattle.occ_types.specs.declared.value.Value.TheVariants as vv
use Rattle.occ_has_type.specs.Free.{are_free, is_free, is_free_named, is_free_operand, is_integer, pair_is_free, stays_free}
use Rattle.occ_has_type.specs.Trees.{digits_in, end_of, front_operator, name_alone}
use Rattle.occ_has_type.specs.Types.{DecoratedHasType, IsAlone, IsArray, IsChosen, IsNoNegative, IsNumber, IsTableExpr, IsTableOperand, LiteralHasType, agreed, arrays, shift_operator, values_channel}
use Rattle.occ_has_type.specs.Types as has
use Rattle.occ_has_type.specs.Values.{IsCast, IsCount, IsMade, IsRun, IsShifted}
use Rattle.occ_has_type.proofs.Combining.{AllCome, Found_as, finds_as, front_comes, integer_comes, operated_comes, shift_comes}
use Rattle.occ_has_type.proofs.Finding.{Comes, Finds, after_finds, both_clean, then_finds}
use Rattle.occ_has_type.proofs.Fitting.{first_same}
use Rattle.occ_has_type.proofs.Frees as frees
use Rattle.occ_has_type.proofs.Operating.{allowed_base}
use Rattle.occ_has_type.proofs.Reaching.{Says, Writes, int_fits, limited_writes, plain_is, component_finds, components_find, decorated_finds, field_finds, for_finds, from_finds, from_for_finds, function_finds, literal_comes, most_finds, one_field_finds, over_writes, segment_finds, size_finds, size_finds_count, sized_extents, values_find}
use Rattle.occ_has_type.proofs.Taking.{AllDone, Done, FirstIs, Stands, alone_finds, converted_finds, free_first, none_first, single_done, single_stands, table_done, table_stands, typed_first}
use Rattle.occ_has_type.proofs.Typing.{operand_digits}

-- ---- what is shown of each form

abbrev pub ExprSays : Scope → Expr → OccType → Option Value → Type 0
ExprSays s e of value = Says (is_free e) of value ((expr_view e).said s)

record OperandForms (s : Scope) (e : Operand) (w : OperandView) (of : OccType) (value : Option Value) : Type 0 where
  part : Says (is_free_operand e) of value (w.said s)
  whole : Says (is_free_operand e) of value (w.whole s)

abbrev OperandSays : Scope → Operand → OccType → Option Value → Type 0
OperandSays s e of value = OperandForms s e (operand_view e) of value

abbrev NamedSays : Scope → NamedOperand → OccType → Option Value → Type 0
NamedSays s e of value = Says (is_free_named e) of value ((named_operand_view e).said s)

pub record ElementForms (s : Scope) (w : ElementView) (of : OccType) (value : Option Value) : Type 0 where
  pub reported : Finds of value (w.reported s)
  pub whole : Finds of value (w.whole s)

abbrev pub ElementSays : Scope → Element → OccType → Option Value → Type 0
ElementSays s e of value = ElementForms s (element_view e) of value

abbrev pub ItemDone : Scope → Expr → OccType → OccType → Option Value → Type 0
ItemDone s e to of value = (((expr_view e).said s).faults ≡ []) × Done (is_free e) to of value (judged ((expr_view e).said s).term)

abbrev pub SaidStands : OccType → Option Value → Said → Type 0
SaidStands of value x = (x.faults ≡ []) × Stands of value (judged x.term)

abbrev items_of : Scope → List Expr → List Judged
items_of s es = judged_all (terms (in_scope s (expr_views es)))

abbrev IsClean : Scope → List Expr → Type 0
IsClean s es = own_faults (in_scope s (expr_views es)) ≡ []

abbrev AllItems : Scope → List Expr → OccType → List OccType → Type 0
AllItems s es to types = IsClean s es × AllDone to es types (items_of s es)

record TableDone (s : Scope) (es : List Expr) (to of : OccType) : Type 0 where
  types : List OccType
  items : AllItems s es to types
  inside : OccType
  agree : agreed types ≡ Some inside
  small : IsArray (length es) inside
  is : of ≡ t.Array (Some (length es)) inside

abbrev AloneDone : Scope → List Expr → OccType → Type 0
AloneDone s es of = IsClean s es × Finds of None (table_alone (items_of s es))

abbrev FirstDone : Scope → List Expr → OccType → Type 0
FirstDone s es to = (wanted : OccType) (types : List OccType) → AllDone wanted es types (items_of s es) → FirstIs to (items_of s es)

abbrev SelectsDone : Scope → List Expr → OccType → Option Value → OccType → Option Value → Type 0
SelectsDone s es from inner of value = Finds of value (subscripts s (expr_views es) (known from inner))

abbrev BoundsForms : Option ℕ → SaidBounds → Option ℤ → Option ℤ → Type 0
BoundsForms n x from count = (x.faults ≡ []) × ((of : OccType) → is_negative count ≡ false → is_beyond n from count ≡ false → Finds (t.Array (count_of count) of) None (segments.segment_within n of x.bounds))

abbrev BoundsDone : Scope → Option ℕ → Bounds → Option ℤ → Option ℤ → Type 0
BoundsDone s n b from count = BoundsForms n ((bounds_view b).said s) from count

abbrev CallDone : Scope → List ℕ → List Expr → OccType → Option Value → Type 0
CallDone s name es of value = Finds of value (call s name (expr_views es))

record ActualsDone (s : Scope) (es : List Expr) (fs : List Formal) : Type 0 where
  clean : IsClean s es
  many : length fs ≡ length (items_of s es)
  silent : all_faults (each_for fs (items_of s es)) ≡ []
  sound : list_any is_faulty (kinds (each_for fs (items_of s es))) ≡ false

abbrev TableOfDone : Scope → List Expr → OccType → Type 0
TableOfDone s es to = IsClean s es × Finds to None (table_as (Some to) (terms (in_scope s (expr_views es))))

abbrev AllOfDone : Scope → List Expr → OccType → Type 0
AllOfDone s es of = (types : List OccType) × AllItems s es of types

record FieldsDone (s : Scope) (es : List Expr) (fs : List Field) : Type 0 where
  clean : IsClean s es
  many : length fs ≡ length (items_of s es)
  silent : all_faults (field_values fs (items_of s es)) ≡ []
  sound : list_any is_faulty (kinds (field_values fs (items_of s es))) ≡ false

abbrev spans : Scope → List Dimension → List Spanning
spans s ds = each opening.Refused s (dimension_views ds)

record SizesDone (s : Scope) (ds : List Dimension) (ns : List ℕ) : Type 0 where
  clean : all_spanning_faults (spans s ds) ≡ []
  sizes : extents (spans s ds) ≡ sized_extents ns

record ArrayDone (s : Scope) (ds : List Dimension) (inside to : OccType) : Type 0 where
  ns : List ℕ
  sizes : SizesDone s ds ns
  small : is_too_large (arrays ns inside) ≡ false
  is : to ≡ arrays ns inside

abbrev pub WrittenDone : Scope → TypeForm → OccType → Type 0
WrittenDone s ty to = Writes to (type_form_view ty opening.Refused s)

abbrev BuiltinDone : Scope → Builtin → OccType → Type 0
BuiltinDone s b to = Writes to (builtin_view b s)

abbrev DataDone : Scope → List Dimension → DataBase → OccType → Type 0
DataDone s ds b to = Writes to (data_form s (spans s ds) b)

record OperandsDone (s : Scope) (es : List Operand) (of : OccType) (values : List (Option Value)) : Type 0 where
  clean : own_faults (operands s (operand_views es)) ≡ []
  found : List Kind
  come : (base : Primitive) → base_of of ≡ Some base → AllCome of es values found
  among : (n : ℕ) → each_among n (judged_all (terms (operands s (operand_views es)))) ≡ map as_it_is found

-- ---- a finding as what is said

found_says : (free other : Bool) (of : OccType) (value : Option Value) (x : Finding) → free ≡ other → Found_as other of value x → Says free of value (single x)
found_says free other of value x is h = record { clean = h.0; kind = x.kind; is = refl; comes = subst (λ (b : Bool). Comes b of value x.kind) (sym is) h.1 }

finds_says : (free : Bool) (of : OccType) (value : Option Value) (x : Finding) → free ≡ false → Finds of value x → Says free of value (single x)
finds_says free of value x is h = found_says free false of value x is (finds_as false of value x refl h)

after_found : (fs : List Fault) (free : Bool) (of : OccType) (value : Option Value) (x : Finding) → fs ≡ [] → Found_as free of value x → Found_as free of value (after fs x)
after_found fs free of value x is h = (both_clean fs x.faults is h.0, h.1)

says_stands : (free : Bool) (of : OccType) (value : Option Value) (x : Said) → Says free of value x → IsAlone free of → SaidStands of value x
says_stands free of value x h alone = (h.clean, subst (λ (z : Term). Stands of value (judged z)) (sym h.is) (single_stands free of value h.kind h.comes alone))

says_done : (free : Bool) (to of : OccType) (value : Option Value) (x : Said) → Says free of value x → fits to of ≡ true → (x.faults ≡ []) × Done free to of value (judged x.term)
says_done free to of value x h fit = (h.clean, subst (λ (z : Term). Done free to of value (judged z)) (sym h.is) (single_done free to of value h.kind h.comes fit))

-- where an INT is wanted
int_bound : (free : Bool) (value : Option Value) (x : Said) → Says free int value x → Finds int value (bound (judged x.term))
int_bound free value x h = (says_done free int int value x h int_fits).1.wanted

-- ---- tables

mutual
  expr_table : (s : Scope) (e : Expr) (es : List Expr) → IsTableExpr e es → ((expr_view e).said s ≡ table (in_scope s (expr_views es))) × (is_free e ≡ false)
  expr_table s _ _ (has.table_alone e es h) =
      let x = operand_table s e es h in (ap (λ (w : ExprView). w.said s) (views.expr_alone e) ∙ x.1, frees.alone e ∙ x.2)

  operand_table : (s : Scope) (e : Operand) (es : List Expr) → IsTableOperand e es → ((operand_view e).said s ≡ table (in_scope s (expr_views es))) × ((operand_view e).whole s ≡ table (in_scope s (expr_views es))) × (is_free_operand e ≡ false)
  operand_table s _ _ (has.table_itself e es) = (ap (λ (w : OperandView). w.said s) (views.operand_table e es), ap (λ (w : OperandView). w.whole s) (views.operand_table e es), frees.table e es)
  operand_table s _ _ (has.table_in_parens e es h) =
      let x = expr_table s e es h in
      (ap (λ (w : OperandView). w.said s) (views.operand_parens e) ∙ x.0, ap (λ (w : OperandView). w.whole s) (views.operand_parens e) ∙ x.0, frees.parens e ∙ x.1)

table_taking_done : (s : Scope) (e : Expr) (es : List Expr) (to of : OccType) (parts : Option ℕ × OccType) → IsTableExpr e es → as_array to ≡ Some parts → TableDone s es parts.1 of → fits to of ≡ true → ItemDone s e to of None
table_taking_done s e es to of parts is at h fit =
    let x = expr_table s e es is in
    let js = terms (in_scope s (expr_views es)) in
    let there : Done false to of None (judged (v.Table js))
    = subst (λ (z : OccType). Done false to z None (judged (v.Table js))) (sym h.is)
    (table_done to h.inside parts es h.types js at h.items.1 h.agree h.small (subst (λ (z : OccType). fits to z ≡ true) h.is fit)) in (
      ap (λ (y : Said). y.faults) x.0 ∙ h.items.0,
      subst (λ (y : Said). Done (is_free e) to of None (judged y.term)) (sym x.0) (subst (λ (b : Bool). Done b to of None (judged (v.Table js))) (sym x.1) there),
    )

table_said_stands : (s : Scope) (es : List Expr) (of : OccType) → AloneDone s es of → SaidStands of None (table (in_scope s (expr_views es)))
table_said_stands s es of h = (h.0, table_stands of (terms (in_scope s (expr_views es))) h.1)

table_alone_done : (s : Scope) (es : List Expr) (to of : OccType) → FirstDone s es to → TableDone s es to of → AloneDone s es of
table_alone_done s es to of first h =
    (h.items.0, subst (λ (z : OccType). Finds z None (table_alone (items_of s es))) (sym h.is) (alone_finds to h.inside es h.types (items_of s es) (first to h.types h.items.1) h.items.1 h.agree h.small))

one_item_done : (s : Scope) (e : Expr) (es : List Expr) (to of : OccType) (value : Option Value) (types : List OccType) → ItemDone s e to of value → AllItems s es to types → AllItems s (e ∷ es) to (of ∷ types)
one_item_done s e es to of value types h g = (both_clean ((expr_view e).said s).faults (own_faults (in_scope s (expr_views es))) h.0 g.0, ((value, h.1), g.1))

free_first_done : (s : Scope) (e : Expr) (es : List Expr) (to : OccType) → is_free e ≡ true → FirstDone s es to → FirstDone s (e ∷ es) to
free_first_done s e es to is h wanted [] g = absurd g
free_first_done s e es to is h wanted (of ∷ types) g = free_first to (judged ((expr_view e).said s).term) (items_of s es) (g.0.1.untyped ∙ is) (h wanted types g.1)

typed_first_done : (s : Scope) (e : Expr) (es : List Expr) (to : OccType) (value : Option Value) → is_free e ≡ false → SaidStands to value ((expr_view e).said s) → FirstDone s (e ∷ es) to
typed_first_done s e es to value is h wanted [] g = absurd g
typed_first_done s e es to value is h wanted (of ∷ types) g = typed_first to value (judged ((expr_view e).said s).term) (items_of s es) (g.0.1.untyped ∙ is) h.1.by_itself

-- ---- operators

as_kinds : (ks : List Kind) → (all_faults (map as_it_is ks) ≡ []) × (kinds (map as_it_is ks) ≡ ks)
as_kinds [] = (refl, refl)
as_kinds (x ∷ ks) = let y = as_kinds ks in (y.0, ap (λ (zs : List Kind). x ∷ zs) y.1)

operation_found : (operator : Operator) (js : List Judged) (ks : List Kind) (free : Bool) (of : OccType) (value : Option Value) → each_among (number_of_faulty js) js ≡ map as_it_is ks → Found_as free of value (operated operator ks) → Found_as free of value (operation operator js)
unfolding operation
operation_found operator js ks free of value is h =
    let y = as_kinds ks in
    let there : Found_as free of value (together operator (map as_it_is ks))
    = let g : Found_as free of value (operated operator (kinds (map as_it_is ks))) = subst (λ (zs : List Kind). Found_as free of value (operated operator zs)) (sym y.1) h in
    (both_clean (all_faults (map as_it_is ks)) (operated operator (kinds (map as_it_is ks))).faults y.0 g.0, g.1) in
    subst (λ (xs : List Finding). Found_as free of value (together operator xs)) (sym is) there

run_says : (s : Scope) (operator : RunOperator) (a b : Operand) (es : List Operand) (of : OccType) (values : List (Option Value)) (value : Option Value) → OperandsDone s (a ∷ b ∷ es) of values
    → allows (class_of (run_operator operator)) (base_of of) ≡ true → IsChosen (are_free (a ∷ b ∷ es)) (run_operator operator) of → IsRun (run_operator operator) values value
    → ExprSays s (xv.Run operator a b es) (given (class_of (run_operator operator)) of) value
run_says s operator a b es of [] value h al choice r = absurd r
run_says s operator a b es of (w ∷ values) value h al choice r =
    let named = allowed_base (class_of (run_operator operator)) (base_of of) al in
    let xs = operands s (operand_views (a ∷ b ∷ es)) in
    let js = judged_all (terms xs) in
    let to = given (class_of (run_operator operator)) of in
    let there = operated_comes (run_operator operator) of a (b ∷ es) w values h.found value (h.come named.0 named.1) al choice r in
    let found = operation_found (run_operator operator) js h.found (is_arithmetic (class_of (run_operator operator)) && are_free (a ∷ b ∷ es)) to value (h.among (number_of_faulty js)) there in
    subst (λ (z : ExprView). Says (is_free (xv.Run operator a b es)) to value (z.said s)) (sym (views.expr_run operator a b es))
    (found_says (is_free (xv.Run operator a b es)) (is_arithmetic (class_of (run_operator operator)) && are_free (a ∷ b ∷ es)) to value (after (own_faults xs) (operation (run_operator operator) js)) (frees.run operator a b es)
    (after_found (own_faults xs) (is_arithmetic (class_of (run_operator operator)) && are_free (a ∷ b ∷ es)) to value (operation (run_operator operator) js) h.clean found))

some_is : {X : Type 0} (a b : X) → Some a ≡ Some b → a ≡ b
some_is a b is = cc (is)

pair_found : (operator : PairOperator) (a b : Judged) (free : Bool) (of : OccType) (value : Option Value) → shift_operator operator ≡ None → Found_as free of value (operation (pair_operator operator) (a ∷ b ∷ [])) → Found_as free of value (pair operator a b)
unfolding pair
pair_found po.ShiftLeft a b free of value is h = absurd cc
pair_found po.ShiftRight a b free of value is h = absurd cc
pair_found operator a b free of value is h = h

true_last : (b : Bool) → b ≡ (b && true)
true_last true = refl
true_last false = refl

pair_free : (operator : PairOperator) (a b : Bool) → shift_operator operator ≡ None → pair_is_free operator a b ≡ (is_arithmetic (class_of (pair_operator operator)) && (a && (b && true)))
pair_free po.ShiftLeft a b is = absurd cc
pair_free po.ShiftRight a b is = absurd cc
pair_free operator a b is = ap (λ (z : Bool). is_arithmetic (class_of (pair_operator operator)) && (a && z)) (true_last b)

back_clean : {X : Type 0} (xs ys : List X) → xs ++ ys ≡ [] → ys ≡ []
back_clean [] ys e = e
back_clean (x ∷ xs) ys e = absurd cc

front_clean : {X : Type 0} (xs ys : List X) → xs ++ ys ≡ [] → xs ≡ []
front_clean [] ys e = refl
front_clean (x ∷ xs) ys e = absurd cc

pair_says : (s : Scope) (a : Operand) (operator : PairOperator) (b : Operand) (of : OccType) (values : List (Option Value)) (value : Option Value) → shift_operator operator ≡ None → OperandsDone s (a ∷ b ∷ []) of values
    → allows (class_of (pair_operator operator)) (base_of of) ≡ true → IsChosen (are_free (a ∷ b ∷ [])) (pair_operator operator) of → IsRun (pair_operator operator) values value
    → ExprSays s (xv.Pair a operator b) (given (class_of (pair_operator operator)) of) value
pair_says s a operator b of [] value is h al choice r = absurd r
pair_says s a operator b of (w ∷ values) value is h al choice r =
    let named = allowed_base (class_of (pair_operator operator)) (base_of of) al in
    let x = (operand_view a).said s in
    let y = (operand_view b).said s in
    let js = judged x.term ∷ judged y.term ∷ [] in
    let to = given (class_of (pair_operator operator)) of in
    let free = is_arithmetic (class_of (pair_operator operator)) && are_free (a ∷ b ∷ []) in
    let there = operated_comes (pair_operator operator) of a (b ∷ []) w values h.found value (h.come named.0 named.1) al choice r in
    let found = pair_found operator (judged x.term) (judged y.term) free to value is (operation_found (pair_operator operator) js h.found free to value (h.among (number_of_faulty js)) there) in
    let clean : x.faults ++ y.faults ≡ [] = both_clean x.faults y.faults (front_clean x.faults (y.faults ++ []) h.clean) (front_clean y.faults [] (back_clean x.faults (y.faults ++ []) h.clean)) in
    subst (λ (z : ExprView). Says (is_free (xv.Pair a operator b)) to value (z.said s)) (sym (views.expr_pair a operator b))
    (found_says (is_free (xv.Pair a operator b)) free to value (after (x.faults ++ y.faults) (pair operator (judged x.term) (judged y.term)))
    (frees.pair a operator b ∙ pair_free operator (is_free_operand a) (is_free_operand b) is) (after_found (x.faults ++ y.faults) free to value (pair operator (judged x.term) (judged y.term)) clean found))

shift_found : (means : Operator) (operator : PairOperator) (free other : Bool) (of by : OccType) (left count value : Option Value) (x y : Said) → shift_operator operator ≡ Some means → Says free of left x → Says other by count y → is_there (number (base_of of)) ≡ true
    → as_primitive by ≡ Some p.Int → IsShifted means left count value → Found_as free of value (pair operator (judged x.term) (judged y.term))
unfolding pair
shift_found means operator free other of by left count value x y is h g n an made = by_operator operator is where
  shifted_found : Found_as free of value (shift means (judged x.term) (judged y.term))
  shifted_found =
      let there = shift_comes means free other of by left count value h.kind g.kind h.comes g.comes n an made in
      subst (λ (z : Finding). Found_as free of value (and_then z (λ a. and_then (plain (judged y.term)) (λ b. shift_operated means a b)))) (sym (plain_is free of left x h))
      (subst (λ (z : Finding). Found_as free of value (and_then z (λ b. shift_operated means h.kind b))) (sym (plain_is other by count y g)) there)

  by_operator : (z : PairOperator) → shift_operator z ≡ Some means → Found_as free of value (pair z (judged x.term) (judged y.term))
  by_operator po.ShiftLeft at = subst (λ (m : Operator). Found_as free of value (shift m (judged x.term) (judged y.term))) (sym (some_is op.ShiftLeft means at)) shifted_found
  by_operator po.ShiftRight at = subst (λ (m : Operator). Found_as free of value (shift m (judged x.term) (judged y.term))) (sym (some_is op.ShiftRight means at)) shifted_found
  by_operator z at = absurd cc

shift_free : (operator : PairOperator) (means : Operator) (a b : Bool) → shift_operator operator ≡ Some means → pair_is_free operator a b ≡ a
shift_free po.ShiftLeft means a b is = refl
shift_free po.ShiftRight means a b is = refl
shift_free operator means a b is = absurd cc

shift_says : (s : Scope) (a : Operand) (operator : PairOperator) (b : Operand) (means : Operator) (of by : OccType) (left count value : Option Value) → shift_operator operator ≡ Some means → OperandSays s a of left → is_there (number (base_of of)) ≡ true
    → OperandSays s b by count → as_primitive by ≡ Some p.Int → IsShifted means left count value → ExprSays s (xv.Pair a operator b) of value
shift_says s a operator b means of by left count value is h n g an made =
    let x = (operand_view a).said s in
    let y = (operand_view b).said s in
    subst (λ (z : ExprView). Says (is_free (xv.Pair a operator b)) of value (z.said s)) (sym (views.expr_pair a operator b))
    (found_says (is_free (xv.Pair a operator b)) (is_free_operand a) of value (after (x.faults ++ y.faults) (pair operator (judged x.term) (judged y.term)))
    (frees.pair a operator b ∙ shift_free operator means (is_free_operand a) (is_free_operand b) is)
    (after_found (x.faults ++ y.faults) (is_free_operand a) of value (pair operator (judged x.term) (judged y.term)) (both_clean x.faults y.faults h.part.clean g.part.clean)
    (shift_found means operator (is_free_operand a) (is_free_operand b) of by left count value x y is h.part g.part n an made)))

front_found : (means : Monadic) (free : Bool) (of : OccType) (inner value : Option Value) (x : Said) → Says free of inner x → takes means (base_of of) ≡ true → IsMade (folded_one means) inner value
    → Found_as (not (is_not means) && free) of value (in_front means (judged x.term))
front_found means free of inner value x h tk made =
    subst (λ (z : Finding). Found_as (not (is_not means) && free) of value (and_then z (front_operated means))) (sym (plain_is free of inner x h)) (front_comes means free of inner value h.kind h.comes tk made)

none_digits : (means : Monadic) (digits : Option ℕ) (j : Judged) (free : Bool) (of : OccType) (value : Option Value) → digits ≡ None → m.Negate ≡ means → Found_as free of value (in_front means j) → Found_as free of value (negated digits j)
none_digits means digits j free of value is at h =
    subst (λ (z : Option ℕ). Found_as free of value (negated z j)) (sym is) (subst (λ (z : Monadic). Found_as free of value (in_front z j)) (sym at) h)

applied_found : (operator : MonadicOperator) (means : Monadic) (e : Operand) (digits : Option ℕ) (j : Judged) (free : Bool) (of : OccType) (value : Option Value) → front_operator operator ≡ Some means → digits ≡ digits_in e → IsNoNegative operator e
    → Found_as free of value (in_front means j) → Found_as free of value (applied operator digits j)
unfolding applied
applied_found mo.Negate means e digits j free of value is at never h = none_digits means digits j free of value (at ∙ never refl) (cc (is)) h
applied_found mo.Minus means e digits j free of value is at never h = subst (λ (z : Monadic). Found_as free of value (in_front z j)) (sym (some_is m.Minus means is)) h
applied_found mo.BitNot means e digits j free of value is at never h = subst (λ (z : Monadic). Found_as free of value (in_front z j)) (sym (some_is m.BitNot means is)) h
applied_found mo.BitNotWord means e digits j free of value is at never h = subst (λ (z : Monadic). Found_as free of value (in_front z j)) (sym (some_is m.BitNot means is)) h
applied_found mo.Not means e digits j free of value is at never h = subst (λ (z : Monadic). Found_as free of value (in_front z j)) (sym (some_is m.Not means is)) h
applied_found mo.Size means e digits j free of value is at never h = absurd cc

front_free : (operator : MonadicOperator) (means : Monadic) → front_operator operator ≡ Some means → stays_free operator ≡ not (is_not means)
front_free mo.Negate means is = ap (λ (z : Monadic). not (is_not z)) (some_is m.Negate means is)
front_free mo.Minus means is = ap (λ (z : Monadic). not (is_not z)) (some_is m.Minus means is)
front_free mo.BitNot means is = ap (λ (z : Monadic). not (is_not z)) (some_is m.BitNot means is)
front_free mo.BitNotWord means is = ap (λ (z : Monadic). not (is_not z)) (some_is m.BitNot means is)
front_free mo.Not means is = ap (λ (z : Monadic). not (is_not z)) (some_is m.Not means is)
front_free mo.Size means is = absurd cc

applied_says : (s : Scope) (operator : MonadicOperator) (e : Operand) (free : Bool) (of : OccType) (value : Option Value) → ((operand_view e).said s).faults ≡ [] → (stays_free operator && is_free_operand e) ≡ free
    → Found_as free of value (applied operator (operand_view e).digits (judged ((operand_view e).said s).term)) → ExprSays s (xv.Applied operator e) of value
applied_says s operator e free of value clean is h =
    let x = (operand_view e).said s in
    subst (λ (z : ExprView). Says (is_free (xv.Applied operator e)) of value (z.said s)) (sym (views.expr_applied operator e))
    (found_says (is_free (xv.Applied operator e)) free of value (after x.faults (applied operator (operand_view e).digits (judged x.term))) (frees.applied operator e ∙ is)
    (after_found x.faults free of value (applied operator (operand_view e).digits (judged x.term)) clean h))

front_says : (s : Scope) (operator : MonadicOperator) (means : Monadic) (e : Operand) (of : OccType) (inner value : Option Value) → front_operator operator ≡ Some means → IsNoNegative operator e → OperandSays s e of inner → takes means (base_of of) ≡ true
    → IsMade (folded_one means) inner value → ExprSays s (xv.Applied operator e) of value
front_says s operator means e of inner value is never h tk made =
    let x = (operand_view e).said s in
    let free = not (is_not means) && is_free_operand e in
    applied_says s operator e free of value h.part.clean (ap (λ (b : Bool). b && is_free_operand e) (front_free operator means is))
    (applied_found operator means e (operand_view e).digits (judged x.term) free of value is (operand_digits e) never (front_found means (is_free_operand e) of inner value x h.part tk made))

literal_clean : (i : ℕ) → (literal (l.Decimal i)).faults ≡ []
unfolding literal
literal_clean i = refl

negative_says : (s : Scope) (i : ℕ) (of : OccType) (base : Primitive) (value : Value) → IsNumber of base → number_value base (pos 0 -ℤ pos i) ≡ Some value → ExprSays s (xv.Applied mo.Negate (ov.Literal (l.Decimal i))) of (Some value)
unfolding applied
negative_says s i of base value n is =
    let e = ov.Literal (l.Decimal i) in
    let j = judged ((operand_view e).said s).term in
    let digits : (operand_view e).digits ≡ Some i = ap (λ (w : OperandView). w.digits) (views.operand_literal (l.Decimal i)) in
    let clean : ((operand_view e).said s).faults ≡ [] = ap (λ (w : OperandView). (w.said s).faults) (views.operand_literal (l.Decimal i)) ∙ literal_clean i in
    applied_says s mo.Negate e true of (Some value) clean (frees.literal (l.Decimal i))
    (subst (λ (z : Option ℕ). Found_as true of (Some value) (negated z j)) (sym digits)
    (refl, integer_comes (decimal (pos 0 -ℤ pos i)) false (λ x. fitting (number_value x (pos 0 -ℤ pos i))) of base value refl refl n (ap fitting is)))

size_says : (s : Scope) (e : Operand) (of : OccType) (inner value : Option Value) (parts : Option ℕ × OccType) → SaidStands of inner ((operand_view e).said s) → as_array (unnamed of) ≡ Some parts → IsCount parts.0 value → ExprSays s (xv.Applied mo.Size e) int value
unfolding applied
size_says s e of inner value parts h is count =
    let j = judged ((operand_view e).said s).term in
    applied_says s mo.Size e false int value h.0 refl
    (finds_as false int value (and_then j.alone sized) refl (then_finds j.alone sized of int inner value h.1.by_itself (size_finds of inner value parts is count)))

-- ---- conversions

conversion_finds : (w : Written) (to of : OccType) (inner value : Option Value) (x : Said) → Writes to w → SaidStands of inner x → converts to of ≡ true → IsCast (base_of to) inner value
    → Finds to value (after (w.faults ++ x.faults) (converted w.found (judged x.term)))
conversion_finds w to of inner value x h g is made =
    after_finds (w.faults ++ x.faults) (converted w.found (judged x.term)) to value (both_clean w.faults x.faults h.0 g.0)
    (subst (λ (o : Option OccType). Finds to value (converted o (judged x.term))) (sym h.1) (converted_finds to of inner value (judged x.term) g.1 is made))

array_writes : (s : Scope) (ds : List Dimension) (inside to : OccType) (w : Written) → Writes inside w → ArrayDone s ds inside to → Writes to (array_over (spans s ds) w)
array_writes s ds inside to w h g = subst (λ (z : OccType). Writes z (array_over (spans s ds) w)) (sym g.is) (over_writes (spans s ds) g.ns inside w h g.sizes.clean g.sizes.sizes g.small)

more_writes : (s : Scope) (d : Dimension) (ds : List Dimension) (inside to : OccType) (w : Written) → Writes inside w → ArrayDone s (d ∷ ds) inside to → Writes to (array_over_more (dimension_view d opening.Refused s) (spans s ds) w)
unfolding array_after
more_writes s d ds inside to w h g =
    let first = dimension_view d opening.Refused s in
    let xs = spans s ds in
    let there = limited_writes (first.extent ∷ extents xs) g.ns inside g.sizes.sizes g.small in
    let made : Writes to (array_after (first.extent ∷ []) xs w.found)
    = subst (λ (o : Option OccType). Writes to (array_after (first.extent ∷ []) xs o)) (sym h.1)
    (subst (λ (z : OccType). Writes z (array_after (first.extent ∷ []) xs (Some inside))) (sym g.is) (both_clean (all_spanning_faults xs) _ (back_clean first.faults (all_spanning_faults xs) g.sizes.clean) there.0, there.1)) in
    (both_clean w.faults (first.faults ++ (array_after (first.extent ∷ []) xs w.found).faults) h.0 (both_clean first.faults (array_after (first.extent ∷ []) xs w.found).faults (front_clean first.faults (all_spanning_faults xs) g.sizes.clean) made.0), made.1)

name_writes : (s : Scope) (name : List ℕ) (to : OccType) → visible s name ≡ Some (meaning.Type (Some to)) → Writes to (data_type name (visible s name))
name_writes s name to is = subst (λ (z : Option Meaning). Writes to (data_type name z)) (sym is) (refl, refl)

converted_says : (s : Scope) (ds : List Dimension) (b : Builtin) (e : Operand) (inside to of : OccType) (inner value : Option Value) → BuiltinDone s b inside → ArrayDone s ds inside to → SaidStands of inner ((operand_view e).said s) → converts to of ≡ true
    → IsCast (base_of to) inner value → ExprSays s (xv.Converted ds b e) to value
converted_says s ds b e inside to of inner value h g i is made =
    subst (λ (z : ExprView). Says (is_free (xv.Converted ds b e)) to value (z.said s)) (sym (views.expr_converted ds b e))
    (finds_says (is_free (xv.Converted ds b e)) to value _ (frees.converted ds b e)
    (conversion_finds (array_over (spans s ds) (builtin_view b s)) to of inner value ((operand_view e).said s) (array_writes s ds inside to (builtin_view b s) h g) i is made))

array_converted_says : (s : Scope) (d : Dimension) (ds : List Dimension) (name : List ℕ) (e : Operand) (inside to of : OccType) (inner value : Option Value) → visible s name ≡ Some (meaning.Type (Some inside)) → ArrayDone s (d ∷ ds) inside to
    → SaidStands of inner ((operand_view e).said s) → converts to of ≡ true → IsCast (base_of to) inner value → ExprSays s (xv.ArrayConverted d ds name e) to value
array_converted_says s d ds name e inside to of inner value h g i is made =
    subst (λ (z : ExprView). Says (is_free (xv.ArrayConverted d ds name e)) to value (z.said s)) (sym (views.expr_array_converted d ds name e))
    (finds_says (is_free (xv.ArrayConverted d ds name e)) to value _ (frees.array_converted d ds name e)
    (conversion_finds (array_over_more (dimension_view d opening.Refused s) (spans s ds) (data_type name (visible s name))) to of inner value ((operand_view e).said s)
    (more_writes s d ds inside to (data_type name (visible s name)) (name_writes s name inside h) g) i is made))

named_converted_says : (s : Scope) (name : List ℕ) (e : NamedOperand) (inside to of : OccType) (inner value : Option Value) → visible s name ≡ Some (meaning.Type (Some inside)) → ArrayDone s [] inside to
    → SaidStands of inner ((named_operand_view e).said s) → converts to of ≡ true → IsCast (base_of to) inner value → ExprSays s (xv.Named name e) to value
named_converted_says s name e inside to of inner value h g i is made =
    subst (λ (z : ExprView). Says (is_free (xv.Named name e)) to value (z.said s)) (sym (views.expr_named name e))
    (finds_says (is_free (xv.Named name e)) to value _ (frees.named_converted name e)
    (conversion_finds (array_over [] (data_type name (visible s name))) to of inner value ((named_operand_view e).said s) (array_writes s [] inside to (data_type name (visible s name)) (name_writes s name inside h) g) i is made))

most_says : (s : Scope) (end : Extreme) (ty : TypeForm) (to : OccType) (base : Primitive) → WrittenDone s ty to → IsNumber to base → ExprSays s (xv.Most end ty) to (Some (value_of base (end_of end base)))
most_says s end ty to base h n =
    let w = type_form_view ty opening.Refused s in
    let value = Some (value_of base (end_of end base)) in
    subst (λ (z : ExprView). Says (is_free (xv.Most end ty)) to value (z.said s)) (sym (views.expr_most end ty))
    (finds_says (is_free (xv.Most end ty)) to value (after w.faults (extreme_of end w.found)) (frees.most end ty)
    (after_finds w.faults (extreme_of end w.found) to value h.0 (subst (λ (o : Option OccType). Finds to value (extreme_of end o)) (sym h.1) (most_finds end to base n))))

-- ---- operands

operand_says : (s : Scope) (e : Operand) (of : OccType) (value : Option Value) → OperandSays s e of value → ExprSays s (xv.Alone e) of value
operand_says s e of value h =
    subst (λ (z : ExprView). Says (is_free (xv.Alone e)) of value (z.said s)) (sym (views.expr_alone e))
    (subst (λ (b : Bool). Says b of value ((operand_view e).whole s)) (sym (frees.alone e)) h.whole)

-- an operand that is the same as a whole expression
same_forms : (s : Scope) (e : Operand) (w : OperandView) (of : OccType) (value : Option Value) → operand_view e ≡ w → w.whole s ≡ w.said s → Says (is_free_operand e) of value (w.said s) → OperandSays s e of value
same_forms s e w of value is same h = subst (λ (z : OperandView). OperandForms s e z of value) (sym is) (record { part = h; whole = subst (Says (is_free_operand e) of value) (sym same) h })

element_says : (s : Scope) (e : Element) (of : OccType) (value : Option Value) → ElementSays s e of value → OperandSays s (ov.Element e) of value
element_says s e of value h =
    subst (λ (z : OperandView). OperandForms s (ov.Element e) z of value) (sym (views.operand_element e))
    (record {
      part = finds_says (is_free_operand (ov.Element e)) of value ((element_view e).reported s) (frees.element e) h.reported;
      whole = finds_says (is_free_operand (ov.Element e)) of value ((element_view e).whole s) (frees.element e) h.whole;
    })

literal_says : (s : Scope) (lit : Literal) (of : OccType) (value : Option Value) → LiteralHasType lit of value → OperandSays s (ov.Literal lit) of value
literal_says s lit of value h =
    same_forms s (ov.Literal lit) _ of value (views.operand_literal lit) refl (found_says (is_free_operand (ov.Literal lit)) (is_integer lit) of value (literal lit) (frees.literal lit) (literal_comes lit of value h))

typed_literal_finds : (s : Scope) (lit : Literal) (ty : TypeForm) (to : OccType) (value : Option Value) → WrittenDone s ty to → DecoratedHasType lit to value → Finds to value (decorated (type_form_view ty opening.Refused s) lit)
typed_literal_finds s lit ty to value h g =
    let w = type_form_view ty opening.Refused s in
    after_finds w.faults (decorated_literal w.found lit) to value h.0 (subst (λ (o : Option OccType). Finds to value (decorated_literal o lit)) (sym h.1) (decorated_finds lit to value g))

decorated_says : (s : Scope) (lit : Literal) (ty : TypeForm) (to : OccType) (value : Option Value) → WrittenDone s ty to → DecoratedHasType lit to value → OperandSays s (ov.Decorated lit ty) to value
decorated_says s lit ty to value h g =
    same_forms s (ov.Decorated lit ty) _ to value (views.operand_decorated lit ty) refl (finds_says (is_free_operand (ov.Decorated lit ty)) to value _ (frees.decorated lit ty) (typed_literal_finds s lit ty to value h g))

truth_says : (s : Scope) (b : Bool) → OperandSays s (ov.Truth b) (t.Primitive p.Bool) (Some (vv.Bool b))
truth_says s b = same_forms s (ov.Truth b) _ (t.Primitive p.Bool) (Some (vv.Bool b)) (views.operand_truth b) refl (finds_says (is_free_operand (ov.Truth b)) (t.Primitive p.Bool) (Some (vv.Bool b)) (truth b) (frees.truth b) (refl, refl))

parens_says : (s : Scope) (e : Expr) (of : OccType) (value : Option Value) → ExprSays s e of value → OperandSays s (ov.Parens e) of value
parens_says s e of value h = same_forms s (ov.Parens e) _ of value (views.operand_parens e) refl (subst (λ (b : Bool). Says b of value ((expr_view e).said s)) (sym (frees.parens e)) h)

typed_table_finds : (s : Scope) (es : List Expr) (ty : TypeForm) (to : OccType) → WrittenDone s ty to → TableOfDone s es to → Finds to None (decorated_table s (expr_views es) (type_form_view ty))
typed_table_finds s es ty to h g =
    let w = type_form_view ty opening.Refused s in
    let xs = in_scope s (expr_views es) in
    after_finds (own_faults xs ++ w.faults) (table_as w.found (terms xs)) to None (both_clean (own_faults xs) w.faults g.0 h.0) (subst (λ (o : Option OccType). Finds to None (table_as o (terms xs))) (sym h.1) g.1)

decorated_table_says : (s : Scope) (e : Expr) (es : List Expr) (ty : TypeForm) (to : OccType) → WrittenDone s ty to → TableOfDone s (e ∷ es) to → OperandSays s (ov.DecoratedTable e es ty) to None
decorated_table_says s e es ty to h g =
    same_forms s (ov.DecoratedTable e es ty) _ to None (views.operand_decorated_table e es ty) refl (finds_says (is_free_operand (ov.DecoratedTable e es ty)) to None _ (frees.decorated_table e es ty) (typed_table_finds s (e ∷ es) ty to h g))

call_says : (s : Scope) (name : List ℕ) (es : List Expr) (of : OccType) (value : Option Value) → CallDone s name es of value → OperandSays s (ov.Call name es) of value
call_says s name es of value h = same_forms s (ov.Call name es) _ of value (views.operand_call name es) refl (finds_says (is_free_operand (ov.Call name es)) of value _ (frees.call name es) h)

-- an operand after the name of a type
named_element_says : (s : Scope) (e : Element) (of : OccType) (value : Option Value) → ElementSays s e of value → NamedSays s (nv.Element e) of value
named_element_says s e of value h =
    subst (λ (z : NamedOperandView). Says (is_free_named (nv.Element e)) of value (z.said s)) (sym (views.named_operand_element e)) (finds_says (is_free_named (nv.Element e)) of value ((element_view e).reported s) (frees.named_element e) h.reported)

named_literal_says : (s : Scope) (lit : Literal) (of : OccType) (value : Option Value) → LiteralHasType lit of value → NamedSays s (nv.Literal lit) of value
named_literal_says s lit of value h =
    subst (λ (z : NamedOperandView). Says (is_free_named (nv.Literal lit)) of value (z.said s)) (sym (views.named_operand_literal lit)) (found_says (is_free_named (nv.Literal lit)) (is_integer lit) of value (literal lit) (frees.named_literal lit) (literal_comes lit of value h))

named_decorated_says : (s : Scope) (lit : Literal) (ty : TypeForm) (to : OccType) (value : Option Value) → WrittenDone s ty to → DecoratedHasType lit to value → NamedSays s (nv.Decorated lit ty) to value
named_decorated_says s lit ty to value h g =
    subst (λ (z : NamedOperandView). Says (is_free_named (nv.Decorated lit ty)) to value (z.said s)) (sym (views.named_operand_decorated lit ty)) (finds_says (is_free_named (nv.Decorated lit ty)) to value _ (frees.named_decorated lit ty) (typed_literal_finds s lit ty to value h g))

named_truth_says : (s : Scope) (b : Bool) → NamedSays s (nv.Truth b) (t.Primitive p.Bool) (Some (vv.Bool b))
named_truth_says s b =
    subst (λ (z : NamedOperandView). Says (is_free_named (nv.Truth b)) (t.Primitive p.Bool) (Some (vv.Bool b)) (z.said s)) (sym (views.named_operand_truth b)) (finds_says (is_free_named (nv.Truth b)) (t.Primitive p.Bool) (Some (vv.Bool b)) (truth b) (frees.named_truth b) (refl, refl))

named_decorated_table_says : (s : Scope) (e : Expr) (es : List Expr) (ty : TypeForm) (to : OccType) → WrittenDone s ty to → TableOfDone s (e ∷ es) to → NamedSays s (nv.DecoratedTable e es ty) to None
named_decorated_table_says s e es ty to h g =
    subst (λ (z : NamedOperandView). Says (is_free_named (nv.DecoratedTable e es ty)) to None (z.said s)) (sym (views.named_operand_decorated_table e es ty))
    (finds_says (is_free_named (nv.DecoratedTable e es ty)) to None _ (frees.named_decorated_table e es ty) (typed_table_finds s (e ∷ es) ty to h g))

named_call_says : (s : Scope) (name : List ℕ) (es : List Expr) (of : OccType) (value : Option Value) → CallDone s name es of value → NamedSays s (nv.Call name es) of value
named_call_says s name es of value h =
    subst (λ (z : NamedOperandView). Says (is_free_named (nv.Call name es)) of value (z.said s)) (sym (views.named_operand_call name es)) (finds_says (is_free_named (nv.Call name es)) of value _ (frees.named_call name es) h)

named_table_stands : (s : Scope) (e f : Expr) (es : List Expr) (of : OccType) → AloneDone s (e ∷ f ∷ es) of → SaidStands of None ((named_operand_view (nv.Table e f es)).said s)
named_table_stands s e f es of h = subst (λ (z : NamedOperandView). SaidStands of None (z.said s)) (sym (views.named_operand_table e f es)) (table_said_stands s (e ∷ f ∷ es) of h)

operand_table_stands : (s : Scope) (e : Operand) (es : List Expr) (of : OccType) → IsTableOperand e es → AloneDone s es of → SaidStands of None ((operand_view e).said s)
operand_table_stands s e es of is h = subst (SaidStands of None) (sym (operand_table s e es is).0) (table_said_stands s es of h)

expr_table_stands : (s : Scope) (e : Expr) (es : List Expr) (of : OccType) → IsTableExpr e es → AloneDone s es of → SaidStands of None ((expr_view e).said s)
expr_table_stands s e es of is h = subst (SaidStands of None) (sym (expr_table s e es is).0) (table_said_stands s es of h)

-- `n [e]`, of a data type n
table_converted_says : (s : Scope) (name : List ℕ) (e : Expr) (to of : OccType) (value : Option Value) → visible s name ≡ Some (meaning.Type (Some to)) → AloneDone s (e ∷ []) of → converts to of ≡ true → IsCast (base_of to) None value
    → ExprSays s (xv.Alone (ov.Element (ev.Named name (e ∷ [])))) to value
unfolding whole_element
table_converted_says s name e to of value is h c made =
    let el = ev.Named name (e ∷ []) in
    let x = table (in_scope s (expr_views (e ∷ []))) in
    let stands = table_said_stands s (e ∷ []) of h in
    let there : Finds to value (whole_element s name (expr_views (e ∷ [])))
    = subst (λ (z : Option Meaning). Finds to value (whole_element_of s name (expr_views (e ∷ [])) z)) (sym is)
    (after_finds x.faults (converted (Some to) (judged x.term)) to value stands.0 (converted_finds to of None value (judged x.term) stands.1 c made)) in
    let whole : Finds to value ((element_view el).whole s) = subst (λ (z : ElementView). Finds to value (z.whole s)) (sym (views.element_named name (e ∷ []))) there in
    let said : Says false to value ((operand_view (ov.Element el)).whole s)
    = subst (λ (z : OperandView). Says false to value (z.whole s)) (sym (views.operand_element el)) (finds_says false to value ((element_view el).whole s) refl whole) in
    subst (λ (z : ExprView). Says (is_free (xv.Alone (ov.Element el))) to value (z.said s)) (sym (views.expr_alone (ov.Element el)))
    (subst (λ (b : Bool). Says b to value ((operand_view (ov.Element el)).whole s)) (sym (frees.alone (ov.Element el) ∙ frees.element el)) said)

-- ---- lists of operands

no_operands : (s : Scope) (of : OccType) → OperandsDone s [] of []
no_operands s of = record { clean = refl; found = []; come = λ b is. tt; among = λ n. refl }

one_operand_done : (s : Scope) (e : Operand) (es : List Operand) (of own : OccType) (value : Option Value) (values : List (Option Value)) → OperandSays s e own value → fits of own ≡ true → OperandsDone s es of values → OperandsDone s (e ∷ es) of (value ∷ values)
one_operand_done s e es of own value values h fit g =
    let x = (operand_view e).said s in
    record {
      clean = both_clean x.faults (own_faults (operands s (operand_views es))) h.part.clean g.clean;
      found = h.part.kind ∷ g.found;
      come = λ b is. (subst (λ (z : OccType). Comes (is_free_operand e) z value h.part.kind) (sym (first_same of own b is fit)) h.part.comes, g.come b is);
      among = λ n. ap (λ (z : Finding). z ∷ each_among n (judged_all (terms (operands s (operand_views es))))) (beside_is n x h.part) ∙ ap (λ (zs : List Finding). as_it_is h.part.kind ∷ zs) (g.among n);
    }
  where
    beside_is : (n : ℕ) (x : Said) (i : Says (is_free_operand e) own value x) → among n (judged x.term) ≡ as_it_is i.kind
    beside_is n x i = ap (λ (z : Term). among n (judged z)) i.is ∙ ap (λ (j : Judged). among n j) (judged_single i.kind)

-- ---- elements

named_says : (s : Scope) (name : List ℕ) (es : List Expr) (w : Whole) (of : OccType) (value : Option Value) → visible s name ≡ Some (meaning.Element w) → SelectsDone s es w.of w.value of value → ElementSays s (ev.Named name es) of value
unfolding named_element whole_element
named_says s name es w of value is h =
    let xs = expr_views es in
    let found : Finds of value (named_element s name xs)
    = subst (λ (z : Option Meaning). Finds of value (and_then (named (element name z)) (subscripts s xs))) (sym is) (then_finds (named (element name (Some (meaning.Element w)))) (subscripts s xs) w.of of w.value value (refl, refl) h) in
    subst (λ (z : ElementView). ElementForms s z of value) (sym (views.element_named name es))
    (record { reported = found; whole = subst (λ (z : Option Meaning). Finds of value (whole_element_of s name xs z)) (sym is) found })

segment_says : (s : Scope) (e : Element) (b : Bounds) (es : List Expr) (whole of : OccType) (inner value : Option Value) (parts : Option ℕ × OccType) (from count : Option ℤ) → ElementSays s e whole inner → as_array (unnamed whole) ≡ Some parts
    → BoundsDone s parts.0 b from count → is_negative count ≡ false → is_beyond parts.0 from count ≡ false → SelectsDone s es (t.Array (count_of count) parts.1) None of value → ElementSays s (ev.Segment e b es) of value
segment_says s e b es whole of inner value parts from count h is g a c i =
    let x = (element_view e).reported s in
    let y = (bounds_view b).said s in
    let array = t.Array (count_of count) parts.1 in
    let part : Finds array None (segment_within y (known whole inner)) = after_finds y.faults (segment_of (known whole inner) y.bounds) array None g.0 (segment_finds whole array inner parts y.bounds is (g.1 parts.1 a c)) in
    let found : Finds of value (segment_element s x y (expr_views es))
    = then_finds (and_then x (segment_within y)) (subscripts s (expr_views es)) array of None value (then_finds x (segment_within y) whole array inner None h.reported part) i in
    subst (λ (z : ElementView). ElementForms s z of value) (sym (views.element_segment e b es)) (record { reported = found; whole = found })

component_done : (s : Scope) (e : Expr) (es : List Expr) (from of : OccType) (inner place value : Option Value) (parts : Option ℕ × OccType) → as_array (unnamed from) ≡ Some parts → ExprSays s e int place → is_constant_outside parts.0 place ≡ false
    → SelectsDone s es parts.1 None of value → SelectsDone s (e ∷ es) from inner of value
component_done s e es from of inner place value parts is h inside g =
    then_finds (subscript s (expr_view e) (known from inner)) (subscripts s (expr_views es)) parts.1 of None value (component_finds s (expr_view e) from inner place (is_free e) parts is h inside) g

name_of : (name : List ℕ) → (expr_view (name_alone name)).name ≡ Some name
name_of name = views.expr_alone_name (ov.Element (ev.Named name [])) ∙ views.operand_element_name (ev.Named name []) ∙ views.element_named_name name []

field_done : (s : Scope) (name : List ℕ) (es : List Expr) (from found of : OccType) (inner value : Option Value) (fields : List Field) → fields_in (unnamed from) ≡ Some fields → field_named name fields ≡ Some found → is_unknown found ≡ false
    → SelectsDone s es found None of value → SelectsDone s (name_alone name ∷ es) from inner of value
field_done s name es from found of inner value fields is here there g =
    then_finds (subscript s (expr_view (name_alone name)) (known from inner)) (subscripts s (expr_views es)) found of None value (field_finds s (expr_view (name_alone name)) from found inner name fields (name_of name) is here there) g

from_done : (s : Scope) (n : Option ℕ) (e : Expr) (value : Option Value) → ExprSays s e int value → BoundsDone s n (bv.From e) (number_in value) (to_the_end n (number_in value))
from_done s n e value h =
    subst (λ (z : BoundsView). BoundsForms n (z.said s) (number_in value) (to_the_end n (number_in value))) (sym (views.bounds_from e))
    (h.clean, λ of a b. from_finds n of value (bound (judged ((expr_view e).said s).term)) (int_bound (is_free e) value ((expr_view e).said s) h) a b)

for_done : (s : Scope) (n : Option ℕ) (e : Expr) (value : Option Value) → ExprSays s e int value → BoundsDone s n (bv.For e) (Some (pos 0)) (number_in value)
for_done s n e value h =
    subst (λ (z : BoundsView). BoundsForms n (z.said s) (Some (pos 0)) (number_in value)) (sym (views.bounds_for e))
    (h.clean, λ of a b. for_finds n of value (bound (judged ((expr_view e).said s).term)) (int_bound (is_free e) value ((expr_view e).said s) h) a b)

from_for_done : (s : Scope) (n : Option ℕ) (e f : Expr) (value count : Option Value) → ExprSays s e int value → ExprSays s f int count → BoundsDone s n (bv.FromFor e f) (number_in value) (number_in count)
from_for_done s n e f value count h g =
    subst (λ (z : BoundsView). BoundsForms n (z.said s) (number_in value) (number_in count)) (sym (views.bounds_from_for e f)) (
      both_clean ((expr_view e).said s).faults ((expr_view f).said s).faults h.clean g.clean,
      λ of a b. from_for_finds n of value count (bound (judged ((expr_view e).said s).term)) (bound (judged ((expr_view f).said s).term)) (int_bound (is_free e) value ((expr_view e).said s) h) (int_bound (is_free f) count ((expr_view f).said s) g) a b,
    )

-- ---- calls

function_done : (s : Scope) (name : List ℕ) (es : List Expr) (formals : List Formal) (result : OccType) → visible s name ≡ Some (meaning.Function formals (result ∷ [])) → ActualsDone s es formals → CallDone s name es result None
unfolding call
function_done s name es formals result is h =
    subst (λ (z : Option Meaning). Finds result None (call_of s name (expr_views es) z)) (sym is) (function_finds formals result (in_scope s (expr_views es)) h.clean h.many h.silent h.sound)

conversion_done : (s : Scope) (name : List ℕ) (e : Expr) (to of : OccType) (inner value : Option Value) → visible s name ≡ Some (meaning.Type (Some to)) → SaidStands of inner ((expr_view e).said s) → converts to of ≡ true → IsCast (base_of to) inner value
    → CallDone s name (e ∷ []) to value
unfolding call
conversion_done s name e to of inner value is h c made =
    let x = (expr_view e).said s in
    subst (λ (z : Option Meaning). Finds to value (call_of s name (expr_views (e ∷ [])) z)) (sym is) (after_finds x.faults (converted (Some to) (judged x.term)) to value h.0 (converted_finds to of inner value (judged x.term) h.1 c made))

one_actual_done : (s : Scope) (e : Expr) (es : List Expr) (f : Formal) (fs : List Formal) (of : OccType) (value : Option Value) → ItemDone s e f.of of value → ActualsDone s es fs → ActualsDone s (e ∷ es) (f ∷ fs)
one_actual_done s e es f fs of value h g =
    let x = (judged ((expr_view e).said s).term).under f.of in
    record {
      clean = both_clean ((expr_view e).said s).faults (own_faults (in_scope s (expr_views es))) h.0 g.clean;
      many = ap suc g.many;
      silent = both_clean x.faults (all_faults (each_for fs (items_of s es))) h.1.wanted.0 g.silent;
      sound = ap (λ (z : Kind). is_faulty z || list_any is_faulty (kinds (each_for fs (items_of s es)))) h.1.wanted.1 ∙ g.sound;
    }

-- ---- tables with their type

components_done : (s : Scope) (es : List Expr) (to : OccType) (parts : Option ℕ × OccType) → as_array (unnamed to) ≡ Some parts → AllOfDone s es parts.1 → counts_fit parts.0 (Some (length es)) ≡ true → TableOfDone s es to
unfolding table_as
components_done s es to parts is h count = (h.1.0, components_find to parts es h.0 (items_of s es) is h.1.1 count)

values_done : (s : Scope) (es : List Expr) (to : OccType) (fs : List Field) → as_array (unnamed to) ≡ None → fields_in (unnamed to) ≡ Some fs → FieldsDone s es fs → TableOfDone s es to
unfolding table_as
values_done s es to fs none is h = (h.clean, values_find to fs (items_of s es) none is h.many h.silent h.sound)

one_field_done : (s : Scope) (e : Expr) (es : List Expr) (f : Field) (fs : List Field) (of : OccType) (value : Option Value) → is_unknown f.of ≡ false → ItemDone s e f.of of value → FieldsDone s es fs → FieldsDone s (e ∷ es) (f ∷ fs)
one_field_done s e es f fs of value is h g =
    let j = judged ((expr_view e).said s).term in
    let x = one_field_finds f j of value is h.1.wanted in
    record {
      clean = both_clean ((expr_view e).said s).faults (own_faults (in_scope s (expr_views es))) h.0 g.clean;
      many = ap suc g.many;
      silent = both_clean (field_value f j).faults (all_faults (field_values fs (items_of s es))) x.0 g.silent;
      sound = ap (λ (z : Kind). is_faulty z || list_any is_faulty (kinds (field_values fs (items_of s es)))) x.1 ∙ g.sound;
    }

-- ---- written types

named_type_done : (s : Scope) (ds : List Dimension) (name : List ℕ) (inside to : OccType) → visible s name ≡ Some (meaning.Type (Some inside)) → ArrayDone s ds inside to → WrittenDone s (tv.Named ds name) to
named_type_done s ds name inside to is h =
    subst (λ (z : TypeFormView). Writes to (z opening.Refused s)) (sym (views.type_form_named ds name)) (array_writes s ds inside to (data_type name (visible s name)) (name_writes s name inside is) h)

builtin_type_done : (s : Scope) (ds : List Dimension) (b : Builtin) (inside to : OccType) → BuiltinDone s b inside → ArrayDone s ds inside to → WrittenDone s (tv.Builtin ds b) to
builtin_type_done s ds b inside to is h = subst (λ (z : TypeFormView). Writes to (z opening.Refused s)) (sym (views.type_form_builtin ds b)) (array_writes s ds inside to (builtin_view b s) is h)

one_size_done : (s : Scope) (e : Expr) (ds : List Dimension) (value : Value) (n : ℕ) (ns : List ℕ) → ExprSays s e int (Some value) → number_of value ≡ pos n → nat_le n 4294967295 ≡ true → SizesDone s ds ns → SizesDone s (dv.Sized e ∷ ds) (n ∷ ns)
one_size_done s e ds value n ns h at few g =
    let x = (expr_view e).said s in
    let y = size_finds_count (judged x.term) value n (int_bound (is_free e) (Some value) x h) at few in
    let z = sized_dimension x in
    let same : dimension_view (dv.Sized e) opening.Refused s ≡ z = ap (λ (w : DimensionView). w opening.Refused s) (views.dimension_sized e) in
    let clean : z.faults ≡ [] = both_clean x.faults _ h.clean y.0 in
    let sized_as : z.extent ≡ extent.Sized n = ap extent_of y.1 in
    record {
      clean = both_clean (dimension_view (dv.Sized e) opening.Refused s).faults (all_spanning_faults (spans s ds)) (ap (λ (w : Spanning). w.faults) same ∙ clean) g.clean;
      sizes = ap (λ (w : Spanning). w.extent ∷ extents (spans s ds)) same ∙ ap (λ (w : Extent). w ∷ extents (spans s ds)) sized_as ∙ ap (λ (ws : List Extent). extent.Sized n ∷ ws) g.sizes;
    }

builtin_done : (s : Scope) (b : Builtin) (w : BuiltinView) (to : OccType) → builtin_view b ≡ w → Writes to (w s) → BuiltinDone s b to
builtin_done s b w to is h = subst (λ (z : BuiltinView). Writes to (z s)) (sym is) h

channel_of_name_done : (s : Scope) (words : ChannelWords) (name : List ℕ) (of : OccType) → visible s name ≡ Some (meaning.Type (Some of)) → BuiltinDone s (uv.Channel words [] (base.Named name)) (values_channel of)
unfolding channel
channel_of_name_done s words name of is =
    builtin_done s (uv.Channel words [] (base.Named name)) _ (values_channel of) (views.builtin_channel words [] (base.Named name))
    (subst (λ (z : Option Meaning). Writes (values_channel of) (named_channel (carries name z))) (sym is) (refl, refl))

channel_of_protocol_done : (s : Scope) (words : ChannelWords) (name : List ℕ) (c : Protocol) → visible s name ≡ Some (meaning.Protocol c) → BuiltinDone s (uv.Channel words [] (base.Named name)) (t.Channel c)
unfolding channel
channel_of_protocol_done s words name c is =
    builtin_done s (uv.Channel words [] (base.Named name)) _ (t.Channel c) (views.builtin_channel words [] (base.Named name))
    (subst (λ (z : Option Meaning). Writes (t.Channel c) (named_channel (carries name z))) (sym is) (refl, refl))

values_writes : (of : OccType) (w : Written) → Writes of w → Writes (values_channel of) (written_values w)
values_writes of w h = (h.0, ap channel_of_values h.1)

abbrev written_if : Bool → Written → Written → Written
written_if b x y = if b then x else y

if_same : (b : Bool) (x : Written) (to of : OccType) → x.found ≡ None → (written_if b x (record { faults = []; found = Some to })).found ≡ Some of → to ≡ of
if_same true x to of none is = let bad : None ≡ Some of = sym none ∙ is in absurd cc
if_same false x to of none is = some_is to of is

named_writes : (s : Scope) (name : List ℕ) (of : OccType) → Writes of (data_form s [] (base.Named name)) → Writes (values_channel of) (channel s [] (base.Named name))
unfolding data_form channel array_after
named_writes s name of h = by (visible s name) refl h where
  by : (z : Option Meaning) → visible s name ≡ z → Writes of (array_over [] (data_type name z)) → Writes (values_channel of) (named_channel (carries name z))
  by None is g = absurd cc
  by (Some meaning.Faulty) is g = absurd cc
  by (Some (meaning.Type None)) is g = absurd cc
  by (Some (meaning.Type (Some to))) is g = (refl, ap (λ (u : OccType). Some (values_channel u)) (if_same (is_too_large to) (record { faults = nameless code.T9 ∷ []; found = None }) to of refl g.1))
  by (Some (meaning.Protocol c)) is g = absurd cc
  by (Some (meaning.Procedure fs)) is g = absurd cc
  by (Some (meaning.Function fs results)) is g = absurd cc
  by (Some (meaning.Element w)) is g = absurd cc

channel_writes : (s : Scope) (xs : List Spanning) (b : DataBase) (of : OccType) → Writes of (data_form s xs b) → Writes (values_channel of) (channel s xs b)
unfolding channel
channel_writes s [] (base.Named name) of h = named_writes s name of h
channel_writes s [] (base.Primitive w) of h = values_writes of (data_form s [] (base.Primitive w)) h
channel_writes s (x ∷ xs) b of h = values_writes of (data_form s (x ∷ xs) b) h

channel_done : (s : Scope) (words : ChannelWords) (ds : List Dimension) (b : DataBase) (of : OccType) → DataDone s ds b of → BuiltinDone s (uv.Channel words ds b) (values_channel of)
channel_done s words ds b of h = builtin_done s (uv.Channel words ds b) _ (values_channel of) (views.builtin_channel words ds b) (channel_writes s (spans s ds) b of h)

count_found : (count : OccType) (primitive : Primitive) → number (as_primitive count) ≡ Some primitive → ((count_type (Some count)).faults ≡ []) × ((count_type (Some count)).found ≡ Some primitive)
unfolding count_type
count_found count primitive is = (ap (λ (o : Option Primitive). (count_fault o).faults) is, ap (λ (o : Option Primitive). (count_fault o).found) is)

counted_writes : (w x : Written) (count of : OccType) (primitive : Primitive) → Writes count w → number (as_primitive count) ≡ Some primitive → Writes of x → Writes (t.Channel (protocol.Sequence (item.Counted primitive of ∷ []))) (counted_channel w x)
unfolding counted_type
counted_writes w x count of primitive h is g =
    let c = count_found count primitive is in
    let faults : (count_type w.found).faults ≡ [] = ap (λ (o : Option OccType). (count_type o).faults) h.1 ∙ c.0 in
    let found : (count_type w.found).found ≡ Some primitive = ap (λ (o : Option OccType). (count_type o).found) h.1 ∙ c.1 in
    (both_clean w.faults ((count_type w.found).faults ++ x.faults) h.0 (both_clean (count_type w.found).faults x.faults faults g.0), ap (λ (o : Option Primitive). counted_type o x.found) found ∙ ap (counted_type (Some primitive)) g.1)

counted_done : (s : Scope) (words : ChannelWords) (ds es : List Dimension) (b c : DataBase) (count of : OccType) (primitive : Primitive) → DataDone s ds b count → number (as_primitive count) ≡ Some primitive → DataDone s es c of
    → BuiltinDone s (uv.Counted words ds b es c) (t.Channel (protocol.Sequence (item.Counted primitive of ∷ [])))
counted_done s words ds es b c count of primitive h is g =
    builtin_done s (uv.Counted words ds b es c) _ (t.Channel (protocol.Sequence (item.Counted primitive of ∷ []))) (views.builtin_counted words ds b es c) (counted_writes (data_form s (spans s ds) b) (data_form s (spans s es) c) count of primitive h is g)

named_data_done : (s : Scope) (ds : List Dimension) (name : List ℕ) (inside to : OccType) → visible s name ≡ Some (meaning.Type (Some inside)) → ArrayDone s ds inside to → DataDone s ds (base.Named name) to
unfolding data_form
named_data_done s ds name inside to is h = array_writes s ds inside to (base_type s (base.Named name)) (name_writes s name inside is) h

primitive_data_done : (s : Scope) (ds : List Dimension) (w : PrimitiveWord) (to : OccType) → ArrayDone s ds (t.Primitive (primitive_of w)) to → DataDone s ds (base.Primitive w) to
unfolding data_form
primitive_data_done s ds w to h = array_writes s ds (t.Primitive (primitive_of w)) to (base_type s (base.Primitive w)) (refl, refl) h

part_of : (s : Scope) (e : Operand) (of : OccType) (value : Option Value) → OperandSays s e of value → Says (is_free_operand e) of value ((operand_view e).said s)
part_of s e of value h = h.part

all_more : (s : Scope) (e : Expr) (es : List Expr) (of own : OccType) (value : Option Value) → ItemDone s e of own value → AllOfDone s es of → AllOfDone s (e ∷ es) of
all_more s e es of own value h g = (own ∷ g.0, one_item_done s e es of own value g.0 h g.1)

-- ---- all forms

mutual
  pub has_type : (s : Scope) (e : Expr) (of : OccType) (value : Option Value) → has.HasType s e of value → ExprSays s e of value
  has_type s _ _ _ (has.operand e of value h) = operand_says s e of value (operand_type s e of value h)
  has_type s _ _ _ (has.table_converted name e to of value is h c made) = table_converted_says s name e to of value is (table_alone_type s (e ∷ []) of h) c made
  has_type s _ _ _ (has.run operator a b es of values value h al choice r) = run_says s operator a b es of values value (operands_type s (a ∷ b ∷ es) of values h) al choice r
  has_type s _ _ _ (has.pair a operator b of values value is h al choice r) = pair_says s a operator b of values value is (operands_type s (a ∷ b ∷ []) of values h) al choice r
  has_type s _ _ _ (has.shift a operator b means of by left count value is h n g an made) =
      shift_says s a operator b means of by left count value is (operand_type s a of left h) n (operand_type s b by count g) an made
  has_type s _ _ _ (has.front operator means e of inner value is never h tk made) = front_says s operator means e of inner value is never (operand_type s e of inner h) tk made
  has_type s _ _ _ (has.negative i of base value n is) = negative_says s i of base value n is
  has_type s _ _ _ (has.size e of inner value parts h is count) = size_says s e of inner value parts (operand_alone_type s e of inner h) is count
  has_type s _ _ _ (has.converted ds b e inside to of inner value h g i c made) =
      converted_says s ds b e inside to of inner value (builtin_type s b inside h) (array_type s ds inside to g) (operand_alone_type s e of inner i) c made
  has_type s _ _ _ (has.array_converted d ds name e inside to of inner value is g i c made) =
      array_converted_says s d ds name e inside to of inner value is (array_type s (d ∷ ds) inside to g) (operand_alone_type s e of inner i) c made
  has_type s _ _ _ (has.named_converted name e inside to of inner value is g i c made) =
      named_converted_says s name e inside to of inner value is (array_type s [] inside to g) (named_alone_type s e of inner i) c made
  has_type s _ _ _ (has.most end ty to base h n) = most_says s end ty to base (written_type s ty to h) n

  operand_type : (s : Scope) (e : Operand) (of : OccType) (value : Option Value) → has.OperandHasType s e of value → OperandSays s e of value
  operand_type s _ _ _ (has.element e of value h) = element_says s e of value (element_type s e of value h)
  operand_type s _ _ _ (has.literal lit of value h) = literal_says s lit of value h
  operand_type s _ _ _ (has.decorated lit ty to value h g) = decorated_says s lit ty to value (written_type s ty to h) g
  operand_type s _ _ _ (has.truth b) = truth_says s b
  operand_type s _ _ _ (has.parens e of value h) = parens_says s e of value (has_type s e of value h)
  operand_type s _ _ _ (has.decorated_table e es ty to h g) = decorated_table_says s e es ty to (written_type s ty to h) (table_of_type s (e ∷ es) to g)
  operand_type s _ _ _ (has.call name es of value h) = call_says s name es of value (call_type s name es of value h)

  named_type : (s : Scope) (e : NamedOperand) (of : OccType) (value : Option Value) → has.NamedHasType s e of value → NamedSays s e of value
  named_type s _ _ _ (has.named_element e of value h) = named_element_says s e of value (element_type s e of value h)
  named_type s _ _ _ (has.named_literal lit of value h) = named_literal_says s lit of value h
  named_type s _ _ _ (has.named_decorated lit ty to value h g) = named_decorated_says s lit ty to value (written_type s ty to h) g
  named_type s _ _ _ (has.named_truth b) = named_truth_says s b
  named_type s _ _ _ (has.named_decorated_table e es ty to h g) = named_decorated_table_says s e es ty to (written_type s ty to h) (table_of_type s (e ∷ es) to g)
  named_type s _ _ _ (has.named_call name es of value h) = named_call_says s name es of value (call_type s name es of value h)

  operands_type : (s : Scope) (es : List Operand) (of : OccType) (values : List (Option Value)) → has.AreOperands s es of values → OperandsDone s es of values
  operands_type s _ _ _ (has.no_operand of) = no_operands s of
  operands_type s _ _ _ (has.one_operand e es of own value values h fit g) = one_operand_done s e es of own value values (operand_type s e own value h) fit (operands_type s es of values g)

  pub element_type : (s : Scope) (e : Element) (of : OccType) (value : Option Value) → has.ElementHasType s e of value → ElementSays s e of value
  element_type s _ _ _ (has.named name es w of value is h) = named_says s name es w of value is (selects_type s es w.of w.value of value h)
  element_type s _ _ _ (has.segment e b es whole of inner value parts from count h is g a c i) =
      segment_says s e b es whole of inner value parts from count (element_type s e whole inner h) is (bounds_type s parts.0 b from count g) a c (selects_type s es (t.Array (count_of count) parts.1) None of value i)

  selects_type : (s : Scope) (es : List Expr) (from : OccType) (inner : Option Value) (of : OccType) (value : Option Value) → has.Selects s es from inner of value → SelectsDone s es from inner of value
  selects_type s _ _ _ _ _ (has.whole of value) = (refl, refl)
  selects_type s _ _ _ _ _ (has.component e es from of inner place value parts is h inside g) =
      component_done s e es from of inner place value parts is (has_type s e int place h) inside (selects_type s es parts.1 None of value g)
  selects_type s _ _ _ _ _ (has.field name es from found of inner value fields is here there g) = field_done s name es from found of inner value fields is here there (selects_type s es found None of value g)

  bounds_type : (s : Scope) (n : Option ℕ) (b : Bounds) (from count : Option ℤ) → has.HasBounds s n b from count → BoundsDone s n b from count
  bounds_type s _ _ _ _ (has.from n e value h) = from_done s n e value (has_type s e int value h)
  bounds_type s _ _ _ _ (has.so_many n e value h) = for_done s n e value (has_type s e int value h)
  bounds_type s _ _ _ _ (has.from_so_many n e f value count h g) = from_for_done s n e f value count (has_type s e int value h) (has_type s f int count g)

  call_type : (s : Scope) (name : List ℕ) (es : List Expr) (of : OccType) (value : Option Value) → has.CallHasType s name es of value → CallDone s name es of value
  call_type s _ _ _ _ (has.function name es formals result is h) = function_done s name es formals result is (actuals_type s es formals h)
  call_type s _ _ _ _ (has.conversion name e to of inner value is h c made) = conversion_done s name e to of inner value is (alone_type s e of inner h) c made

  actuals_type : (s : Scope) (es : List Expr) (fs : List Formal) → has.AreActuals s es fs → ActualsDone s es fs
  actuals_type s _ _ has.no_actual = record { clean = refl; many = refl; silent = refl; sound = refl }
  actuals_type s _ _ (has.one_actual e es f fs of value h g) = one_actual_done s e es f fs of value (takes_type s e f.of of value h) (actuals_type s es fs g)

  pub takes_type : (s : Scope) (e : Expr) (to of : OccType) (value : Option Value) → has.Takes s e to of value → ItemDone s e to of value
  takes_type s _ _ _ _ (has.fitting e to of value h fit) = says_done (is_free e) to of value ((expr_view e).said s) (has_type s e of value h) fit
  takes_type s _ _ _ _ (has.table_taking e es to of parts is at h fit) = table_taking_done s e es to of parts is at (table_type s es parts.1 of h) fit

  pub alone_type : (s : Scope) (e : Expr) (of : OccType) (value : Option Value) → has.StandsAlone s e of value → SaidStands of value ((expr_view e).said s)
  alone_type s _ _ _ (has.by_itself e of value h a) = says_stands (is_free e) of value ((expr_view e).said s) (has_type s e of value h) a
  alone_type s _ _ _ (has.table_by_itself e es of is h) = expr_table_stands s e es of is (table_alone_type s es of h)

  operand_alone_type : (s : Scope) (e : Operand) (of : OccType) (value : Option Value) → has.OperandAlone s e of value → SaidStands of value ((operand_view e).said s)
  operand_alone_type s _ _ _ (has.operand_by_itself e of value h a) = says_stands (is_free_operand e) of value ((operand_view e).said s) (part_of s e of value (operand_type s e of value h)) a
  operand_alone_type s _ _ _ (has.operand_table e es of is h) = operand_table_stands s e es of is (table_alone_type s es of h)

  named_alone_type : (s : Scope) (e : NamedOperand) (of : OccType) (value : Option Value) → has.NamedAlone s e of value → SaidStands of value ((named_operand_view e).said s)
  named_alone_type s _ _ _ (has.named_by_itself e of value h a) = says_stands (is_free_named e) of value ((named_operand_view e).said s) (named_type s e of value h) a
  named_alone_type s _ _ _ (has.named_table e f es of h) = named_table_stands s e f es of (table_alone_type s (e ∷ f ∷ es) of h)

  table_type : (s : Scope) (es : List Expr) (to of : OccType) → has.IsTable s es to of → TableDone s es to of
  table_type s _ _ _ (has.table_of es to types of h is small) = record { types = types; items = items_type s es to types h; inside = of; agree = is; small = small; is = refl }

  items_type : (s : Scope) (es : List Expr) (to : OccType) (types : List OccType) → has.AreItems s es to types → AllItems s es to types
  items_type s _ _ _ (has.no_item to) = (refl, tt)
  items_type s _ _ _ (has.one_item e es to of value types h g) = one_item_done s e es to of value types (takes_type s e to of value h) (items_type s es to types g)

  table_alone_type : (s : Scope) (es : List Expr) (of : OccType) → has.IsTableAlone s es of → AloneDone s es of
  table_alone_type s _ _ (has.table_of_first es to of first h) = table_alone_done s es to of (first_type s es to first) (table_type s es to of h)

  first_type : (s : Scope) (es : List Expr) (to : OccType) → has.IsFirst s es to → FirstDone s es to
  first_type s _ _ has.none_first = λ wanted types h. none_first
  first_type s _ _ (has.free_first e es to is h) = free_first_done s e es to is (first_type s es to h)
  first_type s _ _ (has.typed_first e es to value is h) = typed_first_done s e es to value is (alone_type s e to value h)

  table_of_type : (s : Scope) (es : List Expr) (to : OccType) → has.IsTableOf s es to → TableOfDone s es to
  table_of_type s _ _ (has.components es to parts is h count) = components_done s es to parts is (all_type s es parts.1 h) count
  table_of_type s _ _ (has.values es to fs none is h) = values_done s es to fs none is (fields_type s es fs h)

  all_type : (s : Scope) (es : List Expr) (of : OccType) → has.AreAll s es of → AllOfDone s es of
  all_type s _ _ (has.no_component of) = ([], (refl, tt))
  all_type s _ _ (has.one_component e es of own value h g) = all_more s e es of own value (takes_type s e of own value h) (all_type s es of g)

  fields_type : (s : Scope) (es : List Expr) (fs : List Field) → has.AreFields s es fs → FieldsDone s es fs
  fields_type s _ _ has.no_field = record { clean = refl; many = refl; silent = refl; sound = refl }
  fields_type s _ _ (has.one_field e es f fs of value is h g) = one_field_done s e es f fs of value is (takes_type s e f.of of value h) (fields_type s es fs g)

  pub written_type : (s : Scope) (ty : TypeForm) (to : OccType) → has.IsWritten s ty to → WrittenDone s ty to
  written_type s _ _ (has.named_type ds name inside to is h) = named_type_done s ds name inside to is (array_type s ds inside to h)
  written_type s _ _ (has.builtin_type ds b inside to h g) = builtin_type_done s ds b inside to (builtin_type s b inside h) (array_type s ds inside to g)

  array_type : (s : Scope) (ds : List Dimension) (inside to : OccType) → has.IsArrayOf s ds inside to → ArrayDone s ds inside to
  array_type s _ _ _ (has.array_of ds inside ns h small) = record { ns = ns; sizes = sizes_type s ds ns h; small = small; is = refl }

  sizes_type : (s : Scope) (ds : List Dimension) (ns : List ℕ) → has.AreSizes s ds ns → SizesDone s ds ns
  sizes_type s _ _ has.no_size = record { clean = refl; sizes = refl }
  sizes_type s _ _ (has.one_size e ds value n ns h at few g) = one_size_done s e ds value n ns (has_type s e int (Some value) h) at few (sizes_type s ds ns g)

  builtin_type : (s : Scope) (b : Builtin) (to : OccType) → has.IsBuiltin s b to → BuiltinDone s b to
  builtin_type s _ _ (has.primitive w) = builtin_done s (uv.Primitive w) _ (t.Primitive (primitive_of w)) (views.builtin_primitive w) (refl, refl)
  builtin_type s _ _ has.timer = builtin_done s uv.Timer _ t.Timer views.builtin_timer (refl, refl)
  builtin_type s _ _ (has.any_channel words) = builtin_done s (uv.AnyChannel words) _ (t.Channel protocol.Any) (views.builtin_any_channel words) (refl, refl)
  builtin_type s _ _ (has.channel_of_name words name of is) = channel_of_name_done s words name of is
  builtin_type s _ _ (has.channel_of_protocol words name c is) = channel_of_protocol_done s words name c is
  builtin_type s _ _ (has.channel words ds b of h) = channel_done s words ds b of (data_type_of s ds b of h)
  builtin_type s _ _ (has.counted words ds es b c count of primitive h is g) = counted_done s words ds es b c count of primitive (data_type_of s ds b count h) is (data_type_of s es c of g)

  data_type_of : (s : Scope) (ds : List Dimension) (b : DataBase) (to : OccType) → has.IsData s ds b to → DataDone s ds b to
  data_type_of s _ _ _ (has.named_data ds name inside to is h) = named_data_done s ds name inside to is (array_type s ds inside to h)
  data_type_of s _ _ _ (has.primitive_data ds w to h) = primitive_data_done s ds w to (array_type s ds (t.Primitive (primitive_of w)) to h)
