-- Every tree spells at least one token, and each of its tokens may stand in an expression or a type.
use Rattle.std.proofs.Common.{◌≡◌, ◌∙◌, ◌<◌, refl, ap, Bool, true, false, List, [], ◌∷◌, length, arith}
use Rattle.occ_lines.specs.declared.token.Token.{Token}
use Rattle.occ_lines.specs.declared.token.Token.TheVariants as t
use Rattle.occ_lines.specs.declared.token.Symbol.TheVariants as s
use Rattle.occ_lines.specs.declared.token.Word.TheVariants as w
use Rattle.occ_forms_expressions.specs.declared.tree.Bounds.{Bounds}
use Rattle.occ_forms_expressions.specs.declared.tree.Builtin.{Builtin}
use Rattle.occ_forms_expressions.specs.declared.tree.ChannelWords.{ChannelWords}
use Rattle.occ_forms_expressions.specs.declared.tree.ChannelWords.TheVariants as ch
use Rattle.occ_forms_expressions.specs.declared.tree.DataBase.{DataBase}
use Rattle.occ_forms_expressions.specs.declared.tree.DataBase.TheVariants as da
use Rattle.occ_forms_expressions.specs.declared.tree.DataForm.{DataForm}
use Rattle.occ_forms_expressions.specs.declared.tree.Dimension.{Dimension}
use Rattle.occ_forms_expressions.specs.declared.tree.Element.{Element}
use Rattle.occ_forms_expressions.specs.declared.tree.Expr.{Expr}
use Rattle.occ_forms_expressions.specs.declared.tree.Extreme.{Extreme}
use Rattle.occ_forms_expressions.specs.declared.tree.Extreme.TheVariants as ex
use Rattle.occ_forms_expressions.specs.declared.tree.Literal.{Literal}
use Rattle.occ_forms_expressions.specs.declared.tree.Literal.TheVariants as li
use Rattle.occ_forms_expressions.specs.declared.tree.MonadicOperator.{MonadicOperator}
use Rattle.occ_forms_expressions.specs.declared.tree.MonadicOperator.TheVariants as mo
use Rattle.occ_forms_expressions.specs.declared.tree.NamedOperand.{NamedOperand}
use Rattle.occ_forms_expressions.specs.declared.tree.Operand.{Operand}
use Rattle.occ_forms_expressions.specs.declared.tree.PairOperator.{PairOperator}
use Rattle.occ_forms_expressions.specs.declared.tree.PairOperator.TheVariants as pa
use Rattle.occ_forms_expressions.specs.declared.tree.PrimitiveWord.{PrimitiveWord}
use Rattle.occ_forms_expressions.specs.declared.tree.PrimitiveWord.TheVariants as pr
use Rattle.occ_forms_expressions.specs.declared.tree.RunOperator.{RunOperator}
use Rattle.occ_forms_expressions.specs.declared.tree.RunOperator.TheVariants as ru
use Rattle.occ_forms_expressions.specs.declared.tree.TypeForm.{TypeForm}
use Rattle.occ_forms_expressions.specs.Marks.{first_mark, is_inner, mark_after}
use Rattle.occ_forms_expressions.specs.Spelling.{Spelling, arguments_of, bounds_then, builtin_then, channel_words, counted_array, data_base_token, data_form_then, decoration_of, dimension_then, element_then, expr_then, extreme_word, literal_token, many, monadic_token, named_operand_then, next_item_of, operand_then, operated_of, pair_token, primitive_word, run_token, subscript_of, table_of, truth_word, type_form_then}
use Rattle.occ_forms_expressions.proofs.Cases.{bounds_for_spells, bounds_from_for_spells, bounds_from_spells, builtin_any_channel_spells, builtin_channel_spells, builtin_counted_spells, builtin_primitive_spells, builtin_timer_spells, dimension_open_spells, dimension_sized_spells, element_named_spells, element_segment_spells, expr_alone_spells, expr_applied_spells, expr_array_converted_spells, expr_converted_spells, expr_most_spells, expr_named_spells, expr_pair_spells, expr_run_spells, named_operand_call_spells, named_operand_decorated_spells, named_operand_decorated_table_spells, named_operand_element_spells, named_operand_literal_spells, named_operand_table_spells, named_operand_truth_spells, operand_call_spells, operand_decorated_spells, operand_decorated_table_spells, operand_element_spells, operand_literal_spells, operand_parens_spells, operand_table_spells, operand_truth_spells, type_form_builtin_spells, type_form_named_spells}
use Rattle.occ_forms_expressions.proofs.Induction.{Every, Steps, every_bounds, every_builtin, every_dimension, every_element, every_expr, every_named_operand, every_operand, every_type_form}

-- some tokens, which may stand in an expression or a type, in front of those that follow
pub record Inner (f : Spelling) : Type 0 where
  pub passes : (k : List Token) → first_mark (f k) ≡ first_mark k
  pub grows : (k : List Token) → length k < length (f k)

-- the same of the spellings of all items
abbrev AllInner : {X : Type 0} → (X → Spelling) → List X → Type 0
AllInner spells xs = Every (λ x. Inner (spells x)) xs

token : (x : Token) → is_inner x ≡ true → Inner (λ k. x ∷ k)
token x inner = record { passes = λ k. ap (λ b. mark_after b x (first_mark k)) inner; grows = λ k. omega arith }

then : {f g : Spelling} → Inner f → Inner g → Inner (λ k. f (g k))
then {f} {g} x y = record { passes = λ k. x.passes (g k) ∙ y.passes k; grows = λ k. omega (arith, x.grows (g k), y.grows k) }

first : (x : Token) {f : Spelling} → is_inner x ≡ true → Inner f → Inner (λ k. x ∷ f k)
first x {f} inner y = then {f = λ k. x ∷ k} {g = f} (token x inner) y

like : {f g : Spelling} → ((k : List Token) → f k ≡ g k) → Inner g → Inner f
like {f} {g} same x = record { passes = λ k. ap first_mark (same k) ∙ x.passes k; grows = λ k. rw (same k) (x.grows k) }

items : {X : Type 0} (spells : X → Spelling) (xs : List X) {f : Spelling} → AllInner spells xs → Inner f → Inner (λ k. many spells xs (f k))
items spells [] {f} all x = x
items spells (y ∷ ys) {f} all x = then {f = spells y} {g = λ k. many spells ys (f k)} all.0 (items spells ys {f = f} all.1 x)

-- each item after a token, or in brackets
each : {X : Type 0} (f g : X → Spelling) (xs : List X) → ((x : X) → Inner (f x) → Inner (g x)) → AllInner f xs → AllInner g xs
each f g [] step all = tt
each f g (x ∷ xs) step all = (step x all.0, each f g xs step all.1)

primitive : (p : PrimitiveWord) → is_inner (t.Word (primitive_word p)) ≡ true
primitive pr.Bool = refl
primitive pr.Byte = refl
primitive pr.Int = refl
primitive pr.Int16 = refl
primitive pr.Int32 = refl
primitive pr.Int64 = refl

channel : (c : ChannelWords) → Inner (channel_words c)
channel ch.Chan = token (t.Word w.Chan) refl
channel ch.ChanOf = first (t.Word w.Chan) refl (token (t.Word w.Of) refl)

monadic : (o : MonadicOperator) → is_inner (monadic_token o) ≡ true
monadic mo.Negate = refl
monadic mo.Minus = refl
monadic mo.BitNot = refl
monadic mo.BitNotWord = refl
monadic mo.Not = refl
monadic mo.Size = refl

run : (o : RunOperator) → is_inner (run_token o) ≡ true
run ru.Add = refl
run ru.Multiply = refl
run ru.Plus = refl
run ru.Times = refl
run ru.And = refl
run ru.Or = refl
run ru.BitAnd = refl
run ru.BitAndWord = refl
run ru.BitOr = refl
run ru.BitOrWord = refl
run ru.BitXor = refl

pair : (o : PairOperator) → is_inner (pair_token o) ≡ true
pair pa.Subtract = refl
pair pa.Minus = refl
pair pa.Divide = refl
pair pa.Remainder = refl
pair pa.RemainderWord = refl
pair pa.ShiftLeft = refl
pair pa.ShiftRight = refl
pair pa.Equal = refl
pair pa.Unequal = refl
pair pa.Less = refl
pair pa.Greater = refl
pair pa.AtMost = refl
pair pa.AtLeast = refl
pair pa.After = refl

extreme : (x : Extreme) → is_inner (t.Word (extreme_word x)) ≡ true
extreme ex.Greatest = refl
extreme ex.Least = refl

literal : (l : Literal) → is_inner (literal_token l) ≡ true
literal (li.Decimal n) = refl
literal (li.Hexadecimal n) = refl
literal (li.Character n) = refl
literal (li.String bytes) = refl

truth : (b : Bool) → is_inner (t.Word (truth_word b)) ≡ true
truth true = refl
truth false = refl

base : (b : DataBase) → is_inner (data_base_token b) ≡ true
base (da.Named name) = refl
base (da.Primitive p) = primitive p

counted : {f : Spelling} → Inner f → Inner (λ k. counted_array (f k))
counted {f} x = first (t.Symbol s.Counted) refl (first (t.Symbol s.OpenIndex) refl (first (t.Symbol s.CloseIndex) refl x))

subscripted : (e : Expr) → Inner (expr_then e) → Inner (subscript_of e)
subscripted e x = first (t.Symbol s.OpenIndex) refl (then x (token (t.Symbol s.CloseIndex) refl))

subscripts : (es : List Expr) → AllInner expr_then es → AllInner subscript_of es
subscripts es all = each expr_then subscript_of es subscripted all

next_items : (es : List Expr) → AllInner expr_then es → AllInner next_item_of es
next_items es all = each expr_then next_item_of es (λ e x. first (t.Symbol s.Comma) refl x) all

operateds : (op : RunOperator) (os : List Operand) → AllInner operand_then os → AllInner (operated_of op) os
operateds op os all = each operand_then (operated_of op) os (λ o x. first (run_token op) (run op) x) all

-- a list after the first of what it goes on with
following : {X : Type 0} (spells : X → Spelling) (xs : List X) {f : Spelling} → Inner f → AllInner spells xs → Inner (λ k. f (many spells xs k))
following spells [] {f} x all = x
following spells (y ∷ ys) {f} x all = then {f = f} {g = λ k. spells y (many spells ys k)} x (following spells ys {f = spells y} all.0 all.1)

decorated : (ty : TypeForm) → Inner (type_form_then ty) → Inner (decoration_of ty)
decorated ty x = first (t.Symbol s.Open) refl (then x (token (t.Symbol s.Close) refl))

closed_items : (es : List Expr) (end : Token) → is_inner end ≡ true → AllInner expr_then es → Inner (λ k. many next_item_of es (end ∷ k))
closed_items es end inner all = items next_item_of es (next_items es all) (token end inner)

table : (e : Expr) (es : List Expr) → Inner (expr_then e) → AllInner expr_then es → Inner (table_of e es)
table e es x all = first (t.Symbol s.OpenIndex) refl (then x (closed_items es (t.Symbol s.CloseIndex) refl all))

arguments : (es : List Expr) → AllInner expr_then es → Inner (arguments_of es)
arguments [] all = first (t.Symbol s.Open) refl (token (t.Symbol s.Close) refl)
arguments (e ∷ es) all = first (t.Symbol s.Open) refl (then {f = expr_then e} {g = λ k. many next_item_of es (t.Symbol s.Close ∷ k)} all.0 (closed_items es (t.Symbol s.Close) refl all.1))

dimensioned : (ds : List Dimension) (b : DataBase) {f : Spelling} → AllInner dimension_then ds → Inner f → Inner (λ k. many dimension_then ds (data_base_token b ∷ f k))
dimensioned ds b {f} all x = items dimension_then ds all (first (data_base_token b) (base b) x)

abbrev OfBounds : Bounds → Type 0
OfBounds b = Inner (bounds_then b)

abbrev OfBuiltin : Builtin → Type 0
OfBuiltin b = Inner (builtin_then b)

abbrev OfDimension : Dimension → Type 0
OfDimension d = Inner (dimension_then d)

abbrev OfElement : Element → Type 0
OfElement el = Inner (element_then el)

abbrev OfExpr : Expr → Type 0
OfExpr e = Inner (expr_then e)

abbrev OfNamed : NamedOperand → Type 0
OfNamed o = Inner (named_operand_then o)

abbrev OfOperand : Operand → Type 0
OfOperand o = Inner (operand_then o)

abbrev OfType : TypeForm → Type 0
OfType ty = Inner (type_form_then ty)

steps : Steps OfBounds OfBuiltin OfDimension OfElement OfExpr OfNamed OfOperand OfType
steps = record {
  bounds_from = λ e x. like (bounds_from_spells e) (first (t.Word w.From) refl x);
  bounds_for = λ e x. like (bounds_for_spells e) (first (t.Word w.For) refl x);
  bounds_from_for = λ e f x y. like (bounds_from_for_spells e f) (first (t.Word w.From) refl (then x (first (t.Word w.For) refl y)));
  builtin_primitive = λ p. like (builtin_primitive_spells p) (token (t.Word (primitive_word p)) (primitive p));
  builtin_timer = like builtin_timer_spells (token (t.Word w.Timer) refl);
  builtin_any_channel = λ c. like (builtin_any_channel_spells c) (then (channel c) (token (t.Word w.Any) refl));
  builtin_channel = λ c ds b all. like (builtin_channel_spells c ds b) (then (channel c) (items dimension_then ds all (token (data_base_token b) (base b))));
  builtin_counted = λ c ds b es d all more. like (builtin_counted_spells c ds b es d) (then (channel c) (dimensioned ds b all (counted (items dimension_then es more (token (data_base_token d) (base d))))));
  dimension_open = like dimension_open_spells (first (t.Symbol s.OpenIndex) refl (token (t.Symbol s.CloseIndex) refl));
  dimension_sized = λ e x. like (dimension_sized_spells e) (subscripted e x);
  element_named = λ n es all. like (element_named_spells n es) (following subscript_of es (token (t.Name n) refl) (subscripts es all));
  element_segment = λ el b es x y all. like (element_segment_spells el b es) (first (t.Symbol s.OpenIndex) refl (then x (then y (following subscript_of es (token (t.Symbol s.CloseIndex) refl) (subscripts es all)))));
  expr_alone = λ o x. like (expr_alone_spells o) x;
  expr_run = λ op a b os x y all. like (expr_run_spells op a b os) (then x (following (operated_of op) os (first (run_token op) (run op) y) (operateds op os all)));
  expr_pair = λ a op b x y. like (expr_pair_spells a op b) (then x (first (pair_token op) (pair op) y));
  expr_applied = λ op o x. like (expr_applied_spells op o) (first (monadic_token op) (monadic op) x);
  expr_converted = λ ds b o all x y. like (expr_converted_spells ds b o) (items dimension_then ds all (then x y));
  expr_array_converted = λ d ds n o x all y. like (expr_array_converted_spells d ds n o) (then x (items dimension_then ds all (first (t.Name n) refl y)));
  expr_named = λ n o x. like (expr_named_spells n o) (first (t.Name n) refl x);
  expr_most = λ e ty x. like (expr_most_spells e ty) (first (t.Word (extreme_word e)) (extreme e) x);
  named_operand_element = λ el x. like (named_operand_element_spells el) x;
  named_operand_literal = λ l. like (named_operand_literal_spells l) (token (literal_token l) (literal l));
  named_operand_decorated = λ l ty x. like (named_operand_decorated_spells l ty) (first (literal_token l) (literal l) (decorated ty x));
  named_operand_truth = λ b. like (named_operand_truth_spells b) (token (t.Word (truth_word b)) (truth b));
  named_operand_table = λ e f es x y all. like (named_operand_table_spells e f es) (table e (f ∷ es) x (y, all));
  named_operand_decorated_table = λ e es ty x all y. like (named_operand_decorated_table_spells e es ty) (then (table e es x all) (decorated ty y));
  named_operand_call = λ n es all. like (named_operand_call_spells n es) (first (t.Name n) refl (arguments es all));
  operand_element = λ el x. like (operand_element_spells el) x;
  operand_literal = λ l. like (operand_literal_spells l) (token (literal_token l) (literal l));
  operand_decorated = λ l ty x. like (operand_decorated_spells l ty) (first (literal_token l) (literal l) (decorated ty x));
  operand_truth = λ b. like (operand_truth_spells b) (token (t.Word (truth_word b)) (truth b));
  operand_parens = λ e x. like (operand_parens_spells e) (first (t.Symbol s.Open) refl (then x (token (t.Symbol s.Close) refl)));
  operand_table = λ e es x all. like (operand_table_spells e es) (table e es x all);
  operand_decorated_table = λ e es ty x all y. like (operand_decorated_table_spells e es ty) (then (table e es x all) (decorated ty y));
  operand_call = λ n es all. like (operand_call_spells n es) (first (t.Name n) refl (arguments es all));
  type_form_named = λ ds n all. like (type_form_named_spells ds n) (items dimension_then ds all (token (t.Name n) refl));
  type_form_builtin = λ ds b all x. like (type_form_builtin_spells ds b) (items dimension_then ds all x);
}

pub inner_bounds : (b : Bounds) → Inner (bounds_then b)
inner_bounds = every_bounds steps

pub inner_builtin : (b : Builtin) → Inner (builtin_then b)
inner_builtin = every_builtin steps

pub inner_dimension : (d : Dimension) → Inner (dimension_then d)
inner_dimension = every_dimension steps

pub inner_element : (el : Element) → Inner (element_then el)
inner_element = every_element steps

pub inner_expr : (e : Expr) → Inner (expr_then e)
inner_expr = every_expr steps

pub inner_named_operand : (o : NamedOperand) → Inner (named_operand_then o)
inner_named_operand = every_named_operand steps

pub inner_operand : (o : Operand) → Inner (operand_then o)
inner_operand = every_operand steps

pub inner_type_form : (ty : TypeForm) → Inner (type_form_then ty)
inner_type_form = every_type_form steps

-- what stands in brackets, after a comma and after an operator
pub inner_subscript : (e : Expr) → Inner (subscript_of e)
inner_subscript e = subscripted e (inner_expr e)

pub inner_next_item : (e : Expr) → Inner (next_item_of e)
inner_next_item e = first (t.Symbol s.Comma) refl (inner_expr e)

pub inner_operated : (op : RunOperator) (o : Operand) → Inner (operated_of op o)
inner_operated op o = first (run_token op) (run op) (inner_operand o)

-- so of each list
pub inner_all : {X : Type 0} (spells : X → Spelling) → ((x : X) → Inner (spells x)) → (xs : List X) → Every (λ x. Inner (spells x)) xs
inner_all spells one [] = tt
inner_all spells one (x ∷ xs) = (one x, inner_all spells one xs)

pub inner_data_form : (form : DataForm) → Inner (data_form_then form)
inner_data_form form = items dimension_then form.dimensions (inner_all dimension_then inner_dimension form.dimensions) (token (data_base_token form.base) (base form.base))
