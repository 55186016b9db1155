-- What each tree spells: its tokens, and then those that follow.
use Rattle.std.specs.Prelude.{Bool, true, false, List, [], ◌∷◌, Option, Some, None}
use Rattle.occ_lines.specs.declared.token.Token.{Token}
use Rattle.occ_lines.specs.declared.token.Token.TheVariants as t
use Rattle.occ_lines.specs.declared.token.Symbol.TheVariants as s
use Rattle.occ_lines.specs.declared.token.Word.{Word}
use Rattle.occ_lines.specs.declared.token.Word.TheVariants as w
use Rattle.occ_forms_expressions.specs.declared.tree.PrimitiveWord.{PrimitiveWord}
use Rattle.occ_forms_expressions.specs.declared.tree.PrimitiveWord.TheVariants as pr
use Rattle.occ_forms_expressions.specs.declared.tree.ChannelWords.{ChannelWords}
use Rattle.occ_forms_expressions.specs.declared.tree.ChannelWords.TheVariants as ch
use Rattle.occ_forms_expressions.specs.declared.tree.MonadicOperator.{MonadicOperator}
use Rattle.occ_forms_expressions.specs.declared.tree.MonadicOperator.TheVariants as mo
use Rattle.occ_forms_expressions.specs.declared.tree.RunOperator.{RunOperator}
use Rattle.occ_forms_expressions.specs.declared.tree.RunOperator.TheVariants as ru
use Rattle.occ_forms_expressions.specs.declared.tree.PairOperator.{PairOperator}
use Rattle.occ_forms_expressions.specs.declared.tree.PairOperator.TheVariants as pa
use Rattle.occ_forms_expressions.specs.declared.tree.Extreme.{Extreme}
use Rattle.occ_forms_expressions.specs.declared.tree.Extreme.TheVariants as ex
use Rattle.occ_forms_expressions.specs.declared.tree.Literal.{Literal}
use Rattle.occ_forms_expressions.specs.declared.tree.Literal.TheVariants as li
use Rattle.occ_forms_expressions.specs.declared.tree.DataBase.{DataBase}
use Rattle.occ_forms_expressions.specs.declared.tree.DataBase.TheVariants as da
use Rattle.occ_forms_expressions.specs.declared.tree.Bounds.{Bounds}
use Rattle.occ_forms_expressions.specs.declared.tree.Bounds.TheOpen.{Bounds-F, Builtin-F, Dimension-F, Element-F, Expr-F, NamedOperand-F, Operand-F, TypeForm-F}
use Rattle.occ_forms_expressions.specs.declared.tree.Bounds.TheFolds.{fold-Bounds, fold-Builtin, fold-Dimension, fold-Element, fold-Expr, fold-NamedOperand, fold-Operand, fold-TypeForm}
use Rattle.occ_forms_expressions.specs.declared.tree.Builtin.{Builtin}
use Rattle.occ_forms_expressions.specs.declared.tree.DataForm.{DataForm}
use Rattle.occ_forms_expressions.specs.declared.tree.Dimension.{Dimension}
use Rattle.occ_forms_expressions.specs.declared.tree.Element.{Element}
use Rattle.occ_forms_expressions.specs.declared.tree.Expr.{Expr}
use Rattle.occ_forms_expressions.specs.declared.tree.NamedOperand.{NamedOperand}
use Rattle.occ_forms_expressions.specs.declared.tree.Operand.{Operand}
use Rattle.occ_forms_expressions.specs.declared.tree.TypeForm.{TypeForm}

-- a list of tokens, given those that follow it
abbrev pub Spelling : Type 0
Spelling = List Token → List Token

-- one after the other
abbrev pub many : {X : Type 0} → (X → Spelling) → List X → Spelling
many spells [] k = k
many spells (x ∷ xs) k = spells x (many spells xs k)

abbrev pub itself : Spelling → Spelling
itself f k = f k

-- the words and symbols of the small parts
abbrev pub primitive_word : PrimitiveWord → Word
primitive_word pr.Bool = w.Bool
primitive_word pr.Byte = w.Byte
primitive_word pr.Int = w.Int
primitive_word pr.Int16 = w.Int16
primitive_word pr.Int32 = w.Int32
primitive_word pr.Int64 = w.Int64

abbrev pub channel_words : ChannelWords → Spelling
channel_words ch.Chan k = t.Word w.Chan ∷ k
channel_words ch.ChanOf k = t.Word w.Chan ∷ t.Word w.Of ∷ k

abbrev pub monadic_token : MonadicOperator → Token
monadic_token mo.Negate = t.Symbol s.Minus
monadic_token mo.Minus = t.Word w.Minus
monadic_token mo.BitNot = t.Symbol s.BitNot
monadic_token mo.BitNotWord = t.Word w.BitNot
monadic_token mo.Not = t.Word w.Not
monadic_token mo.Size = t.Word w.Size

abbrev pub run_token : RunOperator → Token
run_token ru.Add = t.Symbol s.Plus
run_token ru.Multiply = t.Symbol s.Times
run_token ru.Plus = t.Word w.Plus
run_token ru.Times = t.Word w.Times
run_token ru.And = t.Word w.And
run_token ru.Or = t.Word w.Or
run_token ru.BitAnd = t.Symbol s.BitAnd
run_token ru.BitAndWord = t.Word w.BitAnd
run_token ru.BitOr = t.Symbol s.BitOr
run_token ru.BitOrWord = t.Word w.BitOr
run_token ru.BitXor = t.Symbol s.BitXor

abbrev pub pair_token : PairOperator → Token
pair_token pa.Subtract = t.Symbol s.Minus
pair_token pa.Minus = t.Word w.Minus
pair_token pa.Divide = t.Symbol s.Divide
pair_token pa.Remainder = t.Symbol s.Remainder
pair_token pa.RemainderWord = t.Word w.Rem
pair_token pa.ShiftLeft = t.Symbol s.ShiftLeft
pair_token pa.ShiftRight = t.Symbol s.ShiftRight
pair_token pa.Equal = t.Symbol s.Equal
pair_token pa.Unequal = t.Symbol s.Unequal
pair_token pa.Less = t.Symbol s.Less
pair_token pa.Greater = t.Symbol s.Greater
pair_token pa.AtMost = t.Symbol s.AtMost
pair_token pa.AtLeast = t.Symbol s.AtLeast
pair_token pa.After = t.Word w.After

abbrev pub extreme_word : Extreme → Word
extreme_word ex.Greatest = w.MostPos
extreme_word ex.Least = w.MostNeg

abbrev pub literal_token : Literal → Token
literal_token (li.Decimal n) = t.Decimal n
literal_token (li.Hexadecimal n) = t.Hexadecimal n
literal_token (li.Character n) = t.Character n
literal_token (li.String bytes) = t.String bytes

abbrev pub truth_word : Bool → Word
truth_word true = w.True
truth_word false = w.False

abbrev pub data_base_token : DataBase → Token
data_base_token (da.Named name) = t.Name name
data_base_token (da.Primitive p) = t.Word (primitive_word p)

-- `::[]`
abbrev pub counted_array : Spelling
counted_array k = t.Symbol s.Counted ∷ t.Symbol s.OpenIndex ∷ t.Symbol s.CloseIndex ∷ k

-- `[e]`
abbrev pub subscript : Spelling → Spelling
subscript e k = t.Symbol s.OpenIndex ∷ e (t.Symbol s.CloseIndex ∷ k)

-- `, e`
abbrev pub next_item : Spelling → Spelling
next_item e k = t.Symbol s.Comma ∷ e k

-- `(e)`
abbrev pub bracketed : Spelling → Spelling
bracketed e k = t.Symbol s.Open ∷ e (t.Symbol s.Close ∷ k)

-- `[e, ..]`
abbrev pub table : Spelling → List Spelling → Spelling
table first more k = t.Symbol s.OpenIndex ∷ first (many next_item more (t.Symbol s.CloseIndex ∷ k))

-- `()` or `(e, ..)`
abbrev pub arguments : List Spelling → Spelling
arguments [] k = t.Symbol s.Open ∷ t.Symbol s.Close ∷ k
arguments (e ∷ es) k = t.Symbol s.Open ∷ e (many next_item es (t.Symbol s.Close ∷ k))

-- the operator and the operand after it
abbrev pub operated : RunOperator → Spelling → Spelling
operated operator o k = run_token operator ∷ o k

abbrev pub bounds_step : Bounds-F Spelling Spelling Spelling Spelling Spelling Spelling Spelling Spelling → Spelling
bounds_step (Bounds-F.From e) k = t.Word w.From ∷ e k
bounds_step (Bounds-F.For e) k = t.Word w.For ∷ e k
bounds_step (Bounds-F.FromFor e f) k = t.Word w.From ∷ e (t.Word w.For ∷ f k)

abbrev pub builtin_step : Builtin-F Spelling Spelling Spelling Spelling Spelling Spelling Spelling Spelling → Spelling
builtin_step (Builtin-F.Primitive p) k = t.Word (primitive_word p) ∷ k
builtin_step Builtin-F.Timer k = t.Word w.Timer ∷ k
builtin_step (Builtin-F.AnyChannel words) k = channel_words words (t.Word w.Any ∷ k)
builtin_step (Builtin-F.Channel words ds base) k = channel_words words (many itself ds (data_base_token base ∷ k))
builtin_step (Builtin-F.Counted words ds base es other) k = channel_words words (many itself ds (data_base_token base ∷ counted_array (many itself es (data_base_token other ∷ k))))

abbrev pub dimension_step : Dimension-F Spelling Spelling Spelling Spelling Spelling Spelling Spelling Spelling → Spelling
dimension_step Dimension-F.Open k = t.Symbol s.OpenIndex ∷ t.Symbol s.CloseIndex ∷ k
dimension_step (Dimension-F.Sized e) k = subscript e k

abbrev pub type_form_step : TypeForm-F Spelling Spelling Spelling Spelling Spelling Spelling Spelling Spelling → Spelling
type_form_step (TypeForm-F.TypeForm::Named ds name) k = many itself ds (t.Name name ∷ k)
type_form_step (TypeForm-F.Builtin ds builtin) k = many itself ds (builtin k)

abbrev pub element_step : Element-F Spelling Spelling Spelling Spelling Spelling Spelling Spelling Spelling → Spelling
element_step (Element-F.Element::Named name es) k = t.Name name ∷ many subscript es k
element_step (Element-F.Segment element bounds es) k = t.Symbol s.OpenIndex ∷ element (bounds (t.Symbol s.CloseIndex ∷ many subscript es k))

abbrev pub operand_step : Operand-F Spelling Spelling Spelling Spelling Spelling Spelling Spelling Spelling → Spelling
operand_step (Operand-F.Operand::Element element) k = element k
operand_step (Operand-F.Operand::Literal literal) k = literal_token literal ∷ k
operand_step (Operand-F.Operand::Decorated literal type) k = literal_token literal ∷ bracketed type k
operand_step (Operand-F.Operand::Truth truth) k = t.Word (truth_word truth) ∷ k
operand_step (Operand-F.Parens e) k = bracketed e k
operand_step (Operand-F.Operand::Table first more) k = table first more k
operand_step (Operand-F.Operand::DecoratedTable first more type) k = table first more (bracketed type k)
operand_step (Operand-F.Operand::Call name es) k = t.Name name ∷ arguments es k

abbrev pub named_operand_step : NamedOperand-F Spelling Spelling Spelling Spelling Spelling Spelling Spelling Spelling → Spelling
named_operand_step (NamedOperand-F.NamedOperand::Element element) k = element k
named_operand_step (NamedOperand-F.NamedOperand::Literal literal) k = literal_token literal ∷ k
named_operand_step (NamedOperand-F.NamedOperand::Decorated literal type) k = literal_token literal ∷ bracketed type k
named_operand_step (NamedOperand-F.NamedOperand::Truth truth) k = t.Word (truth_word truth) ∷ k
named_operand_step (NamedOperand-F.NamedOperand::Table first second more) k = table first (second ∷ more) k
named_operand_step (NamedOperand-F.NamedOperand::DecoratedTable first more type) k = table first more (bracketed type k)
named_operand_step (NamedOperand-F.NamedOperand::Call name es) k = t.Name name ∷ arguments es k

abbrev pub expr_step : Expr-F Spelling Spelling Spelling Spelling Spelling Spelling Spelling Spelling → Spelling
expr_step (Expr-F.Alone o) k = o k
expr_step (Expr-F.Run operator a b more) k = a (operated operator b (many (operated operator) more k))
expr_step (Expr-F.Pair a operator b) k = a (pair_token operator ∷ b k)
expr_step (Expr-F.Applied operator o) k = monadic_token operator ∷ o k
expr_step (Expr-F.Converted ds builtin o) k = many itself ds (builtin (o k))
expr_step (Expr-F.ArrayConverted d ds name o) k = d (many itself ds (t.Name name ∷ o k))
expr_step (Expr-F.Expr::Named name o) k = t.Name name ∷ o k
expr_step (Expr-F.Most extreme type) k = t.Word (extreme_word extreme) ∷ type k

abbrev pub bounds_then : Bounds → Spelling
bounds_then = fold-Bounds Spelling Spelling Spelling Spelling Spelling Spelling Spelling Spelling bounds_step builtin_step dimension_step element_step expr_step named_operand_step operand_step type_form_step

abbrev pub builtin_then : Builtin → Spelling
builtin_then = fold-Builtin Spelling Spelling Spelling Spelling Spelling Spelling Spelling Spelling bounds_step builtin_step dimension_step element_step expr_step named_operand_step operand_step type_form_step

abbrev pub dimension_then : Dimension → Spelling
dimension_then = fold-Dimension Spelling Spelling Spelling Spelling Spelling Spelling Spelling Spelling bounds_step builtin_step dimension_step element_step expr_step named_operand_step operand_step type_form_step

abbrev pub element_then : Element → Spelling
element_then = fold-Element Spelling Spelling Spelling Spelling Spelling Spelling Spelling Spelling bounds_step builtin_step dimension_step element_step expr_step named_operand_step operand_step type_form_step

abbrev pub expr_then : Expr → Spelling
expr_then = fold-Expr Spelling Spelling Spelling Spelling Spelling Spelling Spelling Spelling bounds_step builtin_step dimension_step element_step expr_step named_operand_step operand_step type_form_step

abbrev pub named_operand_then : NamedOperand → Spelling
named_operand_then = fold-NamedOperand Spelling Spelling Spelling Spelling Spelling Spelling Spelling Spelling bounds_step builtin_step dimension_step element_step expr_step named_operand_step operand_step type_form_step

abbrev pub operand_then : Operand → Spelling
operand_then = fold-Operand Spelling Spelling Spelling Spelling Spelling Spelling Spelling Spelling bounds_step builtin_step dimension_step element_step expr_step named_operand_step operand_step type_form_step

abbrev pub type_form_then : TypeForm → Spelling
type_form_then = fold-TypeForm Spelling Spelling Spelling Spelling Spelling Spelling Spelling Spelling bounds_step builtin_step dimension_step element_step expr_step named_operand_step operand_step type_form_step

-- the same of trees
abbrev pub data_form_then : DataForm → Spelling
data_form_then form k = many dimension_then form.dimensions (data_base_token form.base ∷ k)

abbrev pub subscript_of : Expr → Spelling
subscript_of e k = subscript (expr_then e) k

abbrev pub next_item_of : Expr → Spelling
next_item_of e k = next_item (expr_then e) k

abbrev pub operated_of : RunOperator → Operand → Spelling
operated_of operator o k = operated operator (operand_then o) k

abbrev pub table_of : Expr → List Expr → Spelling
table_of first more k = t.Symbol s.OpenIndex ∷ expr_then first (many next_item_of more (t.Symbol s.CloseIndex ∷ k))

abbrev pub arguments_of : List Expr → Spelling
arguments_of [] k = t.Symbol s.Open ∷ t.Symbol s.Close ∷ k
arguments_of (e ∷ es) k = t.Symbol s.Open ∷ expr_then e (many next_item_of es (t.Symbol s.Close ∷ k))

abbrev pub decoration_of : TypeForm → Spelling
decoration_of type k = bracketed (type_form_then type) k

-- a type in brackets, where there is one
abbrev pub perhaps_decoration_of : Option TypeForm → Spelling
perhaps_decoration_of None k = k
perhaps_decoration_of (Some type) k = decoration_of type k
