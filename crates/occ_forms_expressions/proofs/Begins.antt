-- With what each tree begins.
use Rattle.std.proofs.Common.{◌≡◌, ◌∙◌, refl, sym, ap, Bool, true, false, List, [], ◌∷◌}
use Rattle.occ_lines.specs.declared.token.Token.{Token}
use Rattle.occ_lines.specs.declared.token.Token.TheVariants as t
use Rattle.occ_forms_expressions.specs.declared.begin.Begin.{Begin}
use Rattle.occ_forms_expressions.specs.declared.begin.Begin.TheVariants as be
use Rattle.occ_forms_expressions.specs.declared.tree.Builtin.{Builtin}
use Rattle.occ_forms_expressions.specs.declared.tree.ChannelWords.{ChannelWords}
use Rattle.occ_forms_expressions.specs.declared.tree.ChannelWords.TheVariants as ch
use Rattle.occ_forms_expressions.specs.declared.tree.Dimension.{Dimension}
use Rattle.occ_forms_expressions.specs.declared.tree.Element.{Element}
use Rattle.occ_forms_expressions.specs.declared.tree.Expr.{Expr}
use Rattle.occ_forms_expressions.specs.declared.tree.Extreme.{Extreme}
use Rattle.occ_forms_expressions.specs.declared.tree.Extreme.TheVariants as ex
use Rattle.occ_forms_expressions.specs.declared.tree.Literal.{Literal}
use Rattle.occ_forms_expressions.specs.declared.tree.Literal.TheVariants as li
use Rattle.occ_forms_expressions.specs.declared.tree.MonadicOperator.{MonadicOperator}
use Rattle.occ_forms_expressions.specs.declared.tree.MonadicOperator.TheVariants as mo
use Rattle.occ_forms_expressions.specs.declared.tree.Operand.{Operand}
use Rattle.occ_forms_expressions.specs.declared.tree.PrimitiveWord.{PrimitiveWord}
use Rattle.occ_forms_expressions.specs.declared.tree.PrimitiveWord.TheVariants as pr
use Rattle.occ_forms_expressions.specs.Reading.{begin_of}
use Rattle.occ_forms_expressions.specs.Spelling.{builtin_then, channel_words, dimension_then, element_then, expr_then, extreme_word, literal_token, many, monadic_token, operand_then, primitive_word, truth_word, type_form_then}
use Rattle.occ_forms_expressions.proofs.Cases.{builtin_is_any_channel, builtin_is_channel, builtin_is_counted, builtin_is_primitive, builtin_is_timer, dimension_is_open, dimension_is_sized, element_is_named, element_is_segment, expr_is_alone, expr_is_applied, expr_is_array_converted, expr_is_converted, expr_is_most, expr_is_named, expr_is_pair, expr_is_run, operand_is_call, operand_is_decorated, operand_is_decorated_table, operand_is_element, operand_is_literal, operand_is_parens, operand_is_table, operand_is_truth, BuiltinIs, DimensionIs, ElementIs, ExprIs, OperandIs, builtin_is, dimension_is, element_is, expr_is, operand_is, builtin_primitive_spells, builtin_timer_spells, builtin_any_channel_spells, builtin_channel_spells, builtin_counted_spells, dimension_open_spells, dimension_sized_spells, element_named_spells, element_segment_spells, operand_element_spells, operand_literal_spells, operand_decorated_spells, operand_truth_spells, operand_parens_spells, operand_table_spells, operand_decorated_table_spells, operand_call_spells, expr_alone_spells, expr_run_spells, expr_pair_spells, expr_applied_spells, expr_converted_spells, expr_array_converted_spells, expr_named_spells, expr_most_spells}

-- an expression begins here
abbrev pub is_begun : Begin → Bool
is_begun be.Nothing = false
is_begun other = true

abbrev pub begun : List Token → Bool
begun tokens = is_begun (begin_of tokens)

literal_begins : (l : Literal) (k : List Token) → begun (literal_token l ∷ k) ≡ true
literal_begins (li.Decimal n) k = refl
literal_begins (li.Hexadecimal n) k = refl
literal_begins (li.Character n) k = refl
literal_begins (li.String n) k = refl

truth_begins : (b : Bool) (k : List Token) → begun (t.Word (truth_word b) ∷ k) ≡ true
truth_begins true k = refl
truth_begins false k = refl

monadic_begins : (x : MonadicOperator) (k : List Token) → begun (monadic_token x ∷ k) ≡ true
monadic_begins mo.Negate k = refl
monadic_begins mo.Minus k = refl
monadic_begins mo.BitNot k = refl
monadic_begins mo.BitNotWord k = refl
monadic_begins mo.Not k = refl
monadic_begins mo.Size k = refl

extreme_begins : (x : Extreme) (k : List Token) → begun (t.Word (extreme_word x) ∷ k) ≡ true
extreme_begins ex.Greatest k = refl
extreme_begins ex.Least k = refl

primitive_begins : (x : PrimitiveWord) (k : List Token) → begun (t.Word (primitive_word x) ∷ k) ≡ true
primitive_begins pr.Bool k = refl
primitive_begins pr.Byte k = refl
primitive_begins pr.Int k = refl
primitive_begins pr.Int16 k = refl
primitive_begins pr.Int32 k = refl
primitive_begins pr.Int64 k = refl

channel_begins : (x : ChannelWords) (k : List Token) → begun (channel_words x k) ≡ true
channel_begins ch.Chan k = refl
channel_begins ch.ChanOf k = refl

builtin_begins_by : (b : Builtin) (k : List Token) → BuiltinIs b → begun (builtin_then b k) ≡ true
builtin_begins_by b k (builtin_is_primitive p e) = ap (λ (x : Builtin). begun (builtin_then x k)) e ∙ ap begun (builtin_primitive_spells p k) ∙ primitive_begins p k
builtin_begins_by b k (builtin_is_timer e) = ap (λ (x : Builtin). begun (builtin_then x k)) e ∙ ap begun (builtin_timer_spells k)
builtin_begins_by b k (builtin_is_any_channel c e) = ap (λ (x : Builtin). begun (builtin_then x k)) e ∙ ap begun (builtin_any_channel_spells c k) ∙ channel_begins c _
builtin_begins_by b k (builtin_is_counted c ds base es other e) = ap (λ (x : Builtin). begun (builtin_then x k)) e ∙ ap begun (builtin_counted_spells c ds base es other k) ∙ channel_begins c _
builtin_begins_by b k (builtin_is_channel c ds base e) = ap (λ (x : Builtin). begun (builtin_then x k)) e ∙ ap begun (builtin_channel_spells c ds base k) ∙ channel_begins c _

dimension_begins_by : (d : Dimension) (k : List Token) → DimensionIs d → begun (dimension_then d k) ≡ true
dimension_begins_by d k (dimension_is_open e) = ap (λ (x : Dimension). begun (dimension_then x k)) e ∙ ap begun (dimension_open_spells k)
dimension_begins_by d k (dimension_is_sized size e) = ap (λ (x : Dimension). begun (dimension_then x k)) e ∙ ap begun (dimension_sized_spells size k)

dimension_begins : (d : Dimension) (k : List Token) → begun (dimension_then d k) ≡ true
dimension_begins d k = dimension_begins_by d k (dimension_is d)

type_begins : (ds : List Dimension) (b : Builtin) (k : List Token) → begun (many dimension_then ds (builtin_then b k)) ≡ true
type_begins [] b k = builtin_begins_by b k (builtin_is b)
type_begins (d ∷ ds) b k = dimension_begins d _

element_begins_by : (el : Element) (k : List Token) → ElementIs el → begun (element_then el k) ≡ true
element_begins_by el k (element_is_named n es e) = ap (λ (x : Element). begun (element_then x k)) e ∙ ap begun (element_named_spells n es k)
element_begins_by el k (element_is_segment of b es e) = ap (λ (x : Element). begun (element_then x k)) e ∙ ap begun (element_segment_spells of b es k)

operand_begins_by : (o : Operand) (k : List Token) → OperandIs o → begun (operand_then o k) ≡ true
operand_begins_by o k (operand_is_element el e) = ap (λ (x : Operand). begun (operand_then x k)) e ∙ ap begun (operand_element_spells el k) ∙ element_begins_by el k (element_is el)
operand_begins_by o k (operand_is_literal l e) = ap (λ (x : Operand). begun (operand_then x k)) e ∙ ap begun (operand_literal_spells l k) ∙ literal_begins l k
operand_begins_by o k (operand_is_decorated l ty e) = ap (λ (x : Operand). begun (operand_then x k)) e ∙ ap begun (operand_decorated_spells l ty k) ∙ literal_begins l _
operand_begins_by o k (operand_is_truth b e) = ap (λ (x : Operand). begun (operand_then x k)) e ∙ ap begun (operand_truth_spells b k) ∙ truth_begins b k
operand_begins_by o k (operand_is_parens inner e) = ap (λ (x : Operand). begun (operand_then x k)) e ∙ ap begun (operand_parens_spells inner k)
operand_begins_by o k (operand_is_table first es e) = ap (λ (x : Operand). begun (operand_then x k)) e ∙ ap begun (operand_table_spells first es k)
operand_begins_by o k (operand_is_decorated_table first es ty e) = ap (λ (x : Operand). begun (operand_then x k)) e ∙ ap begun (operand_decorated_table_spells first es ty k)
operand_begins_by o k (operand_is_call n es e) = ap (λ (x : Operand). begun (operand_then x k)) e ∙ ap begun (operand_call_spells n es k)

pub operand_begins : (o : Operand) (k : List Token) → begun (operand_then o k) ≡ true
operand_begins o k = operand_begins_by o k (operand_is o)

expr_begins_by : (x : Expr) (k : List Token) → ExprIs x → begun (expr_then x k) ≡ true
expr_begins_by x k (expr_is_alone o e) = ap (λ (y : Expr). begun (expr_then y k)) e ∙ ap begun (expr_alone_spells o k) ∙ operand_begins o k
expr_begins_by x k (expr_is_run op a b os e) = ap (λ (y : Expr). begun (expr_then y k)) e ∙ ap begun (expr_run_spells op a b os k) ∙ operand_begins a _
expr_begins_by x k (expr_is_pair a op b e) = ap (λ (y : Expr). begun (expr_then y k)) e ∙ ap begun (expr_pair_spells a op b k) ∙ operand_begins a _
expr_begins_by x k (expr_is_applied op o e) = ap (λ (y : Expr). begun (expr_then y k)) e ∙ ap begun (expr_applied_spells op o k) ∙ monadic_begins op _
expr_begins_by x k (expr_is_converted ds b o e) = ap (λ (y : Expr). begun (expr_then y k)) e ∙ ap begun (expr_converted_spells ds b o k) ∙ type_begins ds b _
expr_begins_by x k (expr_is_array_converted d ds n o e) = ap (λ (y : Expr). begun (expr_then y k)) e ∙ ap begun (expr_array_converted_spells d ds n o k) ∙ dimension_begins d _
expr_begins_by x k (expr_is_named n o e) = ap (λ (y : Expr). begun (expr_then y k)) e ∙ ap begun (expr_named_spells n o k)
expr_begins_by x k (expr_is_most extreme ty e) = ap (λ (y : Expr). begun (expr_then y k)) e ∙ ap begun (expr_most_spells extreme ty k) ∙ extreme_begins extreme (type_form_then ty k)

pub expr_begins : (x : Expr) (k : List Token) → begun (expr_then x k) ≡ true
expr_begins x k = expr_begins_by x k (expr_is x)

-- so none begins where nothing begins
pub no_expr : (x : Expr) (k tokens : List Token) → begun tokens ≡ false → tokens ≡ expr_then x k → ⊥
no_expr x k tokens none is = let h : true ≡ false = sym (expr_begins x k) ∙ sym (ap begun is) ∙ none in (cc)
