-- Which part a token is: the tables of the spellings, read the other way.
use Rattle.std.specs.Prelude.{Bool, true, false, Option, Some, None}
use Rattle.occ_lines.specs.declared.token.Token.{Token}
use Rattle.occ_lines.specs.declared.token.Token.TheVariants as t
use Rattle.occ_lines.specs.declared.token.Symbol.{Symbol}
use Rattle.occ_lines.specs.declared.token.Symbol.TheVariants as s
use Rattle.occ_lines.specs.declared.token.Word.{Word}
use Rattle.occ_lines.specs.declared.token.Word.TheVariants as w
use Rattle.occ_forms_expressions.specs.declared.operator.Dyadic.{Dyadic}
use Rattle.occ_forms_expressions.specs.declared.operator.Dyadic.TheVariants as dy
use Rattle.occ_forms_expressions.specs.declared.tree.DataBase.{DataBase}
use Rattle.occ_forms_expressions.specs.declared.tree.DataBase.TheVariants as da
use Rattle.occ_forms_expressions.specs.declared.tree.Extreme.{Extreme}
use Rattle.occ_forms_expressions.specs.declared.tree.Extreme.TheVariants as ex
use Rattle.occ_forms_expressions.specs.declared.tree.Literal.{Literal}
use Rattle.occ_forms_expressions.specs.declared.tree.Literal.TheVariants as li
use Rattle.occ_forms_expressions.specs.declared.tree.MonadicOperator.{MonadicOperator}
use Rattle.occ_forms_expressions.specs.declared.tree.MonadicOperator.TheVariants as mo
use Rattle.occ_forms_expressions.specs.declared.tree.PairOperator.TheVariants as pa
use Rattle.occ_forms_expressions.specs.declared.tree.PrimitiveWord.{PrimitiveWord}
use Rattle.occ_forms_expressions.specs.declared.tree.PrimitiveWord.TheVariants as pr
use Rattle.occ_forms_expressions.specs.declared.tree.RunOperator.TheVariants as ru

abbrev pub primitive_of : Token → Option PrimitiveWord
primitive_of (t.Word w.Bool) = Some pr.Bool
primitive_of (t.Word w.Byte) = Some pr.Byte
primitive_of (t.Word w.Int) = Some pr.Int
primitive_of (t.Word w.Int16) = Some pr.Int16
primitive_of (t.Word w.Int32) = Some pr.Int32
primitive_of (t.Word w.Int64) = Some pr.Int64
primitive_of other = None

abbrev pub based : Option PrimitiveWord → Option DataBase
based None = None
based (Some primitive) = Some (da.Primitive primitive)

abbrev pub data_base_of : Token → Option DataBase
data_base_of (t.Name name) = Some (da.Named name)
data_base_of other = based (primitive_of other)

abbrev pub monadic_of : Token → Option MonadicOperator
monadic_of (t.Symbol s.Minus) = Some mo.Negate
monadic_of (t.Word w.Minus) = Some mo.Minus
monadic_of (t.Symbol s.BitNot) = Some mo.BitNot
monadic_of (t.Word w.BitNot) = Some mo.BitNotWord
monadic_of (t.Word w.Not) = Some mo.Not
monadic_of (t.Word w.Size) = Some mo.Size
monadic_of other = None

abbrev pub dyadic_symbol_of : Symbol → Option Dyadic
dyadic_symbol_of s.Plus = Some (dy.Run ru.Add)
dyadic_symbol_of s.Times = Some (dy.Run ru.Multiply)
dyadic_symbol_of s.BitAnd = Some (dy.Run ru.BitAnd)
dyadic_symbol_of s.BitOr = Some (dy.Run ru.BitOr)
dyadic_symbol_of s.BitXor = Some (dy.Run ru.BitXor)
dyadic_symbol_of s.Minus = Some (dy.Pair pa.Subtract)
dyadic_symbol_of s.Divide = Some (dy.Pair pa.Divide)
dyadic_symbol_of s.Remainder = Some (dy.Pair pa.Remainder)
dyadic_symbol_of s.ShiftLeft = Some (dy.Pair pa.ShiftLeft)
dyadic_symbol_of s.ShiftRight = Some (dy.Pair pa.ShiftRight)
dyadic_symbol_of s.Equal = Some (dy.Pair pa.Equal)
dyadic_symbol_of s.Unequal = Some (dy.Pair pa.Unequal)
dyadic_symbol_of s.Less = Some (dy.Pair pa.Less)
dyadic_symbol_of s.Greater = Some (dy.Pair pa.Greater)
dyadic_symbol_of s.AtMost = Some (dy.Pair pa.AtMost)
dyadic_symbol_of s.AtLeast = Some (dy.Pair pa.AtLeast)
dyadic_symbol_of other = None

abbrev pub dyadic_word_of : Word → Option Dyadic
dyadic_word_of w.Plus = Some (dy.Run ru.Plus)
dyadic_word_of w.Times = Some (dy.Run ru.Times)
dyadic_word_of w.And = Some (dy.Run ru.And)
dyadic_word_of w.Or = Some (dy.Run ru.Or)
dyadic_word_of w.BitAnd = Some (dy.Run ru.BitAndWord)
dyadic_word_of w.BitOr = Some (dy.Run ru.BitOrWord)
dyadic_word_of w.Minus = Some (dy.Pair pa.Minus)
dyadic_word_of w.Rem = Some (dy.Pair pa.RemainderWord)
dyadic_word_of w.After = Some (dy.Pair pa.After)
dyadic_word_of other = None

abbrev pub dyadic_of : Token → Option Dyadic
dyadic_of (t.Symbol symbol) = dyadic_symbol_of symbol
dyadic_of (t.Word word) = dyadic_word_of word
dyadic_of other = None

abbrev pub extreme_of : Token → Option Extreme
extreme_of (t.Word w.MostPos) = Some ex.Greatest
extreme_of (t.Word w.MostNeg) = Some ex.Least
extreme_of other = None

abbrev pub truth_of : Token → Option Bool
truth_of (t.Word w.True) = Some true
truth_of (t.Word w.False) = Some false
truth_of other = None

abbrev pub literal_of : Token → Option Literal
literal_of (t.Decimal n) = Some (li.Decimal n)
literal_of (t.Hexadecimal n) = Some (li.Hexadecimal n)
literal_of (t.Character n) = Some (li.Character n)
literal_of (t.String bytes) = Some (li.String bytes)
literal_of other = None
