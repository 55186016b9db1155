-- Where an expression or a type must end: at a token that stands in none.
use Rattle.std.specs.Prelude.{◌||◌, Bool, true, false, List, [], ◌∷◌, Option, Some, None}
use Rattle.occ_lines.specs.declared.token.Token.{Token}
use Rattle.occ_lines.specs.declared.token.Token.TheVariants as t
use Rattle.occ_lines.specs.declared.token.Symbol.{Symbol}
use Rattle.occ_lines.specs.declared.token.Symbol.TheVariants as s
use Rattle.occ_lines.specs.declared.token.Word.{Word}
use Rattle.occ_lines.specs.declared.token.Word.TheVariants as w

-- operators, brackets, the comma and `::`
abbrev pub is_inner_symbol : Symbol → Bool
is_inner_symbol s.Counted = true
is_inner_symbol s.AtMost = true
is_inner_symbol s.AtLeast = true
is_inner_symbol s.Unequal = true
is_inner_symbol s.BitXor = true
is_inner_symbol s.ShiftLeft = true
is_inner_symbol s.ShiftRight = true
is_inner_symbol s.BitAnd = true
is_inner_symbol s.BitOr = true
is_inner_symbol s.Plus = true
is_inner_symbol s.Minus = true
is_inner_symbol s.Times = true
is_inner_symbol s.Divide = true
is_inner_symbol s.Remainder = true
is_inner_symbol s.BitNot = true
is_inner_symbol s.Equal = true
is_inner_symbol s.Less = true
is_inner_symbol s.Greater = true
is_inner_symbol s.Open = true
is_inner_symbol s.Close = true
is_inner_symbol s.OpenIndex = true
is_inner_symbol s.CloseIndex = true
is_inner_symbol s.Comma = true
is_inner_symbol other = false

abbrev pub is_operator_word : Word → Bool
is_operator_word w.After = true
is_operator_word w.And = true
is_operator_word w.BitAnd = true
is_operator_word w.BitNot = true
is_operator_word w.BitOr = true
is_operator_word w.Minus = true
is_operator_word w.Not = true
is_operator_word w.Or = true
is_operator_word w.Plus = true
is_operator_word w.Rem = true
is_operator_word w.Size = true
is_operator_word w.Times = true
is_operator_word other = false

abbrev pub is_type_word : Word → Bool
is_type_word w.Any = true
is_type_word w.Bool = true
is_type_word w.Byte = true
is_type_word w.Chan = true
is_type_word w.Int = true
is_type_word w.Int16 = true
is_type_word w.Int32 = true
is_type_word w.Int64 = true
is_type_word w.Of = true
is_type_word w.Timer = true
is_type_word other = false

-- truths, greatest and least values, and the bounds of a segment
abbrev pub is_value_word : Word → Bool
is_value_word w.False = true
is_value_word w.For = true
is_value_word w.From = true
is_value_word w.MostNeg = true
is_value_word w.MostPos = true
is_value_word w.True = true
is_value_word other = false

abbrev pub is_inner_word : Word → Bool
is_inner_word word = is_operator_word word || is_type_word word || is_value_word word

-- the token may stand in an expression or a type
abbrev pub is_inner : Token → Bool
is_inner (t.Name name) = true
is_inner (t.Decimal n) = true
is_inner (t.Hexadecimal n) = true
is_inner (t.Character n) = true
is_inner (t.String bytes) = true
is_inner (t.Word word) = is_inner_word word
is_inner (t.Symbol symbol) = is_inner_symbol symbol

abbrev pub mark_after : Bool → Token → Option Token → Option Token
mark_after true token rest = rest
mark_after false token rest = Some token

-- the first token that stands in no expression and no type
abbrev pub first_mark : List Token → Option Token
first_mark [] = None
first_mark (token ∷ tokens) = mark_after (is_inner token) token (first_mark tokens)
