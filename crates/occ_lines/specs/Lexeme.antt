-- The spellings of a line: which bytes may be a token, which token they are, and which stands first.
use Rattle.std.specs.Prelude.{◌≡◌, ◌≤◌, ◌==◌, ◌&&◌, ◌||◌, ◌⊎◌, ℕ, nat_le, Bool, true, false, cond, List, [], ◌∷◌, ◌++◌, length, drop, codes, Option, Some, None}
use Rattle.std.specs.Bool.{MatchBool}
use Rattle.std.specs.Char.{is_ascii_alphabetic, is_ascii_alphanumeric, is_ascii_digit, is_ascii_hexdigit}
use Rattle.std.specs.List.{list_all}
use Rattle.std.specs.Option.{is_some}
use Rattle.std.specs.Str.{bytes_eq}
use Rattle.std.specs.Str.Parse.{digits_value}
use Rattle.occ_base.specs.declared.code.Code.TheVariants as code
use Rattle.occ_lines.specs.Quoted.{IsQuoted, unit}
use Rattle.occ_lines.specs.declared.ending.Ending.{Ending}
use Rattle.occ_lines.specs.declared.ending.Ending.TheVariants as ending
use Rattle.occ_lines.specs.declared.token.Symbol.{Symbol}
use Rattle.occ_lines.specs.declared.token.Symbol.TheVariants as s
use Rattle.occ_lines.specs.declared.token.Token.{Token}
use Rattle.occ_lines.specs.declared.token.Token.TheVariants as t
use Rattle.occ_lines.specs.declared.token.Word.{Word}
use Rattle.occ_lines.specs.declared.token.Word.TheVariants as w

-- a space or a tab
abbrev pub is_blank : ℕ → Bool
is_blank b = b == 32 || b == 9

-- a letter, a digit or a dot
abbrev pub is_name_byte : ℕ → Bool
is_name_byte b = is_ascii_alphanumeric b || b == 46

-- the first byte is a letter
abbrev pub starts_name : List ℕ → Bool
starts_name [] = false
starts_name (b ∷ more) = is_ascii_alphabetic b

-- the first byte is a digit
abbrev pub starts_number : List ℕ → Bool
starts_number [] = false
starts_number (b ∷ more) = is_ascii_digit b

-- a letter, and then letters, digits and dots
abbrev pub is_name : List ℕ → Bool
is_name bytes = starts_name bytes && list_all is_name_byte bytes

-- one decimal digit or more
abbrev pub is_number : List ℕ → Bool
is_number bytes = starts_number bytes && list_all is_ascii_digit bytes

-- a '#' (35), and then a hexadecimal digit
abbrev pub starts_hexadecimal : List ℕ → Bool
starts_hexadecimal [] = false
starts_hexadecimal (a ∷ []) = false
starts_hexadecimal (a ∷ b ∷ more) = a == 35 && is_ascii_hexdigit b

-- a '#', and then one hexadecimal digit or more
abbrev pub is_hexadecimal : List ℕ → Bool
is_hexadecimal bytes = starts_hexadecimal bytes && list_all is_ascii_hexdigit (drop 1 bytes)

-- what stands in a table beside the spelling, if it is there
abbrev pub found_in : {X : Type 0} → List (List ℕ × X) → List ℕ → Option X
found_in [] bytes = None
found_in (row ∷ rows) bytes = cond (bytes_eq row.0 bytes) (Some row.1) (found_in rows bytes)

-- the spellings of symbols, each with the symbol that it is
abbrev pub symbols : List (List ℕ × Symbol)
symbols = (codes ":=", s.Assign) ∷ (codes "::", s.Counted) ∷ (codes "<=", s.AtMost) ∷ (codes ">=", s.AtLeast) ∷ (codes "<>", s.Unequal) ∷ (codes "><", s.BitXor)
    ∷ (codes "<<", s.ShiftLeft) ∷ (codes ">>", s.ShiftRight) ∷ (codes "/\\", s.BitAnd) ∷ (codes "\\/", s.BitOr) ∷ (codes "+", s.Plus) ∷ (codes "-", s.Minus)
    ∷ (codes "*", s.Times) ∷ (codes "/", s.Divide) ∷ (codes "\\", s.Remainder) ∷ (codes "~", s.BitNot) ∷ (codes "=", s.Equal) ∷ (codes "<", s.Less)
    ∷ (codes ">", s.Greater) ∷ (codes "(", s.Open) ∷ (codes ")", s.Close) ∷ (codes "[", s.OpenIndex) ∷ (codes "]", s.CloseIndex) ∷ (codes ",", s.Comma)
    ∷ (codes ";", s.Semicolon) ∷ (codes ":", s.Colon) ∷ (codes "?", s.Input) ∷ (codes "!", s.Output) ∷ (codes "&", s.Ampersand) ∷ []

-- the reserved words, each with the word that it is
abbrev pub reserved : List (List ℕ × Word)
reserved = (codes "AFTER", w.After) ∷ (codes "ALT", w.Alt) ∷ (codes "AND", w.And) ∷ (codes "ANY", w.Any) ∷ (codes "ASM", w.Asm) ∷ (codes "AT", w.At)
    ∷ (codes "BITAND", w.BitAnd) ∷ (codes "BITNOT", w.BitNot) ∷ (codes "BITOR", w.BitOr) ∷ (codes "BOOL", w.Bool) ∷ (codes "BYTE", w.Byte) ∷ (codes "BYTESIN", w.BytesIn)
    ∷ (codes "CASE", w.Case) ∷ (codes "CHAN", w.Chan) ∷ (codes "DATA", w.Data) ∷ (codes "ELSE", w.Else) ∷ (codes "FALSE", w.False) ∷ (codes "FOR", w.For)
    ∷ (codes "FROM", w.From) ∷ (codes "FUNCTION", w.Function) ∷ (codes "GUY", w.Guy) ∷ (codes "IF", w.If) ∷ (codes "INLINE", w.Inline) ∷ (codes "INT", w.Int)
    ∷ (codes "INT16", w.Int16) ∷ (codes "INT32", w.Int32) ∷ (codes "INT64", w.Int64) ∷ (codes "IS", w.Is) ∷ (codes "MINUS", w.Minus) ∷ (codes "MOSTNEG", w.MostNeg)
    ∷ (codes "MOSTPOS", w.MostPos) ∷ (codes "NOT", w.Not) ∷ (codes "OF", w.Of) ∷ (codes "OFFSETOF", w.OffsetOf) ∷ (codes "OR", w.Or) ∷ (codes "PACKED", w.Packed)
    ∷ (codes "PAR", w.Par) ∷ (codes "PLACE", w.Place) ∷ (codes "PLACED", w.Placed) ∷ (codes "PLUS", w.Plus) ∷ (codes "PORT", w.Port) ∷ (codes "PRI", w.Pri)
    ∷ (codes "PROC", w.Proc) ∷ (codes "PROCESSOR", w.Processor) ∷ (codes "PROTOCOL", w.Protocol) ∷ (codes "REAL32", w.Real32) ∷ (codes "REAL64", w.Real64) ∷ (codes "RECORD", w.Record)
    ∷ (codes "REM", w.Rem) ∷ (codes "RESHAPES", w.Reshapes) ∷ (codes "RESULT", w.Result) ∷ (codes "RETYPES", w.Retypes) ∷ (codes "ROUND", w.Round) ∷ (codes "SEQ", w.Seq)
    ∷ (codes "SIZE", w.Size) ∷ (codes "SKIP", w.Skip) ∷ (codes "STOP", w.Stop) ∷ (codes "TIMER", w.Timer) ∷ (codes "TIMES", w.Times) ∷ (codes "TRUE", w.True)
    ∷ (codes "TRUNC", w.Trunc) ∷ (codes "TYPE", w.Type) ∷ (codes "VAL", w.Val) ∷ (codes "VALOF", w.ValOf) ∷ (codes "VECSPACE", w.VecSpace) ∷ (codes "WHILE", w.While)
    ∷ (codes "WORKSPACE", w.Workspace) ∷ []

-- the symbol that the bytes are, and the reserved word
unfoldable pub symbol_row : List ℕ → Option Symbol
symbol_row = found_in symbols

unfoldable pub reserved_row : List ℕ → Option Word
reserved_row = found_in reserved

unfoldable pub is_symbol : List ℕ → Bool
is_symbol bytes = is_some (symbol_row bytes)

-- the bytes are a name, a number or a symbol
unfoldable pub is_lexeme : List ℕ → Bool
is_lexeme bytes = is_name bytes || (is_number bytes || (is_hexadecimal bytes || is_symbol bytes))

-- a name that is reserved for a word is that word
abbrev pub name_by_row : List ℕ → Option Word → Token
name_by_row bytes None = t.Name bytes
name_by_row bytes (Some word) = t.Word word

-- the token that a name is, that digits are and that a symbol is
unfoldable pub name_token : List ℕ → Token
name_token bytes = name_by_row bytes (reserved_row bytes)

-- the greatest number that a token holds
abbrev pub greatest : ℕ
greatest = 18_446_744_073_709_551_615

unfoldable pub number_token : List ℕ → Option Token
number_token bytes = cond (nat_le (digits_value 10 bytes) greatest) (Some (t.Decimal (digits_value 10 bytes))) None

unfoldable pub hexadecimal_token : List ℕ → Option Token
hexadecimal_token bytes = cond (nat_le (digits_value 16 (drop 1 bytes)) greatest) (Some (t.Hexadecimal (digits_value 16 (drop 1 bytes)))) None

abbrev pub symbol_by_row : Option Symbol → Option Token
symbol_by_row None = None
symbol_by_row (Some symbol) = Some (t.Symbol symbol)

unfoldable pub symbol_token : List ℕ → Option Token
symbol_token bytes = symbol_by_row (symbol_row bytes)

-- the token that the bytes are, if they are one
unfoldable pub token_of : List ℕ → Option Token
token_of bytes = cond (is_name bytes) (Some (name_token bytes)) (cond (is_number bytes) (number_token bytes) (cond (is_hexadecimal bytes) (hexadecimal_token bytes) (symbol_token bytes)))

-- these bytes are the token
abbrev pub Spells : List ℕ → Token → Type 0
Spells bytes token = token_of bytes ≡ Some token

-- the token is the longest spelling that begins the text, and rest is what follows it
pub record IsFirst (text : List ℕ) (token : Token) (rest : List ℕ) : Type 0 where
  pub bytes : List ℕ
  pub parts : text ≡ bytes ++ rest
  pub spelled : Spells bytes token
  pub longest : (other : List ℕ) (after : List ℕ) → text ≡ other ++ after → is_lexeme other ≡ true → length other ≤ length bytes

-- a character: one byte is spelled between two "'" (39)
pub record IsCharacter (text : List ℕ) (token : Token) (rest : List ℕ) : Type 0 where
  pub value : ℕ
  pub body : List ℕ
  pub opened : text ≡ 39 ∷ body
  pub spelled : unit 39 body ≡ Some (value, 39 ∷ rest)
  pub is : token ≡ t.Character value

-- a string: bytes are spelled between two '"' (34)
pub record IsString (text : List ℕ) (token : Token) (rest : List ℕ) : Type 0 where
  pub values : List ℕ
  pub body : List ℕ
  pub opened : text ≡ 34 ∷ body
  pub spelled : IsQuoted body values (34 ∷ rest)
  pub is : token ≡ t.String values

-- the token begins the text, and rest is what follows it
abbrev pub IsToken : List ℕ → Token → List ℕ → Type 0
IsToken text token rest = IsFirst text token rest ⊎ (IsCharacter text token rest ⊎ IsString text token rest)

-- what stands after the blanks in front
abbrev pub after_blanks : List ℕ → List ℕ
after_blanks [] = []
after_blanks (b ∷ more) = cond (is_blank b) (after_blanks more) (b ∷ more)

-- nothing, or a comment, which begins with two '-'
abbrev pub is_end : List ℕ → Bool
is_end [] = true
is_end (a ∷ []) = false
is_end (a ∷ b ∷ more) = a == 45 && b == 45

-- how a line ends with a string that is not closed on it, whose bytes up to there are these, where what is after them spells none:
-- nothing is after them, and the string is not closed; a '*' alone, and it is broken; else a bad byte or escape
abbrev pub string_ending : List ℕ → List ℕ → Ending
string_ending bytes [] = ending.Bad code.L4
string_ending bytes (b ∷ []) = cond (b == 42) (ending.Broken bytes) (ending.Bad code.L1)
string_ending bytes (b ∷ c ∷ more) = ending.Bad code.L1

-- the text opens a string that it does not close, and ends so
pub record IsOpen (text : List ℕ) (x : Ending) : Type 0 where
  pub values : List ℕ
  pub body : List ℕ
  pub rest : List ℕ
  pub opened : text ≡ 34 ∷ body
  pub spelled : IsQuoted body values rest
  pub no_close : (after : List ℕ) → rest ≡ 34 ∷ after → ⊥
  pub is : x ≡ string_ending values rest

-- no token begins the text, nor is a string opened
pub record IsBad (text : List ℕ) (x : Ending) : Type 0 where
  pub none : (token : Token) (rest : List ℕ) → IsToken text token rest → ⊥
  pub no_string : (body : List ℕ) → text ≡ 34 ∷ body → ⊥
  pub is : x ≡ ending.Bad code.L1

-- where no token is read: a string is not closed, or the bytes are bad
abbrev pub Stops : List ℕ → Ending → Type 0
Stops text x = IsOpen text x ⊎ IsBad text x

-- where the text is read to its end, or no token begins it
abbrev pub Ends : List ℕ → Ending → Type 0
Ends text x = MatchBool (is_end text) (x ≡ ending.Whole) (Stops text x)

-- the text is these tokens, with any blanks between them, and ends so; no blank is in front
abbrev pub LexesFrom : List ℕ → List Token → Ending → Type 0
LexesFrom text [] x = Ends text x
LexesFrom text (token ∷ tokens) x = (is_end text ≡ false) × (rest : List ℕ) × IsToken text token rest × LexesFrom (after_blanks rest) tokens x

-- the same with any blanks in front
abbrev pub Lexes : List ℕ → List Token → Ending → Type 0
Lexes text tokens x = LexesFrom (after_blanks text) tokens x
