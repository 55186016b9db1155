-- The logical lines that a text spells.
use Rattle.std.specs.Prelude.{◌≡◌, ◌==◌, ◌+◌, ◌*◌, ◌/◌, ◌%◌, ◌&&◌, ◌||◌, ◌⊎◌, ℕ, Bool, true, false, cond, List, [], ◌∷◌, ◌++◌, drop, length, map, nat_le, nat_lt, Option, Some, None}
use Rattle.std.specs.Bool.{MatchBool}
use Rattle.std.specs.Option.{is_none}
use Rattle.bstr.specs.Text.{lines_of, without_terminator}
use Rattle.occ_base.specs.declared.code.Code.TheVariants as code
use Rattle.occ_lines.specs.declared.directive.Directive.{Directive}
use Rattle.occ_lines.specs.declared.ending.Ending.{Ending}
use Rattle.occ_lines.specs.declared.ending.Ending.TheVariants as ending
use Rattle.occ_lines.specs.declared.text.Body.{Body}
use Rattle.occ_lines.specs.declared.text.Body.TheVariants as body
use Rattle.occ_lines.specs.declared.text.Logical.{Logical}
use Rattle.occ_lines.specs.declared.text.TextFault.{TextFault}
use Rattle.occ_lines.specs.declared.text.TextFault.TheVariants as fault
use Rattle.occ_lines.specs.declared.token.Symbol.{Symbol}
use Rattle.occ_lines.specs.declared.token.Symbol.TheVariants as s
use Rattle.occ_lines.specs.declared.token.Token.{Token}
use Rattle.occ_lines.specs.declared.token.Token.TheVariants as t
use Rattle.occ_lines.specs.declared.token.Word.{Word}
use Rattle.occ_lines.specs.declared.token.Word.TheVariants as w
use Rattle.occ_lines.specs.Directive.{directive_body, directive_of}
use Rattle.occ_lines.specs.Lexeme.{Lexes, after_blanks, is_end, string_ending}
use Rattle.occ_lines.specs.Quoted.{IsQuoted}

-- the column after the blanks in front, where these begin at a column: a space (32) is one column, and a tab (9) goes to the next multiple of 8
abbrev pub column_from : ℕ → List ℕ → ℕ
column_from column [] = column
column_from column (b ∷ more) = cond (b == 32) (column_from (column + 1) more) (cond (b == 9) (column_from ((column / 8 + 1) * 8) more) column)

-- the column of the first byte that is no blank
abbrev pub column : List ℕ → ℕ
column line = column_from 0 line

-- the line is blanks, or blanks and a comment
abbrev pub is_skipped : List ℕ → Bool
is_skipped line = is_end (after_blanks line)

-- a statement goes on after these words
abbrev pub goes_on_word : Word → Bool
goes_on_word w.Rem = true
goes_on_word w.Plus = true
goes_on_word w.Minus = true
goes_on_word w.Times = true
goes_on_word w.BitAnd = true
goes_on_word w.BitOr = true
goes_on_word w.And = true
goes_on_word w.Or = true
goes_on_word w.After = true
goes_on_word w.BitNot = true
goes_on_word w.Not = true
goes_on_word w.Size = true
goes_on_word w.Is = true
goes_on_word w.From = true
goes_on_word w.For = true
goes_on_word w.Retypes = true
goes_on_word w.Reshapes = true
goes_on_word other = false

-- and after every symbol but these
abbrev pub goes_on_symbol : Symbol → Bool
goes_on_symbol s.Counted = false
goes_on_symbol s.Open = false
goes_on_symbol s.Close = false
goes_on_symbol s.OpenIndex = false
goes_on_symbol s.CloseIndex = false
goes_on_symbol s.Colon = false
goes_on_symbol s.Input = false
goes_on_symbol s.Output = false
goes_on_symbol other = true

abbrev pub goes_on_token : Token → Bool
goes_on_token (t.Word word) = goes_on_word word
goes_on_token (t.Symbol symbol) = goes_on_symbol symbol
goes_on_token other = false

-- whether a statement goes on is asked of its last token
abbrev pub goes_on : List Token → Bool
goes_on [] = false
goes_on (token ∷ []) = goes_on_token token
goes_on (token ∷ next ∷ more) = goes_on (next ∷ more)

-- the logical line that begins on that line and in that column: in an odd column it has the fault L2 in place of all else
abbrev pub logical_of : ℕ → ℕ → Body → Logical
logical_of line column x = record { line = line; depth = column / 2; body = cond (column % 2 == 1) (body.Fault code.L2) x }

-- a statement that began in that column can go on with the line, which is not skipped: it begins there at least, and is no directive
abbrev pub continues : ℕ → List ℕ → Bool
continues margin line = nat_le margin (column line) && is_none (directive_of (after_blanks line))

-- the first byte is a '*' (42)
abbrev pub starts_star : List ℕ → Bool
starts_star [] = false
starts_star (b ∷ more) = b == 42

-- a string of a statement that began in that column can go on with the line
abbrev pub resumes : ℕ → List ℕ → Bool
resumes margin line = nat_le margin (column line) && starts_star (after_blanks line)

-- a text that begins inside a string of which these bytes are read: the string is closed and the line's tokens follow, or the line ends with it
pub record IsClosed (bytes text : List ℕ) (tokens : List Token) (x : Ending) : Type 0 where
  pub values : List ℕ
  pub rest : List ℕ
  pub more : List Token
  pub spelled : IsQuoted text values (34 ∷ rest)
  pub follow : Lexes rest more x
  pub is : tokens ≡ t.String (bytes ++ values) ∷ more

pub record IsUnclosed (bytes text : List ℕ) (tokens : List Token) (x : Ending) : Type 0 where
  pub values : List ℕ
  pub rest : List ℕ
  pub spelled : IsQuoted text values rest
  pub no_close : (after : List ℕ) → rest ≡ 34 ∷ after → ⊥
  pub none : tokens ≡ []
  pub is : x ≡ string_ending (bytes ++ values) rest

abbrev pub LexesString : List ℕ → List ℕ → List Token → Ending → Type 0
LexesString bytes text tokens x = IsClosed bytes text tokens x ⊎ IsUnclosed bytes text tokens x

-- the logical line of a directive; in an odd column it is not dropped
abbrev pub directive_lines : ℕ → ℕ → Option Body → List Logical
directive_lines number column None = cond (column % 2 == 1) (logical_of number column (body.Fault code.L2) ∷ []) []
directive_lines number column (Some x) = logical_of number column x ∷ []

-- a statement that wants a further token takes the line: the line is skipped, or goes on with the statement
abbrev pub takes : ℕ → List ℕ → Bool
takes margin line = is_skipped line || continues margin line

-- a statement that began in that column, whose tokens so far are these and whose last line so far ended so, takes the line; the line is these further tokens, and ends so
abbrev pub GoesOn : ℕ → List Token → Ending → List ℕ → List Token → Ending → Type 0
GoesOn margin tokens ending.Whole line more x = (goes_on tokens ≡ true) × (takes margin line ≡ true) × Lexes line more x
GoesOn margin tokens (ending.Broken bytes) line more x = (resumes margin line ≡ true) × LexesString bytes (drop 1 (after_blanks line)) more x
GoesOn margin tokens (ending.Bad fault) line more x = ⊥

-- there is a line, and it passes
abbrev pub next_passes : (List ℕ → Bool) → List (List ℕ) → Bool
next_passes passes [] = false
next_passes passes (line ∷ lines) = passes line

-- what such a statement holds where it takes none of the lines after it
abbrev pub IsHeld : ℕ → List Token → Ending → List (List ℕ) → Body → Type 0
IsHeld margin tokens ending.Whole following held = MatchBool (goes_on tokens) ((next_passes (takes margin) following ≡ false) × (held ≡ body.Fault code.L3)) (held ≡ body.Tokens tokens)
IsHeld margin tokens (ending.Broken bytes) following held = (next_passes (resumes margin) following ≡ false) × (held ≡ body.Fault code.L4)
IsHeld margin tokens (ending.Bad fault) following held = held ≡ body.Fault fault

-- what such a statement holds where it takes these lines, one after the other, and none of those after them
abbrev pub Holds : ℕ → List Token → Ending → List (List ℕ) → List (List ℕ) → Body → Type 0
Holds margin tokens x [] following held = IsHeld margin tokens x following held
Holds margin tokens x (line ∷ lines) following held = (more : List Token) × (y : Ending) × GoesOn margin tokens x line more y × Holds margin (tokens ++ more) y lines following held

-- a statement begins on the line of that number, takes these further lines and none of those after them, and is this logical line
pub record IsStatement (number : ℕ) (line : List ℕ) (further following : List (List ℕ)) (xs : List Logical) : Type 0 where
  pub tokens : List Token
  pub end : Ending
  pub held : Body
  pub first : Lexes line tokens end
  pub holds : Holds (column line) tokens end further following held
  pub is : xs ≡ logical_of number (column line) held ∷ []

-- a directive stands on the line of that number alone, and is these logical lines, one or none
pub record IsDirective (directive : Directive) (number : ℕ) (line : List ℕ) (further : List (List ℕ)) (xs : List Logical) : Type 0 where
  pub alone : further ≡ []
  pub is : xs ≡ directive_lines number (column line) (directive_body directive (after_blanks line))

-- what the line of that number begins, which is not skipped
abbrev pub IsBegun : Option Directive → ℕ → List ℕ → List (List ℕ) → List (List ℕ) → List Logical → Type 0
IsBegun None number line further following xs = IsStatement number line further following xs
IsBegun (Some directive) number line further following xs = IsDirective directive number line further xs

-- a piece of a text, from the line of that number on, with the lines after it, and its logical lines: a skipped line, a directive, or a statement with the lines that it takes
abbrev pub IsPiece : ℕ → List (List ℕ) → List (List ℕ) → List Logical → Type 0
IsPiece number [] following xs = ⊥
IsPiece number (line ∷ further) following xs = MatchBool (is_skipped line) ((further ≡ []) × (xs ≡ [])) (IsBegun (directive_of (after_blanks line)) number line further following xs)

-- the lines of pieces, one after the other
abbrev pub joined : List (List (List ℕ)) → List (List ℕ)
joined [] = []
joined (piece ∷ pieces) = piece ++ joined pieces

-- pieces, from the line of that number on, and their logical lines
abbrev pub ArePieces : ℕ → List (List (List ℕ)) → List Logical → Type 0
ArePieces number [] xs = xs ≡ []
ArePieces number (piece ∷ pieces) xs = (ended : List Logical) × (more : List Logical) × IsPiece number piece (joined pieces) ended × ArePieces (number + length piece) pieces more × (xs ≡ ended ++ more)

-- the logical lines of a text: its lines, which are numbered from 1, are cut into pieces that have these logical lines
unfoldable pub IsLines : List ℕ → List Logical → Type 0
IsLines text xs = (pieces : List (List (List ℕ))) × (map without_terminator (lines_of text) ≡ joined pieces) × ArePieces 1 pieces xs

-- how many lines a text has: its line feeds, and one if bytes stand after the last
abbrev pub line_count : List ℕ → ℕ
line_count text = length (lines_of text)

-- the limits of a text: the first that it is over
abbrev pub limit_fault : List ℕ → Option TextFault
limit_fault text = cond (nat_lt 262144 (length text)) (Some fault.TooLarge) (cond (nat_lt 16384 (line_count text)) (Some fault.TooManyLines) None)
