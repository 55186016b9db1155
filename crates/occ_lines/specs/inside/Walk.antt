-- How the reader comes over the lines of a text, one after the other.
use Rattle.std.specs.Prelude.{◌≡◌, ◌+◌, ◌++◌, ℕ, cond, List, [], ◌∷◌, drop, map, Option, Some, None}
use Rattle.std.specs.Bool.{MatchBool}
use Rattle.bstr.specs.Text.{lines_of, without_terminator}
use Rattle.occ_base.specs.declared.code.Code.{Code}
use Rattle.occ_base.specs.declared.code.Code.TheVariants as code
use Rattle.occ_lines.specs.declared.directive.Directive.{Directive}
use Rattle.occ_lines.specs.declared.ending.Ending.{Ending}
use Rattle.occ_lines.specs.declared.ending.Ending.TheVariants as ending
use Rattle.occ_lines.specs.declared.text.Body.TheVariants as body
use Rattle.occ_lines.specs.declared.text.Logical.{Logical}
use Rattle.occ_lines.specs.declared.statement.Statement.{Statement}
use Rattle.occ_lines.specs.declared.statement.Wants.{Wants}
use Rattle.occ_lines.specs.declared.statement.Wants.TheVariants as wants
use Rattle.occ_lines.specs.declared.token.Token.{Token}
use Rattle.occ_lines.specs.Directive.{directive_body, directive_of}
use Rattle.occ_lines.specs.Lexeme.{LexesFrom, after_blanks}
use Rattle.occ_lines.specs.Lines.{LexesString, column, continues, directive_lines, goes_on, is_skipped, logical_of, resumes}

-- how far a statement is read: it goes on, or is at its end
pub data Reached : Type 0 where
  Open : Statement → Reached
  Done : Logical → Reached

-- a statement of that line and column whose tokens so far are these, and one of whose lines ends so
abbrev pub settled : ℕ → ℕ → List Token → Ending → Reached
settled line column tokens ending.Whole = cond (goes_on tokens) (Reached.Open (record { line = line; column = column; tokens = tokens; wants = wants.More })) (Reached.Done (logical_of line column (body.Tokens tokens)))
settled line column tokens (ending.Broken bytes) = Reached.Open (record { line = line; column = column; tokens = tokens; wants = wants.Rest bytes })
settled line column tokens (ending.Bad fault) = Reached.Done (logical_of line column (body.Fault fault))

-- the fault of a statement that does not get what it wants
abbrev pub lack : Wants → Code
lack wants.More = code.L3
lack (wants.Rest bytes) = code.L4

-- a statement without what it wants
abbrev pub broken_off : Statement → Logical
broken_off statement = logical_of statement.line statement.column (body.Fault (lack statement.wants))

-- a statement that is read so far ends this logical line, or stays open
abbrev pub Settles : Reached → List Logical → Option Statement → Type 0
Settles (Reached.Open statement) ended next = (ended ≡ []) × (next ≡ Some statement)
Settles (Reached.Done x) ended next = (ended ≡ x ∷ []) × (next ≡ None)

-- the line, which this text is without the blanks in front, as it goes on with a statement of that line and column whose tokens so far are these
abbrev pub Continues : ℕ → ℕ → List Token → List ℕ → List Logical → Option Statement → Type 0
Continues first column tokens text ended next = (more : List Token) × (x : Ending) × LexesFrom text more x × Settles (settled first column (tokens ++ more) x) ended next

-- the line as it goes on with the statement's string, after a '*'
abbrev pub Resumes : ℕ → ℕ → List Token → List ℕ → List ℕ → List Logical → Option Statement → Type 0
Resumes first column tokens bytes line ended next = (more : List Token) × (x : Ending) × LexesString bytes (drop 1 (after_blanks line)) more x × Settles (settled first column (tokens ++ more) x) ended next

-- the line as a directive, or as a statement that begins
abbrev pub Speaks : Option Directive → ℕ → List ℕ → List Logical → Option Statement → Type 0
Speaks None number line ended next = Continues number (column line) [] (after_blanks line) ended next
Speaks (Some directive) number line ended next = (ended ≡ directive_lines number (column line) (directive_body directive (after_blanks line))) × (next ≡ None)

-- the line of that number where no statement is open: these logical lines end on it, and this statement is open after it
abbrev pub IsFresh : ℕ → List ℕ → List Logical → Option Statement → Type 0
IsFresh number line ended next = MatchBool (is_skipped line) ((ended ≡ []) × (next ≡ None)) (Speaks (directive_of (after_blanks line)) number line ended next)

-- a statement ends with that logical line, without what it wants, and the line begins another
abbrev pub BreaksOff : Logical → ℕ → List ℕ → List Logical → Option Statement → Type 0
BreaksOff x number line ended next = (more : List Logical) × (ended ≡ x ∷ more) × IsFresh number line more next

-- the line where a statement is open that wants that
abbrev pub IsWanted : Wants → Statement → ℕ → List ℕ → List Logical → Option Statement → Type 0
IsWanted wants.More statement number line ended next = MatchBool (is_skipped line) ((ended ≡ []) × (next ≡ Some statement))
    (MatchBool (continues statement.column line) (Continues statement.line statement.column statement.tokens (after_blanks line) ended next) (BreaksOff (broken_off statement) number line ended next))
IsWanted (wants.Rest bytes) statement number line ended next = MatchBool (resumes statement.column line) (Resumes statement.line statement.column statement.tokens bytes line ended next) (BreaksOff (broken_off statement) number line ended next)

-- the line of that number, where that statement is open, if there is one
abbrev pub IsLine : Option Statement → ℕ → List ℕ → List Logical → Option Statement → Type 0
IsLine None number line ended next = IsFresh number line ended next
IsLine (Some statement) number line ended next = IsWanted statement.wants statement number line ended next

-- the logical line of a statement that is open at the end of the text
abbrev pub unfinished : Option Statement → List Logical
unfinished None = []
unfinished (Some statement) = broken_off statement ∷ []

-- lines from that number on, where that statement is open, and the logical lines that end on them
abbrev pub AreLogical : Option Statement → ℕ → List (List ℕ) → List Logical → Type 0
AreLogical open_one number [] xs = xs ≡ unfinished open_one
AreLogical open_one number (line ∷ lines) xs = (ended : List Logical) × (next : Option Statement) × (more : List Logical)
    × IsLine open_one number line ended next × (xs ≡ ended ++ more) × AreLogical next (number + 1) lines more

-- the logical lines of a text, as the reader comes to them
abbrev pub AreRead : List ℕ → List Logical → Type 0
AreRead text xs = AreLogical None 1 (map without_terminator (lines_of text)) xs
