-- What the scanner finds on its way to a token.
use Rattle.std.specs.Prelude.{◌≡◌, ◌≤◌, ◌<◌, ◌==◌, ◌||◌, ℕ, Bool, true, List, ◌++◌, length, take}
use Rattle.occ_lines.specs.Lexeme.{LexesFrom}
use Rattle.occ_lines.specs.Quoted.{IsQuoted}
use Rattle.occ_lines.specs.declared.ending.Ending.{Ending}
use Rattle.occ_lines.specs.declared.text.Logical.{Logical}
use Rattle.occ_lines.specs.declared.token.Token.{Token}
use Rattle.occ_lines.specs.Lines.{LexesString}

-- the front of n bytes passes, if it has a byte, and no longer front does
pub record IsLongest (passes : List ℕ → Bool) (text : List ℕ) (n : ℕ) : Type 0 where
  pub within : n ≤ length text
  pub passed : 0 < n → passes (take n text) ≡ true
  pub longest : (other : List ℕ) (after : List ℕ) → text ≡ other ++ after → passes other ≡ true → length other ≤ n

-- a symbol of two bytes may end with this one: '=', ':', '<', '>', '/' or '\'
abbrev pub may_end_pair : ℕ → Bool
may_end_pair b = b == 61 || (b == 58 || (b == 60 || (b == 62 || (b == 47 || b == 92))))

-- the bytes that the text spells are put after those that are read already
abbrev pub Gathers : List ℕ → List ℕ → List ℕ → List ℕ → Type 0
Gathers so_far text bytes rest = (values : List ℕ) × (bytes ≡ so_far ++ values) × IsQuoted text values rest

-- the tokens that the text is, which no blank begins, are put after those that are read already, and it ends so
abbrev pub IsRead : List Token → List ℕ → List Token → Ending → Type 0
IsRead so_far text tokens ending = (more : List Token) × (tokens ≡ so_far ++ more) × LexesFrom text more ending

-- the same of a text that begins inside a string of which these bytes are read
abbrev pub IsStringRead : List Token → List ℕ → List ℕ → List Token → Ending → Type 0
IsStringRead so_far bytes text tokens ending = (more : List Token) × (tokens ≡ so_far ++ more) × LexesString bytes text more ending

-- logical lines of which this holds are put after those that are found already
abbrev pub Adds : List Logical → List Logical → (List Logical → Type 0) → Type 0
Adds found all holds = (ended : List Logical) × (all ≡ found ++ ended) × holds ended
