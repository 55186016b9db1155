-- Directives: a line that speaks to the checker.
use Rattle.std.specs.Prelude.{◌==◌, ◌+◌, ◌&&◌, not, ℕ, nat_eq, nat_le, Bool, false, cond, List, [], ◌∷◌, ◌++◌, codes, Option, Some, None, drop, take}
use Rattle.std.specs.List.{ends_with, prefix_len}
use Rattle.occ_base.specs.declared.code.Code.TheVariants as code
use Rattle.occ_base.specs.declared.file_name.NameFault.{NameFault}
use Rattle.occ_base.specs.FileName.{name_fault}
use Rattle.occ_lines.specs.Lexeme.{after_blanks, found_in, is_end, is_name_byte}
use Rattle.occ_lines.specs.declared.directive.Directive.{Directive}
use Rattle.occ_lines.specs.declared.directive.Directive.TheVariants as d
use Rattle.occ_lines.specs.declared.text.Body.{Body}
use Rattle.occ_lines.specs.declared.text.Body.TheVariants as body

-- the words of directives
abbrev pub directives : List (List ℕ × Directive)
directives = (codes "INCLUDE", d.Include) ∷ (codes "USE", d.Use) ∷ (codes "COMMENT", d.Dropped) ∷ (codes "OPTION", d.Dropped) ∷ (codes "PRAGMA", d.Dropped) ∷ []

-- the longest front of bytes that may stand in a name, and what is after it
abbrev pub name_front : List ℕ → List ℕ
name_front text = take (prefix_len is_name_byte text) text

abbrev pub after_name : List ℕ → List ℕ
after_name text = drop (prefix_len is_name_byte text) text

-- the directive that begins the text: a '#' (35), and its word after that, the longest name there
unfoldable pub directive_of : List ℕ → Option Directive
directive_of [] = None
directive_of (b ∷ more) = cond (b == 35) (found_in directives (name_front more)) None

-- a byte of a quoted name: printed, and no '"' (34)
abbrev pub is_quoted_byte : ℕ → Bool
is_quoted_byte b = (nat_le 32 b && nat_le b 126) && not (b == 34)

-- the closing quote, and then blanks and perhaps a comment
abbrev pub closes_line : List ℕ → Bool
closes_line [] = false
closes_line (b ∷ more) = b == 34 && is_end (after_blanks more)

-- the name that stands between quotes as it is, if nothing else stands on the line
abbrev pub quoted_name : List ℕ → Option (List ℕ)
quoted_name [] = None
quoted_name (b ∷ more) = cond (b == 34 && closes_line (drop (prefix_len is_quoted_byte more) more)) (Some (take (prefix_len is_quoted_byte more) more)) None

-- where the last dot (46) stands, the later place if there is one
abbrev pub later : Option ℕ → Option ℕ → Option ℕ
later first None = first
later first (Some n) = Some (n + 1)

abbrev pub last_dot : List ℕ → Option ℕ
last_dot [] = None
last_dot (b ∷ more) = later (cond (b == 46) (Some 0) None) (last_dot more)

-- a name without its suffix, which goes from the last dot on
abbrev pub front_of : List ℕ → Option ℕ → List ℕ
front_of name None = name
front_of name (Some n) = take n name

abbrev pub without_suffix : List ℕ → List ℕ
without_suffix name = front_of name (last_dot name)

-- the unit that '#USE' of a name uses
abbrev pub unit_name : List ℕ → List ℕ
unit_name name = without_suffix name ++ codes ".occ"

-- a name that ends in `.lib` is a library's, whose list is the file of its name that ends in `.lbb`
abbrev pub list_name : List ℕ → Option (List ℕ)
list_name name = cond (ends_with nat_eq name (codes ".lib")) (Some (without_suffix name ++ codes ".lbb")) None

-- what the line holds where the name is a file name, else the fault L1
abbrev pub if_named : Option NameFault → Body → Body
if_named None x = x
if_named (Some fault) x = body.Fault code.L1

abbrev pub include_body : Option (List ℕ) → Body
include_body None = body.Fault code.L1
include_body (Some name) = if_named (name_fault name) (body.Include name)

abbrev pub use_body : Option (List ℕ) → Body
use_body None = body.Fault code.L1
use_body (Some name) = if_named (name_fault (unit_name name)) (body.Uses (unit_name name) (list_name name))

-- what stands after the word of the directive that begins the text
abbrev pub after_word : List ℕ → List ℕ
after_word text = after_blanks (after_name (drop 1 text))

-- what the line of a directive holds, if it is not dropped
abbrev pub directive_body : Directive → List ℕ → Option Body
directive_body d.Include text = Some (include_body (quoted_name (after_word text)))
directive_body d.Use text = Some (use_body (quoted_name (after_word text)))
directive_body d.Dropped text = None
