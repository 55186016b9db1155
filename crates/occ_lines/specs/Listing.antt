-- The units that a text lists, one on each line.
use Rattle.std.specs.Prelude.{ℕ, Bool, cond, not, ◌-◌, ◌==◌, ◌&&◌, ◌||◌, List, [], ◌∷◌, length, map, take, Option, Some, None}
use Rattle.std.specs.List.{filter, list_all, list_any, suffix_len}
use Rattle.std.specs.Option.{is_none}
use Rattle.bstr.specs.Text.{lines_of, without_terminator}
use Rattle.occ_base.specs.FileName.{name_fault}
use Rattle.occ_base.specs.Firsts.{first_indices}
use Rattle.occ_lines.specs.Directive.{unit_name}
use Rattle.occ_lines.specs.Lexeme.{after_blanks, is_blank, is_end}
use Rattle.occ_lines.specs.Lines.{is_skipped}

-- a line up to the first blank that stands before a comment or at the end
abbrev pub before_comment : List ℕ → List ℕ
before_comment [] = []
before_comment (b ∷ more) = cond (is_blank b && is_end more) [] (b ∷ before_comment more)

-- without the blanks at its end
abbrev pub trimmed : List ℕ → List ℕ
trimmed text = take (length text - suffix_len is_blank text) text

-- the name on a line that is not skipped
abbrev pub name_on : List ℕ → List ℕ
name_on line = trimmed (before_comment (after_blanks line))

-- the names on these lines
abbrev pub names_on : List (List ℕ) → List (List ℕ)
names_on lines = map name_on (filter (λ line. not (is_skipped line)) lines)

-- no name has a blank or a CR (13) inside, before its suffix or in it
abbrev pub is_broken_by : ℕ → Bool
is_broken_by b = is_blank b || b == 13

-- the name on a line gives that of a unit
abbrev pub names_unit : List ℕ → Bool
names_unit name = not (list_any is_broken_by name) && is_none (name_fault (unit_name name))

-- the units of these names, each at its first place, if all of them name one; else there is no list
abbrev pub list_of : List (List ℕ) → Option (List (List ℕ))
list_of names = cond (list_all names_unit names) (Some (first_indices (map unit_name names))) None

-- the units that the lines of a text list
unfoldable pub listed : List ℕ → Option (List (List ℕ))
listed text = list_of (names_on (map without_terminator (lines_of text)))
