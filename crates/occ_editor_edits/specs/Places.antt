-- Where a place of an editor stands in the bytes of a text, and what a change of a range makes of it.
use Rattle.std.specs.Prelude.{ℕ, Bool, false, not, ◌+◌, ◌-◌, ◌==◌, ◌&&◌, ◌||◌, nat_le, nat_lt, List, [], ◌∷◌, ◌++◌, if◌then◌else◌, take, drop}
use Rattle.occ_editor_edits.specs.declared.ranges.Place.{Place}

-- the byte goes on with a character of UTF-8
abbrev pub goes_on : ℕ → Bool
goes_on b = nat_le 128 b && nat_lt b 192

-- the UTF-16 units of the character that the byte begins
abbrev pub units : ℕ → ℕ
units b = if nat_le 240 b then 2 else 1

-- the byte is of the end of a line
abbrev pub ends_line : ℕ → Bool
ends_line b = (b == 10) || (b == 13)

-- the bytes of a line before so many units, all of them where it has fewer; the line stands at the front of a text
abbrev pub column_of : ℕ → List ℕ → ℕ
column_of unit [] = 0
column_of unit (b ∷ bs) =
    if ends_line b then 0
    else (if goes_on b then column_of unit bs + 1
    else (if unit == 0 then 0 else column_of (unit - units b) bs + 1))

abbrev pub begins_feed : List ℕ → Bool
begins_feed [] = false
begins_feed (b ∷ bs) = b == 10

-- a line ends with a byte that the rest follows: with a line feed, or a carriage return that no line feed follows
abbrev pub ends_here : ℕ → List ℕ → Bool
ends_here b rest = (b == 10) || ((b == 13) && not (begins_feed rest))

-- the bytes before a line, all of them where there are fewer lines
abbrev pub start_of : ℕ → List ℕ → ℕ
start_of line [] = 0
start_of line (b ∷ bs) = if line == 0 then 0 else start_of (if ends_here b bs then line - 1 else line) bs + 1

-- the bytes before a place
abbrev pub place_of : Place → List ℕ → ℕ
place_of p text = start_of p.line text + column_of p.unit (drop (start_of p.line text) text)

-- the text with the bytes from one to another changed to new
abbrev pub spliced_text : ℕ → ℕ → List ℕ → List ℕ → List ℕ
spliced_text begin end new text = take begin text ++ (new ++ drop end text)

abbrev pub between : ℕ → ℕ → List ℕ → List ℕ → List ℕ
between one other new text = if nat_le one other then spliced_text one other new text else spliced_text other one new text

-- the text with what stands between two places changed to new, whichever of them is first
abbrev pub edited_text : Place → Place → List ℕ → List ℕ → List ℕ
edited_text from to new text = between (place_of from text) (place_of to text) new text
