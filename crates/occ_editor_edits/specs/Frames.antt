-- Frames of messages.
use Rattle.std.specs.Prelude.{ℕ, Bool, true, false, not, ◌==◌, ◌≡◌, ◌+◌, ◌-◌, ◌*◌, ◌&&◌, nat_le, nat_lt, List, [], ◌∷◌, ◌++◌, codes, if◌then◌else◌, take, drop, length, Option, Some, None}
use Rattle.std.specs.Fmt.{decimal}
use Rattle.std.specs.List.{list_all}
use Rattle.std.specs.Io.KnownBytes.{Consumes}
use Rattle.std.specs.Str.{bytes_eq}

abbrev pub is_digit : ℕ → Bool
is_digit b = nat_le 48 b && nat_le b 57

-- the number that digits tell behind others, of less than 10 digits, up to a carriage return and a line feed
abbrev pub number_of : ℕ → List ℕ → Option ℕ
number_of n [] = None
number_of n (b ∷ bs) =
    if is_digit b then (if nat_lt n 100000000 then number_of (10 * n + (b - 48)) bs else None)
    else (if bytes_eq (b ∷ bs) (13 ∷ 10 ∷ []) then Some n else None)

-- the bytes begin with the words before a length
abbrev pub names_length : List ℕ → Bool
names_length bytes = bytes_eq (take 16 bytes) (codes "Content-Length: ")

-- how long a line of a head tells the message to be; what a broken message left may stand before it
abbrev pub told_by : List ℕ → Option ℕ
told_by [] = None
told_by (b ∷ bs) = if names_length (b ∷ bs) then number_of 0 (drop 16 (b ∷ bs)) else told_by bs

abbrev pub kept : Option ℕ → Option ℕ → Option ℕ
kept old None = old
kept old (Some n) = Some n

-- the bytes of lines
abbrev pub joined : List (List ℕ) → List ℕ
joined [] = []
joined (line ∷ lines) = line ++ joined lines

-- how long lines tell a message to be, behind others: the last that tells it counts
abbrev pub told_by_all : Option ℕ → List (List ℕ) → Option ℕ
told_by_all so_far [] = so_far
told_by_all so_far (line ∷ lines) = told_by_all (kept so_far (told_by line)) lines

-- a line has its one line feed (10) at its end
abbrev pub ends_line : List ℕ → Bool
ends_line [] = false
ends_line (b ∷ []) = b == 10
ends_line (b ∷ c ∷ more) = not (b == 10) && ends_line (c ∷ more)

-- a line of a head, which is not the empty one
abbrev pub is_head_line : List ℕ → Bool
is_head_line line = ends_line line && not (bytes_eq line (13 ∷ 10 ∷ []))

-- so many lines of a head that tell this length were read between two states of a reader, whose bytes were these where they are known
pub record IsRead (before now : Option (List ℕ)) (count : ℕ) (size : Option ℕ) : Type 0 where
  pub lines : List (List ℕ)
  pub many : length lines ≡ count
  pub are_lines : list_all is_head_line lines ≡ true
  pub tells : told_by_all None lines ≡ size
  pub reads : Consumes before now (joined lines)

-- a head was read, whose lines tell this length, with the empty line that ends it
abbrev pub IsHeadRead : Option (List ℕ) → Option (List ℕ) → ℕ → Type 0
IsHeadRead before now size =
    (lines : List (List ℕ)) × (list_all is_head_line lines ≡ true) × (told_by_all None lines ≡ Some size) × Consumes before now (joined lines ++ (13 ∷ 10 ∷ []))

-- the bytes are the lines of a head that tell a length, an empty line, and a message of that length
abbrev pub IsFrame : List ℕ → List ℕ → Type 0
IsFrame message bytes =
    (lines : List (List ℕ)) × (list_all is_head_line lines ≡ true) × (told_by_all None lines ≡ Some (length message)) × (bytes ≡ joined lines ++ (13 ∷ 10 ∷ []) ++ message)

-- lines, the empty line and a message were read
abbrev pub IsFrameRead : Option (List ℕ) → Option (List ℕ) → List ℕ → Type 0
IsFrameRead before now message = (bytes : List ℕ) × IsFrame message bytes × Consumes before now bytes

-- the frame that is written
abbrev pub framed : List ℕ → List ℕ
framed message = codes "Content-Length: " ++ (decimal (length message) ++ ((13 ∷ 10 ∷ 13 ∷ 10 ∷ []) ++ message))
