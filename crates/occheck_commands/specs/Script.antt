-- What a script says: its commands, each with its line, and where it is wrong.
use Rattle.std.specs.Prelude.{ℕ, zero, suc, Bool, true, List, [], ◌∷◌, ◌+◌, ◌-◌, ◌*◌, cond, nat_le, nat_lt, ◌&&◌, length, take, drop, codes, Option, Some, None}
use Rattle.std.specs.Char.{is_ascii_digit}
use Rattle.std.specs.List.{list_all}
use Rattle.std.specs.Str.{bytes_eq}
use Rattle.occheck_commands.specs.Lines.{ended_lines, whole_lines, script_limit, text_of, words}

-- a command, with the name and the text, or the worker, that it is given
pub data Command : Type 0 where
  Open : List ℕ → List ℕ → Command
  Change : List ℕ → List ℕ → Command
  Remove : List ℕ → Command
  Take : ℕ → Command
  Finish : ℕ → Command
  Drop : ℕ → Command
  Settle : Command
  Checkpoint : Command
  Report : Command

-- ---- the first line of a command

-- what is done with a text
pub data Edit : Type 0 where
  Opening : Edit
  Changing : Edit

-- Texts: so many lines of text for this name follow; Alone: the line is all of the command
pub data Header : Type 0 where
  Texts : Edit → List ℕ → ℕ → Header
  Alone : Command → Header

-- a number is written in one to five decimal digits
abbrev pub is_number : List ℕ → Bool
is_number digits = nat_lt 0 (length digits) && (nat_le (length digits) 5 && list_all is_ascii_digit digits)

-- the number that the digits go on to, after this one
abbrev pub number_on : ℕ → List ℕ → ℕ
number_on n [] = n
number_on n (digit ∷ digits) = number_on (n * 10 + (digit - 48)) digits

abbrev pub number : List ℕ → Option ℕ
number digits = cond (is_number digits) (Some (number_on 0 digits)) None

-- a worker is named by a number from 0 to 63
abbrev pub known_worker : ℕ → Option ℕ
known_worker n = cond (nat_le n 63) (Some n) None

abbrev pub worker_of : Option ℕ → Option ℕ
worker_of None = None
worker_of (Some n) = known_worker n

abbrev pub worker : List ℕ → Option ℕ
worker word = worker_of (number word)

abbrev pub takes : Option ℕ → Option Header
takes None = None
takes (Some w) = Some (Alone (Take w))

abbrev pub finishes : Option ℕ → Option Header
finishes None = None
finishes (Some w) = Some (Alone (Finish w))

abbrev pub drops : Option ℕ → Option Header
drops None = None
drops (Some w) = Some (Alone (Drop w))

-- a name is any word that is not empty
abbrev pub removes : List ℕ → Option Header
removes name = cond (nat_lt 0 (length name)) (Some (Alone (Remove name))) None

abbrev pub texts_of : Edit → List ℕ → Option ℕ → Option Header
texts_of edit name None = None
texts_of edit name (Some n) = Some (Texts edit name n)

abbrev pub texts : Edit → List ℕ → List ℕ → Option Header
texts edit name n = cond (nat_lt 0 (length name)) (texts_of edit name (number n)) None

-- a command of one word
abbrev pub bare : List ℕ → Option Header
bare word =
    cond (bytes_eq word (codes "settle")) (Some (Alone Settle))
    (cond (bytes_eq word (codes "checkpoint")) (Some (Alone Checkpoint))
    (cond (bytes_eq word (codes "report")) (Some (Alone Report)) None))

-- of two: of a file, or of a worker
abbrev pub for_worker : List ℕ → List ℕ → Option Header
for_worker word w =
    cond (bytes_eq word (codes "take")) (takes (worker w))
    (cond (bytes_eq word (codes "finish")) (finishes (worker w))
    (cond (bytes_eq word (codes "drop")) (drops (worker w)) None))

abbrev pub with_one : List ℕ → List ℕ → Option Header
with_one word given = cond (bytes_eq word (codes "remove")) (removes given) (for_worker word given)

-- of three
abbrev pub with_text : List ℕ → List ℕ → List ℕ → Option Header
with_text word name n = cond (bytes_eq word (codes "open")) (texts Opening name n) (cond (bytes_eq word (codes "change")) (texts Changing name n) None)

abbrev pub header_of : List (List ℕ) → Option Header
header_of [] = None
header_of (word ∷ []) = bare word
header_of (word ∷ given ∷ []) = with_one word given
header_of (word ∷ name ∷ n ∷ []) = with_text word name n
header_of (a ∷ b ∷ c ∷ d ∷ more) = None

-- the command that a line begins, if it begins one
abbrev pub header : List ℕ → Option Header
header line = header_of (words line)

-- ---- the whole

-- a command and the line on which it begins
pub record Placed : Type 0 where
  pub line : ℕ
  pub command : Command

-- the commands of a script in order, and the line of its first fault, at which it ends
pub record Script : Type 0 where
  pub commands : List Placed
  pub fault : Option ℕ

abbrev pub ended : Option ℕ → Script
ended fault = record { commands = []; fault = fault }

-- this command on this line, and then what the script says
abbrev pub then : ℕ → Command → Script → Script
then n command script = record { commands = (record { line = n; command = command }) ∷ script.commands; fault = script.fault }

abbrev pub with_lines : Edit → List ℕ → List (List ℕ) → Command
with_lines Opening name lines = Open name (text_of lines)
with_lines Changing name lines = Change name (text_of lines)

-- a command begins on this line with the lines after it; rest says what follows on a later line
abbrev pub command_at : ℕ → Option Header → List (List ℕ) → (ℕ → List (List ℕ) → Script) → Script
command_at n None lines rest = ended (Some n)
command_at n (Some (Texts edit name k)) lines rest = cond (nat_le k (length lines)) (then n (with_lines edit name (take k lines)) (rest (n + 1 + k) (drop k lines))) (ended (Some n))
command_at n (Some (Alone command)) lines rest = then n command (rest (n + 1) lines)

-- what the lines from line n on say, in at most so many lines and commands; where more bytes than the limit were
-- given, the line after the last whole one is wrong
abbrev pub script_in : ℕ → Bool → ℕ → List (List ℕ) → Script
script_in zero over n lines = ended None
script_in (suc turns) over n [] = ended (cond over (Some n) None)
script_in (suc turns) over n ([] ∷ lines) = script_in turns over (n + 1) lines
script_in (suc turns) over n ((b ∷ bytes) ∷ lines) = command_at n (header (b ∷ bytes)) lines (script_in turns over)

-- what the lines from line n on say: each line begins a command at most
abbrev pub script_from : Bool → ℕ → List (List ℕ) → Script
script_from over n lines = script_in (suc (length lines)) over n lines

-- whether there are more bytes than a script may have
abbrev pub is_over : List ℕ → Bool
is_over bytes = nat_lt script_limit (length bytes)

-- what the bytes of a script say
abbrev pub script_of : List ℕ → Script
script_of bytes = script_from (is_over bytes) 1 (whole_lines bytes)

-- the commands that lie whole in the first bytes of a script, whatever comes after these
abbrev pub whole_commands : List ℕ → List Placed
whole_commands bytes = (script_from true 1 (ended_lines bytes)).commands
