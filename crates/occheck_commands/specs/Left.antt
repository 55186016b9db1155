-- What is left of a script, and what it says next; what lines say first, whatever comes after them.
use Rattle.std.specs.Prelude.{◌≡◌, ◌+◌, ◌<◌, ◌≤◌, ◌^◌, ◌||◌, ◌++◌, ℕ, Bool, true, List, [], cond, nat_lt, Some, None, length}
use Rattle.occheck_commands.specs.Ended.{IsEnded, IsNoFeed}
use Rattle.occheck_commands.specs.Lines.{cut_lines, feeds, last_lines}
use Rattle.occheck_commands.specs.Script.{Command, Script, script_from, ended, then}
use Rattle.occheck_commands.specs.Script.Command.{Open, Change, Remove, Take, Finish, Drop, Settle, Checkpoint, Report}
use Rattle.occheck_commands.specs.declared.command.Command.{Command as Lent}
use Rattle.occheck_commands.specs.declared.command.Command.TheVariants as lent
use Rattle.occheck_commands.specs.declared.script.Rest.{Rest}
use Rattle.occheck_commands.specs.declared.script.Next.{Next}
use Rattle.occheck_commands.specs.declared.script.Next.TheVariants as next
use Rattle.occheck_commands.specs.declared.first.Lines.{Lines}
use Rattle.occheck_commands.specs.declared.first.First.{First}
use Rattle.occheck_commands.specs.declared.first.First.TheVariants as first

-- the command that a value of the program stands for
abbrev pub meant : Lent → Command
meant (lent.Open name text) = Open name.now text.now
meant (lent.Change name text) = Change name.now text.now
meant (lent.Remove name) = Remove name.now
meant (lent.Take w) = Take w
meant (lent.Finish w) = Finish w
meant (lent.Drop w) = Drop w
meant lent.Settle = Settle
meant lent.Checkpoint = Checkpoint
meant lent.Report = Report

-- what is left of a script is ended, and its lines can be counted
pub record IsRest (rest : Rest) : Type 0 where
  pub is_ended : IsEnded rest.bytes.now
  pub small : rest.line + length rest.bytes.now < 2 ^ 60

-- what is left of a script says
abbrev pub script_left : Rest → Script
script_left rest = script_from rest.over rest.line (cut_lines rest.bytes.now)

abbrev pub next_seen : Next → Script
next_seen (next.Command n command rest) = then n (meant command) (script_left rest)
next_seen (next.Fault n) = ended (Some n)
next_seen next.End = ended None

-- after a command less is left
abbrev pub IsLess : Rest → Next → Type 0
IsLess rest (next.Command n command left) = IsRest left × (length left.bytes.now < length rest.bytes.now)
IsLess rest (next.Fault n) = Unit {0}
IsLess rest next.End = Unit {0}

-- ---- whatever comes after

-- the lines are ended, and can be counted
pub record AreEnded (lines : Lines) : Type 0 where
  pub is_ended : IsEnded lines.bytes.now
  pub small : lines.line + length lines.bytes.now < 2 ^ 60

-- what the last bytes of a script say, from this line on
abbrev pub ending : Bool → ℕ → List ℕ → Script
ending over line bytes = script_from over line (last_lines over bytes)

-- what lines say, and these last bytes after them
abbrev pub first_seen : Bool → First → List ℕ → Script
first_seen over (first.Command n command left) more = then n (meant command) (ending over left.line (left.bytes.now ++ more))
first_seen over (first.Fault n) more = ended (Some n)
first_seen over (first.Unfinished left lacks) more = ending over left.line (left.bytes.now ++ more)

-- no command is whole in the bytes before so many more lines are ended
abbrev pub IsLacking : ℕ → List ℕ → ℕ → Type 0
IsLacking line bytes lacks = (more : List ℕ) → feeds more < lacks → (ending true line (bytes ++ more)).commands ≡ []

-- a script that ends with part of a command is wrong on its line; one that ends with nothing, where there are bytes over the limit
abbrev pub cut_short : Bool → ℕ → List ℕ → Script
cut_short over line bytes = ended (cond (over || nat_lt 0 (length bytes)) (Some line) None)

-- the last bytes of the lines
pub record AreLast (lines left : Lines) : Type 0 where
  pub are_ended : AreEnded left
  pub last : (front : List ℕ) × (lines.bytes.now ≡ front ++ left.bytes.now)
  pub line : left.line + length left.bytes.now ≤ lines.line + length lines.bytes.now

-- part of a command, or nothing
pub record IsUnfinished (left : Lines) (lacks : ℕ) : Type 0 where
  pub begun : IsNoFeed left.bytes.now
  pub lacking : IsLacking left.line left.bytes.now lacks
  pub some : 0 < lacks
  pub at_end : (over : Bool) → ending over left.line left.bytes.now ≡ cut_short over left.line left.bytes.now

-- what is left after what they say first
abbrev pub IsBehind : Lines → First → Type 0
IsBehind lines (first.Command n command left) = AreLast lines left × (length left.bytes.now < length lines.bytes.now)
IsBehind lines (first.Fault n) = Unit {0}
IsBehind lines (first.Unfinished left lacks) = AreLast lines left × IsUnfinished left lacks
