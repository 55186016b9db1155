-- Why scripts are not run.
use Rattle.std.specs.Prelude.{ℕ, ◌≡◌, Bool, true, false, Option, Some, Result, Ok, Err}
use Rattle.occheck_commands.specs.Script.{Script}
use Rattle.occheck_sessions.specs.declared.reading.Unread.{Unread}
use Rattle.occheck_sessions.specs.declared.reading.Unread.TheVariants as unread
use Rattle.std.specs.Prelude.{List}

-- a read was refused
abbrev pub is_device : Unread → Bool
is_device unread.Device = true
is_device unread.Memory = false
is_device (unread.Script session line) = false

abbrev pub is_refused : {A : Type 0} → Result A Unread → Bool
is_refused (Ok a) = false
is_refused (Err why) = is_device why

-- where a script is wrong, it is on this line of this session
abbrev pub IsFault : Option (ℕ × ℕ) → Unread → Type 0
IsFault fault unread.Device = Unit {0}
IsFault fault unread.Memory = Unit {0}
IsFault fault (unread.Script session line) = fault ≡ Some (session, line)
