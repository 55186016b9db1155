-- What was read of a script and is not answered.
use Rattle.std.specs.Prelude.{ℕ, Bool, ◌≡◌, ◌+◌, ◌<◌, ◌≤◌, List, drop, length}
use Rattle.occheck_commands.specs.Ended.{IsNoFeed}
use Rattle.occheck_commands.specs.Left.{IsLacking, cut_short, ending}
use Rattle.occheck_script.specs.declared.begun.Begun.{Begun}
use Rattle.occheck_script.specs.declared.begun.Answered.{Answered}

-- part of a command, or nothing
pub record IsBegun (begun : Begun) : Type 0 where
  pub begins : IsNoFeed begun.bytes.items
  pub lacking : IsLacking begun.line begun.bytes.items begun.lacks

-- what is left of lines that are ended, after their commands
pub record IsLeft (line : ℕ) (bytes : List ℕ) (answered : Answered) : Type 0 where
  pub used : answered.used ≤ length bytes
  pub begins : IsNoFeed (drop answered.used bytes)
  pub lacking : IsLacking answered.line (drop answered.used bytes) answered.lacks
  pub some : 0 < answered.lacks
  pub at_end : (over : Bool) → ending over answered.line (drop answered.used bytes) ≡ cut_short over answered.line (drop answered.used bytes)
  pub next_line : answered.line + length (drop answered.used bytes) ≤ line + length bytes
