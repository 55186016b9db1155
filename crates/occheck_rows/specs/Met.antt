-- What a row says of its script.
use Rattle.std.specs.Prelude.{◌≡◌, ◌≤◌}
use Rattle.occheck_script.specs.Machine.{IsReading, Reading}
use Rattle.occheck_script.specs.Output.{output, status_of}
use Rattle.occheck_commands.specs.Script.{script_of}
use Rattle.occheck_script.specs.Status.{exit_code}
use Rattle.occheck_rows.specs.declared.row.Row.{Row}

-- the row's output is that of its script, and its status, if it is one of a run to the end, too
abbrev pub IsRight : Row → Type 0
IsRight row =
    row.status ≤ 2 → (read : Reading) → IsReading read (script_of row.script.items).commands
    → (output read (script_of row.script.items) ≡ row.output.items) × (exit_code (status_of read (script_of row.script.items)) ≡ row.status)
