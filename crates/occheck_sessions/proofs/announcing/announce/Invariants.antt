use Rattle.std.proofs.Common.{◌+◌, ◌≤◌, length, take}
use Rattle.occheck_commands.specs.Left.{IsRest, script_left}
use Rattle.occheck_script.specs.Machine.{IsReading, Reading}
use Rattle.occheck_sessions.specs.Sessions.{edits_of}
use Rattle.occheck_sessions.proofs.Going.{GoesOnAfter}
use Rattle.occheck_sessions.proofs.announcing.announce.Given as goal

abbrev pub invariant-loop-place : goal.invariant-loop-place
invariant-loop-place l = record {
  rest : IsRest l.rest;
  room : l.place + length l.rest.bytes.now ≤ l.most;
  within : l.last ≤ length l.entries;
  so_far : (read : Reading) → IsReading read l.script.commands → GoesOnAfter read l.entries l.session l.script (edits_of l.session (take l.last l.entries)) l.fn.before.items l.text.items (script_left l.rest);
}
