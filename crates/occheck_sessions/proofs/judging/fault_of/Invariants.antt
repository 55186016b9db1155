use Rattle.std.proofs.Common.{◌≡◌, ◌+◌, ◌≤◌, length}
use Rattle.occheck_commands.specs.Left.{IsRest, script_left}
use Rattle.occheck_sessions.specs.Sessions.{session_fault}
use Rattle.occheck_sessions.proofs.judging.fault_of.Given as goal

abbrev pub invariant-loop : goal.invariant-loop
invariant-loop l = record {
  rest : IsRest l.rest;
  says : session_fault (script_left l.rest) ≡ session_fault l.script;
  room : l.counter + length l.rest.bytes.now ≤ l.most;
}
