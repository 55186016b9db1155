use Rattle.std.proofs.Common.{◌≡◌, ◌+◌, ◌≤◌, length}
use Rattle.occheck_commands.specs.Left.{IsRest}
use Rattle.occheck_sessions.proofs.session.Session.run.Given as goal

abbrev pub invariant-loop : goal.invariant-loop
invariant-loop g l = record {
  rest : IsRest l.rest;
  room : l.counter + length l.rest.bytes.now ≤ l.most;
}
