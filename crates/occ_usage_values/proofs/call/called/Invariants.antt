use Rattle.std.proofs.Common.{◌≡◌, ◌++◌, drop}
use Rattle.occ_usage_values.specs.Calls.{called_all}
use Rattle.occ_usage_values.proofs.call.called.Given as goal

abbrev pub invariant-loop-found : goal.invariant-loop-found
invariant-loop-found l = l.uses ++ called_all l.line l.callee l.places (drop l.found-index l.body) ≡ l.initial.uses ++ called_all l.line l.callee l.places l.body
