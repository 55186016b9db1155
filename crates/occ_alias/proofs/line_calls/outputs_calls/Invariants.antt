use Rattle.std.proofs.Common.{◌≡◌, ◌++◌, drop}
use Rattle.occ_alias.specs.LineCalls.{outputs_calls as reported}
use Rattle.occ_alias.proofs.line_calls.outputs_calls.Given as goal

abbrev pub invariant-loop-one : goal.invariant-loop-one
invariant-loop-one l = l.calls ++ reported (drop l.one-index l.outputs) l.env l.line ≡ l.initial.calls ++ reported l.outputs l.env l.line
