use Rattle.std.proofs.Common.{◌≡◌, ◌++◌, drop}
use Rattle.occ_alias.specs.LineCalls.{targets_calls as reported}
use Rattle.occ_alias.proofs.line_calls.targets_calls.Given as goal

abbrev pub invariant-loop-one : goal.invariant-loop-one
invariant-loop-one l = l.calls ++ reported (drop l.one-index l.targets) l.env l.line ≡ l.initial.calls ++ reported l.targets l.env l.line
