use Rattle.std.proofs.Common.{◌≡◌, ◌++◌, drop}
use Rattle.occ_alias.specs.LineCalls.{elements_calls as reported}
use Rattle.occ_alias.proofs.line_calls.elements_calls.Given as goal

abbrev pub invariant-loop-element : goal.invariant-loop-element
invariant-loop-element l = l.calls ++ reported (drop l.element-index l.elements) l.env l.line ≡ l.initial.calls ++ reported l.elements l.env l.line
