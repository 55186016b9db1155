use Rattle.std.proofs.Common.{◌≡◌, ◌++◌, drop}
use Rattle.occ_typing_specifications.specs.Declaring.{variables}
use Rattle.occ_typing_specifications.proofs.declaring.push_variables.Given as goal

abbrev pub invariant-loop-name : goal.invariant-loop-name
invariant-loop-name l = l.entries ++ variables l.of (drop l.name-index l.names) ≡ l.initial.entries ++ variables l.of l.names
