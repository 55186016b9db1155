use Rattle.std.proofs.Common.{◌≡◌, ◌++◌, drop}
use Rattle.occ_alias.specs.inside.Choosing.{chosen_faults as reported}
use Rattle.occ_alias.proofs.scope.chosen_faults.Given as goal

abbrev pub invariant-loop-number : goal.invariant-loop-number
invariant-loop-number l = l.faults ++ reported l.env l.uses (drop l.number-index l.numbers) ≡ l.initial.faults ++ reported l.env l.uses l.numbers
