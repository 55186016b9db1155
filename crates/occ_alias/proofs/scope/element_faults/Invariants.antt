use Rattle.std.proofs.Common.{◌≡◌, ◌++◌, drop}
use Rattle.occ_alias.specs.AbbreviationRule.{element_faults as reported}
use Rattle.occ_usage_parts.specs.Selecting.{part_of}
use Rattle.occ_alias.proofs.scope.element_faults.Given as goal

abbrev pub invariant-loop-found : goal.invariant-loop-found
invariant-loop-found l = l.faults ++ reported l.number l.env (part_of l.element) (drop l.found-index l.uses) ≡ l.initial.faults ++ reported l.number l.env (part_of l.element) l.uses
