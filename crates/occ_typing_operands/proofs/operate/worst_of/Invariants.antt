use Rattle.std.proofs.Common.{◌≡◌, drop, map}
use Rattle.occ_typing_operands.specs.Operators.{outcome_in}
use Rattle.occ_typing_operands.specs.Outcomes.{worst}
use Rattle.occ_typing_operands.proofs.operate.worst_of.Given as goal

abbrev pub invariant-loop-kind : goal.invariant-loop-kind
invariant-loop-kind l = worst l.found (map (outcome_in l.of) (drop l.kind-index l.others)) ≡ worst l.fn.first (map (outcome_in l.of) l.others)
