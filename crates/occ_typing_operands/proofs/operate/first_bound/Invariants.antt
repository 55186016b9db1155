use Rattle.std.proofs.Common.{◌≡◌, drop}
use Rattle.occ_typing_operands.specs.Operators.{first_bound as first_one_bound}
use Rattle.occ_typing_operands.proofs.operate.first_bound.Given as goal

abbrev pub invariant-loop-kind : goal.invariant-loop-kind
invariant-loop-kind l = first_one_bound (drop l.kind-index l.kinds) ≡ first_one_bound l.kinds
