use Rattle.std.proofs.Common.{◌≡◌, length, map}
use Rattle.occ_typing_operands.specs.declared.kind.TypedValue.TheVariants as o
use Rattle.occ_typing_operands.specs.Operators.{outcome_in}
use Rattle.occ_typing_operands.specs.Outcomes.{run}
use Rattle.occ_typing_operands.proofs.operate.with_value.Given as goal

abbrev pub invariant-loop-next : goal.invariant-loop-next
invariant-loop-next l = run l.op (o.Constant l.value) (map (outcome_in l.of) l.others) ≡ run l.op (o.Constant l.fn.first) (map (outcome_in l.of) l.fn.others)

abbrev pub decreases-loop-next : goal.decreases-loop-next
decreases-loop-next l = length l.others
