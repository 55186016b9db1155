use Rattle.std.proofs.Common.{◌≡◌, length, map}
use Rattle.occ_types.specs.declared.value.Value.{Value}
use Rattle.occ_typing_operands.specs.declared.kind.TypedValue.TheVariants as o
use Rattle.occ_typing_operands.specs.declared.kind.Wrong.TheVariants as w
use Rattle.occ_typing_operands.specs.Operators.{outcome_in}
use Rattle.occ_typing_operands.specs.Outcomes.{if_constant, worst}
use Rattle.occ_typing_operands.proofs.operate.without_value.Given as goal

abbrev pub invariant-loop-next : goal.invariant-loop-next
invariant-loop-next l =
    (value : Value)
    → if_constant (worst (o.Constant value) (map (outcome_in l.of) l.others)) (o.Faulty w.Value)
    ≡ if_constant (worst (o.Constant value) (map (outcome_in l.of) l.fn.others)) (o.Faulty w.Value)

abbrev pub decreases-loop-next : goal.decreases-loop-next
decreases-loop-next l = length l.others
