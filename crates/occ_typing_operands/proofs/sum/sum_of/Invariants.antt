use Rattle.std.specs.List.{list_any}
use Rattle.std.proofs.Common.{◌≡◌, ◌∷◌, drop}
use Rattle.occ_types.specs.declared.constant.Operator.TheVariants as op
use Rattle.occ_types.specs.declared.value.Primitive.{Primitive}
use Rattle.occ_typing_operands.specs.Operators.{needs_faulty, run_in}
use Rattle.occ_typing_operands.specs.inside.Sums.{sum_with}
use Rattle.occ_typing_operands.proofs.sum.sum_of.Given as goal

abbrev pub invariant-loop-kind : goal.invariant-loop-kind
invariant-loop-kind l =
    ((of : Primitive) → sum_with of l.total l.most (drop l.kind-index l.others) ≡ run_in op.Add of (l.fn.first ∷ l.others))
    × (list_any needs_faulty (drop l.kind-index l.others) ≡ list_any needs_faulty (l.fn.first ∷ l.others))
