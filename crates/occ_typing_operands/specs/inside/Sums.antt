-- Literals in decimal digits with + between each two: what they come to rests on their total and on the greatest of them.
use Rattle.std.specs.Prelude.{ℕ, pos, Option, Some, None, List, map}
use Rattle.occ_types.specs.Constant.{number_value}
use Rattle.occ_types.specs.declared.constant.Operator.TheVariants as op
use Rattle.occ_types.specs.declared.value.Primitive.{Primitive}
use Rattle.occ_types.specs.declared.value.Value.{Value}
use Rattle.occ_typing_operands.specs.Operators.{outcome_in}
use Rattle.occ_typing_operands.specs.Outcomes.{decimal, if_constant, in_type, with_all, worst}
use Rattle.occ_typing_operands.specs.declared.kind.Kind.{Kind}
use Rattle.occ_typing_operands.specs.declared.kind.TypedValue.{TypedValue}
use Rattle.occ_typing_operands.specs.declared.kind.TypedValue.TheVariants as o
use Rattle.occ_typing_operands.specs.declared.kind.Wrong.TheVariants as w

-- a total without a value is a fault
abbrev pub as_total : Option Value → TypedValue
as_total None = o.Faulty w.Value
as_total (Some v) = o.Constant v

-- the total, as a value of the type
abbrev pub total_in : Primitive → ℕ → TypedValue
total_in of total = as_total (number_value of (pos total))

-- the greatest literal has to fit the type, and then the total
abbrev pub sum_in : Primitive → ℕ → ℕ → TypedValue
sum_in of total most = if_constant (in_type (decimal (pos most)) of) (total_in of total)

-- the same of literals with such a total and greatest, and of these operands after them
abbrev pub sum_with : Primitive → ℕ → ℕ → List Kind → TypedValue
sum_with of total most ks =
    if_constant (worst (in_type (decimal (pos most)) of) (map (outcome_in of) ks)) (with_all op.Add (total_in of total) (map (outcome_in of) ks))
