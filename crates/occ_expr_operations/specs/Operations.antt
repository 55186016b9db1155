-- Operators with their operands, each of which was read before.
use Rattle.std.specs.Prelude.{ℕ, nat_le, ◌+◌, ◌-ℤ◌, pos, Bool, false, Option, Some, None, List, [], ◌∷◌, ◌++◌, map, if◌then◌else◌}
use Rattle.occ_types.specs.declared.constant.Monadic.{Monadic}
use Rattle.occ_types.specs.declared.constant.Monadic.TheVariants as m
use Rattle.occ_types.specs.declared.constant.Operator.{Operator}
use Rattle.occ_types.specs.declared.constant.Operator.TheVariants as op
use Rattle.occ_types.specs.declared.types.OccType.{OccType}
use Rattle.occ_typing_operands.specs.Operators.{all_faults, front_operated, kinds, operated, shift_operated}
use Rattle.occ_typing_operands.specs.Outcomes.{decimal}
use Rattle.occ_typing_operands.specs.Settling.{Finding, silent}
use Rattle.occ_typing_operands.specs.Wanting.{conversion}
use Rattle.occ_typing_operands.specs.declared.kind.Kind.TheVariants as k
use Rattle.occ_typing_tables.specs.Measuring.{most, sized}
use Rattle.occ_typing_tables.specs.Terms.{Judged, and_then, as_it_is}
use Rattle.occ_typing_tables.specs.declared.measure.Limit.{Limit}
use Rattle.occ_typing_tables.specs.declared.measure.Limit.TheVariants as limit
use Rattle.occ_forms_expressions.specs.declared.tree.Extreme.{Extreme}
use Rattle.occ_forms_expressions.specs.declared.tree.Extreme.TheVariants as extreme
use Rattle.occ_forms_expressions.specs.declared.tree.MonadicOperator.{MonadicOperator}
use Rattle.occ_forms_expressions.specs.declared.tree.MonadicOperator.TheVariants as mo
use Rattle.occ_forms_expressions.specs.declared.tree.PairOperator.{PairOperator}
use Rattle.occ_forms_expressions.specs.declared.tree.PairOperator.TheVariants as po
use Rattle.occ_forms_expressions.specs.declared.tree.RunOperator.{RunOperator}
use Rattle.occ_forms_expressions.specs.declared.tree.RunOperator.TheVariants as ro

-- ---- what each spelling means

abbrev pub run_operator : RunOperator → Operator
run_operator ro.Add = op.Add
run_operator ro.Multiply = op.Multiply
run_operator ro.Plus = op.Plus
run_operator ro.Times = op.Times
run_operator ro.And = op.And
run_operator ro.Or = op.Or
run_operator ro.BitAnd = op.BitAnd
run_operator ro.BitAndWord = op.BitAnd
run_operator ro.BitOr = op.BitOr
run_operator ro.BitOrWord = op.BitOr
run_operator ro.BitXor = op.BitXor

abbrev pub pair_operator : PairOperator → Operator
pair_operator po.Subtract = op.Subtract
pair_operator po.Minus = op.Minus
pair_operator po.Divide = op.Divide
pair_operator po.Remainder = op.Remainder
pair_operator po.RemainderWord = op.Remainder
pair_operator po.ShiftLeft = op.ShiftLeft
pair_operator po.ShiftRight = op.ShiftRight
pair_operator po.Equal = op.Equal
pair_operator po.Unequal = op.NotEqual
pair_operator po.Less = op.Less
pair_operator po.Greater = op.Greater
pair_operator po.AtMost = op.AtMost
pair_operator po.AtLeast = op.AtLeast
pair_operator po.After = op.After

abbrev pub limit_of : Extreme → Limit
limit_of extreme.Greatest = limit.Greatest
limit_of extreme.Least = limit.Least

-- ---- operands beside one another

abbrev pub number_of_faulty : List Judged → ℕ
number_of_faulty [] = 0
number_of_faulty (x ∷ xs) = if x.is_faulty then number_of_faulty xs + 1 else number_of_faulty xs

-- of so many operands with a fault one is another than this
abbrev pub another_has_fault : ℕ → Judged → Bool
another_has_fault n x = if x.is_faulty then nat_le 2 n else nat_le 1 n

abbrev pub among : ℕ → Judged → Finding
among n x = x.beside (another_has_fault n x)

abbrev pub each_among : ℕ → List Judged → List Finding
each_among n xs = map (among n) xs

abbrev pub together : Operator → List Finding → Finding
together operator xs = let y = operated operator (kinds xs) in record { faults = all_faults xs ++ y.faults; kind = y.kind }

unfoldable pub operation : Operator → List Judged → Finding
operation operator xs = together operator (each_among (number_of_faulty xs) xs)

-- by itself, beside no fault
unfoldable pub plain : Judged → Finding
plain x = x.beside false

-- the count of a shift and what is shifted take no type from one another
abbrev pub shift : Operator → Judged → Judged → Finding
shift operator a count = and_then (plain a) (λ x. and_then (plain count) (λ y. shift_operated operator x y))

unfoldable pub pair : PairOperator → Judged → Judged → Finding
pair po.ShiftLeft a b = shift op.ShiftLeft a b
pair po.ShiftRight a b = shift op.ShiftRight a b
pair operator a b = operation (pair_operator operator) (a ∷ b ∷ [])

-- ---- operators in front

abbrev pub in_front : Monadic → Judged → Finding
in_front operator x = and_then (plain x) (front_operated operator)

-- `-` makes one literal with an integer in decimal digits that has no type of its own
abbrev pub negated : Option ℕ → Judged → Finding
negated None x = in_front m.Negate x
negated (Some n) x = as_it_is (k.Untyped (decimal (pos 0 -ℤ pos n)))

unfoldable pub applied : MonadicOperator → Option ℕ → Judged → Finding
applied mo.Negate digits x = negated digits x
applied mo.Minus digits x = in_front m.Minus x
applied mo.BitNot digits x = in_front m.BitNot x
applied mo.BitNotWord digits x = in_front m.BitNot x
applied mo.Not digits x = in_front m.Not x
applied mo.Size digits x = and_then x.alone sized

-- ---- conversions, and the ends of a type

-- a conversion wants nothing of its operand, so that one is judged also where the type is not known
unfoldable pub converted : Option OccType → Judged → Finding
converted None x = record { faults = x.alone.faults; kind = k.Faulty }
converted (Some to) x = and_then (plain x) (conversion to)

unfoldable pub extreme_of : Extreme → Option OccType → Finding
extreme_of e None = silent
extreme_of e (Some of) = most (limit_of e) of
