-- The values of constants: whole numbers, each in the range of its type, and what the operators give on them.
-- TRUE is 1 and FALSE 0.
use Rattle.std.specs.Prelude.{◌≡◌, ◌⊎◌, ℕ, ◌-◌, ◌*◌, ◌/◌, ◌%◌, ◌^◌, ℤ, pos, negsuc, ◌+ℤ◌, ◌-ℤ◌, ◌*ℤ◌, neg_ℤ, int_lt, int_le, int_div, int_rem, unsigned_abs, bit_and, bit_or, bit_xor, nat_le, nat_lt, Bool, true, false, cond, not, ◌&&◌, ◌||◌}
use Rattle.std.specs.Prelude.{Result, Ok, Err, Option, Some, None}
use Rattle.std.specs.Ordering.{int_eq}
use Rattle.std.specs.Int.{int_rem_euclid}
use Rattle.occ_types.specs.declared.value.Primitive.{Primitive}
use Rattle.occ_types.specs.declared.value.Primitive.TheVariants as p
use Rattle.occ_types.specs.declared.value.Value.{Value}
use Rattle.occ_types.specs.declared.value.Value.TheVariants as v
use Rattle.occ_types.specs.declared.constant.ConstFault.{ConstFault}
use Rattle.occ_types.specs.declared.constant.ConstFault.TheVariants as fault
use Rattle.occ_types.specs.declared.constant.Operator.{Operator}
use Rattle.occ_types.specs.declared.constant.Operator.TheVariants as o
use Rattle.occ_types.specs.declared.constant.Monadic.{Monadic}
use Rattle.occ_types.specs.declared.constant.Monadic.TheVariants as m

-- ---- types and their ranges

-- the number of bits
abbrev pub bits_of : Primitive → ℕ
bits_of p.Bool = 1
bits_of p.Byte = 8
bits_of p.Int16 = 16
bits_of p.Int = 32
bits_of p.Int32 = 32
bits_of p.Int64 = 64

abbrev pub least_of : Primitive → ℤ
least_of p.Bool = pos 0
least_of p.Byte = pos 0
least_of p.Int16 = negsuc 32767
least_of p.Int = negsuc 2147483647
least_of p.Int32 = negsuc 2147483647
least_of p.Int64 = negsuc 9223372036854775807

abbrev pub greatest_of : Primitive → ℤ
greatest_of p.Bool = pos 1
greatest_of p.Byte = pos 255
greatest_of p.Int16 = pos 32767
greatest_of p.Int = pos 2147483647
greatest_of p.Int32 = pos 2147483647
greatest_of p.Int64 = pos 9223372036854775807

abbrev pub is_in_range : Primitive → ℤ → Bool
is_in_range t n = int_le (least_of t) n && int_le n (greatest_of t)

abbrev pub truth_number : Bool → ℤ
truth_number false = pos 0
truth_number true = pos 1

-- the type of a value, and its number
abbrev pub primitive_of : Value → Primitive
primitive_of (v.Bool b) = p.Bool
primitive_of (v.Byte n) = p.Byte
primitive_of (v.Int16 n) = p.Int16
primitive_of (v.Int n) = p.Int
primitive_of (v.Int32 n) = p.Int32
primitive_of (v.Int64 n) = p.Int64

abbrev pub number_of : Value → ℤ
number_of (v.Bool b) = truth_number b
number_of (v.Byte n) = pos n
number_of (v.Int16 n) = n
number_of (v.Int n) = n
number_of (v.Int32 n) = n
number_of (v.Int64 n) = n

-- the value of a type whose number is n, for an n in the range of the type
abbrev pub value_of : Primitive → ℤ → Value
value_of p.Bool n = v.Bool (int_lt (pos 0) n)
value_of p.Byte n = v.Byte (unsigned_abs n)
value_of p.Int16 n = v.Int16 n
value_of p.Int n = v.Int n
value_of p.Int32 n = v.Int32 n
value_of p.Int64 n = v.Int64 n

-- ---- what an operator gives

-- the value of n, if n is in the range of the type
abbrev pub settled : Primitive → ℤ → Result Value ConstFault
settled t n = cond (is_in_range t n) (Ok (value_of t n)) (Err fault.Overflow)

-- the bits of n in the type, as a number from 0 to below 2 to the number of bits
abbrev pub pattern_of : Primitive → ℤ → ℕ
pattern_of t n = unsigned_abs (int_rem_euclid n (pos (2 ^ bits_of t)))

-- the number whose bits these are: the bits, less 2 to their number where they are past the greatest number
abbrev pub number_of_pattern : Primitive → ℕ → ℤ
number_of_pattern t n = cond (int_le (pos n) (greatest_of t)) (pos n) (pos n -ℤ pos (2 ^ bits_of t))

abbrev pub settled_pattern : Primitive → ℕ → Result Value ConstFault
settled_pattern t n = settled t (number_of_pattern t n)

-- a literal in decimal digits, with the - in front if there is one, stands for its number
abbrev pub number_value : Primitive → ℤ → Option Value
number_value t n = cond (is_in_range t n) (Some (value_of t n)) None

-- a literal in hexadecimal digits stands for the bits of its number
abbrev pub pattern_value : Primitive → ℕ → Option Value
pattern_value t n = cond (nat_lt n (2 ^ bits_of t)) (Some (value_of t (number_of_pattern t n))) None

-- the number in the range of the type that differs from n by a multiple of 2 to the number of bits
abbrev pub settled_wrapped : Primitive → ℤ → Result Value ConstFault
settled_wrapped t n = settled_pattern t (pattern_of t n)

-- one of these numbers is the other and a multiple of 2 to the number of bits
abbrev pub IsCongruent : Primitive → ℤ → ℤ → Type 0
IsCongruent t m n = (k : ℕ) × ((m +ℤ pos (k * 2 ^ bits_of t) ≡ n) ⊎ (n +ℤ pos (k * 2 ^ bits_of t) ≡ m))

abbrev pub truth : Bool → Result Value ConstFault
truth b = Ok (v.Bool b)

-- a division with a divisor of 0 has a fault
abbrev pub divided : ℤ → Result Value ConstFault → Result Value ConstFault
divided y r = cond (int_eq y (pos 0)) (Err fault.ZeroDivisor) r

-- the count of a shift: from 0 to the number of bits
abbrev pub count_of : Primitive → ℤ → Option ℕ
count_of t (pos k) = cond (nat_le k (bits_of t)) (Some k) None
count_of t (negsuc k) = None

-- a shift by another count has a fault
abbrev pub shifted_by : Primitive → Option ℕ → (ℕ → ℕ) → Result Value ConstFault
shifted_by t None f = Err fault.Shift
shifted_by t (Some k) f = settled_pattern t (f k)

abbrev pub shifted : Primitive → ℤ → (ℕ → ℕ) → Result Value ConstFault
shifted t y f = shifted_by t (count_of t y) f

-- the number of n cut to the bits of the type
abbrev pub wrapped : Primitive → ℤ → ℤ
wrapped t n = number_of_pattern t (pattern_of t n)

abbrev pub is_true : ℤ → Bool
is_true n = int_lt (pos 0) n

-- what the operator gives on two numbers, the first of type t
abbrev pub outcome : Operator → Primitive → ℤ → ℤ → Result Value ConstFault
outcome o.Add t x y = settled t (x +ℤ y)
outcome o.Subtract t x y = settled t (x -ℤ y)
outcome o.Multiply t x y = settled t (x *ℤ y)
outcome o.Divide t x y = divided y (settled t (int_div x y))
outcome o.Remainder t x y = divided y (settled t (int_rem x y))
outcome o.Plus t x y = settled_wrapped t (x +ℤ y)
outcome o.Minus t x y = settled_wrapped t (x -ℤ y)
outcome o.Times t x y = settled_wrapped t (x *ℤ y)
outcome o.BitAnd t x y = settled_pattern t (bit_and (pattern_of t x) (pattern_of t y))
outcome o.BitOr t x y = settled_pattern t (bit_or (pattern_of t x) (pattern_of t y))
outcome o.BitXor t x y = settled_pattern t (bit_xor (pattern_of t x) (pattern_of t y))
outcome o.ShiftLeft t x y = shifted t y (λ k. pattern_of t x * 2 ^ k % 2 ^ bits_of t)
outcome o.ShiftRight t x y = shifted t y (λ k. pattern_of t x / 2 ^ k)
outcome o.Equal t x y = truth (int_eq x y)
outcome o.NotEqual t x y = truth (not (int_eq x y))
outcome o.Less t x y = truth (int_lt x y)
outcome o.Greater t x y = truth (int_lt y x)
outcome o.AtMost t x y = truth (int_le x y)
outcome o.AtLeast t x y = truth (int_le y x)
outcome o.After t x y = truth (int_lt (pos 0) (wrapped t (x -ℤ y)))
outcome o.And t x y = truth (is_true x && is_true y)
outcome o.Or t x y = truth (is_true x || is_true y)

-- the value of a constant expression of two operands, or its fault
abbrev pub folded : Operator → Value → Value → Result Value ConstFault
folded op a b = outcome op (primitive_of a) (number_of a) (number_of b)

abbrev pub outcome_of_one : Monadic → Primitive → ℤ → Result Value ConstFault
outcome_of_one m.Negate t x = settled t (neg_ℤ x)
outcome_of_one m.Minus t x = settled_wrapped t (neg_ℤ x)
outcome_of_one m.BitNot t x = settled_pattern t (2 ^ bits_of t - 1 - pattern_of t x)
outcome_of_one m.Not t x = truth (not (is_true x))

-- the same of one operand
abbrev pub folded_one : Monadic → Value → Result Value ConstFault
folded_one op a = outcome_of_one op (primitive_of a) (number_of a)

-- the value of the type that has the number of this one
abbrev pub converted : Primitive → Value → Result Value ConstFault
converted t a = settled t (number_of a)
