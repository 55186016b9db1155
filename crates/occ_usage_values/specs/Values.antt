-- Values and numbers of components that are perhaps not known. What has a fault has none.
use Rattle.std.specs.Prelude.{ℕ, ℤ, pos, negsuc, ◌-ℤ◌, int_le, ◌&&◌, Option, Some, None, List, [], ◌∷◌, Result, Ok, Err, if◌then◌else◌}
use Rattle.occ_usage_parts.specs.Places.{near}
use Rattle.occ_types.specs.Constant as constant
use Rattle.occ_types.specs.Fits.{unnamed}
use Rattle.occ_types.specs.View.{as_primitive}
use Rattle.occ_types.specs.declared.constant.ConstFault.{ConstFault}
use Rattle.occ_types.specs.declared.constant.Monadic.{Monadic}
use Rattle.occ_types.specs.declared.constant.Operator.{Operator}
use Rattle.occ_types.specs.declared.types.OccType.{OccType}
use Rattle.occ_types.specs.declared.value.Primitive.{Primitive}
use Rattle.occ_types.specs.declared.value.Value.{Value}
use Rattle.occ_types.specs.declared.value.Value.TheVariants as v
use Rattle.occ_usage_values.specs.Bounds.{Env}

-- by the types, or else by what stands in scope
abbrev pub known_or : {X : Type 0} → Option X → Option X → Option X
known_or (Some x) y = Some x
known_or None y = y

abbrev pub if_good : Result Value ConstFault → Option Value
if_good (Ok x) = Some x
if_good (Err fault) = None

-- ---- what operators give

abbrev pub both : Operator → Option Value → Option Value → Option Value
both op None y = None
both op (Some x) None = None
both op (Some x) (Some y) = if_good (constant.folded op x y)

abbrev pub one : Monadic → Option Value → Option Value
one op None = None
one op (Some x) = if_good (constant.folded_one op x)

abbrev pub converted_base : Option Primitive → Option Value → Option Value
converted_base None x = None
converted_base (Some base) None = None
converted_base (Some base) (Some x) = if_good (constant.converted base x)

-- in another type
abbrev pub converted_to : OccType → Option Value → Option Value
converted_to of x = converted_base (as_primitive (unnamed of)) x

-- from left to right, after a first one
abbrev pub folded_after : Operator → Option Value → List (Env → Option Value) → Env → Option Value
folded_after op found [] env = found
folded_after op found (x ∷ xs) env = folded_after op (both op found (x env)) xs env

-- ---- numbers of components

abbrev pub int_in : Value → Option ℤ
int_in (v.Bool x) = None
int_in (v.Byte x) = None
int_in (v.Int16 x) = None
int_in (v.Int x) = Some x
int_in (v.Int32 x) = None
int_in (v.Int64 x) = None

-- the number that a value of INT is
abbrev pub int_of : Option Value → Option ℤ
int_of None = None
int_of (Some x) = int_in x

-- a number of components as a value: none over the range of INT
abbrev pub size_value : Option ℤ → Option Value
size_value None = None
size_value (Some n) = if int_le (negsuc 2147483647) n && int_le n (pos 2147483647) then Some (v.Int n) else None

-- So many less those before a place. It may be below 0, as the count of a segment may; one of over 64 bits, which no text reaches, is
-- not known.
abbrev pub less : Option ℤ → Option ℤ → Option ℤ
less None base = None
less (Some n) None = None
less (Some n) (Some base) = near (n -ℤ base)

-- as the type reports it, or else as it is known here
abbrev pub whole : Option ℕ → Option ℤ → Option ℤ
whole (Some n) here = Some (pos n)
whole None here = here
