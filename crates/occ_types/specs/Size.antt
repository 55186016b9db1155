-- The bytes of a type.
use Rattle.std.specs.Prelude.{ℕ, ◌+◌, ◌*◌, min, nat_le, cond, Bool, true, false, not, Option, Some, None, List, [], ◌∷◌}
use Rattle.occ_types.specs.declared.types.Item.TheOpen.{OccType-F, Field-F}
use Rattle.occ_types.specs.declared.types.Item.TheFolds.{fold-OccType}
use Rattle.occ_types.specs.declared.types.OccType.{OccType}
use Rattle.occ_types.specs.declared.types.Field.{Field}
use Rattle.occ_types.specs.declared.value.Primitive.{Primitive}
use Rattle.occ_types.specs.declared.value.Primitive.TheVariants as p

abbrev pub primitive_size : Primitive → ℕ
primitive_size p.Bool = 1
primitive_size p.Byte = 1
primitive_size p.Int16 = 2
primitive_size p.Int = 4
primitive_size p.Int32 = 4
primitive_size p.Int64 = 8

-- so many of one size; none where the number is not known or what is repeated has no size
abbrev pub product_of : Option ℕ → Option ℕ → Option ℕ
product_of (Some n) (Some s) = Some (n * s)
product_of (Some n) None = None
product_of None s = None

abbrev pub sum_of : Option ℕ → Option ℕ → Option ℕ
sum_of (Some a) (Some b) = Some (a + b)
sum_of (Some a) None = None
sum_of None b = None

-- the sizes of all, added
abbrev pub total_of : List (Option ℕ) → Option ℕ
total_of [] = Some 0
total_of (s ∷ ss) = sum_of s (total_of ss)

abbrev pub type_step : OccType-F (Unit {0}) (Option ℕ) (Unit {0}) (Option ℕ) (Unit {0}) → Option ℕ
type_step (OccType-F.Primitive primitive) = Some (primitive_size primitive)
type_step (OccType-F.Array n s) = product_of n s
type_step (OccType-F.Record packing ss) = total_of ss
type_step (OccType-F.Named name s) = s
type_step (OccType-F.Channel c) = None
type_step OccType-F.Timer = None
type_step OccType-F.Unknown = None

abbrev pub field_step : Field-F (Unit {0}) (Option ℕ) (Unit {0}) (Option ℕ) (Unit {0}) → Option ℕ
field_step f = f.of

-- the bytes of a type, none where it is or holds a channel, a timer or an unknown type, or has an open dimension
abbrev pub size_of : OccType → Option ℕ
size_of = fold-OccType (Unit {0}) (Option ℕ) (Unit {0}) (Option ℕ) (Unit {0}) (λ _. tt) type_step (λ _. tt) field_step (λ _. tt)

abbrev pub field_size : Field → Option ℕ
field_size f = size_of f.of

abbrev pub field_sizes : List Field → List (Option ℕ)
field_sizes [] = []
field_sizes (f ∷ fs) = field_size f ∷ field_sizes fs

-- the bytes that a type is said to have: none over 2147483647
abbrev pub bytes_in : Option ℕ → Option ℕ
bytes_in (Some n) = cond (nat_le n 2147483647) (Some n) None
bytes_in None = None

-- over 2147483647
abbrev pub is_over : Option ℕ → Bool
is_over None = false
is_over (Some n) = not (nat_le n 2147483647)

-- n, or 2147483648 where n is more
abbrev pub cut : ℕ → ℕ
cut n = min n 2147483648

abbrev pub capped : Option ℕ → Option ℕ
capped (Some n) = Some (cut n)
capped None = None
