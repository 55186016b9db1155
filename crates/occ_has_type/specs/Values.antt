-- The value of an expression from those of its operands: there is one where all of them have one, and then it has no fault.
use Rattle.std.specs.Prelude.{◌≡◌, ℕ, pos, Option, Some, None, List, [], ◌∷◌, Result, Ok}
use Rattle.occ_types.specs.Constant.{converted, folded, number_value}
use Rattle.occ_types.specs.declared.constant.ConstFault.{ConstFault}
use Rattle.occ_types.specs.declared.constant.Operator.{Operator}
use Rattle.occ_types.specs.declared.value.Primitive.{Primitive}
use Rattle.occ_types.specs.declared.value.Primitive.TheVariants as p
use Rattle.occ_types.specs.declared.value.Value.{Value}

-- it has a value, and this is it
abbrev pub Is : Result Value ConstFault → Option Value → Type 0
Is r v = (c : Value) × (r ≡ Ok c) × (v ≡ Some c)

-- what is made of the value of an operand, if that is constant
abbrev pub IsMade : (Value → Result Value ConstFault) → Option Value → Option Value → Type 0
IsMade f None v = v ≡ None
IsMade f (Some a) v = Is (f a) v

-- from the left, one operator between each two
abbrev pub IsChained : Operator → Value → List Value → Option Value → Type 0
IsChained op a [] v = v ≡ Some a
IsChained op a (b ∷ bs) v = (c : Value) × (folded op a b ≡ Ok c) × IsChained op c bs v

abbrev pub with_value : Option Value → Option (List Value) → Option (List Value)
with_value None vs = None
with_value (Some a) None = None
with_value (Some a) (Some vs) = Some (a ∷ vs)

-- the values of all, if each has one
abbrev pub all_values : List (Option Value) → Option (List Value)
all_values [] = Some []
all_values (v ∷ vs) = with_value v (all_values vs)

abbrev pub IsChain : Operator → Option (List Value) → Option Value → Type 0
IsChain op None v = v ≡ None
IsChain op (Some []) v = ⊥
IsChain op (Some (a ∷ vs)) v = IsChained op a vs v

-- operands with one operator between each two
abbrev pub IsRun : Operator → List (Option Value) → Option Value → Type 0
IsRun op vs v = IsChain op (all_values vs) v

-- a shift, of a value and by one
abbrev pub IsShifted : Operator → Option Value → Option Value → Option Value → Type 0
IsShifted op a None v = v ≡ None
IsShifted op a (Some count) v = IsMade (λ x. folded op x count) a v

-- a value in the type that has this one under its names
abbrev pub IsCast : Option Primitive → Option Value → Option Value → Type 0
IsCast None a v = v ≡ None
IsCast (Some base) a v = IsMade (converted base) a v

-- the number of components of an array as an INT
abbrev pub IsCount : Option ℕ → Option Value → Type 0
IsCount None v = v ≡ None
IsCount (Some n) v = (c : Value) × (number_value p.Int (pos n) ≡ Some c) × (v ≡ Some c)
