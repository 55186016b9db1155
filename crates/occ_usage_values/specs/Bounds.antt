-- What the specifications in scope are for the uses of parts. Each has the number of those round it.
use Rattle.std.specs.Prelude.{ℕ, ℤ, Bool, true, false, Option, Some, None, List, []}
use Rattle.occ_usage_parts.specs.Selecting.{whole}
use Rattle.occ_usage_parts.specs.declared.place.SelectedPart.{SelectedPart}
use Rattle.occ_types.specs.declared.interface.Effect.{Effect}
use Rattle.occ_types.specs.declared.interface.Effect.TheVariants as effect
use Rattle.occ_types.specs.declared.value.Value.{Value}
use Rattle.occ_usage_values.specs.declared.bound.Bound.{Bound}
use Rattle.occ_usage_values.specs.declared.bound.Bound.TheVariants as b
use Rattle.occ_usage_values.specs.declared.uses.Use.{Use}

-- those in scope, the outermost first
abbrev pub Env : Type 0
Env = List Bound

abbrev pub value_of : Option Bound → Option Value
value_of (Some (b.Value v size reads)) = v
value_of (Some (b.Root name)) = None
value_of (Some (b.Abbreviation place size reads)) = None
value_of (Some (b.Body uses does)) = None
value_of (Some b.Other) = None
value_of None = None

abbrev pub size_of : Option Bound → Option ℤ
size_of (Some (b.Value v size reads)) = size
size_of (Some (b.Root name)) = None
size_of (Some (b.Abbreviation place size reads)) = size
size_of (Some (b.Body uses does)) = None
size_of (Some b.Other) = None
size_of None = None

-- what the name of the specification with this number stands for
abbrev pub place_of : ℕ → Option Bound → Option SelectedPart
place_of number (Some (b.Root name)) = Some (whole number)
place_of number (Some (b.Abbreviation place size reads)) = place
place_of number (Some (b.Value v size reads)) = None
place_of number (Some (b.Body uses does)) = None
place_of number (Some b.Other) = None
place_of number None = None

abbrev pub body_of : Option Bound → List Use
body_of (Some (b.Body uses does)) = uses
body_of (Some (b.Root name)) = []
body_of (Some (b.Value v size reads)) = []
body_of (Some (b.Abbreviation place size reads)) = []
body_of (Some b.Other) = []
body_of None = []

abbrev pub has_effect : Effect → Bool
has_effect effect.Some = true
has_effect effect.None = false

abbrev pub effect_of : Option Bound → Bool
effect_of (Some (b.Body uses does)) = has_effect does
effect_of (Some (b.Root name)) = false
effect_of (Some (b.Value v size reads)) = false
effect_of (Some (b.Abbreviation place size reads)) = false
effect_of (Some b.Other) = false
effect_of None = false
