-- What is wanted of literals where types are written out.
use Rattle.std.proofs.Common.{◌≡◌, ◌∙◌, ◌++◌, ℕ, Bool, if◌then◌else◌, Option, Some, [], ap}
use Rattle.occ_base.specs.declared.code.Code.TheVariants as code
use Rattle.occ_types.specs.Fits.{fits, primitive_fits}
use Rattle.occ_types.specs.View.{as_array, as_primitive}
use Rattle.occ_types.specs.declared.types.OccType.{OccType}
use Rattle.occ_types.specs.declared.types.OccType.TheVariants as t
use Rattle.occ_types.specs.declared.value.Primitive.{Primitive}
use Rattle.occ_types.specs.declared.value.Primitive.TheVariants as p
use Rattle.occ_types.specs.declared.value.Value.{Value}
use Rattle.occ_types.proofs.Agreeing.{as_array_at_array, as_primitive_at_primitive, fits_of_primitive, unnamed_of_array, unnamed_of_primitive}
use Rattle.occ_typing_operands.specs.Parts.{component_at, subscripted, subscripted_array}
use Rattle.occ_typing_operands.specs.Settling.{Finding, base_of, fault_of, faulty_if, int, known, number, settled_untyped}
use Rattle.occ_typing_operands.specs.Wanting.{fitted, wanted}
use Rattle.occ_typing_operands.specs.declared.kind.Untyped.{Untyped}
use Rattle.occ_typing_operands.specs.declared.kind.Kind.TheVariants as k

base_of_primitive : (p : Primitive) → base_of (t.Primitive p) ≡ Some p
base_of_primitive p = ap as_primitive (unnamed_of_primitive p) ∙ as_primitive_at_primitive p

fits_primitive : (p q : Primitive) → fits (t.Primitive p) (t.Primitive q) ≡ primitive_fits p (Some q)
fits_primitive p q = fits_of_primitive p (t.Primitive q) ∙ ap (primitive_fits p) (as_primitive_at_primitive q)

abbrev fitted_from : OccType → Finding → Finding
fitted_from of x = let y = fitted of x.kind in record { faults = x.faults ++ y.faults; kind = y.kind }

-- a literal that settles in one primitive type, where another one or the same is wanted
pub wanted_literal : (p q : Primitive) (f : Untyped) (value : Option Value)
    → faulty_if f.is_faulty (settled_untyped (t.Primitive p) f (number (Some p))) ≡ record { faults = []; kind = known (t.Primitive q) value }
    → wanted (t.Primitive p) (k.Untyped f) ≡ (if primitive_fits p (Some q) then record { faults = []; kind = known (t.Primitive q) value } else fault_of code.T2)
wanted_literal p q f value h =
    ap (λ (z : Option Primitive). fitted_from (t.Primitive p) (faulty_if f.is_faulty (settled_untyped (t.Primitive p) f (number z)))) (base_of_primitive p)
    ∙ ap (fitted_from (t.Primitive p)) h
    ∙ ap (λ (b : Bool). if b then record { faults = []; kind = known (t.Primitive q) value } else fault_of code.T2) (fits_primitive p q)

-- a place in an array, where it settles as an INT of this value
pub component_of : (n : Option ℕ) (of : OccType) (f : Untyped) (value : Option Value)
    → faulty_if f.is_faulty (settled_untyped int f (Some p.Int)) ≡ record { faults = []; kind = known int value }
    → subscripted (t.Array n of) (k.Untyped f) ≡ component_at n of (known int value)
component_of n of f value h =
    ap (λ (z : Option (Option ℕ × OccType)). subscripted_array z (k.Untyped f)) (ap as_array (unnamed_of_array n of) ∙ as_array_at_array n of)
    ∙ ap (λ (x : Finding). let y = component_at n of x.kind in record { faults = x.faults ++ y.faults; kind = y.kind }) (wanted_literal p.Int p.Int f value h)
