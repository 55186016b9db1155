-- A place that is known to be an INT is not asked for its type again.
use Rattle.std.proofs.Common.{◌≡◌, ◌∙◌, ℕ, Bool, true, false, Option, Some, None, [], if◌then◌else◌, ◌++◌, ap, refl}
use Rattle.occ_base.specs.declared.code.Code.TheVariants as code
use Rattle.occ_types.specs.Fits.{fits, primitive_fits}
use Rattle.occ_types.specs.View.{as_primitive}
use Rattle.occ_types.specs.declared.types.OccType.{OccType}
use Rattle.occ_types.specs.declared.value.Primitive.{Primitive}
use Rattle.occ_types.specs.declared.value.Primitive.TheVariants as p
use Rattle.occ_types.proofs.Agreeing.{fits_of_primitive}
use Rattle.occ_typing_operands.specs.Operators.{is_int}
use Rattle.occ_typing_operands.specs.Parts.{component, component_at}
use Rattle.occ_typing_operands.specs.Settling.{Finding, fault_of, faulty_if, int, known, landed_or_int}
use Rattle.occ_types.specs.declared.value.Value.{Value}
use Rattle.occ_typing_operands.specs.Outcomes.{in_type}
use Rattle.occ_typing_operands.specs.declared.kind.TypedValue.{TypedValue}
use Rattle.occ_typing_operands.specs.declared.kind.TypedValue.TheVariants as o
use Rattle.occ_typing_operands.specs.declared.kind.Untyped.{Untyped}
use Rattle.occ_typing_operands.proofs.Plain.{wanted_literal}
use Rattle.occ_typing_operands.specs.declared.kind.Known.{Known}
use Rattle.occ_typing_operands.specs.declared.kind.Kind.TheVariants as k

same_as_int : (base : Option Primitive) → primitive_fits p.Int base ≡ is_int base
same_as_int None = refl
same_as_int (Some p.Bool) = refl
same_as_int (Some p.Byte) = refl
same_as_int (Some p.Int16) = refl
same_as_int (Some p.Int) = refl
same_as_int (Some p.Int32) = refl
same_as_int (Some p.Int64) = refl

fits_int : (of : OccType) → fits int of ≡ is_int (as_primitive of)
fits_int of = fits_of_primitive p.Int of ∙ same_as_int (as_primitive of)

abbrev at : Option ℕ → OccType → Finding → Finding
at count of x = let y = component_at count of x.kind in record { faults = x.faults ++ y.faults; kind = y.kind }

pub settled_place : (count : Option ℕ) (of : OccType) (x : Known) → is_int (as_primitive x.of) ≡ true
    → component count of (k.Known x) ≡ component_at count of (k.Known x)
settled_place count of x h =
    ap (λ (b : Bool). at count of (if b then record { faults = []; kind = k.Known x } else fault_of code.T2)) (fits_int x.of ∙ h)

pub literal_place : (f : Untyped) (v : Value) → f.is_faulty ≡ false → in_type f p.Int ≡ o.Constant v → (count : Option ℕ) (of : OccType)
    → component count of (k.Untyped f) ≡ component_at count of (known int (Some v))
literal_place f v free is count of =
    ap (at count of)
    (wanted_literal p.Int p.Int f (Some v)
    (ap (λ (b : Bool). faulty_if b (landed_or_int int f (in_type f p.Int))) free ∙ ap (λ (t : TypedValue). faulty_if false (landed_or_int int f t)) is))
