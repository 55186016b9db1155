-- What is read of an operand without faults: its type, in which nothing is unknown, and its tree wherever it is placed.
use Rattle.std.proofs.Common.{◌≡◌, ◌∙◌, ◌≤◌, ◌⊎◌, inl, inr, ℕ, Bool, true, false, List, [], Option, Some, None, if◌then◌else◌, refl, sym, subst, arith}
use Rattle.occ_base.specs.declared.code.Code.TheVariants as code
use Rattle.occ_typing_operands.specs.declared.kind.Untyped.{Untyped}
use Rattle.occ_typing_operands.specs.declared.kind.Kind.{Kind}
use Rattle.occ_typing_operands.specs.declared.kind.Kind.TheVariants as k
use Rattle.occ_typing_operands.specs.declared.kind.Known.{Known}
use Rattle.occ_typing_operands.specs.declared.kind.TypedValue.{TypedValue}
use Rattle.occ_typing_operands.specs.declared.kind.TypedValue.TheVariants as o
use Rattle.occ_typing_operands.specs.declared.kind.Wrong.{Wrong}
use Rattle.occ_typing_operands.specs.declared.kind.Wrong.TheVariants as w
use Rattle.occ_typing_operands.specs.Outcomes.{in_type}
use Rattle.occ_typing_operands.specs.Settling.{Finding, base_of, fault_of, faulty_if, int, known, landed, landed_or_int, number, settled, settled_untyped, silent, wrong_faults}
use Rattle.occ_typing_operands.specs.Parts.{component_at, field_reported, field_named, is_constant_outside, mismatched, subscripted, subscripted_array}
use Rattle.occ_typing_operands.specs.Wanting.{fitted, wanted}
use Rattle.occ_typing_rules.specs.Placing.{placed}
use Rattle.occ_typing_rules.specs.declared.open_expr.OpenExpr.{OpenExpr}
use Rattle.occ_types.specs.Fits.{fits, unnamed}
use Rattle.occ_types.specs.Unknown.{any_of, fields_unknown, holds_unknown}
use Rattle.occ_types.specs.View.{as_array, is_unknown}
use Rattle.occ_types.specs.declared.types.Field.{Field}
use Rattle.occ_types.specs.declared.types.OccType.{OccType}
use Rattle.occ_types.specs.declared.value.Primitive.{Primitive}
use Rattle.occ_types.specs.declared.value.Primitive.TheVariants as p
use Rattle.occ_types.proofs.Unknowns.{unknown_primitive}
use Rattle.occ_typing.specs.Known.{IsKnownType}
use Rattle.occ_typing.specs.WholeTrees.{IsWholeExpr}
use Rattle.occ_theorems.proofs.whole.Clean.{Has, back_clean, front_clean}
use Rattle.occ_theorems.proofs.whole.Types.{base_known, depth, field_known, fits_depth, known_is, number_is, parts_hold, unnamed_holds}

-- ---- definitions

-- there is a whole tree of it wherever a type that is known and has so many dimensions or more is wanted
abbrev pub HasTree : ℕ → OpenExpr → Type 0
HasTree n d = (of : OccType) → n ≤ depth of → IsKnownType of → Has IsWholeExpr (placed d of)

abbrev pub IsBad : TypedValue → Type 0
IsBad o.Unfit = Unit {0}
IsBad (o.Faulty x) = Unit {0}
IsBad o.Varying = ⊥
IsBad (o.Constant v) = ⊥

-- an untyped operand that has a fault in each type
abbrev pub IsBadUntyped : Untyped → Type 0
IsBadUntyped f = (p : Primitive) → IsBad (in_type f p)

abbrev pub IsKnown : Kind → Type 0
IsKnown k.Faulty = ⊥
IsKnown (k.Untyped f) = ⊥
IsKnown (k.Known x) = holds_unknown x.of ≡ false

abbrev pub Reads : Kind → OpenExpr → Type 0
Reads k.Faulty d = ⊥
Reads (k.Untyped f) d = ⊥
Reads (k.Known x) d = (holds_unknown x.of ≡ false) × HasTree (depth x.of) d

-- where no type is wanted of it yet
abbrev pub MayRead : Kind → OpenExpr → Type 0
MayRead k.Faulty d = ⊥
MayRead (k.Untyped f) d = (f.is_faulty ≡ false) × (IsBadUntyped f ⊎ HasTree 0 d)
MayRead (k.Known x) d = (holds_unknown x.of ≡ false) × HasTree (depth x.of) d

-- where this type is wanted of it
abbrev pub ReadsAs : OccType → Kind → OpenExpr → Type 0
ReadsAs of k.Faulty d = ⊥
ReadsAs of (k.Untyped f) d = ⊥
ReadsAs of (k.Known x) d = (holds_unknown x.of ≡ false) × (fits of x.of ≡ true) × HasTree (depth x.of) d

-- one of two
abbrev pub chosen : Bool → Finding → Finding → Finding
chosen b x y = if b then x else y

-- ---- what is settled

pub wrong_reported : (x : Wrong) → wrong_faults x ≡ [] → ⊥
wrong_reported w.Count e = absurd cc
wrong_reported w.Value e = absurd cc
wrong_reported w.Both e = absurd cc

-- an operand of this type that comes to something
pub record Lands (of : OccType) (x : TypedValue) (kind : Kind) : Type 0 where
  pub what : Known
  pub is : kind ≡ k.Known what
  pub typed : what.of ≡ of
  pub sound : IsBad x → ⊥

pub lands : (of : OccType) (x : TypedValue) → (landed of x).faults ≡ [] → Lands of x (landed of x).kind
lands of o.Unfit e = absurd cc
lands of (o.Faulty x) e = absurd (wrong_reported x e)
lands of o.Varying e = record { what = record { of = of; value = None }; is = refl; typed = refl; sound = λ h. h }
lands of (o.Constant v) e = record { what = record { of = of; value = Some v }; is = refl; typed = refl; sound = λ h. h }

pub record LandsUntyped (f : Untyped) (kind : Kind) : Type 0 where
  pub what : Known
  pub is : kind ≡ k.Known what
  pub known : holds_unknown what.of ≡ false
  pub sound : IsBadUntyped f → ⊥

lands_untyped : (f : Untyped) (p : Primitive) (of : OccType) (kind : Kind) → holds_unknown of ≡ false → Lands of (in_type f p) kind → LandsUntyped f kind
lands_untyped f p of kind h x = record { what = x.what; is = x.is; known = subst (λ (u : OccType). holds_unknown u ≡ false) (sym x.typed) h; sound = λ bad. x.sound (bad p) }

or_int : (of : OccType) (f : Untyped) (q : Primitive) (x : TypedValue) → holds_unknown of ≡ false → x ≡ in_type f q → (landed_or_int of f x).faults ≡ [] → LandsUntyped f (landed_or_int of f x).kind
or_int of f q o.Unfit h is e = lands_untyped f p.Int int (landed int f.int).kind (unknown_primitive p.Int) (lands int f.int e)
or_int of f q (o.Faulty x) h is e = absurd (wrong_reported x e)
or_int of f q o.Varying h is e = record { what = record { of = of; value = None }; is = refl; known = h; sound = λ bad. subst IsBad (sym is) (bad q) }
or_int of f q (o.Constant v) h is e = record { what = record { of = of; value = Some v }; is = refl; known = h; sound = λ bad. subst IsBad (sym is) (bad q) }

untyped_lands : (of : OccType) (f : Untyped) (base : Option Primitive) → number (base_of of) ≡ base → (settled_untyped of f base).faults ≡ [] → LandsUntyped f (settled_untyped of f base).kind
untyped_lands of f None is e = lands_untyped f p.Int int (landed int f.int).kind (unknown_primitive p.Int) (lands int f.int e)
untyped_lands of f (Some q) is e = or_int of f q (in_type f q) (base_known of q (number_is (base_of of) q is)) refl e

sound_if : (b : Bool) (x : Finding) (f : Untyped) → b ≡ false → (x.faults ≡ [] → LandsUntyped f x.kind) → (faulty_if b x).faults ≡ [] → LandsUntyped f (faulty_if b x).kind
sound_if true x f is next e = absurd cc
sound_if false x f is next e = next e

pub untyped_settles : (of : OccType) (f : Untyped) → f.is_faulty ≡ false → (settled of (k.Untyped f)).faults ≡ [] → LandsUntyped f (settled of (k.Untyped f)).kind
untyped_settles of f is e = sound_if f.is_faulty (settled_untyped of f (number (base_of of))) f is (untyped_lands of f (number (base_of of)) refl) e

-- more dimensions are wanted
pub tree_of_any : (d : OpenExpr) (n : ℕ) → HasTree 0 d → HasTree n d
tree_of_any d n h of e known = h of (omega arith) known

pub settled_tree : (f : Untyped) (d : OpenExpr) → (IsBadUntyped f → ⊥) → IsBadUntyped f ⊎ HasTree 0 d → HasTree 0 d
settled_tree f d sound (inl bad) = absurd (sound bad)
settled_tree f d sound (inr h) = h

pub settled_reads : (of : OccType) (kind : Kind) (d : OpenExpr) → MayRead kind d → (settled of kind).faults ≡ [] → Reads (settled of kind).kind d
settled_reads of k.Faulty d h e = h
settled_reads of (k.Known x) d h e = h
settled_reads of (k.Untyped f) d h e =
    let x = untyped_settles of f h.0 e in
    subst (λ (y : Kind). Reads y d) (sym x.is) (x.known, tree_of_any d (depth x.what.of) (settled_tree f d x.sound h.1))

-- ---- what a type is wanted of

fits_or : (b : Bool) (of : OccType) (x : Known) (d : OpenExpr) → fits of x.of ≡ b → Reads (k.Known x) d
    → (chosen b (record { faults = []; kind = k.Known x }) (fault_of code.T2)).faults ≡ []
    → ReadsAs of (chosen b (record { faults = []; kind = k.Known x }) (fault_of code.T2)).kind d
fits_or true of x d is h e = (h.0, is, h.1)
fits_or false of x d is h e = absurd cc

pub fitted_reads : (of : OccType) (kind : Kind) (d : OpenExpr) → Reads kind d → (fitted of kind).faults ≡ [] → ReadsAs of (fitted of kind).kind d
fitted_reads of k.Faulty d h e = h
fitted_reads of (k.Untyped f) d h e = h
fitted_reads of (k.Known x) d h e = fits_or (fits of x.of) of x d refl h e

pub wanted_reads : (of : OccType) (kind : Kind) (d : OpenExpr) → MayRead kind d → (wanted of kind).faults ≡ [] → ReadsAs of (wanted of kind).kind d
wanted_reads of kind d h e =
    fitted_reads of (settled of kind).kind d
    (settled_reads of kind d h (front_clean (settled of kind).faults (fitted of (settled of kind).kind).faults e))
    (back_clean (settled of kind).faults (fitted of (settled of kind).kind).faults e)

pub int_known : IsKnownType int
int_known = unknown_primitive p.Int

pub placed_as : (of : OccType) (kind : Kind) (d : OpenExpr) → IsKnownType of → ReadsAs of kind d → Has IsWholeExpr (placed d of)
placed_as of k.Faulty d known h = absurd h
placed_as of (k.Untyped f) d known h = absurd h
placed_as of (k.Known x) d known h = let e : depth of ≡ depth x.of = fits_depth of x.of h.1 in h.2 of (omega (arith, e)) known

pub as_known : (of : OccType) (kind : Kind) (d : OpenExpr) → ReadsAs of kind d → IsKnown kind
as_known of k.Faulty d h = h
as_known of (k.Untyped f) d h = h
as_known of (k.Known x) d h = h.0

pub as_read : (of : OccType) (kind : Kind) (d : OpenExpr) → ReadsAs of kind d → Reads kind d
as_read of k.Faulty d h = h
as_read of (k.Untyped f) d h = h
as_read of (k.Known x) d h = (h.0, h.2)

pub read_known : (kind : Kind) (d : OpenExpr) → Reads kind d → IsKnown kind
read_known k.Faulty d h = h
read_known (k.Untyped f) d h = h
read_known (k.Known x) d h = h.0

pub reads_may : (kind : Kind) (d : OpenExpr) → Reads kind d → MayRead kind d
reads_may k.Faulty d h = h
reads_may (k.Untyped f) d h = absurd h
reads_may (k.Known x) d h = h

-- ---- subscripts

outside_or : (b : Bool) (of : OccType) → holds_unknown of ≡ false
    → (chosen b (fault_of code.T6) (record { faults = []; kind = known of None })).faults ≡ []
    → IsKnown (chosen b (fault_of code.T6) (record { faults = []; kind = known of None })).kind
outside_or true of h e = absurd cc
outside_or false of h e = h

component_known : (n : Option ℕ) (of : OccType) (kind : Kind) → holds_unknown of ≡ false → IsKnown kind → (component_at n of kind).faults ≡ [] → IsKnown (component_at n of kind).kind
component_known n of k.Faulty h g e = g
component_known n of (k.Untyped f) h g e = g
component_known n of (k.Known x) h g e = outside_or (is_constant_outside n x.value) of h e

nothing_there : (kind : Kind) → IsKnown kind → (mismatched kind).faults ≡ [] → ⊥
nothing_there k.Faulty h e = h
nothing_there (k.Untyped f) h e = h
nothing_there (k.Known x) h e = absurd cc

subscript_of : (of : OccType) (parts : Option (Option ℕ × OccType)) (kind : Kind) (d : OpenExpr) → holds_unknown of ≡ false → as_array of ≡ parts → MayRead kind d → (subscripted_array parts kind).faults ≡ []
    → IsKnown (subscripted_array parts kind).kind × Has IsWholeExpr (placed d int)
subscript_of of None kind d h is r e =
    absurd (nothing_there (settled int kind).kind
    (read_known (settled int kind).kind d (settled_reads int kind d r (front_clean (settled int kind).faults (mismatched (settled int kind).kind).faults e)))
    (back_clean (settled int kind).faults (mismatched (settled int kind).kind).faults e))
subscript_of of (Some parts) kind d h is r e =
    let x = wanted_reads int kind d r (front_clean (wanted int kind).faults (component_at parts.0 parts.1 (wanted int kind).kind).faults e) in (
      component_known parts.0 parts.1 (wanted int kind).kind (parts_hold of parts is ∙ h) (as_known int (wanted int kind).kind d x)
          (back_clean (wanted int kind).faults (component_at parts.0 parts.1 (wanted int kind).kind).faults e),
      placed_as int (wanted int kind).kind d int_known x,
    )

-- a subscript: what it selects is known, and its place has a whole tree
pub subscripted_reads : (of : OccType) (kind : Kind) (d : OpenExpr) → holds_unknown of ≡ false → MayRead kind d → (subscripted of kind).faults ≡ []
    → IsKnown (subscripted of kind).kind × Has IsWholeExpr (placed d int)
subscripted_reads of kind d h r e = subscript_of (unnamed of) (as_array (unnamed of)) kind d (unnamed_holds of ∙ h) refl r e

unknown_or : (b : Bool) (of : OccType) → b ≡ false → holds_unknown of ≡ false
    → IsKnown (chosen b silent (record { faults = []; kind = known of None })).kind
unknown_or true of is h = absurd cc
unknown_or false of is h = h

pub field_reads : (name : List ℕ) (fields : List Field) (found : Option OccType) → any_of (fields_unknown fields) ≡ false → field_named name fields ≡ found → (field_reported name found).faults ≡ [] → IsKnown (field_reported name found).kind
field_reads name fields None h is e = absurd cc
field_reads name fields (Some of) h is e = let g = field_known name fields of h is in unknown_or (is_unknown of) of (known_is of g) g
