-- A table of items that are of one primitive type and faultless is of so many.
use Rattle.std.proofs.Common.{◌≡◌, ◌≢◌, ◌∙◌, ℕ, suc, Bool, true, false, List, [], ◌∷◌, ◌++◌, length, map, Option, Some, None, refl, ap, sym, subst}
use Rattle.std.specs.Prelude.{if◌then◌else◌}
use Rattle.std.specs.List.{list_any}
use Rattle.occ_base.specs.declared.code.Code.TheVariants as code
use Rattle.occ_base.specs.declared.fault.Fault.{Fault}
use Rattle.occ_types.proofs.Agreeing.{as_array_at_array, as_array_at_primitive, as_primitive_at_primitive, fits_of_primitive, is_data_of_primitive, unnamed_of_primitive}
use Rattle.occ_types.specs.Fits.{fits, is_data, primitive_fits}
use Rattle.occ_types.specs.View.{as_array, as_primitive}
use Rattle.occ_types.specs.declared.types.OccType.{OccType}
use Rattle.occ_types.specs.declared.types.OccType.TheVariants as t
use Rattle.occ_types.specs.declared.value.Primitive.{Primitive}
use Rattle.occ_types.specs.declared.value.Primitive.TheVariants as p
use Rattle.occ_types.specs.declared.value.Value.{Value}
use Rattle.occ_typing_operands.specs.Operators.{all_faults, is_faulty, kinds}
use Rattle.occ_typing_operands.specs.Outcomes.{in_type}
use Rattle.occ_typing_operands.specs.Settling.{Finding, base_of, fault_of, faulty_if, known, landed_or_int, number, settled, settled_untyped}
use Rattle.occ_typing_operands.specs.declared.kind.Kind.{Kind}
use Rattle.occ_typing_operands.specs.declared.kind.Kind.TheVariants as k
use Rattle.occ_typing_operands.specs.declared.kind.TypedValue.{TypedValue}
use Rattle.occ_typing_operands.specs.declared.kind.TypedValue.TheVariants as o
use Rattle.occ_typing_operands.specs.declared.kind.Untyped.{Untyped}
use Rattle.occ_typing_tables.proofs.Filling.{filled_itself}
use Rattle.occ_typing_tables.specs.Merging.{filled, merged}
use Rattle.occ_typing_tables.specs.Terms.{Judged, all_under, each_own_or_alone, first_type, fitted_to, has_fault, is_faulty_settled, items_type, joined, merged_all, settled_itself, settled_so, settled_under, so_many, table_type, unless_faulty}
use Rattle.occ_typing_tables.specs.declared.table.Settled.{Settled}
use Rattle.occ_typing_tables.specs.inside.Plain.{ArePlain, IsCounted, IsPlain, is_landed, value_in}

-- ---- a literal

plain_landed : (of : OccType) (f : Untyped) (x : TypedValue) → is_landed x ≡ true → IsPlain of (settled_itself (landed_or_int of f x))
plain_landed of f o.Unfit h = absurd cc
plain_landed of f (o.Faulty y) h = absurd cc
plain_landed of f o.Varying h = refl
plain_landed of f (o.Constant v) h = refl

plain_number : (q : Primitive) (f : Untyped) → is_landed (in_type f q) ≡ true → settled_untyped (t.Primitive q) f (number (Some q)) ≡ landed_or_int (t.Primitive q) f (in_type f q)
plain_number p.Bool f h = absurd cc
plain_number p.Byte f h = refl
plain_number p.Int16 f h = refl
plain_number p.Int f h = refl
plain_number p.Int32 f h = refl
plain_number p.Int64 f h = refl

base_of_primitive : (q : Primitive) → base_of (t.Primitive q) ≡ Some q
base_of_primitive q = ap as_primitive (unnamed_of_primitive q) ∙ as_primitive_at_primitive q

settled_so_far : (q : Primitive) (f : Untyped) → f.is_faulty ≡ false → is_landed (in_type f q) ≡ true → settled (t.Primitive q) (k.Untyped f) ≡ landed_or_int (t.Primitive q) f (in_type f q)
settled_so_far q f a h =
    ap (λ (b : Bool). faulty_if b (settled_untyped (t.Primitive q) f (number (base_of (t.Primitive q))))) a
    ∙ ap (λ (b : Option Primitive). settled_untyped (t.Primitive q) f (number b)) (base_of_primitive q)
    ∙ plain_number q f h

pub plain_untyped : (q : Primitive) (f : Untyped) → f.is_faulty ≡ false → is_landed (in_type f q) ≡ true → IsPlain (t.Primitive q) (settled_itself (settled (t.Primitive q) (k.Untyped f)))
plain_untyped q f a h = subst (λ (x : Finding). IsPlain (t.Primitive q) (settled_itself x)) (sym (settled_so_far q f a h)) (plain_landed (t.Primitive q) f (in_type f q) h)

-- ---- a primitive type agrees with itself

same_primitive : (q : Primitive) → primitive_fits q (Some q) ≡ true
same_primitive p.Bool = refl
same_primitive p.Byte = refl
same_primitive p.Int16 = refl
same_primitive p.Int = refl
same_primitive p.Int32 = refl
same_primitive p.Int64 = refl

fits_itself : (q : Primitive) → fits (t.Primitive q) (t.Primitive q) ≡ true
fits_itself q = fits_of_primitive q (t.Primitive q) ∙ ap (primitive_fits q) (as_primitive_at_primitive q) ∙ same_primitive q

apart : (parts : Option ℕ × OccType) → None ≢ Some parts
apart parts e = absurd cc

no_array : (q : Primitive) (n : Option ℕ) (inner : OccType) → t.Primitive q ≢ t.Array n inner
no_array q n inner e = apart (n, inner) (sym (as_array_at_primitive q) ∙ ap as_array e ∙ as_array_at_array n inner)

merged_itself : (q : Primitive) → merged (t.Primitive q) (t.Primitive q) ≡ Some (t.Primitive q)
merged_itself q =
    ap (λ (b : Bool). if b then Some (filled (t.Primitive q) (t.Primitive q)) else None) (fits_itself q)
    ∙ ap Some (filled_itself (t.Primitive q) (t.Primitive q) (no_array q))

-- ---- the items

abbrev found : OccType → Option Value → Finding
found of v = record { faults = []; kind = known of v }

abbrev values : OccType → List Judged → List (Option Value)
values of [] = []
values of (x ∷ xs) = value_in (x.settled of).kind ∷ values of xs

none_is_faulty : (of : OccType) (xs : List Judged) → ArePlain of xs → list_any is_faulty_settled (map (settled_under of) xs) ≡ false
none_is_faulty of [] h = refl
none_is_faulty of (x ∷ xs) h =
    let e : (x.settled of).is_faulty ≡ false = ap (λ (y : Settled). y.is_faulty) h.0 in
    rw e (none_is_faulty of xs h.1)

one_fits : (of : OccType) (y : Settled) → fits of of ≡ true → IsPlain of y → fitted_to of y ≡ found of (value_in y.kind)
one_fits of y f h =
    ap (fitted_to of) h
    ∙ ap (λ (b : Bool). let z = (if b then found of (value_in y.kind) else fault_of code.T2) in record { faults = [] ++ z.faults; kind = z.kind }) f

each_fits : (of : OccType) (xs : List Judged) → fits of of ≡ true → ArePlain of xs → map (fitted_to of) (map (settled_under of) xs) ≡ map (found of) (values of xs)
each_fits of [] f h = refl
each_fits of (x ∷ xs) f h =
    ap (λ (z : Finding). z ∷ map (fitted_to of) (map (settled_under of) xs)) (one_fits of (x.settled of) f h.0)
    ∙ ap (λ (zs : List Finding). found of (value_in (x.settled of).kind) ∷ zs) (each_fits of xs f h.1)

-- ---- the table

no_faults : (of : OccType) (vs : List (Option Value)) → all_faults (map (found of) vs) ≡ []
no_faults of [] = refl
no_faults of (v ∷ vs) = no_faults of vs

no_faulty : (of : OccType) (vs : List (Option Value)) → list_any is_faulty (kinds (map (found of) vs)) ≡ false
no_faulty of [] = refl
no_faulty of (v ∷ vs) = no_faulty of vs

as_many : (of : OccType) (xs : List Judged) → length (kinds (map (found of) (values of xs))) ≡ length xs
as_many of [] = refl
as_many of (x ∷ xs) = ap suc (as_many of xs)

first_is : (of : OccType) (vs : List (Option Value)) → first_type of (kinds (map (found of) vs)) ≡ of
first_is of [] = refl
first_is of (v ∷ vs) = refl

all_agree : (of : OccType) (vs : List (Option Value)) → merged of of ≡ Some of → merged_all (Some of) (kinds (map (found of) vs)) ≡ Some of
all_agree of [] m = refl
all_agree of (v ∷ vs) m = ap (λ (o : Option OccType). merged_all o (kinds (map (found of) vs))) m ∙ all_agree of vs m

type_of_items : (of : OccType) (xs : List Judged) → merged of of ≡ Some of → is_data of ≡ true → items_type of (kinds (map (found of) (values of xs))) ≡ so_many (length xs) of
type_of_items of xs m d =
    let ks : List Kind = kinds (map (found of) (values of xs)) in
    ap (λ (u : OccType). table_type (length ks) (merged_all (Some u) ks)) (first_is of (values of xs))
    ∙ ap (table_type (length ks)) (all_agree of (values of xs) m)
    ∙ ap (λ (n : ℕ). table_type n (Some of)) (as_many of xs)
    ∙ ap (λ (b : Bool). if b then so_many (length xs) of else fault_of code.T2) d

joined_items : (of : OccType) (xs : List Judged) → merged of of ≡ Some of → is_data of ≡ true → joined of (map (found of) (values of xs)) ≡ so_many (length xs) of
joined_items of xs m d =
    let zs : List Finding = map (found of) (values of xs) in
    let whole : Finding = items_type of (kinds zs) in
    ap (λ (fs : List Fault). record { faults = fs ++ (unless_faulty (kinds zs) whole).faults; kind = (unless_faulty (kinds zs) whole).kind }) (no_faults of (values of xs))
    ∙ ap (λ (b : Bool). let y = (if b then record { faults = []; kind = k.Faulty } else whole) in record { faults = [] ++ y.faults; kind = y.kind }) (no_faulty of (values of xs))
    ∙ type_of_items of xs m d

under_is : (from_outside : Bool) (of : OccType) (xs : List Judged) → fits of of ≡ true → merged of of ≡ Some of → is_data of ≡ true → ArePlain of xs → all_under from_outside of xs ≡ so_many (length xs) of
under_is from_outside of xs f m d h =
    let ys : List Settled = map (settled_under of) xs in
    ap (λ (b : Bool). joined of (if b then each_own_or_alone from_outside (list_any has_fault xs) ys xs else map (fitted_to of) ys)) (none_is_faulty of xs h)
    ∙ ap (joined of) (each_fits of xs f h)
    ∙ joined_items of xs m d

pub counted : (q : Primitive) (xs : List Judged) (n : ℕ) → length xs ≡ n → ArePlain (t.Primitive q) xs → IsCounted n (t.Primitive q) xs
counted q xs n is h from_outside =
    ap (λ (x : Finding). settled_so x (list_any is_faulty_settled (map (settled_under (t.Primitive q)) xs))) (under_is from_outside (t.Primitive q) xs (fits_itself q) (merged_itself q) (is_data_of_primitive q) h)
    ∙ ap (settled_so (so_many (length xs) (t.Primitive q))) (none_is_faulty (t.Primitive q) xs h)
    ∙ ap (λ (i : ℕ). settled_so (so_many i (t.Primitive q)) false) is
