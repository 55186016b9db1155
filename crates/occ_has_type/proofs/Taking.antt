-- Operands and tables that take a type, or stand alone: nothing is reported of them, and this is known.
use Rattle.std.proofs.Common.{◌≡◌, ◌∙◌, ◌||◌, ℕ, suc, Bool, true, false, List, [], ◌∷◌, map, length, Option, Some, None, refl, ap, sym, subst}
use Rattle.std.specs.List.{list_any}
use Rattle.std.specs.Prelude.{nat_le}
use Rattle.occ_base.specs.declared.code.Code.TheVariants as code
use Rattle.occ_expr_operations.specs.Operations.{converted, plain}
use Rattle.occ_forms_expressions.specs.declared.tree.Expr.{Expr}
use Rattle.occ_typing_operands.specs.Operators.{all_faults, is_faulty, kinds}
use Rattle.occ_typing_operands.specs.Settling.{Finding, base_of, fault_of, int, known, landed, settled, silent}
use Rattle.occ_typing_operands.specs.Wanting.{cast, conversion, converted_from, converts, fitted}
use Rattle.occ_typing_operands.specs.declared.kind.Kind.{Kind}
use Rattle.occ_typing_operands.specs.declared.kind.Kind.TheVariants as k
use Rattle.occ_typing_tables.specs.Extents.{arrayed, is_too_large}
use Rattle.occ_typing_tables.specs.Terms.{Judged, after_first, all_under, each_own_or_alone, each_under, first_settled, first_type, fitted_to, has_fault, is_faulty_settled, is_untyped_kind, items_type, joined, judged, judged_all, merged_all, reported_of, settled_under, so_many, table_alone, table_of, table_settled, table_type, unless_faulty, with_items}
use Rattle.occ_typing_tables.specs.declared.table.Settled.{Settled}
use Rattle.occ_typing_tables.specs.declared.term.Term.{Term}
use Rattle.occ_typing_tables.specs.declared.term.Term.TheVariants as v
use Rattle.occ_typing_tables.proofs.Judging.{judged_single, judged_table}
use Rattle.occ_types.specs.Fits.{fits, is_data}
use Rattle.occ_types.specs.View.{as_array}
use Rattle.occ_types.specs.declared.types.OccType.{OccType}
use Rattle.occ_types.specs.declared.types.OccType.TheVariants as t
use Rattle.occ_types.specs.declared.value.Value.{Value}
use Rattle.occ_has_type.specs.Free.{is_free}
use Rattle.occ_has_type.specs.Types.{IsAlone, IsArray, agreed, merged_with}
use Rattle.occ_has_type.specs.Values.{IsCast}
use Rattle.occ_has_type.proofs.Finding.{Comes, Finds, both_clean, cast_comes, false_finds, fitted_finds, free_same, landed_finds, settled_finds, then_finds, true_finds, wanted_finds}
use Rattle.occ_has_type.proofs.Reading.{findings_if, same_merged, types_in}

-- ---- one operand

-- where this type is wanted of it
pub record Done (free : Bool) (to of : OccType) (value : Option Value) (j : Judged) : Type 0 where
  pub wanted : Finds of value (j.under to)
  pub clean : (j.settled to).faults ≡ []
  pub is : (j.settled to).kind ≡ known of value
  pub sound : (j.settled to).is_faulty ≡ false
  pub fit : fits to of ≡ true
  pub untyped : j.is_untyped ≡ free

-- where none is
pub record Stands (of : OccType) (value : Option Value) (j : Judged) : Type 0 where
  pub by_itself : Finds of value j.alone
  pub clean : (j.beside false).faults ≡ []
  pub plain : Finds of value (settled int (j.beside false).kind)

untyped_is : (free : Bool) (of : OccType) (value : Option Value) (kind : Kind) → Comes free of value kind → is_untyped_kind kind ≡ free
untyped_is free of value k.Faulty h = absurd h
untyped_is free of value (k.Untyped f) h = sym h.0
untyped_is free of value (k.Known x) h = sym h.0

pub single_done : (free : Bool) (to of : OccType) (value : Option Value) (kind : Kind) → Comes free of value kind → fits to of ≡ true → Done free to of value (judged (v.Single kind))
single_done free to of value kind h fit =
    let x = settled_finds free to of value kind h (free_same free to of value kind h fit) in
    subst (Done free to of value) (sym (judged_single kind))
    (record { wanted = wanted_finds free to of value kind h fit; clean = x.0; is = x.1; sound = ap is_faulty x.1; fit = fit; untyped = untyped_is free of value kind h })

pub single_stands : (free : Bool) (of : OccType) (value : Option Value) (kind : Kind) → Comes free of value kind → IsAlone free of → Stands of value (judged (v.Single kind))
single_stands free of value kind h alone =
    let x = settled_finds free int of value kind h (λ is. sym (alone is)) in
    subst (Stands of value) (sym (judged_single kind)) (record { by_itself = x; clean = refl; plain = x })

-- ---- items

-- of each this type is wanted
abbrev pub AllDone : OccType → List Expr → List OccType → List Judged → Type 0
AllDone to [] [] [] = Unit {0}
AllDone to (e ∷ es) (of ∷ types) (j ∷ js) = ((value : Option Value) × Done (is_free e) to of value j) × AllDone to es types js
AllDone to _ _ _ = ⊥

all_sound : (to : OccType) (es : List Expr) (types : List OccType) (js : List Judged) → AllDone to es types js → list_any is_faulty_settled (map (settled_under to) js) ≡ false
all_sound to [] [] [] h = refl
all_sound to [] [] (j ∷ js) h = absurd h
all_sound to [] (of ∷ types) js h = absurd h
all_sound to (e ∷ es) [] js h = absurd h
all_sound to (e ∷ es) (of ∷ types) [] h = absurd h
all_sound to (e ∷ es) (of ∷ types) (j ∷ js) h = ap (λ (b : Bool). b || list_any is_faulty_settled (map (settled_under to) js)) h.0.1.sound ∙ all_sound to es types js h.1

one_fitted : (to of : OccType) (value : Option Value) (y : Settled) → y.faults ≡ [] → y.kind ≡ known of value → fits to of ≡ true → Finds of value (fitted_to to y)
one_fitted to of value y clean is fit = then_finds (reported_of y) (fitted to) of of value value (clean, is) (fitted_finds to of value fit)

-- what is found of items that fit
pub record Fitted (es : List Expr) (types : List OccType) (xs : List Finding) : Type 0 where
  pub clean : all_faults xs ≡ []
  pub sound : list_any is_faulty (kinds xs) ≡ false
  pub types_are : types_in (kinds xs) ≡ types
  pub many : length (kinds xs) ≡ length es

one_more : (e : Expr) (es : List Expr) (of : OccType) (types : List OccType) (value : Option Value) (x : Finding) (xs : List Finding) → Finds of value x → Fitted es types xs → Fitted (e ∷ es) (of ∷ types) (x ∷ xs)
one_more e es of types value x xs h g = record {
  clean = both_clean x.faults (all_faults xs) h.0 g.clean;
  sound = ap (λ (z : Kind). is_faulty z || list_any is_faulty (kinds xs)) h.1 ∙ g.sound;
  types_are = ap (λ (z : Kind). types_in (z ∷ kinds xs)) h.1 ∙ ap (λ (zs : List OccType). of ∷ zs) g.types_are;
  many = ap suc g.many;
}

all_fitted : (to : OccType) (es : List Expr) (types : List OccType) (js : List Judged) → AllDone to es types js → Fitted es types (map (fitted_to to) (map (settled_under to) js))
all_fitted to [] [] [] h = record { clean = refl; sound = refl; types_are = refl; many = refl }
all_fitted to [] [] (j ∷ js) h = absurd h
all_fitted to [] (of ∷ types) js h = absurd h
all_fitted to (e ∷ es) [] js h = absurd h
all_fitted to (e ∷ es) (of ∷ types) [] h = absurd h
all_fitted to (e ∷ es) (of ∷ types) (j ∷ js) h =
    one_more e es of types h.0.0 (fitted_to to (j.settled to)) (map (fitted_to to) (map (settled_under to) js)) (one_fitted to of h.0.0 (j.settled to) h.0.1.clean h.0.1.is h.0.1.fit) (all_fitted to es types js h.1)

fitted_if : (es : List Expr) (types : List OccType) (b : Bool) (xs ys : List Finding) → b ≡ false → Fitted es types ys → Fitted es types (findings_if b xs ys)
fitted_if es types true xs ys is h = absurd cc
fitted_if es types false xs ys is h = h

pub each_fitted : (outside : Bool) (to : OccType) (es : List Expr) (types : List OccType) (js : List Judged) → AllDone to es types js → Fitted es types (each_under outside to js)
each_fitted outside to es types js h =
    fitted_if es types (list_any is_faulty_settled (map (settled_under to) js)) (each_own_or_alone outside (list_any has_fault js) (map (settled_under to) js) js) (map (fitted_to to) (map (settled_under to) js)) (all_sound to es types js h) (all_fitted to es types js h)

pub items_finds : (xs : List Finding) (whole : Finding) (of : OccType) (value : Option Value) → all_faults xs ≡ [] → list_any is_faulty (kinds xs) ≡ false → Finds of value whole → Finds of value (with_items xs whole)
items_finds xs whole of value clean sound h =
    let y = false_finds (list_any is_faulty (kinds xs)) silent whole of value sound h in
    (both_clean (all_faults xs) (unless_faulty (kinds xs) whole).faults clean y.0, y.1)

-- the one type of items that are known
first_merged : (to : OccType) (ks : List Kind) (of : OccType) → list_any is_faulty ks ≡ false → agreed (types_in ks) ≡ Some of → merged_all (Some (first_type to ks)) ks ≡ Some of
first_merged to [] of sound is = absurd cc
first_merged to (k.Faulty ∷ ks) of sound is = absurd cc
first_merged to (k.Untyped f ∷ ks) of sound is = same_merged (Some (first_type to ks)) (k.Untyped f ∷ ks) ∙ untyped_agreed to ks of is where
  untyped_agreed : (to : OccType) (ks : List Kind) (of : OccType) → agreed (types_in ks) ≡ Some of → merged_with (Some (first_type to ks)) (types_in ks) ≡ Some of
  untyped_agreed to [] of is = absurd cc
  untyped_agreed to (k.Faulty ∷ ks) of is = untyped_agreed to ks of is
  untyped_agreed to (k.Untyped f ∷ ks) of is = untyped_agreed to ks of is
  untyped_agreed to (k.Known x ∷ ks) of is = is
first_merged to (k.Known x ∷ ks) of sound is = same_merged (Some x.of) (k.Known x ∷ ks) ∙ is

type_finds : (n : ℕ) (of : OccType) → IsArray n of → Finds (t.Array (Some n) of) None (table_type n (Some of))
type_finds n of h =
    true_finds (is_data of) (so_many n of) (fault_of code.T2) (t.Array (Some n) of) None h.data_inside
    (true_finds (nat_le n 4294967295) (arrayed (Some n) of) (fault_of code.T9) (t.Array (Some n) of) None h.counted
    (false_finds (is_too_large (t.Array (Some n) of)) (fault_of code.T9) (record { faults = []; kind = known (t.Array (Some n) of) None }) (t.Array (Some n) of) None h.small (refl, refl)))

joined_finds : (es : List Expr) (types : List OccType) (to of : OccType) (xs : List Finding) → Fitted es types xs → agreed types ≡ Some of → IsArray (length es) of → Finds (t.Array (Some (length es)) of) None (joined to xs)
joined_finds es types to of xs h is small =
    let ks = kinds xs in
    let merged : merged_all (Some (first_type to ks)) ks ≡ Some of = first_merged to ks of h.sound (ap agreed h.types_are ∙ is) in
    items_finds xs (items_type to ks) (t.Array (Some (length es)) of) None h.clean h.sound
    (subst (λ (o : Option OccType). Finds (t.Array (Some (length es)) of) None (table_type (length ks) o)) (sym merged)
    (subst (λ (n : ℕ). Finds (t.Array (Some (length es)) of) None (table_type n (Some of))) (sym h.many) (type_finds (length es) of small)))

pub under_finds : (outside : Bool) (to of : OccType) (es : List Expr) (types : List OccType) (js : List Judged) → AllDone to es types js → agreed types ≡ Some of → IsArray (length es) of
    → Finds (t.Array (Some (length es)) of) None (all_under outside to js)
under_finds outside to of es types js h is small = joined_finds es types to of (each_under outside to js) (each_fitted outside to es types js h) is small

-- ---- tables

settled_parts : (js : List Judged) (of : OccType) (parts : Option (Option ℕ × OccType)) (some : Option ℕ × OccType) → parts ≡ Some some → Finds of None (all_under true some.1 js) → list_any is_faulty_settled (map (settled_under some.1) js) ≡ false
    → ((table_of js parts).faults ≡ []) × ((table_of js parts).kind ≡ known of None) × ((table_of js parts).is_faulty ≡ false)
settled_parts js of parts some is h sound = subst (λ (z : Option (Option ℕ × OccType)). ((table_of js z).faults ≡ []) × ((table_of js z).kind ≡ known of None) × ((table_of js z).is_faulty ≡ false)) (sym is) (h.0, h.1, sound)

pub table_done : (to of : OccType) (parts : Option ℕ × OccType) (es : List Expr) (types : List OccType) (xs : List Term) → as_array to ≡ Some parts → AllDone parts.1 es types (judged_all xs) → agreed types ≡ Some of → IsArray (length es) of
    → fits to (t.Array (Some (length es)) of) ≡ true → Done false to (t.Array (Some (length es)) of) None (judged (v.Table xs))
table_done to of parts es types xs at h is small fit =
    let js = judged_all xs in
    let array = t.Array (Some (length es)) of in
    let y = settled_parts js array (as_array to) parts at (under_finds true parts.1 of es types js h is small) (all_sound parts.1 es types js h) in
    subst (Done false to array None) (sym (judged_table xs))
    (record { wanted = one_fitted to array None (table_settled js to) y.0 y.1 fit; clean = y.0; is = y.1; sound = y.2; fit = fit; untyped = refl })

-- the first item that is not free
pub FirstIs : OccType → List Judged → Type 0
FirstIs to js = (value : Option Value) × Finds to value (first_settled js)

pub free_first : (to : OccType) (j : Judged) (js : List Judged) → j.is_untyped ≡ true → FirstIs to js → FirstIs to (j ∷ js)
unfolding FirstIs
free_first to j js is h = (h.0, true_finds j.is_untyped (first_settled js) j.alone to h.0 is h.1)

pub typed_first : (to : OccType) (value : Option Value) (j : Judged) (js : List Judged) → j.is_untyped ≡ false → Finds to value j.alone → FirstIs to (j ∷ js)
unfolding FirstIs
typed_first to value j js is h = (value, false_finds j.is_untyped (first_settled js) j.alone to value is h)

pub none_first : FirstIs int []
unfolding FirstIs
none_first = (None, (refl, refl))

pub alone_finds : (to of : OccType) (es : List Expr) (types : List OccType) (js : List Judged) → FirstIs to js → AllDone to es types js → agreed types ≡ Some of → IsArray (length es) of → Finds (t.Array (Some (length es)) of) None (table_alone js)
unfolding FirstIs
alone_finds to of es types js first h is small =
    then_finds (first_settled js) (after_first js) to (t.Array (Some (length es)) of) first.0 None first.1 (under_finds false to of es types js h is small)

pub table_stands : (of : OccType) (xs : List Term) → Finds of None (table_alone (judged_all xs)) → Stands of None (judged (v.Table xs))
table_stands of xs h = subst (Stands of None) (sym (judged_table xs)) (record { by_itself = h; clean = h.0; plain = (kind_clean (table_alone (judged_all xs)).kind h.1, kind_settled (table_alone (judged_all xs)).kind h.1) }) where
  kind_clean : (kind : Kind) → kind ≡ known of None → (settled int kind).faults ≡ []
  kind_clean kind is = ap (λ (z : Kind). (settled int z).faults) is

  kind_settled : (kind : Kind) → kind ≡ known of None → (settled int kind).kind ≡ known of None
  kind_settled kind is = ap (λ (z : Kind). (settled int z).kind) is

-- ---- conversions

pub converted_finds : (to of : OccType) (inner value : Option Value) (j : Judged) → Stands of inner j → converts to of ≡ true → IsCast (base_of to) inner value → Finds to value (converted (Some to) j)
unfolding converted plain
converted_finds to of inner value j h is made =
    let kind = (j.beside false).kind in
    let there : Finds to value (conversion to kind)
    = then_finds (settled int kind) (converted_from to) of to inner value h.plain
    (true_finds (converts to of) (landed to (cast (base_of to) inner)) (fault_of code.T2) to value is (landed_finds to (cast (base_of to) inner) value (cast_comes (base_of to) inner value made))) in
    (both_clean (j.beside false).faults (conversion to kind).faults h.clean there.0, there.1)
