-- Where nothing is reported, and this is known: of findings, and of what takes a type.
use Rattle.std.proofs.Common.{◌≡◌, ◌∙◌, ◌++◌, Bool, true, false, List, [], ◌∷◌, map, Option, Some, None, refl, ap, sym, subst}
use Rattle.std.specs.Prelude.{Result}
use Rattle.occ_base.specs.declared.code.Code.TheVariants as code
use Rattle.occ_base.specs.declared.fault.Fault.{Fault}
use Rattle.occ_expr_operations.specs.Parts.{after}
use Rattle.occ_typing_operands.specs.Operators.{value_outcome}
use Rattle.occ_typing_operands.specs.Outcomes.{applied, if_constant, in_type, outcome_of, run, shifted, with_all, worst}
use Rattle.occ_typing_operands.specs.Settling.{Finding, base_of, fault_of, faulty_if, known, landed, landed_or_int, number, settled, settled_untyped}
use Rattle.occ_typing_operands.specs.Wanting.{cast, fitted, wanted}
use Rattle.occ_typing_operands.specs.declared.kind.Untyped.{Untyped}
use Rattle.occ_typing_operands.specs.declared.kind.Kind.{Kind}
use Rattle.occ_typing_operands.specs.declared.kind.Kind.TheVariants as k
use Rattle.occ_typing_operands.specs.declared.kind.TypedValue.{TypedValue}
use Rattle.occ_typing_operands.specs.declared.kind.TypedValue.TheVariants as o
use Rattle.occ_typing_tables.specs.Terms.{and_then}
use Rattle.occ_types.specs.Constant.{converted, folded, folded_one}
use Rattle.occ_types.specs.Fits.{fits}
use Rattle.occ_types.specs.declared.constant.ConstFault.{ConstFault}
use Rattle.occ_types.specs.declared.constant.Monadic.{Monadic}
use Rattle.occ_types.specs.declared.constant.Operator.{Operator}
use Rattle.occ_types.specs.declared.types.OccType.{OccType}
use Rattle.occ_types.specs.declared.value.Primitive.{Primitive}
use Rattle.occ_types.specs.declared.value.Value.{Value}
use Rattle.occ_has_type.specs.Values.{Is, IsCast, IsChain, IsChained, IsMade, IsRun, IsShifted, all_values, with_value}
use Rattle.occ_has_type.proofs.Fitting.{base_there, second_same}
use Rattle.occ_has_type.proofs.Means.{chosen}

-- nothing is reported, and this is known
abbrev pub Finds : OccType → Option Value → Finding → Type 0
Finds of value x = (x.faults ≡ []) × (x.kind ≡ known of value)

pub both_clean : {X : Type 0} (xs ys : List X) → xs ≡ [] → ys ≡ [] → xs ++ ys ≡ []
both_clean xs ys a b = ap (λ zs. zs ++ ys) a ∙ b

pub then_finds : (x : Finding) (next : Kind → Finding) (of to : OccType) (inner value : Option Value) → Finds of inner x → Finds to value (next (known of inner)) → Finds to value (and_then x next)
then_finds x next of to inner value h g =
    let there : Finds to value (next x.kind) = subst (λ (z : Kind). Finds to value (next z)) (sym h.1) g in
    (both_clean x.faults (next x.kind).faults h.0 there.0, there.1)

pub after_finds : (fs : List Fault) (x : Finding) (of : OccType) (value : Option Value) → fs ≡ [] → Finds of value x → Finds of value (after fs x)
after_finds fs x of value is h = (both_clean fs x.faults is h.0, h.1)

pub true_finds : (b : Bool) (x : Finding) (y : Finding) (of : OccType) (value : Option Value) → b ≡ true → Finds of value x → Finds of value (chosen b x y)
true_finds true x y of value is h = h
true_finds false x y of value is h = absurd cc

pub false_finds : (b : Bool) (x : Finding) (y : Finding) (of : OccType) (value : Option Value) → b ≡ false → Finds of value y → Finds of value (chosen b x y)
false_finds true x y of value is h = absurd cc
false_finds false x y of value is h = h

pub value_finds : (of : OccType) (value : Option Value) → Finds of value (landed of (value_outcome value))
value_finds of None = (refl, refl)
value_finds of (Some v) = (refl, refl)

pub landed_finds : (of : OccType) (x : TypedValue) (value : Option Value) → x ≡ value_outcome value → Finds of value (landed of x)
landed_finds of x value is = subst (λ (z : TypedValue). Finds of value (landed of z)) (sym is) (value_finds of value)

-- ---- what a kind comes to

-- what is free comes to the value in the type, and what is not is of the type
abbrev pub Comes : Bool → OccType → Option Value → Kind → Type 0
Comes free of value k.Faulty = ⊥
Comes free of value (k.Untyped f) = (free ≡ true) × (f.is_faulty ≡ false) × (base : Primitive) × (number (base_of of) ≡ Some base) × (in_type f base ≡ value_outcome value)
Comes free of value (k.Known x) = (free ≡ false) × (k.Known x ≡ known of value)

faulty_finds : (b : Bool) (x : Finding) (of : OccType) (value : Option Value) → b ≡ false → Finds of value x → Finds of value (faulty_if b x)
faulty_finds true x of value is h = absurd cc
faulty_finds false x of value is h = h

or_int_finds : (of : OccType) (f : Untyped) (value : Option Value) → Finds of value (landed_or_int of f (value_outcome value))
or_int_finds of f None = (refl, refl)
or_int_finds of f (Some v) = (refl, refl)

untyped_finds : (of : OccType) (f : Untyped) (base : Option Primitive) (inner : Primitive) (value : Option Value) → base ≡ Some inner → in_type f inner ≡ value_outcome value → Finds of value (settled_untyped of f base)
untyped_finds of f base inner value is at =
    subst (λ (z : Option Primitive). Finds of value (settled_untyped of f z)) (sym is) (subst (λ (z : TypedValue). Finds of value (landed_or_int of f z)) (sym at) (or_int_finds of f value))

pub settled_finds : (free : Bool) (to of : OccType) (value : Option Value) (kind : Kind) → Comes free of value kind → (free ≡ true → to ≡ of) → Finds of value (settled to kind)
settled_finds free to of value k.Faulty h same = absurd h
settled_finds free to of value (k.Untyped f) h same =
    let there : Finds of value (settled of (k.Untyped f))
    = faulty_finds f.is_faulty (settled_untyped of f (number (base_of of))) of value h.1 (untyped_finds of f (number (base_of of)) h.2 value h.3 h.4) in
    subst (λ (z : OccType). Finds of value (settled z (k.Untyped f))) (sym (same h.0)) there
settled_finds free to of value (k.Known x) h same = (refl, h.1)

pub fitted_finds : (to of : OccType) (value : Option Value) → fits to of ≡ true → Finds of value (fitted to (known of value))
fitted_finds to of value is = true_finds (fits to of) (record { faults = []; kind = known of value }) (fault_of code.T2) of value is (refl, refl)

-- a free one that fits a type is of it
pub free_same : (free : Bool) (to of : OccType) (value : Option Value) (kind : Kind) → Comes free of value kind → fits to of ≡ true → free ≡ true → to ≡ of
free_same free to of value k.Faulty h fit is = absurd h
free_same free to of value (k.Untyped f) h fit is = let x = base_there (base_of of) h.2 h.3 in second_same to of x.0 x.1 fit
free_same free to of value (k.Known x) h fit is = absurd cc (h.0, is)

pub wanted_finds : (free : Bool) (to of : OccType) (value : Option Value) (kind : Kind) → Comes free of value kind → fits to of ≡ true → Finds of value (wanted to kind)
wanted_finds free to of value kind h fit =
    then_finds (settled to kind) (fitted to) of of value value (settled_finds free to of value kind h (free_same free to of value kind h fit)) (fitted_finds to of value fit)

-- ---- values

pub made_outcome : (r : Result Value ConstFault) (value : Option Value) → Is r value → outcome_of r ≡ value_outcome value
made_outcome r value h = ap outcome_of h.1 ∙ sym (ap value_outcome h.2)

pub applied_comes : (op : Monadic) (operand value : Option Value) → IsMade (folded_one op) operand value → applied op (value_outcome operand) ≡ value_outcome value
applied_comes op None value h = sym (ap value_outcome h)
applied_comes op (Some a) value h = made_outcome (folded_one op a) value h

pub shifted_comes : (op : Operator) (left count value : Option Value) → IsShifted op left count value → shifted op count (value_outcome left) ≡ value_outcome value
shifted_comes op None None value h = sym (ap value_outcome h)
shifted_comes op (Some a) None value h = sym (ap value_outcome h)
shifted_comes op None (Some b) value h = sym (ap value_outcome h)
shifted_comes op (Some a) (Some b) value h = made_outcome (folded op a b) value h

pub cast_comes : (base : Option Primitive) (inner value : Option Value) → IsCast base inner value → cast base inner ≡ value_outcome value
cast_comes None inner value h = sym (ap value_outcome h)
cast_comes (Some base) None value h = sym (ap value_outcome h)
cast_comes (Some base) (Some a) value h = made_outcome (converted base a) value h

chained_comes : (op : Operator) (a : Value) (vs : List Value) (value : Option Value) → IsChained op a vs value → with_all op (o.Constant a) (map o.Constant vs) ≡ value_outcome value
chained_comes op a [] value h = sym (ap value_outcome h)
chained_comes op a (b ∷ vs) value h = ap (λ (r : Result Value ConstFault). with_all op (outcome_of r) (map o.Constant vs)) h.1 ∙ chained_comes op h.0 vs value h.2

-- either one varies, or all are constant
record Worst (x : TypedValue) (a : Option Value) (vs : List (Option Value)) : Type 0 where
  varies : all_values (a ∷ vs) ≡ None → x ≡ o.Varying
  constant : (ws : List Value) → all_values (a ∷ vs) ≡ Some ws → (u : Value) × (x ≡ o.Constant u)

varying_stays : (vs : List (Option Value)) → worst o.Varying (map value_outcome vs) ≡ o.Varying
varying_stays [] = refl
varying_stays (None ∷ vs) = varying_stays vs
varying_stays (Some v ∷ vs) = varying_stays vs

none_with : (a : Value) (o : Option (List Value)) → with_value (Some a) o ≡ None → o ≡ None
none_with a None is = refl
none_with a (Some ws) is = absurd cc

some_with : (a : Value) (o : Option (List Value)) (ws : List Value) → with_value (Some a) o ≡ Some ws → (vs : List Value) × (o ≡ Some vs) × (ws ≡ a ∷ vs)
some_with a None ws is = absurd cc
some_with a (Some vs) ws is = (vs, refl, cc (is))

worst_is : (a : Option Value) (vs : List (Option Value)) → Worst (worst (value_outcome a) (map value_outcome vs)) a vs
worst_is None vs = record { varies = λ _. varying_stays vs; constant = λ ws is. absurd cc }
worst_is (Some a) [] = record { varies = λ is. absurd cc; constant = λ ws is. (a, refl) }
worst_is (Some a) (b ∷ vs) = let x = worst_is b vs in record {
  varies = λ is. x.varies (none_with a (all_values (b ∷ vs)) is);
  constant = λ ws is. let y = some_with a (all_values (b ∷ vs)) ws is in x.constant y.0 y.1;
}

constants_are : (vs : List (Option Value)) (ws : List Value) → all_values vs ≡ Some ws → map value_outcome vs ≡ map o.Constant ws
constants_are [] [] is = refl
constants_are [] (w ∷ ws) is = absurd cc
constants_are (None ∷ vs) ws is = absurd cc
constants_are (Some a ∷ vs) ws is =
    let y = some_with a (all_values vs) ws is in
    ap (λ (zs : List TypedValue). o.Constant a ∷ zs) (constants_are vs y.0 y.1) ∙ sym (ap (map o.Constant) y.2)

run_constant : (op : Operator) (a : Option Value) (vs : List (Option Value)) (ws : List Value) (value : Option Value) → all_values (a ∷ vs) ≡ Some ws → IsChain op (Some ws) value
    → with_all op (value_outcome a) (map value_outcome vs) ≡ value_outcome value
run_constant op a vs [] value is h = absurd h
run_constant op a vs (w ∷ ws) value is h =
    let same = constants_are (a ∷ vs) (w ∷ ws) is in
    let first : value_outcome a ≡ o.Constant w = cc (same) in
    let others : map value_outcome vs ≡ map o.Constant ws = cc (same) in
    ap (λ (z : TypedValue). with_all op z (map value_outcome vs)) first ∙ ap (with_all op (o.Constant w)) others ∙ chained_comes op w ws value h

pub run_comes : (op : Operator) (a : Option Value) (vs : List (Option Value)) (value : Option Value) → IsRun op (a ∷ vs) value → run op (value_outcome a) (map value_outcome vs) ≡ value_outcome value
run_comes op a vs value h = by (all_values (a ∷ vs)) refl h where
  by : (ws : Option (List Value)) → all_values (a ∷ vs) ≡ ws → IsChain op ws value → run op (value_outcome a) (map value_outcome vs) ≡ value_outcome value
  by None is g = ap (λ (z : TypedValue). if_constant z (with_all op (value_outcome a) (map value_outcome vs))) ((worst_is a vs).varies is) ∙ sym (ap value_outcome g)
  by (Some ws) is g = ap (λ (z : TypedValue). if_constant z (with_all op (value_outcome a) (map value_outcome vs))) ((worst_is a vs).constant ws is).1 ∙ run_constant op a vs ws value is g
