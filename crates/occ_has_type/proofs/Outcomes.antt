-- What operators come to: where it is good, that of each operand is, and it is made of theirs.
use Rattle.std.proofs.Common.{◌≡◌, Bool, List, [], ◌∷◌, map, Option, Some, None, refl, ap, sym, subst}
use Rattle.std.specs.Prelude.{Result, Ok, Err}
use Rattle.occ_typing_operands.specs.Outcomes.{applied, fitting, if_constant, in_each, in_type, outcome_of, run, shifted, with_all, worse, worst}
use Rattle.occ_typing_operands.specs.declared.kind.TypedValue.{TypedValue}
use Rattle.occ_typing_operands.specs.declared.kind.TypedValue.TheVariants as o
use Rattle.occ_typing_rules.specs.Placing.{constant_in}
use Rattle.occ_types.specs.Constant.{folded, folded_one}
use Rattle.occ_types.specs.declared.constant.ConstFault.{ConstFault}
use Rattle.occ_types.specs.declared.constant.Monadic.{Monadic}
use Rattle.occ_types.specs.declared.constant.Operator.{Operator}
use Rattle.occ_types.specs.declared.value.Primitive.{Primitive}
use Rattle.occ_types.specs.declared.value.Primitive.TheVariants as p
use Rattle.occ_types.specs.declared.value.Value.{Value}
use Rattle.occ_has_type.specs.Values.{IsChain, IsChained, IsMade, IsRun, IsShifted, all_values, with_value}
use Rattle.occ_has_type.proofs.Means.{IsGood, good_outcome}

-- ---- in each type

pub each_good : (b : Bool) (report : Primitive → TypedValue) (base : Primitive) → IsGood (in_type (in_each b report) base) → in_type (in_each b report) base ≡ report base
each_good b report p.Bool h = absurd h
each_good b report p.Byte h = refl
each_good b report p.Int h = refl
each_good b report p.Int16 h = refl
each_good b report p.Int32 h = refl
each_good b report p.Int64 h = refl

pub record Fit (x : Option Value) : Type 0 where
  pub value : Value
  pub is : x ≡ Some value
  pub shown : constant_in (fitting x) ≡ Some value

pub fitting_good : (x : Option Value) → IsGood (fitting x) → Fit x
fitting_good None h = absurd h
fitting_good (Some v) h = record { value = v; is = refl; shown = refl }

-- ---- one operand

pub applied_good : (op : Monadic) (x : TypedValue) → IsGood (applied op x) → IsGood x × IsMade (folded_one op) (constant_in x) (constant_in (applied op x))
applied_good op o.Unfit h = absurd h
applied_good op (o.Faulty w) h = absurd h
applied_good op o.Varying h = (tt, refl)
applied_good op (o.Constant a) h = (tt, good_outcome (folded_one op a) h)

pub shifted_good : (op : Operator) (count : Option Value) (x : TypedValue) → IsGood (shifted op count x) → IsGood x × IsShifted op (constant_in x) count (constant_in (shifted op count x))
shifted_good op None o.Unfit h = absurd h
shifted_good op (Some c) o.Unfit h = absurd h
shifted_good op None (o.Faulty w) h = absurd h
shifted_good op (Some c) (o.Faulty w) h = absurd h
shifted_good op None o.Varying h = (tt, refl)
shifted_good op (Some c) o.Varying h = (tt, refl)
shifted_good op None (o.Constant a) h = (tt, refl)
shifted_good op (Some c) (o.Constant a) h = (tt, good_outcome (folded op a c) h)

-- ---- several

abbrev pub AllGood : List TypedValue → Type 0
AllGood [] = Unit {0}
AllGood (x ∷ xs) = IsGood x × AllGood xs

good_worse : (a b : TypedValue) → IsGood (worse a b) → IsGood a × IsGood b
good_worse o.Unfit b h = absurd h
good_worse (o.Faulty x) o.Unfit h = absurd h
good_worse (o.Faulty x) (o.Faulty y) h = absurd h
good_worse (o.Faulty x) o.Varying h = absurd h
good_worse (o.Faulty x) (o.Constant v) h = absurd h
good_worse o.Varying o.Unfit h = absurd h
good_worse o.Varying (o.Faulty y) h = absurd h
good_worse o.Varying o.Varying h = (tt, tt)
good_worse o.Varying (o.Constant v) h = (tt, tt)
good_worse (o.Constant u) b h = (tt, h)

good_worst : (a : TypedValue) (bs : List TypedValue) → IsGood (worst a bs) → AllGood (a ∷ bs)
good_worst a [] h = (h, tt)
good_worst a (b ∷ bs) h = let x = good_worst (worse a b) bs h in let y = good_worse a b x.0 in (y.0, (y.1, x.1))

good_if : (a value : TypedValue) → IsGood (if_constant a value) → IsGood a
good_if o.Unfit value h = h
good_if (o.Faulty x) value h = h
good_if o.Varying value h = tt
good_if (o.Constant v) value h = tt

pub run_all_good : (op : Operator) (a : TypedValue) (bs : List TypedValue) → IsGood (run op a bs) → AllGood (a ∷ bs)
run_all_good op a bs h = good_worst a bs (good_if (worst a bs) (with_all op a bs) h)

-- one of them varies
varying_none : (a : TypedValue) (bs : List TypedValue) → worst a bs ≡ o.Varying → all_values (map constant_in (a ∷ bs)) ≡ None
varying_none o.Unfit [] is = refl
varying_none (o.Faulty x) [] is = refl
varying_none o.Varying [] is = refl
varying_none (o.Constant v) [] is = absurd cc
varying_none o.Unfit (b ∷ bs) is = refl
varying_none (o.Faulty x) (b ∷ bs) is = refl
varying_none o.Varying (b ∷ bs) is = refl
varying_none (o.Constant v) (b ∷ bs) is = ap (with_value (Some v)) (varying_none b bs is)

never_constant : (bs : List TypedValue) (u : Value) → worst o.Varying bs ≡ o.Constant u → ⊥
never_constant [] u is = cc
never_constant (o.Unfit ∷ bs) u is = (good_worst o.Unfit bs (subst IsGood (sym is) tt)).0
never_constant (o.Faulty x ∷ bs) u is = (good_worst (o.Faulty x) bs (subst IsGood (sym is) tt)).0
never_constant (o.Varying ∷ bs) u is = never_constant bs u is
never_constant (o.Constant v ∷ bs) u is = never_constant bs u is

-- all of them are constant
record Constants (xs : List TypedValue) : Type 0 where
  values : List Value
  are : xs ≡ map o.Constant values

constants : (a : TypedValue) (bs : List TypedValue) (u : Value) → worst a bs ≡ o.Constant u → Constants (a ∷ bs)
constants o.Unfit bs u is = absurd (good_worst o.Unfit bs (subst IsGood (sym is) tt)).0
constants (o.Faulty x) bs u is = absurd (good_worst (o.Faulty x) bs (subst IsGood (sym is) tt)).0
constants o.Varying bs u is = absurd (never_constant bs u is)
constants (o.Constant v) [] u is = record { values = v ∷ []; are = refl }
constants (o.Constant v) (b ∷ bs) u is = let x = constants b bs u is in record { values = v ∷ x.values; are = ap (λ (zs : List TypedValue). o.Constant v ∷ zs) x.are }

values_back : (vs : List Value) → all_values (map constant_in (map o.Constant vs)) ≡ Some vs
values_back [] = refl
values_back (v ∷ vs) = ap (with_value (Some v)) (values_back vs)

faulty_stays : (op : Operator) (e : ConstFault) (xs : List TypedValue) → IsGood (with_all op (outcome_of (Err e)) xs) → ⊥
faulty_stays op e [] h = h
faulty_stays op e (x ∷ xs) h = faulty_stays op e xs h

chained : (op : Operator) (v : Value) (vs : List Value) → IsGood (with_all op (o.Constant v) (map o.Constant vs)) → IsChained op v vs (constant_in (with_all op (o.Constant v) (map o.Constant vs)))
chained op v [] h = refl
chained op v (w ∷ ws) h = by (λ c. chained op c ws) (folded op v w) refl h where
  by : ((c : Value) → IsGood (with_all op (o.Constant c) (map o.Constant ws)) → IsChained op c ws (constant_in (with_all op (o.Constant c) (map o.Constant ws))))
      → (r : Result Value ConstFault) → folded op v w ≡ r → IsGood (with_all op (outcome_of r) (map o.Constant ws))
      → (c : Value) × (folded op v w ≡ Ok c) × IsChained op c ws (constant_in (with_all op (outcome_of r) (map o.Constant ws)))
  by below (Ok c) is g = (c, is, below c g)
  by below (Err e) is g = absurd (faulty_stays op e (map o.Constant ws) g)

chain_all : (op : Operator) (vs : List Value) (a : TypedValue) (bs : List TypedValue) → a ∷ bs ≡ map o.Constant vs → IsGood (with_all op a bs) → IsRun op (map constant_in (a ∷ bs)) (constant_in (with_all op a bs))
chain_all op [] a bs is h = absurd cc
chain_all op (v ∷ vs) a bs is h =
    let first : a ≡ o.Constant v = cc (is) in
    let others : bs ≡ map o.Constant vs = cc (is) in
    let to = λ (x : TypedValue) (xs : List TypedValue). IsGood (with_all op x xs) → IsChain op (all_values (map constant_in (x ∷ xs))) (constant_in (with_all op x xs)) in
    let there : to (o.Constant v) (map o.Constant vs)
    = λ g. subst (λ (z : Option (List Value)). IsChain op z (constant_in (with_all op (o.Constant v) (map o.Constant vs)))) (sym (values_back (v ∷ vs))) (chained op v vs g) in
    subst (λ (x : TypedValue). to x bs) (sym first) (subst (λ (xs : List TypedValue). to (o.Constant v) xs) (sym others) there) h

pub run_good : (op : Operator) (a : TypedValue) (bs : List TypedValue) → IsGood (run op a bs) → IsRun op (map constant_in (a ∷ bs)) (constant_in (run op a bs))
run_good op a bs h = by (worst a bs) refl h where
  by : (w : TypedValue) → worst a bs ≡ w → IsGood (if_constant w (with_all op a bs)) → IsRun op (map constant_in (a ∷ bs)) (constant_in (if_constant w (with_all op a bs)))
  by o.Unfit is g = absurd g
  by (o.Faulty x) is g = absurd g
  by o.Varying is g = subst (λ (z : Option (List Value)). IsChain op z None) (sym (varying_none a bs is)) refl
  by (o.Constant u) is g = let x = constants a bs u is in chain_all op x.values a bs x.are g
