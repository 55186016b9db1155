-- What an operator gives on operands that settle in a type without a fault, one of which has no value.
use Rattle.std.proofs.Common.{◌≡◌, ◌∙◌, Bool, true, false, Option, Some, None, List, [], ◌∷◌, ◌++◌, if◌then◌else◌, map, ap, refl, sym, Result, Ok, Err, OnOk}
use Rattle.std.specs.Prelude.{◌&&◌, ◌||◌, not}
use Rattle.std.specs.List.{list_all, list_any}
use Rattle.occ_base.specs.declared.code.Code.TheVariants as code
use Rattle.occ_base.specs.declared.fault.Fault.{Fault}
use Rattle.occ_types.specs.Fits.{fits}
use Rattle.occ_types.specs.declared.constant.Operator.{Operator}
use Rattle.occ_types.specs.declared.types.OccType.{OccType}
use Rattle.occ_types.specs.declared.value.Primitive.{Primitive}
use Rattle.occ_types.specs.declared.value.Primitive.TheVariants as p
use Rattle.occ_types.specs.declared.value.Value.{Value}
use Rattle.occ_typing_operands.specs.Operators.{all_faults, allows, class_of, decided, first_bound, given, is_faulty, is_of, kinds, operated, operated_from, outcome_in, run_in, value_outcome, verdict}
use Rattle.occ_typing_operands.specs.Outcomes.{if_constant, in_type, with_all, worst}
use Rattle.occ_typing_operands.specs.Settling.{Finding, base_of, fault_of, faulty_if, known, landed, landed_or_int, number, settled, settled_untyped, silent}
use Rattle.occ_typing_operands.specs.inside.Varying.{has_value_in, is_absent, is_constant, is_varying, settles, takes_type, varies}
use Rattle.occ_typing_operands.specs.declared.kind.Kind.{Kind}
use Rattle.occ_typing_operands.specs.declared.kind.Kind.TheVariants as k
use Rattle.occ_typing_operands.specs.declared.kind.Known.{Known}
use Rattle.occ_typing_operands.specs.declared.kind.TypedValue.{TypedValue}
use Rattle.occ_typing_operands.specs.declared.kind.TypedValue.TheVariants as o
use Rattle.occ_typing_operands.specs.declared.kind.Untyped.{Untyped}

both : (a b : Bool) → (a && b) ≡ true → (a ≡ true) × (b ≡ true)
both true b h = (refl, h)
both false b h = absurd cc

either : (a b c d : Bool) → (a ≡ true → c ≡ true) → (b ≡ true → d ≡ true) → (a || b) ≡ true → (c || d) ≡ true
either true b c d f g h = ap (λ (x : Bool). x || d) (f refl)
either false b true d f g h = refl
either false b false d f g h = g h

-- ---- an operand that settles takes the type, and no fault is reported of it

abbrev value_of : TypedValue → Option Value
value_of o.Unfit = None
value_of (o.Faulty x) = None
value_of o.Varying = None
value_of (o.Constant v) = Some v

abbrev value_in : Untyped → Option Primitive → Option Value
value_in f None = None
value_in f (Some base) = value_of (in_type f base)

abbrev taken : OccType → Kind → Kind
taken of k.Faulty = k.Faulty
taken of (k.Untyped f) = known of (value_in f (number (base_of of)))
taken of (k.Known x) = k.Known x

abbrev clean : OccType → Kind → Finding
clean of x = record { faults = []; kind = taken of x }

lands : (of : OccType) (f : Untyped) (t : TypedValue) → is_constant t ≡ true
    → faulty_if false (landed_or_int of f t) ≡ record { faults = []; kind = known of (value_of t) }
lands of f (o.Constant v) h = refl
lands of f o.Unfit h = absurd cc
lands of f (o.Faulty x) h = absurd cc
lands of f o.Varying h = absurd cc

lands_in : (of : OccType) (f : Untyped) (needs : Bool) (base : Option Primitive) → (not needs && has_value_in f base) ≡ true
    → faulty_if needs (settled_untyped of f base) ≡ record { faults = []; kind = known of (value_in f base) }
lands_in of f false (Some base) h = lands of f (in_type f base) h
lands_in of f false None h = absurd cc
lands_in of f true base h = absurd cc

one_taken : (of : OccType) (x : Kind) → settles of x ≡ true → settled of x ≡ clean of x
one_taken of k.Faulty h = absurd cc
one_taken of (k.Untyped f) h = lands_in of f f.is_faulty (number (base_of of)) h
one_taken of (k.Known x) h = refl

all_taken : (of : OccType) (xs : List Kind) → list_all (settles of) xs ≡ true → map (settled of) xs ≡ map (clean of) xs
all_taken of [] h = refl
all_taken of (x ∷ xs) h =
    let hs = both (settles of x) (list_all (settles of) xs) h in
    ap (λ (y : Finding). y ∷ map (settled of) xs) (one_taken of x hs.0) ∙ ap (λ (ys : List Finding). clean of x ∷ ys) (all_taken of xs hs.1)

no_faults : (of : OccType) (xs : List Kind) → all_faults (map (clean of) xs) ≡ []
no_faults of [] = refl
no_faults of (x ∷ xs) = no_faults of xs

kinds_taken : (of : OccType) (xs : List Kind) → kinds (map (clean of) xs) ≡ map (taken of) xs
kinds_taken of [] = refl
kinds_taken of (x ∷ xs) = ap (λ (ys : List Kind). taken of x ∷ ys) (kinds_taken of xs)

-- ---- none of them is faulty, and each is of the type

not_faulty : (of : OccType) (xs : List Kind) → list_all (settles of) xs ≡ true → list_any is_faulty (map (taken of) xs) ≡ false
not_faulty of [] h = refl
not_faulty of (k.Faulty ∷ xs) h = absurd cc
not_faulty of (k.Untyped f ∷ xs) h = not_faulty of xs (both (settles of (k.Untyped f)) (list_all (settles of) xs) h).1
not_faulty of (k.Known x ∷ xs) h = not_faulty of xs (both (fits of x.of) (list_all (settles of) xs) h).1

all_of : (of : OccType) (xs : List Kind) → fits of of ≡ true → list_all (settles of) xs ≡ true → list_all (is_of of) (map (taken of) xs) ≡ true
all_of of [] same h = refl
all_of of (k.Faulty ∷ xs) same h = absurd cc
all_of of (k.Untyped f ∷ xs) same h =
    ap (λ (b : Bool). b && list_all (is_of of) (map (taken of) xs)) same
    ∙ all_of of xs same (both (settles of (k.Untyped f)) (list_all (settles of) xs) h).1
all_of of (k.Known x ∷ xs) same h =
    let hs = both (fits of x.of) (list_all (settles of) xs) h in
    ap (λ (b : Bool). b && list_all (is_of of) (map (taken of) xs)) hs.0 ∙ all_of of xs same hs.1

-- ---- what they come to has no value where one of them has none

abbrev is_mild : TypedValue → Bool
is_mild o.Unfit = false
is_mild (o.Faulty x) = false
is_mild o.Varying = true
is_mild (o.Constant v) = true

abbrev is_open : TypedValue → Bool
is_open o.Unfit = false
is_open (o.Faulty x) = false
is_open o.Varying = true
is_open (o.Constant v) = false

stays : (bs : List TypedValue) → list_all is_mild bs ≡ true → worst o.Varying bs ≡ o.Varying
stays [] h = refl
stays (o.Unfit ∷ bs) h = absurd cc
stays (o.Faulty x ∷ bs) h = absurd cc
stays (o.Varying ∷ bs) h = stays bs h
stays (o.Constant v ∷ bs) h = stays bs h

comes_to : (a : TypedValue) (bs : List TypedValue) → list_all is_mild (a ∷ bs) ≡ true → list_any is_open (a ∷ bs) ≡ true → worst a bs ≡ o.Varying
comes_to o.Unfit bs h some = absurd cc
comes_to (o.Faulty x) bs h some = absurd cc
comes_to o.Varying bs h some = stays bs h
comes_to (o.Constant v) [] h some = absurd cc
comes_to (o.Constant v) (b ∷ bs) h some = comes_to b bs h some

value_is_mild : (v : Option Value) → is_mild (value_outcome v) ≡ true
value_is_mild None = refl
value_is_mild (Some v) = refl

value_is_open : (v : Option Value) → is_absent v ≡ true → is_open (value_outcome v) ≡ true
value_is_open None h = refl
value_is_open (Some v) h = absurd cc

abbrev outcomes : OccType → List Kind → List TypedValue
outcomes of xs = map (outcome_in p.Int) (map (taken of) xs)

all_mild : (of : OccType) (xs : List Kind) → list_all (settles of) xs ≡ true → list_all is_mild (outcomes of xs) ≡ true
all_mild of [] h = refl
all_mild of (k.Faulty ∷ xs) h = absurd cc
all_mild of (k.Untyped f ∷ xs) h =
    ap (λ (b : Bool). b && list_all is_mild (outcomes of xs)) (value_is_mild (value_in f (number (base_of of))))
    ∙ all_mild of xs (both (settles of (k.Untyped f)) (list_all (settles of) xs) h).1
all_mild of (k.Known x ∷ xs) h =
    ap (λ (b : Bool). b && list_all is_mild (outcomes of xs)) (value_is_mild x.value)
    ∙ all_mild of xs (both (fits of x.of) (list_all (settles of) xs) h).1

one_open : (of : OccType) (x : Kind) → varies x ≡ true → is_open (outcome_in p.Int (taken of x)) ≡ true
one_open of k.Faulty h = absurd cc
one_open of (k.Untyped f) h = absurd cc
one_open of (k.Known x) h = value_is_open x.value h

some_open : (of : OccType) (xs : List Kind) → list_any varies xs ≡ true → list_any is_open (outcomes of xs) ≡ true
some_open of [] h = absurd cc
some_open of (x ∷ xs) h =
    either (varies x) (list_any varies xs) (is_open (outcome_in p.Int (taken of x))) (list_any is_open (outcomes of xs)) (one_open of x) (some_open of xs) h

no_value : (op : Operator) (of : OccType) (xs : List Kind) → list_any varies xs ≡ true → list_all (settles of) xs ≡ true
    → run_in op p.Int (map (taken of) xs) ≡ o.Varying
no_value op of [] some all = absurd cc
no_value op of (x ∷ xs) some all =
    ap (λ (y : TypedValue). if_constant y (with_all op (outcome_in p.Int (taken of x)) (outcomes of xs)))
    (comes_to (outcome_in p.Int (taken of x)) (outcomes of xs) (all_mild of (x ∷ xs) all) (some_open of (x ∷ xs) some))

-- ---- so what the operator gives is of its type, without a value

abbrev judged_as : Operator → OccType → Bool → Bool → Bool → TypedValue → Finding
judged_as op of faulty takes all value =
    if faulty then silent else (if takes && all then landed (given (class_of op) of) value else fault_of code.T1)

verdict_is : (op : Operator) (of : OccType) (xs : List Kind)
    → allows (class_of op) (base_of of) ≡ true → fits of of ≡ true → list_any varies xs ≡ true → list_all (settles of) xs ≡ true
    → verdict op of (map (taken of) xs) ≡ record { faults = []; kind = known (given (class_of op) of) None }
verdict_is op of xs takes same some all =
    let ys = map (taken of) xs in
    ap (λ (b : Bool). judged_as op of b (allows (class_of op) (base_of of)) (list_all (is_of of) ys) (run_in op p.Int ys)) (not_faulty of xs all)
    ∙ ap (λ (b : Bool). judged_as op of false b (list_all (is_of of) ys) (run_in op p.Int ys)) takes
    ∙ ap (λ (b : Bool). judged_as op of false true b (run_in op p.Int ys)) (all_of of xs same all)
    ∙ ap (λ (y : TypedValue). judged_as op of false true true y) (no_value op of xs some all)

abbrev after : Operator → OccType → List Finding → Finding
after op of ys = let y = verdict op of (kinds ys) in record { faults = all_faults ys ++ y.faults; kind = y.kind }

abbrev with_faults : List Fault → Finding → Finding
with_faults fs y = record { faults = fs ++ y.faults; kind = y.kind }

decided_is : (op : Operator) (of : OccType) (xs : List Kind) → is_varying op of xs ≡ true
    → decided op of xs ≡ record { faults = []; kind = known (given (class_of op) of) None }
unfolding decided
decided_is op of xs h =
    let a = both (takes_type op of && list_any varies xs) (list_all (settles of) xs) h in
    let b = both (takes_type op of) (list_any varies xs) a.0 in
    let c = both (allows (class_of op) (base_of of)) (fits of of) b.0 in
    ap (after op of) (all_taken of xs a.1)
    ∙ ap (λ (fs : List Fault). with_faults fs (verdict op of (kinds (map (clean of) xs)))) (no_faults of xs)
    ∙ ap (λ (ys : List Kind). with_faults [] (verdict op of ys)) (kinds_taken of xs)
    ∙ ap (with_faults []) (verdict_is op of xs c.0 c.1 b.1 a.1)

-- the first that is not free is of a type, and the operands vary in it
varying_operands : (op : Operator) (x : Known) (xs : List Kind) → first_bound xs ≡ Some (k.Known x) → is_varying op x.of xs ≡ true
    → operated op xs ≡ record { faults = []; kind = known (given (class_of op) x.of) None }
varying_operands op x xs first h = ap (λ (y : Option Kind). operated_from y op xs) first ∙ decided_is op x.of xs h

pub varying_type : (op : Operator) (of : OccType) (x : Known) (xs : List Kind) → first_bound xs ≡ Some (k.Known x) → of ≡ x.of → true ≡ is_varying op of xs
    → record { faults = []; kind = known (given (class_of op) x.of) None } ≡ operated op xs
varying_type op of x xs first same h = sym (varying_operands op x xs first (ap (λ (t : OccType). is_varying op t xs) (sym same) ∙ sym h))

-- what holds anyhow holds of an answer
pub anyhow : {T E : Type 0} (r : Result T E) {P : Type 0} → P → OnOk r P
anyhow (Ok x) h = h
anyhow (Err e) h = tt
