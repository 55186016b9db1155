-- Operators: what they give on operands of which the relation says what is known.
use Rattle.std.proofs.Common.{◌≡◌, ◌∙◌, ◌⊎◌, ◌&&◌, ◌||◌, inl, inr, Bool, true, false, List, [], ◌∷◌, map, Option, Some, None, if◌then◌else◌, refl, ap, sym, subst}
use Rattle.std.specs.List.{list_all, list_any}
use Rattle.std.specs.Prelude.{not}
use Rattle.occ_base.specs.declared.code.Code.{Code}
use Rattle.occ_base.specs.declared.code.Code.TheVariants as code
use Rattle.occ_forms_expressions.specs.declared.tree.Operand.{Operand}
use Rattle.occ_scope.specs.declared.scope.Scope.{Scope}
use Rattle.occ_typing_operands.specs.Operators.{allows, class_of, decided, first_bound, front_operated, given, is_arithmetic, is_faulty, is_int, is_not, is_of, is_there, kinds, known_count, needs_faulty, not_number, not_untyped, operated, operated_from, outcome_in, run_in, shift_operated, shifted_by, takes, value_outcome}
use Rattle.occ_typing_operands.specs.Outcomes.{applied, fitting, in_each, in_type, misshifted, shifted}
use Rattle.occ_typing_operands.specs.Settling.{Finding, base_of, fault_of, int, landed, number, settled, silent}
use Rattle.occ_typing_operands.specs.declared.kind.Untyped.{Untyped}
use Rattle.occ_typing_operands.specs.declared.kind.Kind.{Kind}
use Rattle.occ_typing_operands.specs.declared.kind.Kind.TheVariants as k
use Rattle.occ_typing_operands.specs.declared.kind.Known.{Known}
use Rattle.occ_typing_operands.specs.declared.kind.TypedValue.{TypedValue}
use Rattle.occ_typing_operands.specs.declared.kind.TypedValue.TheVariants as o
use Rattle.occ_typing_operands.specs.declared.operate.Class.{Class}
use Rattle.occ_typing_operands.specs.declared.operate.Class.TheVariants as c
use Rattle.occ_typing_rules.specs.Placing.{constant_in}
use Rattle.occ_types.specs.Constant.{folded_one}
use Rattle.occ_types.specs.Fits.{fits}
use Rattle.occ_types.specs.View.{as_primitive}
use Rattle.occ_types.specs.declared.constant.Monadic.{Monadic}
use Rattle.occ_types.specs.declared.constant.Monadic.TheVariants as m
use Rattle.occ_types.specs.declared.constant.Operator.{Operator}
use Rattle.occ_types.specs.declared.types.OccType.{OccType}
use Rattle.occ_types.specs.declared.value.Primitive.{Primitive}
use Rattle.occ_types.specs.declared.value.Primitive.TheVariants as p
use Rattle.occ_types.specs.declared.value.Value.{Value}
use Rattle.occ_types.proofs.Agreeing.{as_primitive_at_primitive, unnamed_of_primitive}
use Rattle.occ_has_type.specs.Free.{are_free, is_free_operand}
use Rattle.occ_has_type.specs.Types.{AreOperands, IsChosen, IsNumber, OperandHasType}
use Rattle.occ_has_type.specs.Types as has
use Rattle.occ_has_type.specs.Values.{IsMade, IsRun, IsShifted}
use Rattle.occ_has_type.proofs.Fitting.{both_true, first_same, number_fits, primitive_is}
use Rattle.occ_has_type.proofs.Means.{FreeMeans, Has, IsGood, Knows, Means, Settles, chosen, knows_as, settles, value_back}
use Rattle.occ_has_type.proofs.Outcomes.{AllGood, applied_good, each_good, fitting_good, run_all_good, run_good, shifted_good}

means_landed : (free : Bool) (J : Has) (of : OccType) (x : TypedValue) → free ≡ false → (IsGood x → J of (constant_in x)) → Means free J (landed of x).kind
means_landed free J of o.Unfit is h = tt
means_landed free J of (o.Faulty w) is h = tt
means_landed free J of o.Varying is h = (is, h tt)
means_landed free J of (o.Constant u) is h = (is, h tt)

means_chosen : (free : Bool) (J : Has) (b : Bool) (x : Finding) (c : Code) → (b ≡ true → Means free J x.kind) → Means free J (chosen b x (fault_of c)).kind
means_chosen free J true x c h = h refl
means_chosen free J false x c h = tt

means_unless : (free : Bool) (J : Has) (b : Bool) (x : Finding) → (b ≡ false → Means free J x.kind) → Means free J (chosen b silent x).kind
means_unless free J true x h = tt
means_unless free J false x h = h refl

pub neither_true : (a b : Bool) → (a || b) ≡ false → (a ≡ false) × (b ≡ false)
neither_true true b e = absurd cc
neither_true false b e = (refl, e)

-- ---- operators in front

abbrev pub Fronts : Monadic → Has → Has → Type 0
Fronts op H J = (of : OccType) (operand value : Option Value) → H of operand → takes op (base_of of) ≡ true → IsMade (folded_one op) operand value → J of value

abbrev IsFaulty : Kind → Type 0
IsFaulty kind = kind ≡ k.Faulty

number_faulty : (b : Bool) → IsFaulty (not_number b).kind
number_faulty true = refl
number_faulty false = refl

untyped_faulty : (b : Bool) (x : TypedValue) → IsFaulty (not_untyped b x).kind
untyped_faulty b o.Unfit = refl
untyped_faulty b (o.Faulty w) = refl
untyped_faulty b o.Varying = number_faulty b
untyped_faulty b (o.Constant v) = number_faulty b

faulty_means : (free : Bool) (J : Has) (kind : Kind) → IsFaulty kind → Means free J kind
faulty_means free J kind is = subst (Means free J) (sym is) tt

takes_number : (op : Monadic) (of : OccType) (base : Primitive) → is_not op ≡ false → number (base_of of) ≡ Some base → takes op (base_of of) ≡ true
takes_number m.Negate of base is n = ap is_there n
takes_number m.Minus of base is n = ap is_there n
takes_number m.BitNot of base is n = ap is_there n
takes_number m.Not of base is n = absurd cc

front_free : (op : Monadic) (H J : Has) (f : Untyped) → is_not op ≡ false → Fronts op H J → FreeMeans H f → FreeMeans J (in_each f.is_faulty (λ base. applied op (in_type f base)))
front_free op H J f is make h sound to base n good =
    let report = λ (b : Primitive). applied op (in_type f b) in
    let same = each_good f.is_faulty report base good in
    let x = applied_good op (in_type f base) (subst IsGood same good) in
    subst (λ (z : TypedValue). J to (constant_in z)) (sym same)
    (make to (constant_in (in_type f base)) (constant_in (report base)) (h sound to base n x.0) (takes_number op to base is n) x.1)

pub none_front : (b c : Bool) → c ≡ false → (not b && c) ≡ false
none_front true c e = refl
none_front false c e = e

front_if : (op : Monadic) (free : Bool) (H J : Has) (f : Untyped) (b : Bool) → is_not op ≡ b → Fronts op H J → free ≡ true → FreeMeans H f
    → Means (not b && free) J (chosen b (not_untyped f.is_faulty f.int) (record { faults = []; kind = k.Untyped (in_each f.is_faulty (λ base. applied op (in_type f base))) })).kind
front_if op free H J f true is make at h = faulty_means false J (not_untyped f.is_faulty f.int).kind (untyped_faulty f.is_faulty f.int)
front_if op free H J f false is make at h = (at, front_free op H J f is make h)

-- a type that is none of a primitive one is taken by no operator
not_taken : (op : Monadic) (o : Option Primitive) → o ≡ None → takes op o ≡ true → ⊥
not_taken m.Negate o is e = cc (is, e)
not_taken m.Minus o is e = cc (is, e)
not_taken m.BitNot o is e = cc (is, e)
not_taken m.Not o is e = cc (is, e)

pub fronts_beside : (op : Monadic) (H J : Has) → Fronts op H J → Fronts op (λ of value. H of value ⊎ (base_of of ≡ None)) J
fronts_beside op H J make of operand value (inl h) is i = make of operand value h is i
fronts_beside op H J make of operand value (inr none) is i = absurd (not_taken op (base_of of) none is)

pub front_means : (op : Monadic) (free : Bool) (H J : Has) (kind : Kind) → Fronts op H J → Means free H kind → Means (not (is_not op) && free) J (front_operated op kind).kind
front_means op free H J k.Faulty make h = tt
front_means op free H J (k.Untyped f) make h = front_if op free H J f (is_not op) refl make h.0 h.1
front_means op free H J (k.Known x) make h =
    means_chosen (not (is_not op) && free) J (takes op (base_of x.of)) (landed x.of (applied op (value_outcome x.value))) code.T1
    (λ is. means_landed (not (is_not op) && free) J x.of (applied op (value_outcome x.value)) (none_front (is_not op) free h.0)
    (λ good. make x.of (constant_in (value_outcome x.value)) (constant_in (applied op (value_outcome x.value))) (subst (H x.of) (sym (value_back x.value)) h.1) is
    (applied_good op (value_outcome x.value) good).1))

-- ---- integers

-- a free literal, which comes to this in each type
pub integer_means : (J : Has) (f : Untyped) (report : Primitive → Option Value) → ((base : Primitive) → IsGood (in_type f base) → in_type f base ≡ fitting (report base))
    → ((of : OccType) (base : Primitive) (value : Value) → IsNumber of base → report base ≡ Some value → J of (Some value)) → FreeMeans J f
integer_means J f report each make sound to base is good =
    let same = each base good in
    let x = fitting_good (report base) (subst IsGood same good) in
    subst (J to) (sym (ap constant_in same ∙ x.shown)) (make to base x.value is x.is)

-- ---- shifts

abbrev pub Shifts : Operator → Has → Has → Has → Type 0
Shifts op H K J = (of by : OccType) (left count value : Option Value) → H of left → is_there (number (base_of of)) ≡ true → K by count → as_primitive by ≡ Some p.Int → IsShifted op left count value → J of value

no_number : (o : Option Primitive) → o ≡ None → is_there (number o) ≡ true → ⊥
no_number o is e = cc (is, e)

primitive_base : (of : OccType) (x : Primitive) → as_primitive of ≡ Some x → base_of of ≡ Some x
primitive_base of x is = ap base_of (primitive_is of x is) ∙ ap as_primitive (unnamed_of_primitive x) ∙ as_primitive_at_primitive x

pub shifts_beside : (op : Operator) (H K J : Has) → Shifts op H K J → Shifts op (λ of value. H of value ⊎ (base_of of ≡ None)) (λ of value. K of value ⊎ (base_of of ≡ None)) J
shifts_beside op H K J make of by left count value (inl h) n (inl g) is i = make of by left count value h n g is i
shifts_beside op H K J make of by left count value (inl h) n (inr none) is i = let bad : None ≡ Some p.Int = sym none ∙ primitive_base by p.Int is in absurd cc
shifts_beside op H K J make of by left count value (inr none) n g is i = absurd (no_number (base_of of) none n)

int_there : (o : Option Primitive) → is_int o ≡ true → o ≡ Some p.Int
int_there None e = absurd cc
int_there (Some p.Bool) e = absurd cc
int_there (Some p.Byte) e = absurd cc
int_there (Some p.Int) e = refl
int_there (Some p.Int16) e = absurd cc
int_there (Some p.Int32) e = absurd cc
int_there (Some p.Int64) e = absurd cc

never_misshifted : (x : TypedValue) → IsGood (misshifted x) → ⊥
never_misshifted o.Unfit h = h
never_misshifted (o.Faulty w) h = h
never_misshifted o.Varying h = h
never_misshifted (o.Constant v) h = h

abbrev pub outcome_if : Bool → TypedValue → TypedValue → TypedValue
outcome_if b x y = if b then x else y

shift_if : (op : Operator) (count : Option Value) (b : Bool) (x : TypedValue) → IsGood (outcome_if b (shifted op count x) (misshifted x))
    → (b ≡ true) × IsGood x × IsShifted op (constant_in x) count (constant_in (outcome_if b (shifted op count x) (misshifted x)))
shift_if op count true x h = let y = shifted_good op count x h in (refl, y.0, y.1)
shift_if op count false x h = absurd (never_misshifted x h)

shift_free : (op : Operator) (H K J : Has) (f : Untyped) (y : Known) → Shifts op H K J → FreeMeans H f → K y.of y.value → FreeMeans J (known_count op f (is_int (as_primitive y.of)) y.value)
shift_free op H K J f y make h g sound to base n good =
    let b = is_int (as_primitive y.of) in
    let report = λ (x : Primitive). outcome_if b (shifted op y.value (in_type f x)) (misshifted (in_type f x)) in
    let same = each_good f.is_faulty report base good in
    let x = shift_if op y.value b (in_type f base) (subst IsGood same good) in
    subst (λ (z : TypedValue). J to (constant_in z)) (sym same)
    (make to y.of (constant_in (in_type f base)) y.value (constant_in (report base)) (h sound to base n x.1) (ap is_there n) g (int_there (as_primitive y.of) x.0) x.2)

by_means : (op : Operator) (free : Bool) (H K J : Has) (a count : Kind) → Shifts op H K J → Means free H a → Knows (λ y. K y.of y.value) count → Means free J (shifted_by op a count).kind
by_means op free H K J k.Faulty count make h g = tt
by_means op free H K J (k.Untyped f) k.Faulty make h g = (h.0, λ sound. absurd cc)
by_means op free H K J (k.Untyped f) (k.Untyped e) make h g = tt
by_means op free H K J (k.Untyped f) (k.Known y) make h g = (h.0, shift_free op H K J f y make h.1 g)
by_means op free H K J (k.Known x) k.Faulty make h g = tt
by_means op free H K J (k.Known x) (k.Untyped e) make h g = tt
by_means op free H K J (k.Known x) (k.Known y) make h g =
    means_chosen free J (is_there (number (base_of x.of)) && is_int (as_primitive y.of)) (landed x.of (shifted op y.value (value_outcome x.value))) code.T1
    (λ is. means_landed free J x.of (shifted op y.value (value_outcome x.value)) h.0
    (λ good.
    let both = both_true (is_there (number (base_of x.of))) (is_int (as_primitive y.of)) is in
    make x.of y.of (constant_in (value_outcome x.value)) y.value (constant_in (shifted op y.value (value_outcome x.value))) (subst (H x.of) (sym (value_back x.value)) h.1) both.0 g
    (int_there (as_primitive y.of) both.1) (shifted_good op y.value (value_outcome x.value) good).1))

pub shift_means : (op : Operator) (free other : Bool) (H K J : Has) (a count : Kind) → Shifts op H K J → Means free H a → Means other K count → Means free J (shift_operated op a count).kind
shift_means op free other H K J a count make h g =
    by_means op free H K J a (settled int count).kind make h (knows_as (Settles int other K) (λ y. K y.of y.value) (settled int count).kind (λ y i. i.0) (settles int other K count g))

-- ---- operands with one operator between each two

-- an operand has the type, or it is a table
abbrev pub Beside : Has → Has
Beside H of value = H of value ⊎ (base_of of ≡ None)

abbrev pub AllMean : Scope → List Operand → List Kind → Type 0
AllMean s [] [] = Unit {0}
AllMean s [] (x ∷ xs) = ⊥
AllMean s (e ∷ es) [] = ⊥
AllMean s (e ∷ es) (x ∷ xs) = Means (is_free_operand e) (Beside (OperandHasType s e)) x × AllMean s es xs

abbrev pub Runs : Scope → Operator → List Operand → Has → Type 0
Runs s op es J = (of : OccType) (values : List (Option Value)) (value : Option Value) → AreOperands s es of values → allows (class_of op) (base_of of) ≡ true → IsChosen (are_free es) op of
    → IsRun op values value → J (given (class_of op) of) value

abbrev value_of_kind : Kind → Option Value
value_of_kind k.Faulty = None
value_of_kind (k.Untyped f) = None
value_of_kind (k.Known x) = x.value

-- what an operator allows is named over a primitive type
pub allowed_base : (class : Class) (o : Option Primitive) → allows class o ≡ true → (base : Primitive) × (o ≡ Some base)
allowed_base c.Arithmetic None e = absurd cc
allowed_base c.Equality None e = absurd cc
allowed_base c.Order None e = absurd cc
allowed_base c.Cyclic None e = absurd cc
allowed_base c.Logic None e = absurd cc
allowed_base class (Some x) e = (x, refl)

typed_beside : (H : Has) (of own : OccType) (value : Option Value) (base : Primitive) → base_of of ≡ Some base → fits of own ≡ true → Beside H own value → H own value
typed_beside H of own value base is e (inl h) = h
typed_beside H of own value base is e (inr none) = let bad : None ≡ Some base = sym none ∙ sym (ap base_of (first_same of own base is e)) ∙ is in absurd cc

one_of_type : (s : Scope) (e : Operand) (es : List Operand) (of : OccType) (base : Primitive) (values : List (Option Value)) (kind : Kind) → base_of of ≡ Some base → Knows (λ x. Beside (OperandHasType s e) x.of x.value) kind → is_of of kind ≡ true
    → AreOperands s es of values → AreOperands s (e ∷ es) of (value_of_kind kind ∷ values)
one_of_type s e es of base values k.Faulty n h is g = absurd cc
one_of_type s e es of base values (k.Untyped f) n h is g = absurd cc
one_of_type s e es of base values (k.Known x) n h is g = has.one_operand e es of x.of x.value values (typed_beside (OperandHasType s e) of x.of x.value base n is h) is g

operands_of : (s : Scope) (es : List Operand) (ks : List Kind) (of : OccType) (base : Primitive) → base_of of ≡ Some base → AllMean s es ks → list_all (is_of of) (kinds (map (settled of) ks)) ≡ true
    → AreOperands s es of (map value_of_kind (kinds (map (settled of) ks)))
operands_of s [] [] of base n h is = has.no_operand of
operands_of s [] (x ∷ ks) of base n h is = absurd h
operands_of s (e ∷ es) [] of base n h is = absurd h
operands_of s (e ∷ es) (x ∷ ks) of base n h is =
    let both = both_true (is_of of (settled of x).kind) (list_all (is_of of) (kinds (map (settled of) ks))) is in
    one_of_type s e es of base (map value_of_kind (kinds (map (settled of) ks))) (settled of x).kind n
    (knows_as (Settles of (is_free_operand e) (Beside (OperandHasType s e))) (λ y. Beside (OperandHasType s e) y.of y.value) (settled of x).kind (λ y i. i.0) (settles of (is_free_operand e) (Beside (OperandHasType s e)) x h.0))
    both.0 (operands_of s es ks of base n h.1 both.1)

-- the values of what is known
outcome_value : (of : OccType) (base : Primitive) (kind : Kind) → is_of of kind ≡ true → constant_in (outcome_in base kind) ≡ value_of_kind kind
outcome_value of base k.Faulty is = absurd cc
outcome_value of base (k.Untyped f) is = absurd cc
outcome_value of base (k.Known x) is = value_back x.value

outcome_values : (of : OccType) (base : Primitive) (ks : List Kind) → list_all (is_of of) ks ≡ true → map constant_in (map (outcome_in base) ks) ≡ map value_of_kind ks
outcome_values of base [] is = refl
outcome_values of base (x ∷ ks) is =
    let both = both_true (is_of of x) (list_all (is_of of) ks) is in
    ap (λ (v : Option Value). v ∷ map constant_in (map (outcome_in base) ks)) (outcome_value of base x both.0) ∙ ap (λ (vs : List (Option Value)). value_of_kind x ∷ vs) (outcome_values of base ks both.1)

run_of : (op : Operator) (of : OccType) (base : Primitive) (x : Kind) (ks : List Kind) → list_all (is_of of) (x ∷ ks) ≡ true → IsGood (run_in op base (x ∷ ks)) → IsRun op (map value_of_kind (x ∷ ks)) (constant_in (run_in op base (x ∷ ks)))
run_of op of base x ks is good = subst (λ (vs : List (Option Value)). IsRun op vs (constant_in (run_in op base (x ∷ ks)))) (outcome_values of base (x ∷ ks) is) (run_good op (outcome_in base x) (map (outcome_in base) ks) good)

decided_means : (s : Scope) (op : Operator) (free : Bool) (e : Operand) (es : List Operand) (x : Kind) (ks : List Kind) (of : OccType) (J : Has) → Runs s op (e ∷ es) J → AllMean s (e ∷ es) (x ∷ ks)
    → free ≡ false → IsChosen (are_free (e ∷ es)) op of → Means free J (decided op of (x ∷ ks)).kind
unfolding decided
decided_means s op free e es x ks of J make h not_free choice =
    let ys = kinds (map (settled of) (x ∷ ks)) in
    let value = run_in op p.Int ys in
    let tested = allows (class_of op) (base_of of) && list_all (is_of of) ys in
    means_unless free J (list_any is_faulty ys) (chosen tested (landed (given (class_of op) of) value) (fault_of code.T1))
    (λ _. means_chosen free J tested (landed (given (class_of op) of) value) code.T1
    (λ is.
    let both = both_true (allows (class_of op) (base_of of)) (list_all (is_of of) ys) is in
    let named = allowed_base (class_of op) (base_of of) both.0 in
    means_landed free J (given (class_of op) of) value not_free
    (λ good. make of (map value_of_kind ys) (constant_in value) (operands_of s (e ∷ es) (x ∷ ks) of named.0 named.1 h both.1) both.0 choice (run_of op of p.Int (settled of x).kind (kinds (map (settled of) ks)) both.1 good))))

-- ---- where all are free

free_all : (s : Scope) (es : List Operand) (ks : List Kind) → AllMean s es ks → first_bound ks ≡ None → are_free es ≡ true
free_all s [] [] h is = refl
free_all s [] (x ∷ ks) h is = absurd h
free_all s (e ∷ es) [] h is = absurd h
free_all s (e ∷ es) (k.Faulty ∷ ks) h is = absurd cc
free_all s (e ∷ es) (k.Untyped f ∷ ks) h is = ap (λ (b : Bool). b && are_free es) h.0.0 ∙ free_all s es ks h.1 is
free_all s (e ∷ es) (k.Known x ∷ ks) h is = absurd cc

pub back_false : (a b : Bool) → b ≡ false → (a && b) ≡ false
back_false true b e = e
back_false false b e = refl

bound_not : (s : Scope) (es : List Operand) (ks : List Kind) (x : Known) → AllMean s es ks → first_bound ks ≡ Some (k.Known x) → are_free es ≡ false
bound_not s [] [] x h is = absurd cc
bound_not s [] (y ∷ ks) x h is = absurd h
bound_not s (e ∷ es) [] x h is = absurd h
bound_not s (e ∷ es) (k.Faulty ∷ ks) x h is = absurd cc
bound_not s (e ∷ es) (k.Untyped f ∷ ks) x h is = back_false (is_free_operand e) (are_free es) (bound_not s es ks x h.1 is)
bound_not s (e ∷ es) (k.Known y ∷ ks) x h is = ap (λ (b : Bool). b && are_free es) h.0.0

number_beside : (H : Has) (to : OccType) (value : Option Value) (base : Primitive) → IsNumber to base → Beside H to value → H to value
number_beside H to value base n (inl h) = h
number_beside H to value base n (inr none) = let bad : None ≡ Some base = sym (ap number none) ∙ n in absurd cc

free_operands : (s : Scope) (es : List Operand) (ks : List Kind) (to : OccType) (base : Primitive) → AllMean s es ks → first_bound ks ≡ None → list_any needs_faulty ks ≡ false → IsNumber to base
    → AllGood (map (outcome_in base) ks) → AreOperands s es to (map constant_in (map (outcome_in base) ks))
free_operands s [] [] to base h is sound n good = has.no_operand to
free_operands s [] (x ∷ ks) to base h is sound n good = absurd h
free_operands s (e ∷ es) [] to base h is sound n good = absurd h
free_operands s (e ∷ es) (k.Faulty ∷ ks) to base h is sound n good = absurd cc
free_operands s (e ∷ es) (k.Untyped f ∷ ks) to base h is sound n good =
    let each = neither_true f.is_faulty (list_any needs_faulty ks) sound in
    has.one_operand e es to to (constant_in (in_type f base)) (map constant_in (map (outcome_in base) ks)) (number_beside (OperandHasType s e) to (constant_in (in_type f base)) base n (h.0.1 each.0 to base n good.0)) (number_fits to base n)
    (free_operands s es ks to base h.1 is each.1 n good.1)
free_operands s (e ∷ es) (k.Known x ∷ ks) to base h is sound n good = absurd cc

pub arithmetic_class : (class : Class) → is_arithmetic class ≡ true → class ≡ c.Arithmetic
arithmetic_class c.Arithmetic e = refl
arithmetic_class c.Equality e = absurd cc
arithmetic_class c.Order e = absurd cc
arithmetic_class c.Cyclic e = absurd cc
arithmetic_class c.Logic e = absurd cc

free_runs : (s : Scope) (op : Operator) (e : Operand) (es : List Operand) (x : Kind) (ks : List Kind) (J : Has) → is_arithmetic (class_of op) ≡ true → Runs s op (e ∷ es) J → AllMean s (e ∷ es) (x ∷ ks)
    → first_bound (x ∷ ks) ≡ None → FreeMeans J (in_each (list_any needs_faulty (x ∷ ks)) (λ base. run_in op base (x ∷ ks)))
free_runs s op e es x ks J arithmetic make h is sound to base n good =
    let report = λ (b : Primitive). run_in op b (x ∷ ks) in
    let same = each_good (list_any needs_faulty (x ∷ ks)) report base good in
    let fine = subst IsGood same good in
    let class = arithmetic_class (class_of op) arithmetic in
    let there : allows (class_of op) (base_of to) ≡ true = ap (λ (z : Class). allows z (base_of to)) class ∙ ap is_there n in
    let made : J (given (class_of op) to) (constant_in (report base))
    = make to (map constant_in (map (outcome_in base) (x ∷ ks))) (constant_in (report base))
    (free_operands s (e ∷ es) (x ∷ ks) to base h is sound n (run_all_good op (outcome_in base x) (map (outcome_in base) ks) fine)) there
    (λ _ other. absurd cc (arithmetic, other)) (run_good op (outcome_in base x) (map (outcome_in base) ks) fine) in
    subst (λ (z : TypedValue). J to (constant_in z)) (sym same) (subst (λ (z : Class). J (given z to) (constant_in (report base))) class made)

none_means : (s : Scope) (op : Operator) (e : Operand) (es : List Operand) (x : Kind) (ks : List Kind) (J : Has) (b : Bool) → is_arithmetic (class_of op) ≡ b → Runs s op (e ∷ es) J → AllMean s (e ∷ es) (x ∷ ks)
    → first_bound (x ∷ ks) ≡ None
    → Means (b && are_free (e ∷ es)) J (chosen b (record { faults = []; kind = k.Untyped (in_each (list_any needs_faulty (x ∷ ks)) (λ base. run_in op base (x ∷ ks))) }) (decided op int (x ∷ ks))).kind
none_means s op e es x ks J true arithmetic make h is = (free_all s (e ∷ es) (x ∷ ks) h is, free_runs s op e es x ks J arithmetic make h is)
none_means s op e es x ks J false arithmetic make h is = decided_means s op false e es x ks int J make h refl (λ _ _. refl)

from_means : (s : Scope) (op : Operator) (e : Operand) (es : List Operand) (x : Kind) (ks : List Kind) (J : Has) (first : Option Kind) → first_bound (x ∷ ks) ≡ first → Runs s op (e ∷ es) J → AllMean s (e ∷ es) (x ∷ ks)
    → Means (is_arithmetic (class_of op) && are_free (e ∷ es)) J (operated_from first op (x ∷ ks)).kind
from_means s op e es x ks J None is make h = none_means s op e es x ks J (is_arithmetic (class_of op)) refl make h is
from_means s op e es x ks J (Some k.Faulty) is make h = tt
from_means s op e es x ks J (Some (k.Untyped f)) is make h = tt
from_means s op e es x ks J (Some (k.Known y)) is make h =
    let bound = bound_not s (e ∷ es) (x ∷ ks) y h is in
    decided_means s op (is_arithmetic (class_of op) && are_free (e ∷ es)) e es x ks y.of J make h (back_false (is_arithmetic (class_of op)) (are_free (e ∷ es)) bound) (λ free other. absurd cc (bound, free))

pub operated_means : (s : Scope) (op : Operator) (e : Operand) (es : List Operand) (ks : List Kind) (J : Has) → Runs s op (e ∷ es) J → AllMean s (e ∷ es) ks
    → Means (is_arithmetic (class_of op) && are_free (e ∷ es)) J (operated op ks).kind
operated_means s op e es [] J make h = absurd h
operated_means s op e es (x ∷ ks) J make h = from_means s op e es x ks J (first_bound (x ∷ ks)) refl make h
