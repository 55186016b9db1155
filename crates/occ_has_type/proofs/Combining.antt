-- Operators over operands that have types: nothing is reported, and this is known of the whole.
use Rattle.std.proofs.Common.{◌≡◌, ◌∙◌, ◌++◌, ◌&&◌, ◌||◌, Bool, true, false, List, [], ◌∷◌, map, Option, Some, None, refl, ap, sym, subst}
use Rattle.std.specs.List.{list_all, list_any}
use Rattle.std.specs.Prelude.{not}
use Rattle.occ_base.specs.declared.code.Code.TheVariants as code
use Rattle.occ_base.specs.declared.fault.Fault.{Fault}
use Rattle.occ_forms_expressions.specs.declared.tree.Operand.{Operand}
use Rattle.occ_typing_operands.specs.Operators.{all_faults, allows, class_of, decided, first_bound, front_operated, given, is_arithmetic, is_faulty, is_int, is_not, is_of, is_there, kinds, needs_faulty, not_untyped, operated, operated_from, outcome_in, run_in, shift_operated, shifted_by, takes, value_outcome, verdict}
use Rattle.occ_typing_operands.specs.Outcomes.{applied, in_each, in_type, misshifted, run, shifted}
use Rattle.occ_typing_operands.specs.Settling.{Finding, base_of, fault_of, int, known, landed, number, settled, silent}
use Rattle.occ_typing_operands.specs.declared.kind.Untyped.{Untyped}
use Rattle.occ_typing_operands.specs.declared.kind.Kind.{Kind}
use Rattle.occ_typing_operands.specs.declared.kind.Kind.TheVariants as k
use Rattle.occ_typing_operands.specs.declared.kind.TypedValue.{TypedValue}
use Rattle.occ_typing_operands.specs.declared.operate.Class.{Class}
use Rattle.occ_types.specs.Constant.{folded_one}
use Rattle.occ_types.specs.Fits.{fits}
use Rattle.occ_types.specs.View.{as_primitive}
use Rattle.occ_types.specs.declared.constant.Monadic.{Monadic}
use Rattle.occ_types.specs.declared.constant.Monadic.TheVariants as m
use Rattle.occ_types.specs.declared.constant.Operator.{Operator}
use Rattle.occ_types.specs.declared.types.OccType.{OccType}
use Rattle.occ_types.specs.declared.value.Primitive.{Primitive}
use Rattle.occ_types.specs.declared.value.Primitive.TheVariants as p
use Rattle.occ_types.specs.declared.value.Value.{Value}
use Rattle.occ_has_type.specs.Free.{are_free, is_free_operand}
use Rattle.occ_has_type.specs.Types.{IsChosen}
use Rattle.occ_has_type.specs.Values.{IsMade, IsRun, IsShifted}
use Rattle.occ_has_type.proofs.Finding.{Comes, Finds, applied_comes, false_finds, landed_finds, run_comes, settled_finds, shifted_comes, true_finds}
use Rattle.occ_has_type.proofs.Fitting.{both_true, named_fits_it, primitive_is}
use Rattle.occ_has_type.proofs.Means.{chosen}
use Rattle.occ_has_type.proofs.Operating.{allowed_base, arithmetic_class, back_false, none_front, outcome_if}

-- nothing is reported, and it comes to this
abbrev pub Found_as : Bool → OccType → Option Value → Finding → Type 0
Found_as free of value x = (x.faults ≡ []) × Comes free of value x.kind

pub finds_as : (free : Bool) (of : OccType) (value : Option Value) (x : Finding) → free ≡ false → Finds of value x → Found_as free of value x
finds_as free of value x is h = (h.0, subst (Comes free of value) (sym h.1) (is, refl))

-- in a type of numbers each has what is told for it
number_each : (o : Option Primitive) (b : Bool) (report : Primitive → TypedValue) (base : Primitive) → number o ≡ Some base → in_type (in_each b report) base ≡ report base
number_each None b report base is = absurd cc
number_each (Some p.Bool) b report base is = absurd cc
number_each (Some p.Byte) b report p.Byte is = refl
number_each (Some p.Int) b report p.Int is = refl
number_each (Some p.Int16) b report p.Int16 is = refl
number_each (Some p.Int32) b report p.Int32 is = refl
number_each (Some p.Int64) b report p.Int64 is = refl
number_each (Some x) b report base is = absurd cc

-- ---- integers

pub integer_comes : (f : Untyped) (b : Bool) (report : Primitive → TypedValue) (of : OccType) (base : Primitive) (value : Value) → f ≡ in_each b report → b ≡ false → number (base_of of) ≡ Some base → report base ≡ value_outcome (Some value)
    → Comes true of (Some value) (k.Untyped f)
integer_comes f b report of base value is sound n at = (
  refl,
  ap (λ (g : Untyped). g.is_faulty) is ∙ sound,
  base,
  n,
  ap (λ (g : Untyped). in_type g base) is ∙ number_each (base_of of) b report base n ∙ at,
)

-- ---- operators in front

takes_no_bool : (op : Monadic) (o : Option Primitive) (base : Primitive) → number o ≡ Some base → takes op o ≡ true → is_not op ≡ false
takes_no_bool m.Negate o base n is = refl
takes_no_bool m.Minus o base n is = refl
takes_no_bool m.BitNot o base n is = refl
takes_no_bool m.Not None base n is = absurd cc
takes_no_bool m.Not (Some p.Bool) base n is = absurd cc
takes_no_bool m.Not (Some p.Byte) base n is = absurd cc
takes_no_bool m.Not (Some p.Int) base n is = absurd cc
takes_no_bool m.Not (Some p.Int16) base n is = absurd cc
takes_no_bool m.Not (Some p.Int32) base n is = absurd cc
takes_no_bool m.Not (Some p.Int64) base n is = absurd cc

front_untyped : (op : Monadic) (b free : Bool) (of : OccType) (f : Untyped) (operand value : Option Value) → b ≡ false → Comes free of operand (k.Untyped f) → IsMade (folded_one op) operand value
    → Found_as (not b && free) of value (chosen b (not_untyped f.is_faulty f.int) (record { faults = []; kind = k.Untyped (in_each f.is_faulty (λ base. applied op (in_type f base))) }))
front_untyped op true free of f operand value is h made = absurd cc
front_untyped op false free of f operand value is h made = (
  refl,
  (h.0, h.1, h.2, h.3, number_each (base_of of) f.is_faulty (λ base. applied op (in_type f base)) h.2 h.3 ∙ ap (applied op) h.4 ∙ applied_comes op operand value made),
)

pub front_comes : (op : Monadic) (free : Bool) (of : OccType) (operand value : Option Value) (kind : Kind) → Comes free of operand kind → takes op (base_of of) ≡ true → IsMade (folded_one op) operand value
    → Found_as (not (is_not op) && free) of value (front_operated op kind)
front_comes op free of operand value k.Faulty h is made = absurd h
front_comes op free of operand value (k.Untyped f) h is made = front_untyped op (is_not op) free of f operand value (takes_no_bool op (base_of of) h.2 h.3 is) h made
front_comes op free of operand value (k.Known x) h is made =
    let there : Finds of value (front_operated op (known of operand))
    = true_finds (takes op (base_of of)) (landed of (applied op (value_outcome operand))) (fault_of code.T1) of value is (landed_finds of (applied op (value_outcome operand)) value (applied_comes op operand value made)) in
    finds_as (not (is_not op) && free) of value (front_operated op (k.Known x)) (none_front (is_not op) free h.0) (subst (λ (z : Kind). Finds of value (front_operated op z)) (sym h.1) there)

-- ---- shifts

is_int_of : (o : Option Primitive) → o ≡ Some p.Int → is_int o ≡ true
is_int_of o is = ap is_int is

true_outcome : (b : Bool) (x y : TypedValue) → b ≡ true → outcome_if b x y ≡ x
true_outcome true x y is = refl
true_outcome false x y is = absurd cc

by_comes : (op : Operator) (free : Bool) (of by : OccType) (left count value : Option Value) (a : Kind) → Comes free of left a → is_there (number (base_of of)) ≡ true → as_primitive by ≡ Some p.Int → IsShifted op left count value
    → Found_as free of value (shifted_by op a (known by count))
by_comes op free of by left count value k.Faulty h n is made = absurd h
by_comes op free of by left count value (k.Untyped f) h n is made = (
  refl,
  (
    h.0,
    h.1,
    h.2,
    h.3,
    number_each (base_of of) f.is_faulty (λ base. outcome_if (is_int (as_primitive by)) (shifted op count (in_type f base)) (misshifted (in_type f base))) h.2 h.3
        ∙ true_outcome (is_int (as_primitive by)) (shifted op count (in_type f h.2)) (misshifted (in_type f h.2)) (is_int_of (as_primitive by) is)
        ∙ ap (shifted op count) h.4 ∙ shifted_comes op left count value made,
  ),
)
by_comes op free of by left count value (k.Known x) h n is made =
    let tested : (is_there (number (base_of of)) && is_int (as_primitive by)) ≡ true = ap (λ (b : Bool). b && is_int (as_primitive by)) n ∙ is_int_of (as_primitive by) is in
    let there : Finds of value (shifted_by op (known of left) (known by count))
    = true_finds (is_there (number (base_of of)) && is_int (as_primitive by)) (landed of (shifted op count (value_outcome left))) (fault_of code.T1) of value tested
    (landed_finds of (shifted op count (value_outcome left)) value (shifted_comes op left count value made)) in
    finds_as free of value (shifted_by op (k.Known x) (known by count)) h.0 (subst (λ (z : Kind). Finds of value (shifted_by op z (known by count))) (sym h.1) there)

pub shift_comes : (op : Operator) (free other : Bool) (of by : OccType) (left count value : Option Value) (a b : Kind) → Comes free of left a → Comes other by count b → is_there (number (base_of of)) ≡ true → as_primitive by ≡ Some p.Int
    → IsShifted op left count value → Found_as free of value (shift_operated op a b)
shift_comes op free other of by left count value a b h g n is made =
    let y = settled_finds other int by count b g (λ _. sym (primitive_is by p.Int is)) in
    let there = by_comes op free of by left count value a h n is made in
    let at : Found_as free of value (shifted_by op a (settled int b).kind) = subst (λ (z : Kind). Found_as free of value (shifted_by op a z)) (sym y.1) there in
    (ap (λ (fs : List Fault). fs ++ (shifted_by op a (settled int b).kind).faults) y.0 ∙ at.0, at.1)

-- ---- operands with one operator between each two

abbrev pub AllCome : OccType → List Operand → List (Option Value) → List Kind → Type 0
AllCome of [] [] [] = Unit {0}
AllCome of (e ∷ es) (v ∷ vs) (x ∷ xs) = Comes (is_free_operand e) of v x × AllCome of es vs xs
AllCome of _ _ _ = ⊥

settled_kinds : (to of : OccType) (es : List Operand) (vs : List (Option Value)) (ks : List Kind) → AllCome of es vs ks → to ≡ of → kinds (map (settled to) ks) ≡ map (known of) vs
settled_kinds to of [] [] [] h same = refl
settled_kinds to of [] [] (x ∷ ks) h same = absurd h
settled_kinds to of [] (v ∷ vs) ks h same = absurd h
settled_kinds to of (e ∷ es) [] ks h same = absurd h
settled_kinds to of (e ∷ es) (v ∷ vs) [] h same = absurd h
settled_kinds to of (e ∷ es) (v ∷ vs) (x ∷ ks) h same =
    ap (λ (z : Kind). z ∷ kinds (map (settled to) ks)) (settled_finds (is_free_operand e) to of v x h.0 (λ _. same)).1 ∙ ap (λ (zs : List Kind). known of v ∷ zs) (settled_kinds to of es vs ks h.1 same)

settled_clean : (to of : OccType) (es : List Operand) (vs : List (Option Value)) (ks : List Kind) → AllCome of es vs ks → to ≡ of → all_faults (map (settled to) ks) ≡ []
settled_clean to of [] [] [] h same = refl
settled_clean to of [] [] (x ∷ ks) h same = absurd h
settled_clean to of [] (v ∷ vs) ks h same = absurd h
settled_clean to of (e ∷ es) [] ks h same = absurd h
settled_clean to of (e ∷ es) (v ∷ vs) [] h same = absurd h
settled_clean to of (e ∷ es) (v ∷ vs) (x ∷ ks) h same =
    ap (λ (fs : List Fault). fs ++ all_faults (map (settled to) ks)) (settled_finds (is_free_operand e) to of v x h.0 (λ _. same)).0 ∙ settled_clean to of es vs ks h.1 same

none_faulty : (of : OccType) (vs : List (Option Value)) → list_any is_faulty (map (known of) vs) ≡ false
none_faulty of [] = refl
none_faulty of (v ∷ vs) = none_faulty of vs

all_of_type : (of : OccType) (vs : List (Option Value)) → fits of of ≡ true → list_all (is_of of) (map (known of) vs) ≡ true
all_of_type of [] is = refl
all_of_type of (v ∷ vs) is = ap (λ (b : Bool). b && list_all (is_of of) (map (known of) vs)) is ∙ all_of_type of vs is

outcomes_of : (of : OccType) (base : Primitive) (vs : List (Option Value)) → map (outcome_in base) (map (known of) vs) ≡ map value_outcome vs
outcomes_of of base [] = refl
outcomes_of of base (v ∷ vs) = ap (λ (zs : List TypedValue). value_outcome v ∷ zs) (outcomes_of of base vs)

verdict_finds : (op : Operator) (of : OccType) (v : Option Value) (vs : List (Option Value)) (value : Option Value) → allows (class_of op) (base_of of) ≡ true → IsRun op (v ∷ vs) value
    → Finds (given (class_of op) of) value (verdict op of (map (known of) (v ∷ vs)))
verdict_finds op of v vs value al h =
    let ks = map (known of) (v ∷ vs) in
    let named = allowed_base (class_of op) (base_of of) al in
    let tested : (allows (class_of op) (base_of of) && list_all (is_of of) ks) ≡ true = ap (λ (b : Bool). b && list_all (is_of of) ks) al ∙ all_of_type of (v ∷ vs) (named_fits_it of named.0 named.1) in
    let inner = chosen (allows (class_of op) (base_of of) && list_all (is_of of) ks) (landed (given (class_of op) of) (run_in op p.Int ks)) (fault_of code.T1) in
    false_finds (list_any is_faulty ks) silent inner (given (class_of op) of) value (none_faulty of (v ∷ vs))
    (true_finds (allows (class_of op) (base_of of) && list_all (is_of of) ks) (landed (given (class_of op) of) (run_in op p.Int ks)) (fault_of code.T1) (given (class_of op) of) value tested
    (landed_finds (given (class_of op) of) (run_in op p.Int ks) value (ap (run op (value_outcome v)) (outcomes_of of p.Int vs) ∙ run_comes op v vs value h)))

decided_finds : (op : Operator) (to of : OccType) (es : List Operand) (v : Option Value) (vs : List (Option Value)) (ks : List Kind) (value : Option Value) → AllCome of es (v ∷ vs) ks → to ≡ of → allows (class_of op) (base_of of) ≡ true → IsRun op (v ∷ vs) value
    → Finds (given (class_of op) of) value (decided op to ks)
unfolding decided
decided_finds op to of es v vs ks value h same al r =
    let at : Finds (given (class_of op) of) value (verdict op to (kinds (map (settled to) ks)))
    = subst (λ (zs : List Kind). Finds (given (class_of op) of) value (verdict op to zs)) (sym (settled_kinds to of es (v ∷ vs) ks h same))
    (subst (λ (z : OccType). Finds (given (class_of op) of) value (verdict op z (map (known of) (v ∷ vs)))) (sym same) (verdict_finds op of v vs value al r)) in
    (ap (λ (fs : List Fault). fs ++ (verdict op to (kinds (map (settled to) ks))).faults) (settled_clean to of es (v ∷ vs) ks h same) ∙ at.0, at.1)

-- whether all are free
free_bound : (of : OccType) (es : List Operand) (vs : List (Option Value)) (ks : List Kind) → AllCome of es vs ks → are_free es ≡ true → first_bound ks ≡ None
free_bound of [] [] [] h is = refl
free_bound of [] [] (x ∷ ks) h is = absurd h
free_bound of [] (v ∷ vs) ks h is = absurd h
free_bound of (e ∷ es) [] ks h is = absurd h
free_bound of (e ∷ es) (v ∷ vs) [] h is = absurd h
free_bound of (e ∷ es) (v ∷ vs) (k.Faulty ∷ ks) h is = absurd h.0
free_bound of (e ∷ es) (v ∷ vs) (k.Untyped f ∷ ks) h is = free_bound of es vs ks h.1 (both_true (is_free_operand e) (are_free es) is).1
free_bound of (e ∷ es) (v ∷ vs) (k.Known x ∷ ks) h is = absurd cc (h.0.0, (both_true (is_free_operand e) (are_free es) is).0)

first_free : (a b : Bool) → a ≡ true → (a && b) ≡ false → b ≡ false
first_free true b is e = e
first_free false b is e = absurd cc

typed_bound : (of : OccType) (es : List Operand) (vs : List (Option Value)) (ks : List Kind) → AllCome of es vs ks → are_free es ≡ false → (w : Option Value) × (first_bound ks ≡ Some (known of w))
typed_bound of [] [] [] h is = absurd cc
typed_bound of [] [] (x ∷ ks) h is = absurd h
typed_bound of [] (v ∷ vs) ks h is = absurd h
typed_bound of (e ∷ es) [] ks h is = absurd h
typed_bound of (e ∷ es) (v ∷ vs) [] h is = absurd h
typed_bound of (e ∷ es) (v ∷ vs) (k.Faulty ∷ ks) h is = absurd h.0
typed_bound of (e ∷ es) (v ∷ vs) (k.Untyped f ∷ ks) h is = typed_bound of es vs ks h.1 (first_free (is_free_operand e) (are_free es) h.0.0 is)
typed_bound of (e ∷ es) (v ∷ vs) (k.Known x ∷ ks) h is = (v, ap Some h.0.1)

-- all are free: none needs what is faulty, and each comes to its value in the one type
free_sound : (of : OccType) (es : List Operand) (vs : List (Option Value)) (ks : List Kind) → AllCome of es vs ks → are_free es ≡ true → list_any needs_faulty ks ≡ false
free_sound of [] [] [] h is = refl
free_sound of [] [] (x ∷ ks) h is = absurd h
free_sound of [] (v ∷ vs) ks h is = absurd h
free_sound of (e ∷ es) [] ks h is = absurd h
free_sound of (e ∷ es) (v ∷ vs) [] h is = absurd h
free_sound of (e ∷ es) (v ∷ vs) (k.Faulty ∷ ks) h is = absurd h.0
free_sound of (e ∷ es) (v ∷ vs) (k.Untyped f ∷ ks) h is = ap (λ (b : Bool). b || list_any needs_faulty ks) h.0.1 ∙ free_sound of es vs ks h.1 (both_true (is_free_operand e) (are_free es) is).1
free_sound of (e ∷ es) (v ∷ vs) (k.Known x ∷ ks) h is = absurd cc (h.0.0, (both_true (is_free_operand e) (are_free es) is).0)

some_same : (a b : Primitive) (o : Option Primitive) → o ≡ Some a → o ≡ Some b → a ≡ b
some_same a b o x y = cc (x, y)

free_outcomes : (of : OccType) (base : Primitive) (es : List Operand) (vs : List (Option Value)) (ks : List Kind) → number (base_of of) ≡ Some base → AllCome of es vs ks → are_free es ≡ true → map (outcome_in base) ks ≡ map value_outcome vs
free_outcomes of base [] [] [] n h is = refl
free_outcomes of base [] [] (x ∷ ks) n h is = absurd h
free_outcomes of base [] (v ∷ vs) ks n h is = absurd h
free_outcomes of base (e ∷ es) [] ks n h is = absurd h
free_outcomes of base (e ∷ es) (v ∷ vs) [] n h is = absurd h
free_outcomes of base (e ∷ es) (v ∷ vs) (k.Faulty ∷ ks) n h is = absurd h.0
free_outcomes of base (e ∷ es) (v ∷ vs) (k.Untyped f ∷ ks) n h is =
    ap (λ (z : TypedValue). z ∷ map (outcome_in base) ks) (ap (in_type f) (some_same base h.0.2 (number (base_of of)) n h.0.3) ∙ h.0.4)
    ∙ ap (λ (zs : List TypedValue). value_outcome v ∷ zs) (free_outcomes of base es vs ks n h.1 (both_true (is_free_operand e) (are_free es) is).1)
free_outcomes of base (e ∷ es) (v ∷ vs) (k.Known x ∷ ks) n h is = absurd cc (h.0.0, (both_true (is_free_operand e) (are_free es) is).0)

head_number : (of : OccType) (e : Operand) (es : List Operand) (v : Option Value) (vs : List (Option Value)) (ks : List Kind) → AllCome of (e ∷ es) (v ∷ vs) ks → are_free (e ∷ es) ≡ true → (base : Primitive) × (number (base_of of) ≡ Some base)
head_number of e es v vs [] h is = absurd h
head_number of e es v vs (k.Faulty ∷ ks) h is = absurd h.0
head_number of e es v vs (k.Untyped f ∷ ks) h is = (h.0.2, h.0.3)
head_number of e es v vs (k.Known x ∷ ks) h is = absurd cc (h.0.0, (both_true (is_free_operand e) (are_free es) is).0)

run_in_of : (op : Operator) (base : Primitive) (v : Option Value) (vs : List (Option Value)) (ks : List Kind) → map (outcome_in base) ks ≡ map value_outcome (v ∷ vs) → run_in op base ks ≡ run op (value_outcome v) (map value_outcome vs)
run_in_of op base v vs [] is = absurd cc
run_in_of op base v vs (x ∷ ks) is =
    let first : outcome_in base x ≡ value_outcome v = cc (is) in
    let others : map (outcome_in base) ks ≡ map value_outcome vs = cc (is) in
    ap (λ (z : TypedValue). run op z (map (outcome_in base) ks)) first ∙ ap (run op (value_outcome v)) others

free_comes : (op : Operator) (of : OccType) (e : Operand) (es : List Operand) (v : Option Value) (vs : List (Option Value)) (ks : List Kind) (value : Option Value) → AllCome of (e ∷ es) (v ∷ vs) ks → are_free (e ∷ es) ≡ true
    → is_arithmetic (class_of op) ≡ true → IsRun op (v ∷ vs) value → Comes true (given (class_of op) of) value (k.Untyped (in_each (list_any needs_faulty ks) (λ base. run_in op base ks)))
free_comes op of e es v vs ks value h is arithmetic r =
    let n = head_number of e es v vs ks h is in
    let there : Comes true of value (k.Untyped (in_each (list_any needs_faulty ks) (λ base. run_in op base ks)))
    = (
      refl,
      free_sound of (e ∷ es) (v ∷ vs) ks h is,
      n.0,
      n.1,
      number_each (base_of of) (list_any needs_faulty ks) (λ base. run_in op base ks) n.0 n.1 ∙ run_in_of op n.0 v vs ks (free_outcomes of n.0 (e ∷ es) (v ∷ vs) ks n.1 h is) ∙ run_comes op v vs value r,
    ) in
    subst (λ (z : Class). Comes true (given z of) value (k.Untyped (in_each (list_any needs_faulty ks) (λ base. run_in op base ks)))) (sym (arithmetic_class (class_of op) arithmetic)) there

none_comes : (op : Operator) (of : OccType) (e : Operand) (es : List Operand) (v : Option Value) (vs : List (Option Value)) (ks : List Kind) (value : Option Value) (b : Bool) → is_arithmetic (class_of op) ≡ b → AllCome of (e ∷ es) (v ∷ vs) ks
    → are_free (e ∷ es) ≡ true → allows (class_of op) (base_of of) ≡ true → IsChosen (are_free (e ∷ es)) op of → IsRun op (v ∷ vs) value
    → Found_as (b && are_free (e ∷ es)) (given (class_of op) of) value (chosen b (record { faults = []; kind = k.Untyped (in_each (list_any needs_faulty ks) (λ base. run_in op base ks)) }) (decided op int ks))
none_comes op of e es v vs ks value true arithmetic h free al choice r = (
  refl,
  subst (λ (z : Bool). Comes z (given (class_of op) of) value (k.Untyped (in_each (list_any needs_faulty ks) (λ base. run_in op base ks)))) (sym free) (free_comes op of e es v vs ks value h free arithmetic r),
)
none_comes op of e es v vs ks value false arithmetic h free al choice r =
    finds_as false (given (class_of op) of) value (decided op int ks) refl (decided_finds op int of (e ∷ es) v vs ks value h (sym (choice free arithmetic)) al r)

pub operated_comes : (op : Operator) (of : OccType) (e : Operand) (es : List Operand) (v : Option Value) (vs : List (Option Value)) (ks : List Kind) (value : Option Value) → AllCome of (e ∷ es) (v ∷ vs) ks
    → allows (class_of op) (base_of of) ≡ true → IsChosen (are_free (e ∷ es)) op of → IsRun op (v ∷ vs) value
    → Found_as (is_arithmetic (class_of op) && are_free (e ∷ es)) (given (class_of op) of) value (operated op ks)
operated_comes op of e es v vs ks value h al choice r = by (are_free (e ∷ es)) refl where
  by : (b : Bool) → are_free (e ∷ es) ≡ b → Found_as (is_arithmetic (class_of op) && are_free (e ∷ es)) (given (class_of op) of) value (operated op ks)
  by true free =
      subst (λ (z : Option Kind). Found_as (is_arithmetic (class_of op) && are_free (e ∷ es)) (given (class_of op) of) value (operated_from z op ks)) (sym (free_bound of (e ∷ es) (v ∷ vs) ks h free))
      (none_comes op of e es v vs ks value (is_arithmetic (class_of op)) refl h free al choice r)
  by false free =
      let bound = typed_bound of (e ∷ es) (v ∷ vs) ks h free in
      subst (λ (z : Option Kind). Found_as (is_arithmetic (class_of op) && are_free (e ∷ es)) (given (class_of op) of) value (operated_from z op ks)) (sym bound.1)
      (finds_as (is_arithmetic (class_of op) && are_free (e ∷ es)) (given (class_of op) of) value (decided op of ks) (back_false (is_arithmetic (class_of op)) (are_free (e ∷ es)) free)
      (decided_finds op of of (e ∷ es) v vs ks value h refl al r))
