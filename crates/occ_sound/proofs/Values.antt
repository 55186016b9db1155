-- Values of expressions, as far as the rules know them.
use Rattle.std.proofs.Common.{inl, inr, ◌≡◌, ℕ, Bool, true, false, ap, sym, subst, ◌∙◌, refl, arith, List, [], ◌∷◌, ◌++◌, Option, Some, None}
use Rattle.std.specs.Prelude.{ℤ, pos, ◌&&◌, ◌||◌, ◌+ℤ◌, ◌-ℤ◌, Result, Ok, Err, if◌then◌else◌}
use Rattle.std.proofs.lemmas.Int.{ints}
use Rattle.occ_types.specs.Constant as constant
use Rattle.occ_types.specs.Constant.{is_true, number_of}
use Rattle.occ_types.specs.Fits.{unnamed}
use Rattle.occ_types.specs.View.{as_primitive}
use Rattle.occ_types.specs.declared.constant.ConstFault.{ConstFault}
use Rattle.occ_types.specs.declared.constant.Monadic.{Monadic}
use Rattle.occ_types.specs.declared.constant.Operator.{Operator}
use Rattle.occ_types.specs.declared.constant.Operator.TheVariants as operator
use Rattle.occ_types.specs.declared.value.Primitive.{Primitive}
use Rattle.occ_types.specs.declared.value.Value.{Value}
use Rattle.occ_types.specs.declared.value.Value.TheVariants as v
use Rattle.occ_typing_operands.specs.declared.kind.Known.{Known}
use Rattle.occ_typing_rules.specs.declared.expr.Selector.TheOpen.{TypedExpr-F}
use Rattle.occ_typing_rules.specs.declared.expr.TypedExpr.{TypedExpr}
use Rattle.occ_usage_parts.specs.Places.{near}
use Rattle.occ_usage_values.specs.Bounds.{Env}
use Rattle.occ_usage_values.specs.Values.{both, converted_base, converted_to, folded_after, if_good, int_in, int_of, known_or, less, one, size_value, whole}
use Rattle.occ_usage_values.specs.Views.{expr_view, expr_views, folded_all, values_of}
use Rattle.occ_running.specs.Scopes.{Body, Clock, Element, Formal, Formula, Held, Other, Shown, Stored, Thing}
use Rattle.occ_running.specs.Works as works
use Rattle.occ_running.specs.Works.{Decides, ExprForm, IsDeciding, IsNumber, IsRest, IsValue, Tells, computed, converted_by, count_value, folded, given_by, given_by_two, noted, operands, or_else, value_in, whole_count, without_fault}
use Rattle.occ_sound.specs.Agreeing.{Knows}
use Rattle.occ_sound.specs.Covering.{form_view}
use Rattle.occ_sound.proofs.Lists.{some_same}
use Rattle.occ_sound.proofs.Places.{near_cases}

-- ---- what is told is so

tells_through : {X : Type 0} (a b c : Option X) → Tells a b → Tells b c → Tells a c
tells_through None b c h k = tt
tells_through (Some x) b c h k = let k2 : Tells (Some x) c = subst (λ (z : Option _). Tells z c) h k in k2

pub noted_tells : {X : Type 0} (a b c : Option X) → Tells (or_else a b) c → Tells a c
noted_tells None b c h = tt
noted_tells (Some x) b c h = h

pub known_tells : {X : Type 0} (a b b2 c : Option X) → Tells b2 b → Tells (or_else a b) c → Tells (known_or a b2) c
known_tells None b b2 c h k = tells_through b2 b c h k
known_tells (Some x) b b2 c h k = k

pub either_tells : {X : Type 0} (a b c : Option X) → Tells a c → Tells b c → Tells (known_or a b) c
either_tells None b c h k = k
either_tells (Some x) b c h k = h

-- ---- operators

good_tells : (r : Result Value ConstFault) → Tells (if_good r) (without_fault r)
good_tells (Ok x) = refl
good_tells (Err fault) = tt

both_tells : (op : Operator) (a b a2 b2 : Option Value) → Tells a a2 → Tells b b2 → Tells (both op a b) (given_by_two (constant.folded op) a2 b2)
both_tells op None b a2 b2 h k = tt
both_tells op (Some x) None a2 b2 h k = tt
both_tells op (Some x) (Some y) a2 b2 h k =
    subst (λ (z : Option Value). Tells (if_good (constant.folded op x y)) (given_by_two (constant.folded op) z b2)) (sym h)
    (subst (λ (z : Option Value). Tells (if_good (constant.folded op x y)) (given_by (constant.folded op x) z)) (sym k) (good_tells (constant.folded op x y)))

one_tells : (op : Monadic) (a a2 : Option Value) → Tells a a2 → Tells (one op a) (given_by (constant.folded_one op) a2)
one_tells op None a2 h = tt
one_tells op (Some x) a2 h = subst (λ (z : Option Value). Tells (if_good (constant.folded_one op x)) (given_by (constant.folded_one op) z)) (sym h) (good_tells (constant.folded_one op x))

converted_tells : (base : Option Primitive) (a a2 : Option Value) → Tells a a2 → Tells (converted_base base a) (converted_by base a2)
converted_tells None a a2 h = tt
converted_tells (Some p) None a2 h = tt
converted_tells (Some p) (Some x) a2 h = subst (λ (z : Option Value). Tells (if_good (constant.converted p x)) (given_by (constant.converted p) z)) (sym h) (good_tells (constant.converted p x))

-- ---- operands that decide

and_false : (t : Bool) → Some (v.Bool false) ≡ Some (v.Bool (t && false))
and_false true = refl
and_false false = refl

or_true : (t : Bool) → Some (v.Bool true) ≡ Some (v.Bool (t || true))
or_true true = refl
or_true false = refl

-- with a deciding operand on the left or on the right
decides_left : (op : Operator) (b : Bool) (found y : Option Value) → IsDeciding op b → Tells found (Some (v.Bool b)) → Tells (both op found y) (Some (v.Bool b))
decides_left op b None y k h = tt
decides_left op b (Some x) None k h = tt
decides_left _ _ (Some x) (Some y) works.false_of_and h = subst (λ (z : Value). Tells (both operator.And (Some z) (Some y)) (Some (v.Bool false))) (some_same (v.Bool false) x h) refl
decides_left _ _ (Some x) (Some y) works.true_of_or h = subst (λ (z : Value). Tells (both operator.Or (Some z) (Some y)) (Some (v.Bool true))) (some_same (v.Bool true) x h) refl

decides_right : (op : Operator) (b : Bool) (found y : Option Value) → IsDeciding op b → Tells y (Some (v.Bool b)) → Tells (both op found y) (Some (v.Bool b))
decides_right op b None y k h = tt
decides_right op b (Some x) None k h = tt
decides_right _ _ (Some x) (Some y) works.false_of_and h =
    subst (λ (z : Value). Tells (both operator.And (Some x) (Some z)) (Some (v.Bool false))) (some_same (v.Bool false) y h) (and_false (is_true (number_of x)))
decides_right _ _ (Some x) (Some y) works.true_of_or h =
    subst (λ (z : Value). Tells (both operator.Or (Some x) (Some z)) (Some (v.Bool true))) (some_same (v.Bool true) y h) (or_true (is_true (number_of x)))

stays_decided : (env : Env) (op : Operator) (b : Bool) (found : Option Value) (es : List TypedExpr) → IsDeciding op b → Tells found (Some (v.Bool b)) → Tells (folded_after op found (values_of (expr_views es)) env) (Some (v.Bool b))
stays_decided env op b found [] k h = h
stays_decided env op b found (e ∷ es) k h = stays_decided env op b (both op found ((expr_view e).value env)) es k (decides_left op b found ((expr_view e).value env) k h)

-- ---- expressions, one after the other

abbrev pub AreKnown : Env → List TypedExpr → List Thing → Type 0
AreKnown env [] [] = Unit {0}
AreKnown env [] (x ∷ xs) = ⊥
AreKnown env (e ∷ es) (Held x n ∷ xs) = Tells ((expr_view e).value env) x × Tells ((expr_view e).size env) n × AreKnown env es xs
AreKnown env (e ∷ es) xs = ⊥

pub known_first : (env : Env) (e : TypedExpr) (es : List TypedExpr) (x : Thing) (xs : List Thing) → AreKnown env (e ∷ es) (x ∷ xs) → Tells ((expr_view e).value env) (value_in x) × AreKnown env es xs
known_first env e es (Held v n) xs h = (h.0, h.2)
known_first env e es (Element at n) xs h = absurd h
known_first env e es (Clock n) xs h = absurd h
known_first env e es (Stored t) xs h = absurd h
known_first env e es (Formal at) xs h = absurd h
known_first env e es (Body l) xs h = absurd h
known_first env e es (Formula fs rs) xs h = absurd h
known_first env e es (Shown us2) xs h = absurd h
known_first env e es Other xs h = absurd h

folded_tells : (env : Env) (op : Operator) (found found2 : Option Value) (es : List TypedExpr) (xs : List Thing) → Tells found found2 → AreKnown env es xs
    → Tells (folded_after op found (values_of (expr_views es)) env) (works.folded_after op found2 xs)
folded_tells env op found found2 [] [] h k = h
folded_tells env op found found2 [] (x ∷ xs) h k = absurd k
folded_tells env op found found2 (e ∷ es) [] h k = absurd k
folded_tells env op found found2 (e ∷ es) (x ∷ xs) h k =
    let first = known_first env e es x xs k in
    folded_tells env op (both op found ((expr_view e).value env)) (given_by_two (constant.folded op) found2 (value_in x)) es xs (both_tells op found ((expr_view e).value env) found2 (value_in x) h first.0) first.1

all_tell : (env : Env) (op : Operator) (es : List TypedExpr) (xs : List Thing) → AreKnown env es xs → Tells (folded_all op (expr_views es) env) (folded op xs)
all_tell env op [] xs k = tt
all_tell env op (e ∷ es) [] k = absurd k
all_tell env op (e ∷ es) (x ∷ xs) k = let first = known_first env e es x xs k in folded_tells env op ((expr_view e).value env) (value_in x) es xs first.0 first.1

operand_decides : (a b c : Option Value) → Tells a b → b ≡ c → Tells a c
operand_decides a b c h i = subst (λ (z : Option Value). Tells a z) i h

decided_after : (env : Env) (op : Operator) (b : Bool) (found : Option Value) (es fs : List TypedExpr) (xs : List Thing) → IsDeciding op b → AreKnown env es xs → Decides b xs
    → Tells (folded_after op found (values_of (expr_views (es ++ fs))) env) (Some (v.Bool b))
decided_after env op b found es fs [] k a h = absurd h
decided_after env op b found [] fs (x ∷ xs) k a h = absurd a
decided_after env op b found (e ∷ es) fs (x ∷ xs) k a (inl h) =
    stays_decided env op b (both op found ((expr_view e).value env)) (es ++ fs) k
    (decides_right op b found ((expr_view e).value env) k (operand_decides ((expr_view e).value env) (value_in x) (Some (v.Bool b)) (known_first env e es x xs a).0 h))
decided_after env op b found (e ∷ es) fs (x ∷ xs) k a (inr h) = decided_after env op b (both op found ((expr_view e).value env)) es fs xs k (known_first env e es x xs a).1 h

all_decided : (env : Env) (op : Operator) (b : Bool) (es fs : List TypedExpr) (xs : List Thing) → IsDeciding op b → AreKnown env es xs → Decides b xs → Tells (folded_all op (expr_views (es ++ fs)) env) (Some (v.Bool b))
all_decided env op b es fs [] k a h = absurd h
all_decided env op b [] fs (x ∷ xs) k a h = absurd a
all_decided env op b (e ∷ es) fs (x ∷ xs) k a (inl h) =
    stays_decided env op b ((expr_view e).value env) (es ++ fs) k (operand_decides ((expr_view e).value env) (value_in x) (Some (v.Bool b)) (known_first env e es x xs a).0 h)
all_decided env op b (e ∷ es) fs (x ∷ xs) k a (inr h) = decided_after env op b ((expr_view e).value env) es fs xs k (known_first env e es x xs a).1 h

-- what a deciding operand gives is what the rules know of it
pub decided_known : (env : Env) (k : Known) (op : Operator) (b : Bool) (es fs : List TypedExpr) (xs : List Thing) → IsDeciding op b → AreKnown env es xs → Decides b xs → Tells k.value (Some (v.Bool b))
    → Tells ((form_view (TypedExpr-F.Operation k op (es ++ fs))).value env) (Some (v.Bool b))
decided_known env k op b es fs xs i a h told = either_tells k.value (folded_all op (expr_views (es ++ fs)) env) (Some (v.Bool b)) told (all_decided env op b es fs xs i a h)

applied_tells : (env : Env) (op : Monadic) (e : TypedExpr) (x : Known) (xs : List Thing) → AreKnown env (e ∷ []) xs → Tells (one op ((expr_view e).value env)) (computed (TypedExpr-F.Applied x op e) xs)
applied_tells env op e x [] k = absurd k
applied_tells env op e x (y ∷ []) k = let first = known_first env e [] y [] k in one_tells op ((expr_view e).value env) (value_in y) first.0
applied_tells env op e x (y ∷ z ∷ xs) k = let first = known_first env e [] y (z ∷ xs) k in absurd first.1

converted_known : (env : Env) (e : TypedExpr) (x : Known) (xs : List Thing) → AreKnown env (e ∷ []) xs → Tells (converted_to x.of ((expr_view e).value env)) (computed (TypedExpr-F.Converted x e) xs)
converted_known env e x [] k = absurd k
converted_known env e x (y ∷ []) k = let first = known_first env e [] y [] k in converted_tells (as_primitive (unnamed x.of)) ((expr_view e).value env) (value_in y) first.0
converted_known env e x (y ∷ z ∷ xs) k = let first = known_first env e [] y (z ∷ xs) k in absurd first.1

same_list : (es fs : List TypedExpr) → Some es ≡ Some fs → es ≡ fs
same_list es fs h = some_same es fs h

-- what an expression gives is what the rules know of it
pub operation_known : (env : Env) (f : ExprForm) (es : List TypedExpr) (xs : List Thing) (x : Option Value) → operands f ≡ Some es → AreKnown env es xs → IsValue f xs x → Tells ((form_view f).value env) x
operation_known env (TypedExpr-F.Literal k) es xs x o h i = noted_tells k.value (computed (TypedExpr-F.Literal k) xs) x i
operation_known env (TypedExpr-F.Element el) es xs x o h i = absurd cc
operation_known env (TypedExpr-F.Operation k op gs) es xs x o h i =
    known_tells k.value (folded op xs) (folded_all op (expr_views gs) env) x (all_tell env op gs xs (subst (λ (z : List TypedExpr). AreKnown env z xs) (sym (same_list gs es o)) h)) i
operation_known env (TypedExpr-F.Applied k op e) es xs x o h i =
    known_tells k.value (computed (TypedExpr-F.Applied k op e) xs) (one op ((expr_view e).value env)) x (applied_tells env op e k xs (subst (λ (z : List TypedExpr). AreKnown env z xs) (sym (same_list (e ∷ []) es o)) h)) i
operation_known env (TypedExpr-F.Size k e) es xs x o h i = absurd cc
operation_known env (TypedExpr-F.Converted k e) es xs x o h i =
    known_tells k.value (computed (TypedExpr-F.Converted k e) xs) (converted_to k.of ((expr_view e).value env)) x (converted_known env e k xs (subst (λ (z : List TypedExpr). AreKnown env z xs) (sym (same_list (e ∷ []) es o)) h)) i
operation_known env (TypedExpr-F.Table k gs) es xs x o h i = tt
operation_known env (TypedExpr-F.Call k callee actuals) es xs x o h i = absurd cc

pub operation_size : (env : Env) (f : ExprForm) (es : List TypedExpr) → operands f ≡ Some es → (form_view f).size env ≡ None
operation_size env (TypedExpr-F.Literal k) es o = refl
operation_size env (TypedExpr-F.Element el) es o = absurd cc
operation_size env (TypedExpr-F.Operation k op gs) es o = refl
operation_size env (TypedExpr-F.Applied k op e) es o = refl
operation_size env (TypedExpr-F.Size k e) es o = refl
operation_size env (TypedExpr-F.Converted k e) es o = refl
operation_size env (TypedExpr-F.Table k gs) es o = refl
operation_size env (TypedExpr-F.Call k callee actuals) es o = refl

-- ---- numbers of components

size_if : (t : Bool) (n : ℤ) → Tells (if t then Some (v.Int n) else None) (Some (v.Int n))
size_if true n = refl
size_if false n = tt

pub size_tells : (a b : Option ℤ) → Tells a b → Tells (size_value a) (count_value b)
size_tells None b h = tt
size_tells (Some n) b h = subst (λ (z : Option ℤ). Tells (size_value (Some n)) (count_value z)) (sym h) (size_if _ n)

int_known_by : (x y : Value) (k : ℤ) → y ≡ x → y ≡ v.Int k → Knows (int_in x) k
int_known_by x y k h i = subst (λ (z : Value). Knows (int_in z) k) (sym i ∙ h) refl

-- a number of INT that the rules know
pub int_known : (a : Option Value) (x : Thing) (k : ℤ) → Tells a (value_in x) → IsNumber k x → Knows (int_of a) k
int_known None x k h i = tt
int_known (Some w) x k h i = subst (λ (z : Value). Knows (int_in z) k) (some_same (v.Int k) w (sym i ∙ h)) refl

rest_of : (n k m : ℤ) → n +ℤ k ≡ m → m -ℤ k ≡ n
rest_of n k m h = grind (arith, ints, h)

near_known : (m n : ℤ) → m ≡ n → Knows (near m) n
near_known m n h = elim (near_cases m) [
  | inl e ↦ subst (λ (o : Option ℤ). Knows o n) (sym e) tt
  | inr e ↦ subst (λ (o : Option ℤ). Knows o n) (sym e) h
]

knows_some : (a : Option ℤ) (k : ℤ) → Knows a k → Tells a (Some k)
knows_some None k h = tt
knows_some (Some x) k h = ap Some (sym h)

less_known : (size : Option ℤ) (base : Option ℤ) (k n : ℤ) → Knows base k → IsRest size k n → Knows (less size base) n
less_known None base k n h i = tt
less_known (Some m) None k n h i = tt
less_known (Some m) (Some b) k n h i = near_known (m -ℤ b) n (ap (λ (z : ℤ). m -ℤ z) h ∙ rest_of n k m i)

rest_told : (size count : Option ℤ) (k n : ℤ) → Tells size count → IsRest count k n → IsRest size k n
rest_told None count k n h i = tt
rest_told (Some m) count k n h i = subst (λ (z : Option ℤ). IsRest z k n) h i

-- the components that are left, as the rules know their number
pub rest_known : (typed : Option ℕ) (size count base : Option ℤ) (k n : ℤ) → Tells size count → Knows base k → IsRest (whole_count typed count) k n → Knows (less (whole typed size) base) n
rest_known (Some m) size count base k n h i r = less_known (Some (pos m)) base k n i r
rest_known None size count base k n h i r = less_known size base k n i (rest_told size count k n h r)

pub knows_tells : (a : Option ℤ) (k : ℤ) → Knows a k → Tells a (Some k)
knows_tells a k h = knows_some a k h
