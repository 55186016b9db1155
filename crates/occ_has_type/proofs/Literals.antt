-- Literals: their trees have the value that is written.
use Rattle.std.proofs.Common.{◌≡◌, ◌∙◌, ℕ, Bool, true, false, [], length, Option, Some, None, if◌then◌else◌, refl, ap, sym, subst}
use Rattle.std.specs.Prelude.{ℤ, pos, nat_le}
use Rattle.occ_base.specs.declared.code.Code.{Code}
use Rattle.occ_base.specs.declared.code.Code.TheVariants as code
use Rattle.occ_expr_operations.specs.Literals.{byte, decorated_kind, decorated_literal, literal}
use Rattle.occ_expr_operations.specs.Operations.{extreme_of, limit_of}
use Rattle.occ_forms_expressions.specs.declared.tree.Extreme.{Extreme}
use Rattle.occ_forms_expressions.specs.declared.tree.Extreme.TheVariants as extreme
use Rattle.occ_forms_expressions.specs.declared.tree.Literal.{Literal}
use Rattle.occ_forms_expressions.specs.declared.tree.Literal.TheVariants as l
use Rattle.occ_typing_operands.specs.Outcomes.{decimal, fitting, hexadecimal, in_type}
use Rattle.occ_typing_operands.specs.Settling.{Finding, base_of, fault_of, faulty_if, int, known, landed, landed_or_int, number, settled, settled_untyped}
use Rattle.occ_typing_operands.specs.Wanting.{fitted, wanted}
use Rattle.occ_typing_operands.specs.declared.kind.Untyped.{Untyped}
use Rattle.occ_typing_operands.specs.declared.kind.Kind.{Kind}
use Rattle.occ_typing_operands.specs.declared.kind.Kind.TheVariants as k
use Rattle.occ_typing_operands.specs.declared.kind.Known.{Known}
use Rattle.occ_typing_operands.specs.declared.kind.TypedValue.{TypedValue}
use Rattle.occ_typing_operands.specs.declared.kind.TypedValue.TheVariants as o
use Rattle.occ_typing_rules.specs.Placing.{constant_in, known_in, value_in_base}
use Rattle.occ_typing_tables.specs.Extents.{arrayed, is_too_large}
use Rattle.occ_typing_tables.specs.Measuring.{most, most_of}
use Rattle.occ_typing_tables.specs.Measuring as measuring
use Rattle.occ_typing_tables.specs.Terms.{so_many, table_type}
use Rattle.occ_types.specs.Constant.{number_value, pattern_value, value_of}
use Rattle.occ_types.specs.Fits.{alike, fits, is_data}
use Rattle.occ_types.specs.View.{as_primitive}
use Rattle.occ_types.specs.declared.types.OccType.{OccType}
use Rattle.occ_types.specs.declared.types.OccType.TheVariants as t
use Rattle.occ_types.specs.declared.value.Primitive.{Primitive}
use Rattle.occ_types.specs.declared.value.Primitive.TheVariants as p
use Rattle.occ_types.specs.declared.value.Value.{Value}
use Rattle.occ_types.proofs.Agreeing.{as_primitive_at_primitive, unnamed_of_primitive}
use Rattle.occ_has_type.specs.Trees.{IsOfLiteral, decimal_in, end_in, end_of, hexadecimal_in}
use Rattle.occ_has_type.proofs.Gives.{Tells}

fitting_is : (value : Option Value) → constant_in (fitting value) ≡ value
fitting_is None = refl
fitting_is (Some x) = refl

pub decimal_is : (n : ℤ) (base : Option Primitive) → value_in_base (decimal n) (number base) ≡ decimal_in (number base) n
decimal_is n None = refl
decimal_is n (Some p.Bool) = refl
decimal_is n (Some p.Byte) = fitting_is (number_value p.Byte n)
decimal_is n (Some p.Int) = fitting_is (number_value p.Int n)
decimal_is n (Some p.Int16) = fitting_is (number_value p.Int16 n)
decimal_is n (Some p.Int32) = fitting_is (number_value p.Int32 n)
decimal_is n (Some p.Int64) = fitting_is (number_value p.Int64 n)

pub hexadecimal_is : (n : ℕ) (base : Option Primitive) → value_in_base (hexadecimal n) (number base) ≡ hexadecimal_in (number base) n
hexadecimal_is n None = refl
hexadecimal_is n (Some p.Bool) = refl
hexadecimal_is n (Some p.Byte) = fitting_is (pattern_value p.Byte n)
hexadecimal_is n (Some p.Int) = fitting_is (pattern_value p.Int n)
hexadecimal_is n (Some p.Int16) = fitting_is (pattern_value p.Int16 n)
hexadecimal_is n (Some p.Int32) = fitting_is (pattern_value p.Int32 n)
hexadecimal_is n (Some p.Int64) = fitting_is (pattern_value p.Int64 n)

-- ---- what is free, where a type is wanted of it

pub int_base : base_of int ≡ Some p.Int
int_base = ap as_primitive (unnamed_of_primitive p.Int) ∙ as_primitive_at_primitive p.Int

landed_tells : (Q : Known → Type 0) (of : OccType) (x : TypedValue) → Q (record { of = of; value = constant_in x }) → Tells Q (landed of x).kind
landed_tells Q of o.Unfit h = tt
landed_tells Q of (o.Faulty w) h = tt
landed_tells Q of o.Varying h = h
landed_tells Q of (o.Constant u) h = h

int_tells : (Q : Known → Type 0) (f : Untyped) → Q (known_in f int) → Tells Q (landed int f.int).kind
int_tells Q f h = landed_tells Q int f.int (subst (λ (b : Option Primitive). Q (record { of = int; value = value_in_base f (number b) })) int_base h)

or_int_tells : (Q : Known → Type 0) (of : OccType) (f : Untyped) (x : TypedValue) → Q (record { of = of; value = constant_in x }) → Q (known_in f int) → Tells Q (landed_or_int of f x).kind
or_int_tells Q of f o.Unfit h g = int_tells Q f g
or_int_tells Q of f (o.Faulty w) h g = tt
or_int_tells Q of f o.Varying h g = h
or_int_tells Q of f (o.Constant u) h g = h

untyped_tells : (Q : Known → Type 0) (of : OccType) (f : Untyped) (base : Option Primitive) → Q (record { of = of; value = value_in_base f base }) → Q (known_in f int) → Tells Q (settled_untyped of f base).kind
untyped_tells Q of f None h g = int_tells Q f g
untyped_tells Q of f (Some base) h g = or_int_tells Q of f (in_type f base) h g

if_tells : (Q : Known → Type 0) (b : Bool) (x : Finding) → Tells Q x.kind → Tells Q (faulty_if b x).kind
if_tells Q true x h = tt
if_tells Q false x h = h

settled_tells : (Q : Known → Type 0) (of : OccType) (f : Untyped) → ((to : OccType) → Q (known_in f to)) → Tells Q (settled of (k.Untyped f)).kind
settled_tells Q of f h = if_tells Q f.is_faulty (settled_untyped of f (number (base_of of))) (untyped_tells Q of f (number (base_of of)) (h of) (h int))

abbrev pub chosen : Bool → Finding → Finding → Finding
chosen b x y = if b then x else y

chosen_tells : (Q : Known → Type 0) (b : Bool) (x : Finding) (c : Code) → Tells Q x.kind → Tells Q (chosen b x (fault_of c)).kind
chosen_tells Q true x c h = h
chosen_tells Q false x c h = tt

otherwise_tells : (Q : Known → Type 0) (b : Bool) (x : Finding) (c : Code) → Tells Q x.kind → Tells Q (chosen b (fault_of c) x).kind
otherwise_tells Q true x c h = tt
otherwise_tells Q false x c h = h

fitted_tells : (Q : Known → Type 0) (of : OccType) (kind : Kind) → Tells Q kind → Tells Q (fitted of kind).kind
fitted_tells Q of k.Faulty h = tt
fitted_tells Q of (k.Untyped f) h = tt
fitted_tells Q of (k.Known x) h = chosen_tells Q (fits of x.of) (record { faults = []; kind = k.Known x }) code.T2 h

wanted_tells : (Q : Known → Type 0) (of : OccType) (f : Untyped) → ((to : OccType) → Q (known_in f to)) → Tells Q (wanted of (k.Untyped f)).kind
wanted_tells Q of f h = fitted_tells Q of (settled of (k.Untyped f)).kind (settled_tells Q of f h)

-- ---- literals

array_tells : (Q : Known → Type 0) (n : ℕ) (of : OccType) → ((to : OccType) → Q (record { of = to; value = None })) → Tells Q (table_type n (Some of)).kind
array_tells Q n of h =
    chosen_tells Q (is_data of) (so_many n of) code.T2
    (chosen_tells Q (nat_le n 4294967295) (arrayed (Some n) of) code.T9
    (otherwise_tells Q (is_too_large (t.Array (Some n) of)) (record { faults = []; kind = known (t.Array (Some n) of) None }) code.T9 (h (t.Array (Some n) of))))

-- a literal without its type is free, or its value goes with each type that it is decorated with
pub literal_tells : (lit : Literal) → Tells (IsOfLiteral lit) (literal lit).kind
unfolding literal
literal_tells (l.Decimal n) = λ of. decimal_is (pos n) (base_of of)
literal_tells (l.Hexadecimal n) = λ of. hexadecimal_is n (base_of of)
literal_tells (l.Character b) = refl
literal_tells (l.String bytes) = array_tells (IsOfLiteral (l.String bytes)) (length bytes) byte (λ to. refl)

-- what holds of a value does so under each type
abbrev GoesWithAny : Literal → Kind → Type 0
GoesWithAny lit k.Faulty = Unit {0}
GoesWithAny lit (k.Untyped f) = (of : OccType) → IsOfLiteral lit (known_in f of)
GoesWithAny lit (k.Known x) = (of : OccType) → IsOfLiteral lit (record { of = of; value = x.value })

goes_chosen : (lit : Literal) (b : Bool) (x : Finding) (c : Code) → GoesWithAny lit x.kind → GoesWithAny lit (chosen b x (fault_of c)).kind
goes_chosen lit true x c h = h
goes_chosen lit false x c h = tt

goes_otherwise : (lit : Literal) (b : Bool) (x : Finding) (c : Code) → GoesWithAny lit x.kind → GoesWithAny lit (chosen b (fault_of c) x).kind
goes_otherwise lit true x c h = tt
goes_otherwise lit false x c h = h

goes : (lit : Literal) → GoesWithAny lit (literal lit).kind
unfolding literal
goes (l.Decimal n) = λ of. decimal_is (pos n) (base_of of)
goes (l.Hexadecimal n) = λ of. hexadecimal_is n (base_of of)
goes (l.Character b) = λ of. refl
goes (l.String bytes) =
    goes_chosen (l.String bytes) (is_data byte) (so_many (length bytes) byte) code.T2
    (goes_chosen (l.String bytes) (nat_le (length bytes) 4294967295) (arrayed (Some (length bytes)) byte) code.T9
    (goes_otherwise (l.String bytes) (is_too_large (t.Array (Some (length bytes)) byte)) (record { faults = []; kind = known (t.Array (Some (length bytes)) byte) None }) code.T9 (λ of. refl)))

kind_tells : (lit : Literal) (to : OccType) (kind : Kind) → GoesWithAny lit kind → Tells (IsOfLiteral lit) (decorated_kind to kind).kind
kind_tells lit to k.Faulty h = tt
kind_tells lit to (k.Untyped f) h = wanted_tells (IsOfLiteral lit) to f h
kind_tells lit to (k.Known x) h = chosen_tells (IsOfLiteral lit) (alike to x.of) (record { faults = []; kind = known to x.value }) code.T2 (h to)

pub decorated_tells : (to : Option OccType) (lit : Literal) → Tells (IsOfLiteral lit) (decorated_literal to lit).kind
unfolding decorated_literal
decorated_tells None lit = tt
decorated_tells (Some to) lit = kind_tells lit to (literal lit).kind (goes lit)

-- ---- the ends of a type

abbrev IsEnd : Extreme → Known → Type 0
IsEnd e x = x.value ≡ end_in e (number (base_of x.of))

pub ends : (e : Extreme) (base : Primitive) → value_of base (measuring.limit_of (limit_of e) base) ≡ value_of base (end_of e base)
ends extreme.Greatest base = refl
ends extreme.Least base = refl

most_tells : (e : Extreme) (of : OccType) (base : Option Primitive) → number (base_of of) ≡ base → Tells (IsEnd e) (most_of (limit_of e) of base).kind
most_tells e of None is = tt
most_tells e of (Some base) is = ap Some (ends e base) ∙ ap (end_in e) (sym is)

pub extreme_tells : (e : Extreme) (of : Option OccType) → Tells (IsEnd e) (extreme_of e of).kind
unfolding extreme_of
extreme_tells e None = tt
extreme_tells e (Some of) = most_tells e of (number (base_of of)) refl
