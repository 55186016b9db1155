-- Tables with their type, literals, conversions and calls: what the relation says of what is known of them.
use Rattle.std.proofs.Common.{◌≡◌, ◌∙◌, ◌⊎◌, inl, inr, ℕ, Bool, true, false, List, [], ◌∷◌, map, length, Option, Some, None, if◌then◌else◌, refl, ap, sym, subst, arith}
use Rattle.std.specs.List.{list_any}
use Rattle.std.specs.Prelude.{◌==◌, nat_le, pos}
use Rattle.occ_base.specs.declared.code.Code.TheVariants as code
use Rattle.occ_expr_operations.specs.Literals.{byte, decorated_kind, decorated_literal, literal}
use Rattle.occ_expr_operations.specs.Operations.{converted, extreme_of, limit_of, plain}
use Rattle.occ_expr_operations.specs.Parts.{Said, function_call, one_result, table_as, terms}
use Rattle.occ_forms_expressions.specs.declared.tree.Expr.{Expr}
use Rattle.occ_forms_expressions.specs.declared.tree.Extreme.{Extreme}
use Rattle.occ_forms_expressions.specs.declared.tree.Literal.{Literal}
use Rattle.occ_forms_expressions.specs.declared.tree.Literal.TheVariants as l
use Rattle.occ_scope.specs.declared.scope.Scope.{Scope}
use Rattle.occ_typing_operands.specs.Operators.{is_faulty, kinds}
use Rattle.occ_typing_operands.specs.Outcomes.{decimal, fitting, hexadecimal}
use Rattle.occ_typing_operands.specs.Parts.{mismatched}
use Rattle.occ_typing_operands.specs.Settling.{Finding, base_of, fault_of, int, known, number, settled, silent}
use Rattle.occ_typing_operands.specs.Wanting.{fitted}
use Rattle.occ_typing_operands.specs.declared.kind.Kind.{Kind}
use Rattle.occ_typing_operands.specs.declared.kind.Kind.TheVariants as k
use Rattle.occ_typing_operands.specs.declared.kind.Known.{Known}
use Rattle.occ_typing_rules.specs.Calling.{as_many, each_for, matched}
use Rattle.occ_typing_rules.specs.Numbering.{any_faulty}
use Rattle.occ_typing_rules.specs.Numbering as numbering
use Rattle.occ_typing_tables.specs.Decorating.{field_values, of_another_number, of_components, of_fields, of_values, whole}
use Rattle.occ_typing_tables.specs.Extents.{arrayed, is_too_large}
use Rattle.occ_typing_tables.specs.Measuring.{most_of}
use Rattle.occ_typing_tables.specs.Terms.{Judged, alone, judged, judged_all, so_many, table_alone, table_type}
use Rattle.occ_typing_tables.specs.declared.term.Term.{Term}
use Rattle.occ_types.specs.Constant.{number_value, pattern_value, value_of}
use Rattle.occ_types.specs.Fits.{alike, fits, is_data, unnamed}
use Rattle.occ_types.specs.View.{as_array, fields_in}
use Rattle.occ_types.specs.declared.interface.Formal.{Formal}
use Rattle.occ_types.specs.declared.types.Field.{Field}
use Rattle.occ_types.specs.declared.types.OccType.{OccType}
use Rattle.occ_types.specs.declared.types.OccType.TheVariants as t
use Rattle.occ_types.specs.declared.value.Primitive.{Primitive}
use Rattle.occ_types.specs.declared.value.Primitive.TheVariants as p
use Rattle.occ_has_type.specs.Free.{is_free, is_integer}
use Rattle.occ_has_type.specs.Trees.{end_of}
use Rattle.occ_has_type.specs.Types.{AreActuals, DecoratedHasType, HasType, IsNumber, IsTableOf, LiteralHasType, StandsAlone, Takes}
use Rattle.occ_has_type.specs.Types as has
use Rattle.occ_has_type.proofs.Fitting.{second_same}
use Rattle.occ_has_type.proofs.Literals.{ends, int_base}
use Rattle.occ_has_type.proofs.Means.{Converts, Has, Knows, Means, Settles, chosen, knows_chosen, knows_conversion, knows_otherwise, knows_unless, settles}
use Rattle.occ_has_type.proofs.Operating.{Beside, integer_means, neither_true}
use Rattle.occ_has_type.proofs.Outcomes.{each_good}
use Rattle.occ_has_type.proofs.Reading.{AllRead, Decorates, Reads, array_known, fields_of, typed_means, under_reads}

-- ---- a table with its type

pub mismatched_faulty : (kind : Kind) → (mismatched kind).kind ≡ k.Faulty
mismatched_faulty k.Faulty = refl
mismatched_faulty (k.Untyped f) = refl
mismatched_faulty (k.Known x) = refl

abbrev kind_if : Bool → Finding → Finding → Kind
kind_if b x y = (chosen b x y).kind

unless_fault : (b : Bool) → kind_if b silent (fault_of code.T4) ≡ k.Faulty
unless_fault true = refl
unless_fault false = refl

knows_faulty : (Q : Known → Type 0) (kind : Kind) → kind ≡ k.Faulty → Knows Q kind
knows_faulty Q kind is = subst (Knows Q) (sym is) tt

same_number : (m n : ℕ) → (m == n) ≡ true → m ≡ n
same_number m n e = grind (arith, e)

record_if : (s : Scope) (es : List Expr) (xs : List Term) (to : OccType) (fs : List Field) (b : Bool) → (length fs == length (judged_all xs)) ≡ b → as_array (unnamed to) ≡ None → fields_in (unnamed to) ≡ Some fs → AllRead s es (judged_all xs)
    → Knows (Decorates s es to) (chosen b (of_values to fs (judged_all xs)) (of_another_number (judged_all xs))).kind
record_if s es xs to fs true at none is h =
    knows_unless (Decorates s es to) (list_any is_faulty (kinds (field_values fs (judged_all xs)))) (whole to)
    (λ sound. (refl, refl, has.values es to fs none is (fields_of s es xs fs (same_number (length fs) (length (judged_all xs)) at) h sound)))
record_if s es xs to fs false at none is h = knows_faulty (Decorates s es to) _ (unless_fault (list_any is_faulty (kinds (map alone (judged_all xs)))))

fields_known : (s : Scope) (es : List Expr) (xs : List Term) (to : OccType) (fields : Option (List Field)) → as_array (unnamed to) ≡ None → fields_in (unnamed to) ≡ fields → AllRead s es (judged_all xs)
    → Knows (Decorates s es to) (of_fields to fields (judged_all xs)).kind
fields_known s es xs to None none is h = knows_faulty (Decorates s es to) _ (mismatched_faulty (table_alone (judged_all xs)).kind)
fields_known s es xs to (Some fs) none is h = record_if s es xs to fs (length fs == length (judged_all xs)) refl none is h

components_known : (s : Scope) (es : List Expr) (xs : List Term) (to : OccType) (parts : Option (Option ℕ × OccType)) → as_array (unnamed to) ≡ parts → AllRead s es (judged_all xs)
    → Knows (Decorates s es to) (of_components to parts (judged_all xs)).kind
components_known s es xs to None is h = fields_known s es xs to (fields_in (unnamed to)) is refl h
components_known s es xs to (Some parts) is h = array_known s es (judged_all xs) to parts is h

pub decorated_known : (s : Scope) (es : List Expr) (xs : List Term) (to : OccType) → AllRead s es (judged_all xs) → Knows (Decorates s es to) (table_as (Some to) xs).kind
unfolding table_as
decorated_known s es xs to h = components_known s es xs to (as_array (unnamed to)) refl h

-- ---- literals

array_of_bytes : (bytes : List ℕ) → Knows (λ x. LiteralHasType (l.String bytes) x.of x.value) (table_type (length bytes) (Some byte)).kind
array_of_bytes bytes =
    let Q = λ (x : Known). LiteralHasType (l.String bytes) x.of x.value in
    let n = length bytes in
    knows_chosen Q (is_data byte) (so_many n byte) code.T2
    (λ data_in. knows_chosen Q (nat_le n 4294967295) (arrayed (Some n) byte) code.T9
    (λ few. knows_otherwise Q (is_too_large (t.Array (Some n) byte)) (record { faults = []; kind = known (t.Array (Some n) byte) None }) code.T9
    (λ small. has.string bytes (record { data_inside = data_in; counted = few; small = small }))))

pub literal_means : (lit : Literal) → Means (is_integer lit) (LiteralHasType lit) (literal lit).kind
unfolding literal
literal_means (l.Decimal i) =
    (refl, integer_means (LiteralHasType (l.Decimal i)) (decimal (pos i)) (λ base. number_value base (pos i)) (λ base good. each_good false (λ x. fitting (number_value x (pos i))) base good) (λ of base value n is. has.decimal i of base value n is))
literal_means (l.Hexadecimal i) =
    (refl, integer_means (LiteralHasType (l.Hexadecimal i)) (hexadecimal i) (λ base. pattern_value base i) (λ base good. each_good false (λ x. fitting (pattern_value x i)) base good) (λ of base value n is. has.hexadecimal i of base value n is))
literal_means (l.Character b) = (refl, has.character b)
literal_means (l.String bytes) = typed_means (LiteralHasType (l.String bytes)) (table_type (length bytes) (Some byte)).kind (array_of_bytes bytes)

abbrev pub DecoratedKnown : Literal → OccType → Known → Type 0
DecoratedKnown lit to x = (x.of ≡ to) × DecoratedHasType lit to x.value

integer_known : (lit : Literal) (to : OccType) (x : Known) → is_integer lit ≡ true → Settles to (is_integer lit) (LiteralHasType lit) x → fits to x.of ≡ true → DecoratedKnown lit to x
integer_known lit to x free h fit = by (h.1 free) where
  here : x.of ≡ to → DecoratedKnown lit to x
  here is = (is, has.integer lit to x.value free (subst (λ (z : OccType). LiteralHasType lit z x.value) is h.0))

  by : (x.of ≡ to) ⊎ (x.of ≡ int) → DecoratedKnown lit to x
  by (inl is) = here is
  by (inr is) = here (sym (second_same to x.of p.Int (ap base_of is ∙ int_base) fit))

integers_known : (lit : Literal) (to : OccType) (kind : Kind) → is_integer lit ≡ true → Knows (Settles to (is_integer lit) (LiteralHasType lit)) kind → Knows (DecoratedKnown lit to) (fitted to kind).kind
integers_known lit to k.Faulty free h = tt
integers_known lit to (k.Untyped f) free h = tt
integers_known lit to (k.Known x) free h = knows_chosen (DecoratedKnown lit to) (fits to x.of) (record { faults = []; kind = k.Known x }) code.T2 (λ fit. integer_known lit to x free h fit)

kind_known : (lit : Literal) (to : OccType) (kind : Kind) → Means (is_integer lit) (LiteralHasType lit) kind → Knows (DecoratedKnown lit to) (decorated_kind to kind).kind
kind_known lit to k.Faulty h = tt
kind_known lit to (k.Untyped f) h = integers_known lit to (settled to (k.Untyped f)).kind h.0 (settles to (is_integer lit) (LiteralHasType lit) (k.Untyped f) h)
kind_known lit to (k.Known x) h = knows_chosen (DecoratedKnown lit to) (alike to x.of) (record { faults = []; kind = known to x.value }) code.T2 (λ is. (refl, has.text lit to x.of x.value h.0 h.1 is))

pub decorated_literal_known : (lit : Literal) (to : OccType) → Knows (DecoratedKnown lit to) (decorated_literal (Some to) lit).kind
unfolding decorated_literal
decorated_literal_known lit to = kind_known lit to (literal lit).kind (literal_means lit)

-- ---- the ends of a type

abbrev pub MostKnown : Extreme → OccType → Known → Type 0
MostKnown e to x = (x.of ≡ to) × (base : Primitive) × IsNumber to base × (x.value ≡ Some (value_of base (end_of e base)))

most_known : (e : Extreme) (to : OccType) (base : Option Primitive) → number (base_of to) ≡ base → Knows (MostKnown e to) (most_of (limit_of e) to base).kind
most_known e to None is = tt
most_known e to (Some base) is = (refl, base, is, ap Some (ends e base))

pub extreme_known : (e : Extreme) (to : OccType) → Knows (MostKnown e to) (extreme_of e (Some to)).kind
unfolding extreme_of
extreme_known e to = most_known e to (number (base_of to)) refl

-- ---- conversions

pub converted_known : (to : OccType) (free : Bool) (A : Has) (T : OccType → Has) (B : Has) (j : Judged) → Reads free A T B j → Knows (Converts to A) (converted (Some to) j).kind
unfolding converted plain
converted_known to free A T B j h = knows_conversion to A (j.beside false).kind h.plain

pub unknown_type : (Q : Known → Type 0) (j : Judged) → Knows Q (converted None j).kind
unfolding converted
unknown_type Q j = tt

-- ---- calls of functions

actuals_known : (s : Scope) (es : List Expr) (xs : List Term) (fs : List Formal) → length fs ≡ length (judged_all xs) → AllRead s es (judged_all xs) → list_any is_faulty (kinds (each_for fs (judged_all xs))) ≡ false → AreActuals s es fs
actuals_known s [] [] [] at h sound = has.no_actual
actuals_known s [] [] (f ∷ fs) at h sound = absurd cc
actuals_known s [] (x ∷ xs) fs at h sound = absurd h
actuals_known s (e ∷ es) [] fs at h sound = absurd h
actuals_known s (e ∷ es) (x ∷ xs) [] at h sound = absurd cc
actuals_known s (e ∷ es) (x ∷ xs) (f ∷ fs) at h sound =
    let both = neither_true (is_faulty ((judged x).under f.of).kind) (list_any is_faulty (kinds (each_for fs (judged_all xs)))) sound in
    by ((judged x).under f.of).kind (under_reads (is_free e) (StandsAlone s e) (Takes s e) (Beside (HasType s e)) x f.of h.0) both.0 (actuals_known s es xs fs (cc (at)) h.1 both.1)
  where
    by : (kind : Kind) → Knows (λ y. Takes s e f.of y.of y.value) kind → is_faulty kind ≡ false → AreActuals s es fs → AreActuals s (e ∷ es) (f ∷ fs)
    by k.Faulty g fine below = absurd cc
    by (k.Untyped u) g fine below = absurd g
    by (k.Known y) g fine below = has.one_actual e es f fs y.of y.value g below

-- what is known of a call: it has one result, and its actuals are of the types of the formals
abbrev pub CallKnown : Scope → List Expr → List Formal → List OccType → Known → Type 0
CallKnown s es formals results x = (results ≡ x.of ∷ []) × (x.value ≡ None) × AreActuals s es formals

result_known : (s : Scope) (es : List Expr) (formals : List Formal) (results : List OccType) → AreActuals s es formals → Knows (CallKnown s es formals results) (one_result results).kind
result_known s es formals [] h = tt
result_known s es formals (of ∷ []) h = (refl, refl, h)
result_known s es formals (of ∷ u ∷ us) h = tt

matched_actuals : (s : Scope) (es : List Expr) (xs : List Term) (formals : List Formal) → AllRead s es (judged_all xs) → (matched formals (judged_all xs)).is_faulty ≡ false → AreActuals s es formals
matched_actuals s es xs formals h = by (length formals == length (judged_all xs)) refl where
  by : (b : Bool) → (length formals == length (judged_all xs)) ≡ b
      → (if b then as_many (each_for formals (judged_all xs)) else record { faults = numbering.of_another_number false (map alone (judged_all xs)); is_faulty = true }).is_faulty ≡ false → AreActuals s es formals
  by true at sound = actuals_known s es xs formals (same_number (length formals) (length (judged_all xs)) at) h sound
  by false at sound = absurd cc

pub function_known : (s : Scope) (es : List Expr) (formals : List Formal) (results : List OccType) (xs : List Said) → AllRead s es (judged_all (terms xs))
    → Knows (CallKnown s es formals results) (function_call formals results xs).kind
unfolding function_call
function_known s es formals results xs h =
    knows_unless (CallKnown s es formals results) (matched formals (judged_all (terms xs))).is_faulty (one_result results)
    (λ sound. result_known s es formals results (matched_actuals s es (terms xs) formals h sound))
