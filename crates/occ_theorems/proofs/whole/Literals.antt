-- Literals, conversions and tables with their type, without faults.
use Rattle.std.proofs.Common.{◌≡◌, ◌∙◌, ◌+◌, ◌++◌, ◌||◌, inr, ℕ, Bool, true, false, List, [], ◌∷◌, map, length, Option, Some, None, if◌then◌else◌, refl, ap, sym, subst, arith}
use Rattle.std.specs.Prelude.{◌==◌, pos, ◌-ℤ◌, nat_le}
use Rattle.std.specs.List.{list_any}
use Rattle.occ_base.specs.declared.code.Code.TheVariants as code
use Rattle.occ_expr_operations.specs.OpenExprs.{applied_open, components_placed, converted_of, converted_to, conversion_open, decorated_open, front_open, items_placed, literal_open, negated_open, operation_open, pair_open, shift_open, size_open, size_of, type_alone, types_of, values_placed}
use Rattle.occ_expr_operations.specs.Literals.{byte, decorated_kind, decorated_literal, literal, truth}
use Rattle.occ_expr_operations.specs.Operations.{among, applied, converted, each_among, extreme_of, in_front, limit_of, negated, number_of_faulty, operation, pair, pair_operator, plain, shift, together}
use Rattle.occ_forms_expressions.specs.declared.tree.Extreme.{Extreme}
use Rattle.occ_forms_expressions.specs.declared.tree.Literal.{Literal}
use Rattle.occ_forms_expressions.specs.declared.tree.Literal.TheVariants as l
use Rattle.occ_forms_expressions.specs.declared.tree.MonadicOperator.{MonadicOperator}
use Rattle.occ_forms_expressions.specs.declared.tree.MonadicOperator.TheVariants as mo
use Rattle.occ_forms_expressions.specs.declared.tree.PairOperator.{PairOperator}
use Rattle.occ_forms_expressions.specs.declared.tree.PairOperator.TheVariants as po
use Rattle.occ_typing_operands.specs.Operators.{all_faults, front_operated, is_faulty, kinds, operated, shift_operated}
use Rattle.occ_typing_operands.specs.Outcomes.{decimal, hexadecimal}
use Rattle.occ_typing_operands.specs.Parts.{mismatched}
use Rattle.occ_typing_operands.specs.Settling.{Finding, base_of, fault_of, int, known, landed, number, settled}
use Rattle.occ_typing_operands.specs.Wanting.{cast, conversion, converted_from, converts, wanted}
use Rattle.occ_typing_operands.specs.declared.kind.Kind.{Kind}
use Rattle.occ_typing_operands.specs.declared.kind.Kind.TheVariants as k
use Rattle.occ_typing_operands.specs.declared.kind.Known.{Known}
use Rattle.occ_typing_tables.specs.Decorating.{decorated_table, field_value, field_values, misused, of_another_number, of_array, of_components, of_count, of_fields, of_values, whole}
use Rattle.occ_typing_tables.specs.Measuring.{most, most_of, size_of_array, size_outcome, sized}
use Rattle.occ_typing_tables.specs.Terms.{Judged, alone, and_then, each_under, table_alone, table_type, unless_faulty}
use Rattle.occ_typing_tables.specs.declared.measure.Limit.{Limit}
use Rattle.occ_typing_rules.specs.Placing.{placed, table_of}
use Rattle.occ_typing_rules.specs.declared.open_expr.OpenExpr.{OpenExpr}
use Rattle.occ_typing_rules.specs.declared.open_expr.OpenExpr.TheVariants as dr
use Rattle.occ_typing_rules.specs.declared.expr.TypedExpr.{TypedExpr}
use Rattle.occ_typing_rules.specs.declared.expr.TypedExpr.TheVariants as typed
use Rattle.occ_types.specs.Fits.{alike, counts_fit, unnamed}
use Rattle.occ_types.specs.Unknown.{any_of, fields_unknown, holds_unknown}
use Rattle.occ_types.specs.View.{as_array, fields_in, is_unknown}
use Rattle.occ_types.specs.declared.constant.Monadic.{Monadic}
use Rattle.occ_types.specs.declared.constant.Monadic.TheVariants as m
use Rattle.occ_types.specs.declared.constant.Operator.{Operator}
use Rattle.occ_types.specs.declared.constant.Operator.TheVariants as op
use Rattle.occ_types.specs.declared.types.Field.{Field}
use Rattle.occ_types.specs.declared.types.OccType.{OccType}
use Rattle.occ_types.specs.declared.value.Primitive.{Primitive}
use Rattle.occ_types.specs.declared.value.Primitive.TheVariants as p
use Rattle.occ_types.proofs.Unknowns.{unknown_primitive}
use Rattle.occ_typing.specs.Known.{IsKnownType}
use Rattle.occ_typing.specs.WholeTrees.{AreWholeExprs, IsWholeExpr}
use Rattle.occ_typing.proofs.whole.Made as made
use Rattle.occ_theorems.proofs.whole.Clean.{Has, back_clean, front_clean, same_number}
use Rattle.occ_theorems.proofs.whole.Names.{IsTyped}
use Rattle.occ_theorems.proofs.whole.Operating.{AllMay, opened_reads, front_reads, known_typed, landed_known, of_in, operated_reads, shift_reads}
use Rattle.occ_theorems.proofs.whole.Reading.{IsKnown, MayRead, Reads, ReadsAs, as_known, chosen, untyped_settles, int_known, placed_as, read_known, settled_reads, settled_tree, wanted_reads}
use Rattle.occ_theorems.proofs.whole.Sound.{AllSound, IsTable, Sound, alone_none, alone_reads, each_read_as, reads_no_fault, table_typed, with_clean}
use Rattle.occ_theorems.proofs.whole.Trees.{EachTree, all_there, each_there, table_of_there, tree_literal}
use Rattle.occ_theorems.proofs.whole.Types.{base_known, depth, fields_hold, known_is, no_either, number_is, parts_hold, unnamed_holds}

-- ---- literals

known_literal : (kind : Kind) → IsKnown kind → MayRead kind (literal_open kind)
known_literal k.Faulty h = absurd h
known_literal (k.Untyped f) h = absurd h
known_literal (k.Known x) h = known_typed x (typed.Literal x) h (made.literal x h)

known_table : (n : ℕ) (kind : Kind) → IsTable n kind → IsKnown kind
known_table n k.Faulty h = h
known_table n (k.Untyped f) h = h
known_table n (k.Known x) h = h.0

pub literal_reads : (lit : Literal) → (literal lit).faults ≡ [] → MayRead (literal lit).kind (literal_open (literal lit).kind)
unfolding literal
literal_reads (l.Decimal n) e = (refl, inr (tree_literal (decimal (pos n))))
literal_reads (l.Hexadecimal n) e = (refl, inr (tree_literal (hexadecimal n)))
literal_reads (l.Character b) e = known_literal (literal (l.Character b)).kind (unknown_primitive p.Byte)
literal_reads (l.String bytes) e =
    known_literal (table_type (length bytes) (Some byte)).kind
    (known_table (depth byte) (table_type (length bytes) (Some byte)).kind (table_typed (depth byte) (length bytes) (Some byte) (unknown_primitive p.Byte, refl) e))

pub truth_reads : (b : Bool) → MayRead (truth b).kind (literal_open (truth b).kind)
truth_reads b = known_literal (truth b).kind (unknown_primitive p.Bool)

decorated_or : (b : Bool) (x : Finding) → IsKnown x.kind → (chosen b x (fault_of code.T2)).faults ≡ [] → IsKnown (chosen b x (fault_of code.T2)).kind
decorated_or true x h e = h
decorated_or false x h e = absurd cc

kind_decorated : (to : OccType) (kind : Kind) (d : OpenExpr) → IsKnownType to → MayRead kind d → (decorated_kind to kind).faults ≡ [] → IsKnown (decorated_kind to kind).kind
kind_decorated to k.Faulty d h g e = absurd g
kind_decorated to (k.Untyped f) d h g e = as_known to (wanted to (k.Untyped f)).kind d (wanted_reads to (k.Untyped f) d g e)
kind_decorated to (k.Known x) d h g e = decorated_or (alike to x.of) (record { faults = []; kind = known to x.value }) h e

pub decorated_reads : (to : Option OccType) (lit : Literal) → IsTyped to → (decorated_literal to lit).faults ≡ [] → MayRead (decorated_literal to lit).kind (literal_open (decorated_literal to lit).kind)
unfolding decorated_literal
decorated_reads None lit h e = absurd h
decorated_reads (Some to) lit h e =
    let x = literal lit in
    let y = decorated_kind to x.kind in
    known_literal y.kind (kind_decorated to x.kind (literal_open x.kind) h (literal_reads lit (front_clean x.faults y.faults e)) (back_clean x.faults y.faults e))

most_known : (limit : Limit) (of : OccType) (base : Option Primitive) → number (base_of of) ≡ base → (most_of limit of base).faults ≡ [] → IsKnown (most_of limit of base).kind
most_known limit of None is e = absurd cc
most_known limit of (Some x) is e = base_known of x (number_is (base_of of) x is)

pub most_reads : (x : Extreme) (of : Option OccType) → IsTyped of → (extreme_of x of).faults ≡ [] → MayRead (extreme_of x of).kind (literal_open (extreme_of x of).kind)
unfolding extreme_of
most_reads x None h e = absurd h
most_reads x (Some of) h e = known_literal (most (limit_of x) of).kind (most_known (limit_of x) of (number (base_of of)) refl e)

-- ---- operators

none_faulty_number : (js : List Judged) (ds : List OpenExpr) → AllSound js ds → number_of_faulty js ≡ 0
none_faulty_number [] ds h = refl
none_faulty_number (j ∷ js) [] h = absurd h
none_faulty_number (j ∷ js) (d ∷ ds) h =
    ap (λ (b : Bool). if b then number_of_faulty js + 1 else number_of_faulty js) h.0.faultless ∙ none_faulty_number js ds h.1

among_plain : (j : Judged) → j.is_faulty ≡ false → among 0 j ≡ j.beside false
among_plain j e = ap (λ (b : Bool). j.beside (if b then nat_le 2 0 else nat_le 1 0)) e

among_may : (j : Judged) (d : OpenExpr) → Sound j d → (among 0 j).faults ≡ [] → MayRead (among 0 j).kind d
among_may j d h e =
    let is = among_plain j h.faultless in
    subst (λ (x : Finding). MayRead x.kind d) (sym is) (h.plain (sym (ap (λ (x : Finding). x.faults) is) ∙ e))

each_may : (js : List Judged) (ds : List OpenExpr) → AllSound js ds → all_faults (each_among 0 js) ≡ [] → AllMay (kinds (each_among 0 js)) ds
each_may [] [] h e = tt
each_may [] (d ∷ ds) h e = absurd h
each_may (j ∷ js) [] h e = absurd h
each_may (j ∷ js) (d ∷ ds) h e = (
  among_may j d h.0 (front_clean (among 0 j).faults (all_faults (each_among 0 js)) e),
  each_may js ds h.1 (back_clean (among 0 j).faults (all_faults (each_among 0 js)) e),
)

together_reads : (op : Operator) (n : ℕ) (js : List Judged) (ds : List OpenExpr) → AllSound js ds → n ≡ 0 → (together op (each_among n js)).faults ≡ [] → MayRead (together op (each_among n js)).kind (operation_open (together op (each_among n js)).kind op ds)
together_reads op n js ds h is e =
    let at = λ (z : ℕ). together op (each_among z js) in
    subst (λ (z : ℕ). MayRead (at z).kind (operation_open (at z).kind op ds)) (sym is)
    (let g : (at 0).faults ≡ [] = sym (ap (λ (z : ℕ). (at z).faults) is) ∙ e in
    operated_reads op (kinds (each_among 0 js)) ds
    (each_may js ds h (front_clean (all_faults (each_among 0 js)) (operated op (kinds (each_among 0 js))).faults g))
    (back_clean (all_faults (each_among 0 js)) (operated op (kinds (each_among 0 js))).faults g))

pub operation_reads : (op : Operator) (js : List Judged) (ds : List OpenExpr) → AllSound js ds → (operation op js).faults ≡ [] → MayRead (operation op js).kind (operation_open (operation op js).kind op ds)
unfolding operation
operation_reads op js ds h e = together_reads op (number_of_faulty js) js ds h (none_faulty_number js ds h) e

pub plain_reads : (j : Judged) (d : OpenExpr) → Sound j d → (plain j).faults ≡ [] → MayRead (plain j).kind d
unfolding plain
plain_reads j d h e = h.plain e

two_shifted : (op : Operator) (a b : Judged) (x y : OpenExpr) → Sound a x → Sound b y → (shift op a b).faults ≡ [] → MayRead (shift op a b).kind (shift_open (shift op a b).kind op x y)
two_shifted op a b x y h g e =
    let z = plain a in
    let w = plain b in
    let r = shift_operated op z.kind w.kind in
    let rest = back_clean z.faults (w.faults ++ r.faults) e in
    shift_reads op z.kind w.kind x y (plain_reads a x h (front_clean z.faults (w.faults ++ r.faults) e)) (plain_reads b y g (front_clean w.faults r.faults rest)) (back_clean w.faults r.faults rest)

pub pair_reads : (operator : PairOperator) (a b : Judged) (x y : OpenExpr) → Sound a x → Sound b y → (pair operator a b).faults ≡ [] → MayRead (pair operator a b).kind (pair_open (pair operator a b).kind operator x y)
unfolding pair pair_open
pair_reads po.ShiftLeft a b x y h g e = two_shifted op.ShiftLeft a b x y h g e
pair_reads po.ShiftRight a b x y h g e = two_shifted op.ShiftRight a b x y h g e
pair_reads po.Subtract a b x y h g e = operation_reads (pair_operator po.Subtract) (a ∷ b ∷ []) (x ∷ y ∷ []) (h, (g, tt)) e
pair_reads po.Minus a b x y h g e = operation_reads (pair_operator po.Minus) (a ∷ b ∷ []) (x ∷ y ∷ []) (h, (g, tt)) e
pair_reads po.Divide a b x y h g e = operation_reads (pair_operator po.Divide) (a ∷ b ∷ []) (x ∷ y ∷ []) (h, (g, tt)) e
pair_reads po.Remainder a b x y h g e = operation_reads (pair_operator po.Remainder) (a ∷ b ∷ []) (x ∷ y ∷ []) (h, (g, tt)) e
pair_reads po.RemainderWord a b x y h g e = operation_reads (pair_operator po.RemainderWord) (a ∷ b ∷ []) (x ∷ y ∷ []) (h, (g, tt)) e
pair_reads po.Equal a b x y h g e = operation_reads (pair_operator po.Equal) (a ∷ b ∷ []) (x ∷ y ∷ []) (h, (g, tt)) e
pair_reads po.Unequal a b x y h g e = operation_reads (pair_operator po.Unequal) (a ∷ b ∷ []) (x ∷ y ∷ []) (h, (g, tt)) e
pair_reads po.Less a b x y h g e = operation_reads (pair_operator po.Less) (a ∷ b ∷ []) (x ∷ y ∷ []) (h, (g, tt)) e
pair_reads po.Greater a b x y h g e = operation_reads (pair_operator po.Greater) (a ∷ b ∷ []) (x ∷ y ∷ []) (h, (g, tt)) e
pair_reads po.AtMost a b x y h g e = operation_reads (pair_operator po.AtMost) (a ∷ b ∷ []) (x ∷ y ∷ []) (h, (g, tt)) e
pair_reads po.AtLeast a b x y h g e = operation_reads (pair_operator po.AtLeast) (a ∷ b ∷ []) (x ∷ y ∷ []) (h, (g, tt)) e
pair_reads po.After a b x y h g e = operation_reads (pair_operator po.After) (a ∷ b ∷ []) (x ∷ y ∷ []) (h, (g, tt)) e

front : (op : Monadic) (j : Judged) (d : OpenExpr) → Sound j d → (in_front op j).faults ≡ [] → MayRead (in_front op j).kind (front_open (in_front op j).kind op d)
front op j d h e =
    let x = plain j in
    front_reads op x.kind d (plain_reads j d h (front_clean x.faults (front_operated op x.kind).faults e)) (back_clean x.faults (front_operated op x.kind).faults e)

negated_reads : (digits : Option ℕ) (j : Judged) (d : OpenExpr) → Sound j d → (negated digits j).faults ≡ [] → MayRead (negated digits j).kind (negated_open (negated digits j).kind digits d)
negated_reads None j d h e = front m.Negate j d h e
negated_reads (Some n) j d h e = (refl, inr (tree_literal (decimal (pos 0 -ℤ pos n))))

-- ---- SIZE

array_known_size : (parts : Option (Option ℕ × OccType)) → (size_of_array parts).faults ≡ [] → IsKnown (size_of_array parts).kind
array_known_size None e = absurd cc
array_known_size (Some parts) e = landed_known int (size_outcome parts.0) (unknown_primitive p.Int) e

size_known : (kind : Kind) → IsKnown kind → (sized kind).faults ≡ [] → IsKnown (sized kind).kind
size_known k.Faulty h e = absurd h
size_known (k.Untyped f) h e = absurd h
size_known (k.Known x) h e = array_known_size (as_array (unnamed x.of)) e

size_there : (x : Known) (t : Option TypedExpr) → IsKnownType x.of → Has IsWholeExpr t → Has IsWholeExpr (size_of x t)
size_there x None known h = h
size_there x (Some t) known h = made.size x t known h

-- it is placed by its own type
pub placed_alone : (kind : Kind) (d : OpenExpr) → Reads kind d → Has IsWholeExpr (placed d (type_alone kind))
placed_alone k.Faulty d h = absurd h
placed_alone (k.Untyped f) d h = absurd h
placed_alone (k.Known x) d h = h.1 x.of (omega arith) h.0

size_read : (whole operand : Kind) (d : OpenExpr) → IsKnown whole → Reads operand d → MayRead whole (size_open whole operand d)
size_read k.Faulty operand d h g = absurd h
size_read (k.Untyped f) operand d h g = absurd h
size_read (k.Known y) operand d h g = opened_reads y (size_of y (placed d (type_alone operand))) h (size_there y (placed d (type_alone operand)) h (placed_alone operand d g))

size_reads : (j : Judged) (d : OpenExpr) → Sound j d → (and_then j.alone sized).faults ≡ [] → MayRead (and_then j.alone sized).kind (size_open (and_then j.alone sized).kind j.alone.kind d)
size_reads j d h e =
    let x = j.alone in
    let r = h.by_itself (front_clean x.faults (sized x.kind).faults e) in
    size_read (sized x.kind).kind x.kind d (size_known x.kind (read_known x.kind d r) (back_clean x.faults (sized x.kind).faults e)) r

pub applied_reads : (operator : MonadicOperator) (digits : Option ℕ) (j : Judged) (d : OpenExpr) → Sound j d → (applied operator digits j).faults ≡ [] → MayRead (applied operator digits j).kind (applied_open (applied operator digits j).kind operator digits j d)
unfolding applied applied_open
applied_reads mo.Negate digits j d h e = negated_reads digits j d h e
applied_reads mo.Minus digits j d h e = front m.Minus j d h e
applied_reads mo.BitNot digits j d h e = front m.BitNot j d h e
applied_reads mo.BitNotWord digits j d h e = front m.BitNot j d h e
applied_reads mo.Not digits j d h e = front m.Not j d h e
applied_reads mo.Size digits j d h e = size_reads j d h e

-- ---- conversions

converted_or : (b : Bool) (x : Finding) → (x.faults ≡ [] → IsKnown x.kind) → (chosen b x (fault_of code.T2)).faults ≡ [] → IsKnown (chosen b x (fault_of code.T2)).kind
converted_or true x h e = h e
converted_or false x h e = absurd cc

from_known : (to : OccType) (kind : Kind) → IsKnownType to → IsKnown kind → (converted_from to kind).faults ≡ [] → IsKnown (converted_from to kind).kind
from_known to k.Faulty h g e = absurd g
from_known to (k.Untyped f) h g e = absurd g
from_known to (k.Known x) h g e = converted_or (converts to x.of) (landed to (cast (base_of to) x.value)) (landed_known to (cast (base_of to) x.value) h) e

converted_there : (x : Known) (t : Option TypedExpr) → IsKnownType x.of → Has IsWholeExpr t → Has IsWholeExpr (converted_of x t)
converted_there x None known h = h
converted_there x (Some t) known h = made.converted x t known h

-- where nothing is reported of it as an INT, it is placed by its own type, or as an INT
placed_plain : (kind : Kind) (d : OpenExpr) → MayRead kind d → (settled int kind).faults ≡ [] → Has IsWholeExpr (placed d (type_alone kind))
placed_plain k.Faulty d h e = absurd h
placed_plain (k.Untyped f) d h e = settled_tree f d (untyped_settles int f h.0 e).sound h.1 int (omega arith) int_known
placed_plain (k.Known x) d h e = h.1 x.of (omega arith) h.0

to_read : (whole operand : Kind) (d : OpenExpr) → IsKnown whole → Has IsWholeExpr (placed d (type_alone operand)) → MayRead whole (converted_to whole operand d)
to_read k.Faulty operand d h g = absurd h
to_read (k.Untyped f) operand d h g = absurd h
to_read (k.Known y) operand d h g = opened_reads y (converted_of y (placed d (type_alone operand))) h (converted_there y (placed d (type_alone operand)) h g)

pub conversion_reads : (to : Option OccType) (j : Judged) (d : OpenExpr) → IsTyped to → Sound j d → (converted to j).faults ≡ [] → MayRead (converted to j).kind (conversion_open to j d)
unfolding converted conversion_open
conversion_reads None j d h g e = absurd h
conversion_reads (Some to) j d h g e =
    let x = plain j in
    let y = settled int x.kind in
    let r = plain_reads j d g (front_clean x.faults (conversion to x.kind).faults e) in
    let rest = back_clean x.faults (conversion to x.kind).faults e in
    let clean = front_clean y.faults (converted_from to y.kind).faults rest in
    to_read (converted_from to y.kind).kind x.kind d
    (from_known to y.kind h (read_known y.kind d (settled_reads int x.kind d r clean)) (back_clean y.faults (converted_from to y.kind).faults rest))
    (placed_plain x.kind d r clean)

-- ---- tables with their type

-- each value for its field
abbrev FieldReads : List Field → List Finding → List OpenExpr → Type 0
FieldReads [] xs [] = Unit {0}
FieldReads [] xs (d ∷ ds) = ⊥
FieldReads (f ∷ fs) xs [] = ⊥
FieldReads (f ∷ fs) [] (d ∷ ds) = ⊥
FieldReads (f ∷ fs) (x ∷ xs) (d ∷ ds) = ReadsAs f.of x.kind d × FieldReads fs xs ds

value_or : (b : Bool) (of : OccType) (j : Judged) (d : OpenExpr) → b ≡ false → Sound j d
    → (chosen b (record { faults = j.hidden.faults; kind = k.Faulty }) (j.under of)).faults ≡ []
    → ReadsAs of (chosen b (record { faults = j.hidden.faults; kind = k.Faulty }) (j.under of)).kind d
value_or true of j d is h e = absurd cc
value_or false of j d is h e = h.wanted of e

fields_read : (fs : List Field) (js : List Judged) (ds : List OpenExpr) → any_of (fields_unknown fs) ≡ false → length fs ≡ length js → AllSound js ds → all_faults (field_values fs js) ≡ [] → FieldReads fs (field_values fs js) ds
fields_read [] [] [] known same h e = tt
fields_read [] [] (d ∷ ds) known same h e = absurd h
fields_read [] (j ∷ js) ds known same h e = absurd (omega (arith, same))
fields_read (f ∷ fs) [] ds known same h e = absurd (omega (arith, same))
fields_read (f ∷ fs) (j ∷ js) [] known same h e = absurd h
fields_read (f ∷ fs) (j ∷ js) (d ∷ ds) known same h e =
    let both = no_either (holds_unknown f.of) (any_of (fields_unknown fs)) known in (
      value_or (is_unknown f.of) f.of j d (known_is f.of both.0) h.0 (front_clean (field_value f j).faults (all_faults (field_values fs js)) e),
      fields_read fs js ds both.1 (omega (arith, same)) h.1 (back_clean (field_value f j).faults (all_faults (field_values fs js)) e),
    )

fields_none : (fs : List Field) (xs : List Finding) (ds : List OpenExpr) → length fs ≡ length xs → FieldReads fs xs ds → list_any is_faulty (kinds xs) ≡ false
fields_none fs [] ds same h = refl
fields_none [] (x ∷ xs) ds same h = absurd (omega (arith, same))
fields_none (f ∷ fs) (x ∷ xs) [] same h = absurd h
fields_none (f ∷ fs) (x ∷ xs) (d ∷ ds) same h = ap (λ (b : Bool). b || list_any is_faulty (kinds xs)) (reads_no_fault f.of x.kind d h.0) ∙ fields_none fs xs ds (omega (arith, same)) h.1

field_values_length : (fs : List Field) (js : List Judged) → length fs ≡ length js → length fs ≡ length (field_values fs js)
field_values_length [] js same = refl
field_values_length (f ∷ fs) [] same = absurd (omega (arith, same))
field_values_length (f ∷ fs) (j ∷ js) same = let e = field_values_length fs js (omega (arith, same)) in omega (arith, e)

fields_there : (fs : List Field) (xs : List Finding) (ds : List OpenExpr) → any_of (fields_unknown fs) ≡ false → FieldReads fs xs ds → EachTree ds (types_of fs)
fields_there [] xs [] known h = tt
fields_there [] xs (d ∷ ds) known h = absurd h
fields_there (f ∷ fs) xs [] known h = absurd h
fields_there (f ∷ fs) [] (d ∷ ds) known h = absurd h
fields_there (f ∷ fs) (x ∷ xs) (d ∷ ds) known h =
    let both = no_either (holds_unknown f.of) (any_of (fields_unknown fs)) known in (placed_as f.of x.kind d both.0 h.0, fields_there fs xs ds both.1 h.1)

count_or : (b : Bool) (to : OccType) → (chosen b (whole to) (fault_of code.T2)).faults ≡ [] → chosen b (whole to) (fault_of code.T2) ≡ whole to
count_or true to e = refl
count_or false to e = absurd cc

array_read : (to : OccType) (parts : Option ℕ × OccType) (js : List Judged) (ds : List OpenExpr) → IsKnownType to → AllSound js ds → as_array (unnamed to) ≡ Some parts → (of_array to parts.0 parts.1 js).faults ≡ [] → ((of_array to parts.0 parts.1 js).kind ≡ known to None) × Has AreWholeExprs (items_placed ds to)
array_read to parts js ds known h is e =
    let ys = each_under true parts.1 js in
    let x = of_count to parts.0 (length (kinds ys)) in
    let r = each_read_as parts.1 js ds h (front_clean (all_faults ys) (unless_faulty (kinds ys) x).faults e) in
    let y = with_clean ys x r.0 e in (
      ap (λ (z : Finding). z.kind) y.0 ∙ ap (λ (z : Finding). z.kind) (count_or (counts_fit parts.0 (Some (length (kinds ys)))) to y.1),
      subst (λ (o : Option (Option ℕ × OccType)). Has AreWholeExprs (components_placed ds to o)) (sym is) (all_there (depth parts.1) ds parts.1 r.1 (omega arith) (parts_hold (unnamed to) parts is ∙ unnamed_holds to ∙ known)),
    )

mismatch : (kind : Kind) → IsKnown kind → (mismatched kind).faults ≡ [] → ⊥
mismatch k.Faulty h e = h
mismatch (k.Untyped f) h e = h
mismatch (k.Known x) h e = absurd cc

misused_never : (js : List Judged) (d : OpenExpr) (ds : List OpenExpr) → AllSound js (d ∷ ds) → (misused js).faults ≡ [] → ⊥
misused_never js d ds h e =
    let x = table_alone js in
    mismatch x.kind (read_known x.kind (dr.Table (d ∷ ds)) (alone_reads js d ds h (front_clean x.faults (mismatched x.kind).faults e))) (back_clean x.faults (mismatched x.kind).faults e)

another_never : (js : List Judged) (ds : List OpenExpr) → AllSound js ds → (of_another_number js).faults ≡ [] → ⊥
another_never js ds h e =
    let g = (with_clean (map alone js) (fault_of code.T4) (alone_none js ds h (front_clean (all_faults (map alone js)) (unless_faulty (kinds (map alone js)) (fault_of code.T4)).faults e)) e).1 in
    absurd cc

-- a table of this type, with these items
abbrev Tabled : OccType → Kind → List OpenExpr → Type 0
Tabled to kind ds = (kind ≡ known to None) × Has AreWholeExprs (items_placed ds to)

values_read : (to : OccType) (fs : List Field) (js : List Judged) (ds : List OpenExpr) → IsKnownType to → AllSound js ds → as_array (unnamed to) ≡ None → fields_in (unnamed to) ≡ Some fs → length fs ≡ length js → (of_values to fs js).faults ≡ [] → Tabled to (of_values to fs js).kind ds
values_read to fs js ds known h none is same e =
    let ys = field_values fs js in
    let sure : any_of (fields_unknown fs) ≡ false = fields_hold (unnamed to) fs is ∙ unnamed_holds to ∙ known in
    let r = fields_read fs js ds sure same h (front_clean (all_faults ys) (unless_faulty (kinds ys) (whole to)).faults e) in
    let y = with_clean ys (whole to) (fields_none fs ys ds (field_values_length fs js same) r) e in (
      ap (λ (z : Finding). z.kind) y.0,
      subst (λ (o : Option (Option ℕ × OccType)). Has AreWholeExprs (components_placed ds to o)) (sym none)
          (subst (λ (o : Option (List Field)). Has AreWholeExprs (values_placed ds o)) (sym is) (each_there ds (types_of fs) (fields_there fs ys ds sure r))),
    )

record_or : (b : Bool) (to : OccType) (fs : List Field) (js : List Judged) (ds : List OpenExpr) → (b ≡ true → length fs ≡ length js) → IsKnownType to → AllSound js ds → as_array (unnamed to) ≡ None → fields_in (unnamed to) ≡ Some fs
    → (chosen b (of_values to fs js) (of_another_number js)).faults ≡ [] → Tabled to (chosen b (of_values to fs js) (of_another_number js)).kind ds
record_or true to fs js ds same known h none is e = values_read to fs js ds known h none is (same refl) e
record_or false to fs js ds same known h none is e = absurd (another_never js ds h e)

fields_or : (to : OccType) (fields : Option (List Field)) (js : List Judged) (d : OpenExpr) (ds : List OpenExpr) → IsKnownType to → AllSound js (d ∷ ds) → as_array (unnamed to) ≡ None → fields_in (unnamed to) ≡ fields → (of_fields to fields js).faults ≡ [] → Tabled to (of_fields to fields js).kind (d ∷ ds)
fields_or to None js d ds known h none is e = absurd (misused_never js d ds h e)
fields_or to (Some fs) js d ds known h none is e = record_or (length fs == length js) to fs js (d ∷ ds) (same_number (length fs) (length js)) known h none is e

components_or : (to : OccType) (parts : Option (Option ℕ × OccType)) (js : List Judged) (d : OpenExpr) (ds : List OpenExpr) → IsKnownType to → AllSound js (d ∷ ds) → as_array (unnamed to) ≡ parts → (of_components to parts js).faults ≡ [] → Tabled to (of_components to parts js).kind (d ∷ ds)
components_or to None js d ds known h is e = fields_or to (fields_in (unnamed to)) js d ds known h is refl e
components_or to (Some parts) js d ds known h is e = array_read to parts js (d ∷ ds) known h is e

tabled_open : (to : OccType) (kind : Kind) (ds : List OpenExpr) → IsKnownType to → Tabled to kind ds → MayRead kind (decorated_open kind ds)
unfolding decorated_open
tabled_open to k.Faulty ds sure h = let e : k.Faulty ≡ known to None = h.0 in absurd cc
tabled_open to (k.Untyped f) ds sure h = let e : k.Untyped f ≡ known to None = h.0 in absurd cc
tabled_open to (k.Known x) ds sure h =
    let same : x.of ≡ to = ap (λ (u : Kind). of_in u to) h.0 in
    let known : IsKnownType x.of = ap holds_unknown same ∙ sure in
    opened_reads x (table_of x (items_placed ds x.of)) known
    (table_of_there x (items_placed ds x.of) known (subst (λ (u : OccType). Has AreWholeExprs (items_placed ds u)) (sym same) h.1))

pub decorated_table_reads : (to : OccType) (js : List Judged) (d : OpenExpr) (ds : List OpenExpr) → IsKnownType to → AllSound js (d ∷ ds) → (decorated_table to js).faults ≡ [] → MayRead (decorated_table to js).kind (decorated_open (decorated_table to js).kind (d ∷ ds))
decorated_table_reads to js d ds known h e = tabled_open to (decorated_table to js).kind (d ∷ ds) known (components_or to (as_array (unnamed to)) js d ds known h refl e)
