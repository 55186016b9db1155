-- What is said of expressions and elements from what is said of their parts.
use Rattle.std.specs.Prelude.{ℕ, Option, Some, None, List, [], ◌∷◌, ◌++◌, if◌then◌else◌}
use Rattle.occ_base.specs.declared.code.Code.TheVariants as code
use Rattle.occ_types.specs.Fits.{unnamed}
use Rattle.occ_types.specs.View.{fields_in}
use Rattle.occ_types.specs.declared.types.Field.{Field}
use Rattle.occ_types.specs.declared.types.OccType.{OccType}
use Rattle.occ_typing_operands.specs.Parts.{field, subscripted}
use Rattle.occ_typing_operands.specs.Settling.{Finding, fault_of, known, silent}
use Rattle.occ_base.specs.declared.fault.Fault.{Fault}
use Rattle.occ_typing_operands.specs.declared.kind.Kind.{Kind}
use Rattle.occ_typing_operands.specs.declared.kind.Kind.TheVariants as k
use Rattle.occ_scope.specs.Lookup.{Found, element}
use Rattle.occ_scope.specs.Visible.{visible}
use Rattle.occ_scope.specs.declared.meaning.Meaning.{Meaning}
use Rattle.occ_scope.specs.declared.meaning.Meaning.TheVariants as m
use Rattle.occ_scope.specs.declared.meaning.Whole.{Whole}
use Rattle.occ_scope.specs.declared.scope.Scope.{Scope}
use Rattle.occ_typing_tables.specs.Decorating.{decorated_table}
use Rattle.occ_typing_tables.specs.Segments.{segment}
use Rattle.occ_typing_tables.specs.Terms.{and_then, hidden_faults, judged, judged_all}
use Rattle.occ_typing_tables.specs.declared.selection.BoundTerms.{BoundTerms}
use Rattle.occ_typing_tables.specs.declared.selection.BoundTerms.TheVariants as bounds
use Rattle.occ_typing_tables.specs.declared.term.Term.{Term}
use Rattle.occ_typing_tables.specs.declared.term.Term.TheVariants as v
use Rattle.occ_typing_rules.specs.Calling.{Matched, matched}
use Rattle.occ_typing_rules.specs.declared.open_expr.OpenExpr.{OpenExpr}
use Rattle.occ_types.specs.declared.interface.Formal.{Formal}
use Rattle.occ_expr_operations.specs.Operations.{converted, plain}

-- what is said of an expression: its faults, and what it is before a type is wanted of it
pub record Said : Type 0 where
  pub faults : List Fault
  pub term : Term

-- an expression in any scope: the name that it is, if it is a name alone, what is said of it, and its open expression
pub record ExprView : Type 0 where
  pub name : Option (List ℕ)
  pub said : Scope → Said
  pub open_expr : Scope → OpenExpr

abbrev pub single : Finding → Said
single x = record { faults = x.faults; term = v.Single x.kind }

abbrev pub after : List Fault → Finding → Finding
after faults x = record { faults = faults ++ x.faults; kind = x.kind }

abbrev pub in_scope : Scope → List ExprView → List Said
in_scope s [] = []
in_scope s (e ∷ es) = e.said s ∷ in_scope s es

abbrev pub terms : List Said → List Term
terms [] = []
terms (x ∷ xs) = x.term ∷ terms xs

abbrev pub own_faults : List Said → List Fault
own_faults [] = []
own_faults (x ∷ xs) = x.faults ++ own_faults xs

abbrev pub only : {X : Type 0} → List X → Option X
only [] = None
only (x ∷ []) = Some x
only (x ∷ y ∷ xs) = None

-- ---- tables

abbrev pub table : List Said → Said
table xs = record { faults = own_faults xs; term = v.Table (terms xs) }

-- a type that is not known hides what is wanted of the items
unfoldable pub table_as : Option OccType → List Term → Finding
table_as None xs = record { faults = hidden_faults (judged_all xs); kind = k.Faulty }
table_as (Some to) xs = decorated_table to (judged_all xs)

abbrev pub table_with_type : List Said → Found OccType → Finding
table_with_type xs of = after (own_faults xs ++ of.faults) (table_as of.found (terms xs))

-- ---- elements

abbrev pub kind_of_whole : Option Whole → Kind
kind_of_whole None = k.Faulty
kind_of_whole (Some whole) = known whole.of whole.value

abbrev pub named : Found Whole → Finding
named x = record { faults = x.faults; kind = kind_of_whole x.found }

-- no type is wanted of it, and it reports no more than itself
abbrev pub by_itself : Said → List Fault
by_itself x = x.faults ++ (judged x.term).alone.faults

-- what a subscript reports after what is faulty: a name may be a field's, and is not looked up
abbrev pub after_a_fault_by_name : Scope → ExprView → Option (List ℕ) → List Fault
after_a_fault_by_name s e None = by_itself (e.said s)
after_a_fault_by_name s e (Some name) = []

unfoldable pub after_a_fault : Scope → ExprView → List Fault
after_a_fault s e = after_a_fault_by_name s e e.name

abbrev pub nothing_after : Scope → ExprView → Finding
nothing_after s e = record { faults = after_a_fault s e; kind = k.Faulty }

unfoldable pub component : Scope → OccType → ExprView → Finding
component s of e = let x = e.said s in after x.faults (and_then (plain (judged x.term)) (subscripted of))

-- of a record a name alone selects a field
abbrev pub field_or_component : Scope → OccType → List Field → ExprView → Option (List ℕ) → Finding
field_or_component s of fields e None = component s of e
field_or_component s of fields e (Some name) = field fields name

unfoldable pub part : Scope → OccType → Option (List Field) → ExprView → Finding
part s of None e = component s of e
part s of (Some fields) e = field_or_component s of fields e e.name

unfoldable pub subscript : Scope → ExprView → Kind → Finding
subscript s e k.Faulty = nothing_after s e
subscript s e (k.Untyped f) = nothing_after s e
subscript s e (k.Known x) = part s x.of (fields_in (unnamed x.of)) e

abbrev pub subscripts : Scope → List ExprView → Kind → Finding
subscripts s [] kind = record { faults = []; kind = kind }
subscripts s (e ∷ es) kind = and_then (subscript s e kind) (subscripts s es)

unfoldable pub named_element : Scope → List ℕ → List ExprView → Finding
named_element s name es = and_then (named (element name (visible s name))) (subscripts s es)

pub record SaidBounds : Type 0 where
  pub faults : List Fault
  pub bounds : BoundTerms

-- each bound by itself, where the element is faulty
abbrev pub bounds_alone : BoundTerms → List Fault
bounds_alone (bounds.From x) = (judged x).alone.faults
bounds_alone (bounds.For x) = (judged x).alone.faults
bounds_alone (bounds.FromFor x y) = (judged x).alone.faults ++ (judged y).alone.faults

unfoldable pub segment_of : Kind → BoundTerms → Finding
segment_of k.Faulty b = record { faults = bounds_alone b; kind = k.Faulty }
segment_of (k.Untyped f) b = record { faults = bounds_alone b; kind = k.Faulty }
segment_of (k.Known x) b = segment x.of b

abbrev pub segment_within : SaidBounds → Kind → Finding
segment_within b kind = after b.faults (segment_of kind b.bounds)

abbrev pub segment_element : Scope → Finding → SaidBounds → List ExprView → Finding
segment_element s x b es = and_then (and_then x (segment_within b)) (subscripts s es)

-- ---- calls, and what has the form of a call or of an element and is a conversion

-- what is reported of a name that is called and stands for no function
abbrev pub no_function : List ℕ → Option Meaning → List Fault
no_function name None = (record { code = code.N1; name = Some name }) ∷ []
no_function name (Some m.Faulty) = []
no_function name (Some (m.Type None)) = []
no_function name (Some (m.Type (Some of))) = (record { code = code.N2; name = Some name }) ∷ []
no_function name (Some (m.Protocol p)) = (record { code = code.N2; name = Some name }) ∷ []
no_function name (Some (m.Procedure formals)) = (record { code = code.N2; name = Some name }) ∷ []
no_function name (Some (m.Function formals results)) = []
no_function name (Some (m.Element whole)) = (record { code = code.N2; name = Some name }) ∷ []

-- it is hidden what is wanted of the arguments
unfoldable pub no_call : Scope → List ℕ → List ExprView → Finding
no_call s name es =
    let xs = in_scope s es in
    record { faults = no_function name (visible s name) ++ (own_faults xs ++ hidden_faults (judged_all (terms xs))); kind = k.Faulty }

-- the one result of a function, which is no constant; of more or fewer T4 is reported
abbrev pub one_result : List OccType → Finding
one_result [] = fault_of code.T4
one_result (of ∷ []) = record { faults = []; kind = known of None }
one_result (of ∷ q ∷ qs) = fault_of code.T4

-- a call with a faulty actual is faulty, and nothing more is reported of it
abbrev pub result_after : List OccType → Matched → Finding
result_after results x = after x.faults (if x.is_faulty then silent else one_result results)

-- what is reported of actuals: of each by itself, and for its formal
abbrev pub actuals : List Formal → List Said → Matched
actuals formals xs =
    let x = matched formals (judged_all (terms xs)) in
    record { faults = own_faults xs ++ x.faults; is_faulty = x.is_faulty }

-- a call of a function with these formals and results, as an operand
unfoldable pub function_call : List Formal → List OccType → List Said → Finding
function_call formals results xs = result_after results (actuals formals xs)

-- a type that has a fault is not known, and what is converted to it is judged all the same
abbrev pub argument_as : Option OccType → Said → Finding
argument_as to x = after x.faults (converted to (judged x.term))

abbrev pub call_of_type : Scope → List ℕ → List ExprView → Option OccType → Option ExprView → Finding
call_of_type s name es to None = no_call s name es
call_of_type s name es to (Some e) = argument_as to (e.said s)

abbrev pub call_of : Scope → List ℕ → List ExprView → Option Meaning → Finding
call_of s name es (Some (m.Type to)) = call_of_type s name es to (only es)
call_of s name es (Some (m.Function formals results)) = function_call formals results (in_scope s es)
call_of s name es meaning = no_call s name es

-- `n (e, ..)`: a call of a function, or a conversion, if n is a data type and has one argument
unfoldable pub call : Scope → List ℕ → List ExprView → Finding
call s name es = call_of s name es (visible s name)

abbrev pub table_of_one_as : Option OccType → Said → Finding
table_of_one_as to x = let y = table (x ∷ []) in after y.faults (converted to (judged y.term))

abbrev pub element_of_type : Scope → List ℕ → List ExprView → Option OccType → Option ExprView → Finding
element_of_type s name es to None = named_element s name es
element_of_type s name es to (Some e) = table_of_one_as to (e.said s)

abbrev pub whole_element_of : Scope → List ℕ → List ExprView → Option Meaning → Finding
whole_element_of s name es (Some (m.Type to)) = element_of_type s name es to (only es)
whole_element_of s name es meaning = named_element s name es

-- `n [e]` as a whole expression: the conversion of a table of one item, if n is a data type
unfoldable pub whole_element : Scope → List ℕ → List ExprView → Finding
whole_element s name es = whole_element_of s name es (visible s name)
