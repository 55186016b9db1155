-- What a name selects of a record.
use Rattle.std.proofs.Common.{◌≡◌, ◌∙◌, ◌++◌, ◌∷◌, ℕ, Bool, if◌then◌else◌, Option, Some, None, List, [], ap, refl, append_assoc}
use Rattle.std.proofs.lemmas.List.{append-nil}
use Rattle.occ_forms_expressions.specs.declared.tree.Element.TheVariants as ev
use Rattle.occ_forms_expressions.specs.declared.tree.Expr.{Expr}
use Rattle.occ_forms_expressions.specs.declared.tree.Expr.TheVariants as xv
use Rattle.occ_forms_expressions.specs.declared.tree.Operand.TheVariants as ov
use Rattle.occ_scope.specs.Lookup.{element}
use Rattle.occ_scope.specs.Visible.{visible}
use Rattle.occ_scope.specs.declared.scope.Scope.{Scope}
use Rattle.occ_typing_operands.specs.Parts.{field, field_named, field_reported}
use Rattle.occ_typing_operands.specs.Settling.{Finding, int, known, silent}
use Rattle.occ_typing_tables.specs.Terms.{and_then}
use Rattle.occ_types.specs.Fits.{unnamed}
use Rattle.occ_types.specs.View.{fields_in, second}
use Rattle.occ_types.specs.declared.types.Field.{Field}
use Rattle.occ_types.specs.declared.types.OccType.TheVariants as t
use Rattle.occ_types.specs.declared.types.Packing.{Packing}
use Rattle.occ_types.specs.declared.value.Primitive.TheVariants as p
use Rattle.occ_types.proofs.Agreeing.{as_record_at_record, is_unknown_at_primitive, unnamed_of_record}
use Rattle.occ_expr_operations.specs.Parts.{field_or_component, named, named_element, part, subscript, subscripts}
use Rattle.occ_expr_operations.specs.Elements.{with_selectors}
use Rattle.occ_expr_operations.specs.Views.{element_view, expr_view}
use Rattle.occ_typing_rules.specs.declared.expr.Selector.{Selector}
use Rattle.occ_expr_operations.proofs.Views as views

-- a name as an expression
abbrev pub alone : List ℕ → Expr
alone name = xv.Alone (ov.Element (ev.Named name []))

name_of : (name : List ℕ) → (expr_view (alone name)).name ≡ Some name
name_of name = views.expr_alone_name (ov.Element (ev.Named name [])) ∙ views.operand_element_name (ev.Named name []) ∙ views.element_named_name name []

fields_of : (packing : Packing) (fields : List Field) → fields_in (unnamed (t.Record packing fields)) ≡ Some fields
fields_of packing fields = ap fields_in (unnamed_of_record packing fields) ∙ ap second (as_record_at_record packing fields)

subscript_is_field : (s : Scope) (packing : Packing) (fields : List Field) (name : List ℕ) → subscript s (expr_view (alone name)) (known (t.Record packing fields) None) ≡ field fields name
unfolding subscript part
subscript_is_field s packing fields name =
    ap (λ (z : Option (List Field)). part s (t.Record packing fields) z (expr_view (alone name))) (fields_of packing fields)
    ∙ ap (λ (z : Option (List ℕ)). field_or_component s (t.Record packing fields) fields (expr_view (alone name)) z) (name_of name)

-- `r[f]` of a record r
pub field_of_record : (s : Scope) (r f : List ℕ) (packing : Packing) (fields : List Field)
    → named (element r (visible s r)) ≡ record { faults = []; kind = known (t.Record packing fields) None }
    → (element_view (ev.Named r (alone f ∷ []))).reported s ≡ record { faults = (field fields f).faults ++ []; kind = (field fields f).kind }
unfolding named_element
field_of_record s r f packing fields h =
    views.element_named_reported r (alone f ∷ []) s
    ∙ ap (λ (x : Finding). and_then x (subscripts s (expr_view (alone f) ∷ []))) h
    ∙ ap (λ (x : Finding). record { faults = x.faults ++ []; kind = x.kind }) (subscript_is_field s packing fields f)

-- a field of type INT
pub int_field : (fields : List Field) (name : List ℕ) → field_named name fields ≡ Some int → field fields name ≡ record { faults = []; kind = known int None }
int_field fields name h =
    ap (field_reported name) h ∙ ap (λ (b : Bool). if b then silent else record { faults = []; kind = known int None }) (is_unknown_at_primitive p.Int)

-- selectors in front of others that are perhaps not all there
pub front_of_front : (xs ys zs : Option (List Selector)) → with_selectors (with_selectors xs ys) zs ≡ with_selectors xs (with_selectors ys zs)
front_of_front None ys zs = refl
front_of_front (Some xs) None zs = refl
front_of_front (Some xs) (Some ys) None = refl
front_of_front (Some xs) (Some ys) (Some zs) = ap (λ (z : List Selector). Some z) (append_assoc xs ys zs)

pub front_of_none : (xs : Option (List Selector)) → with_selectors xs (Some []) ≡ xs
front_of_none None = refl
front_of_none (Some xs) = ap (λ (z : List Selector). Some z) (append-nil xs)

pub none_in_front : (xs : Option (List Selector)) → with_selectors (Some []) xs ≡ xs
none_in_front None = refl
none_in_front (Some xs) = refl

pub ruleset front_rules = (front_of_front, front_of_none, none_in_front)
