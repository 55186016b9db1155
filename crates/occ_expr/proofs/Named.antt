-- What is known of a name alone that is a target, and of a type that is a name.
use Rattle.std.proofs.Common.{◌≡◌, ◌∙◌, ◌∷◌, ℕ, Bool, true, false, List, [], Option, Some, None, if◌then◌else◌, ap, sym}
use Rattle.occ_base.specs.declared.code.Code.TheVariants as code
use Rattle.occ_base.specs.Reporting.{nameless}
use Rattle.occ_types.specs.declared.types.OccType.{OccType}
use Rattle.occ_forms_expressions.specs.declared.tree.Element.TheVariants as elements
use Rattle.occ_forms_expressions.specs.declared.tree.TypeForm.TheVariants as forms
use Rattle.occ_scope.specs.Elements.{formal_of, type_of}
use Rattle.occ_scope.specs.Lookup.{data_type, element, good}
use Rattle.occ_scope.specs.Visible.{visible}
use Rattle.occ_scope.specs.declared.meaning.Access.{Access}
use Rattle.occ_scope.specs.declared.meaning.Access.TheVariants as access
use Rattle.occ_scope.specs.declared.meaning.Meaning.{Meaning}
use Rattle.occ_scope.specs.declared.meaning.Meaning.TheVariants as m
use Rattle.occ_scope.specs.declared.scope.Scope.{Scope}
use Rattle.occ_typing_operands.specs.declared.kind.Kind.{Kind}
use Rattle.occ_typing_operands.specs.declared.kind.Kind.TheVariants as k
use Rattle.occ_typing_operands.specs.declared.kind.Known.{Known}
use Rattle.occ_typing_rules.specs.Assigning.{reached as written}
use Rattle.occ_typing_tables.specs.Extents.{is_too_large}
use Rattle.occ_expr_operations.specs.Parts.{kind_of_whole, named_element}
use Rattle.occ_expr_operations.specs.Views.{type_form_view}
use Rattle.occ_expr_operations.specs.Written.{Written, array_after, limited}
use Rattle.occ_expr_operations.specs.declared.written.Opening.{Opening}
use Rattle.occ_expr_operations.proofs.Views.{element_named_reported, type_form_named_view}
use Rattle.occ_expr.specs.Targets.{reached, root, target_of}
use Rattle.occ_expr.proofs.Roots.{root_named}

-- ---- a target

written_kind : (a : Access) (name : List ℕ) (w x : Known) → (written a name w).kind ≡ k.Known x → Some w.of ≡ Some x.of
written_kind access.Variable name w x is = one (k.Known w) (k.Known x) is where
  type_in : Kind → Option OccType
  type_in k.Faulty = None
  type_in (k.Untyped f) = None
  type_in (k.Known y) = Some y.of

  one : (a b : Kind) → a ≡ b → type_in a ≡ type_in b
  one a b e = ap type_in e
written_kind access.Formal name w x is = absurd cc
written_kind access.Value name w x is = absurd cc

reached_kind : (name : List ℕ) (meaning : Option Meaning) (x : Known) → (reached meaning (kind_of_whole (element name meaning).found)).kind ≡ k.Known x → type_of meaning ≡ Some x.of
reached_kind name None x is = absurd cc
reached_kind name (Some m.Faulty) x is = absurd cc
reached_kind name (Some (m.Type of)) x is = absurd cc
reached_kind name (Some (m.Protocol p)) x is = absurd cc
reached_kind name (Some (m.Procedure formals)) x is = absurd cc
reached_kind name (Some (m.Function formals results)) x is = absurd cc
reached_kind name (Some (m.Element whole)) x is = written_kind whole.access whole.root (record { of = whole.of; value = whole.value }) x is

-- a name that is known as a target has the type that is known of it
pub target_type : (s : Scope) (name : List ℕ) (x : Known) → (target_of s (elements.Named name [])).kind ≡ k.Known x → type_of (visible s name) ≡ Some x.of
unfolding target_of named_element
target_type s name x is =
    reached_kind name (visible s name) x
    (ap (λ (n : List ℕ). (reached (visible s n) (kind_of_whole (element name (visible s name)).found)).kind) (sym (root_named name []))
    ∙ ap (λ y. (reached (visible s (root (elements.Named name []))) y.kind).kind) (sym (element_named_reported name [] s)) ∙ is)

-- ---- a type

limited_found : (found : Option OccType) (of : OccType) → (limited found).found ≡ Some of → found ≡ Some of
limited_found None of is = absurd cc
limited_found (Some found) of is = by (is_too_large found) is where
  by : (b : Bool) → (if b then record { faults = nameless code.T9 ∷ []; found = None } else good found).found ≡ Some of → Some found ≡ Some of
  by true e = absurd cc
  by false e = e

meant : (name : List ℕ) (meaning : Option Meaning) (place : ℕ) (of : OccType) → (data_type name meaning).found ≡ Some of → formal_of meaning place ≡ Some of
meant name None place of is = absurd cc
meant name (Some m.Faulty) place of is = absurd cc
meant name (Some (m.Type None)) place of is = absurd cc
meant name (Some (m.Type (Some it))) place of is = is
meant name (Some (m.Protocol p)) place of is = absurd cc
meant name (Some (m.Procedure formals)) place of is = absurd cc
meant name (Some (m.Function formals results)) place of is = absurd cc
meant name (Some (m.Element whole)) place of is = absurd cc

-- a name that is written as a type stands for that type
pub named_type : (s : Scope) (name : List ℕ) (opening : Opening) (place : ℕ) (of : OccType) → (type_form_view (forms.Named [] name) opening s).found ≡ Some of → formal_of (visible s name) place ≡ Some of
unfolding array_after
named_type s name opening place of is =
    meant name (visible s name) place of
    (limited_found (data_type name (visible s name)).found of (ap (λ (x : Written). x.found) (sym (type_form_named_view [] name opening s)) ∙ is))
