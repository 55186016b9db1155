-- What is of the type that is written for it, by what is known of names.
use Rattle.std.proofs.Common.{◌≡◌, ◌∙◌, ◌++◌, ℕ, Bool, true, List, [], Option, Some, None, if◌then◌else◌, ap, sym}
use Rattle.occ_base.specs.declared.code.Code.TheVariants as code
use Rattle.occ_types.specs.Fits.{fits, is_data}
use Rattle.occ_types.specs.declared.types.OccType.{OccType}
use Rattle.occ_forms_expressions.specs.declared.tree.Element.{Element}
use Rattle.occ_forms_expressions.specs.declared.tree.Element.TheVariants as elements
use Rattle.occ_forms_expressions.specs.declared.tree.TypeForm.{TypeForm}
use Rattle.occ_forms_expressions.specs.declared.tree.TypeForm.TheVariants as forms
use Rattle.occ_scope.specs.Elements.{formal_of, type_of}
use Rattle.occ_scope.specs.Visible.{visible}
use Rattle.occ_scope.specs.declared.scope.Scope.{Scope}
use Rattle.occ_typing_operands.specs.Settling.{Finding, fault_of, known}
use Rattle.occ_typing_operands.specs.declared.kind.Kind.{Kind}
use Rattle.occ_typing_operands.specs.declared.kind.Kind.TheVariants as k
use Rattle.occ_typing_operands.specs.declared.kind.Known.{Known}
use Rattle.occ_typing_rules.specs.Abbreviating.{abbreviated_as, as_type, for_no_data}
use Rattle.occ_typing_tables.specs.Merging.{filled, merged}
use Rattle.occ_typing_tables.specs.Terms.{Judged, and_then, judged}
use Rattle.occ_typing_tables.specs.declared.term.Term.{Term}
use Rattle.occ_typing_tables.specs.declared.term.Term.TheVariants as v
use Rattle.occ_typing_tables.proofs.Judging.{judged_single}
use Rattle.occ_typing_specifications.specs.Abbreviating.{agreed, of_type}
use Rattle.occ_expr_operations.specs.Views.{type_form_view}
use Rattle.occ_expr_operations.specs.declared.written.Opening.{Opening}
use Rattle.occ_expr.specs.Targets.{target_of}
use Rattle.occ_expr.specs.inside.Passing.{IsKnownOf}
use Rattle.occ_expr.proofs.Fitting.{fits_itself}
use Rattle.occ_expr.proofs.Named.{named_type, target_type}

same_type : (a b : OccType) → Some a ≡ Some b → a ≡ b
same_type a b e = cc

-- a type is written that is the name of it
pub written : (s : Scope) (form : TypeForm) (name : List ℕ) (opening : Opening) (place : ℕ) (of : OccType) → form ≡ forms.Named [] name → (type_form_view form opening s).found ≡ Some of → formal_of (visible s name) place ≡ Some of
written s form name opening place of is_name found = named_type s name opening place of (ap (λ (f : TypeForm). (type_form_view f opening s).found) (sym is_name) ∙ found)

-- an element whose name is known to be of the type
pub element_of : (s : Scope) (form : TypeForm) (name : List ℕ) (opening : Opening) (place : ℕ) (element : Element) (other : List ℕ) (of : OccType) (x : Known)
    → form ≡ forms.Named [] name → element ≡ elements.Named other [] → formal_of (visible s name) place ≡ type_of (visible s other)
    → (type_form_view form opening s).found ≡ Some of → (target_of s element).kind ≡ k.Known x → x.of ≡ of
element_of s form name opening place element other of x is_name is_other same found known_so =
    same_type x.of of
    (sym (target_type s other x (ap (λ (e : Element). (target_of s e).kind) (sym is_other) ∙ known_so)) ∙ sym same ∙ written s form name opening place of is_name found)

-- two types are one, and agree
pub merged_so : (of other : OccType) → other ≡ of → merged of other ≡ Some (filled of other)
merged_so of other same = ap (λ (b : Bool). if b then Some (filled of other) else None) (ap (fits of) same ∙ fits_itself of)

-- a name of the type, for an element that is known to be of it
pub type_agrees : (to : Option OccType) (kind : Kind) (of : OccType) (x : Known) → to ≡ Some of → kind ≡ k.Known x → x.of ≡ of → of_type to kind ≡ record { faults = []; kind = known (filled of x.of) None }
type_agrees to kind of x is known_so same = ap (λ (t : Option OccType). of_type t kind) is ∙ ap (of_type (Some of)) known_so ∙ ap agreed (merged_so of x.of same)

-- a value that is known and is data of the type
pub value_of : (of : OccType) (term : Term) (x : Known) → is_data of ≡ true → term ≡ v.Single (k.Known x) → IsKnownOf of term → abbreviated_as of (judged term) ≡ as_type of (k.Known x)
value_of of term x holds is its =
    ap (λ (t : Term). abbreviated_as of (judged t)) is
    ∙ ap (λ (b : Bool). if b then and_then ((judged (v.Single (k.Known x))).under of) (as_type of) else for_no_data (judged (v.Single (k.Known x)))) holds
    ∙ ap (λ (y : Judged). and_then (y.under of) (as_type of)) (judged_single (k.Known x))
    ∙ ap so (ap (fits of) (its x is) ∙ fits_itself of) where
      fitted_so : Bool → Finding
      fitted_so b = if b then record { faults = []; kind = k.Known x } else fault_of code.T2

      so : Bool → Finding
      so b = and_then (record { faults = [] ++ (fitted_so b).faults; kind = (fitted_so b).kind }) (as_type of)
