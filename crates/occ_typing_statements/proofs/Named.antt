-- A name alone is a value for another of the same type: nothing is reported of it.
use Rattle.std.proofs.Common.{◌≡◌, ◌∙◌, ◌++◌, ℕ, Bool, true, List, [], ◌∷◌, Some, if◌then◌else◌, refl, ap, sym}
use Rattle.occ_base.specs.declared.code.Code.TheVariants as code
use Rattle.occ_base.specs.Reporting.{nameless}
use Rattle.occ_base.specs.declared.fault.Fault.{Fault}
use Rattle.occ_types.specs.Fits.{is_data}
use Rattle.occ_types.specs.declared.types.OccType.{OccType}
use Rattle.occ_forms_expressions.specs.declared.tree.Element.{Element}
use Rattle.occ_forms_expressions.specs.declared.tree.Element.TheVariants as elements
use Rattle.occ_forms_expressions.specs.declared.tree.Expr.{Expr}
use Rattle.occ_forms_expressions.specs.declared.tree.Expr.TheVariants as exprs
use Rattle.occ_forms_expressions.specs.declared.tree.Operand.TheVariants as operands
use Rattle.occ_scope.specs.Elements.{type_of}
use Rattle.occ_scope.specs.Visible.{visible}
use Rattle.occ_scope.specs.declared.scope.Scope.{Scope}
use Rattle.occ_typing_operands.specs.Wanting.{wanted}
use Rattle.occ_typing_operands.specs.declared.kind.Kind.{Kind}
use Rattle.occ_typing_operands.specs.declared.kind.Kind.TheVariants as k
use Rattle.occ_typing_operands.specs.declared.kind.Known.{Known}
use Rattle.occ_typing_tables.specs.Terms.{Judged, judged, judged_all}
use Rattle.occ_typing_tables.specs.declared.term.Term.TheVariants as v
use Rattle.occ_typing_tables.proofs.Judging.{judged_single}
use Rattle.occ_typing_rules.specs.Assigning.{assigned, value_for}
use Rattle.occ_expr_operations.specs.Parts.{Said, terms, whole_element}
use Rattle.occ_expr.specs.Targets.{target_of}
use Rattle.occ_typing_statements.specs.Statements.{said}
use Rattle.occ_expr.proofs.Alone.{IsOf, said_alone, value_kind, wanted_itself}
use Rattle.occ_expr.proofs.Named.{target_type}

pub value_fits : (of : OccType) (kind : Kind) → is_data of ≡ true → IsOf of kind → value_for of (judged (v.Single kind)) ≡ []
value_fits of kind holds is =
    ap (λ (b : Bool). if b then ((judged (v.Single kind)).under of).faults else nameless code.T2 ∷ []) holds
    ∙ ap (λ (x : Judged). (x.under of).faults) (judged_single kind)
    ∙ ap (λ (x : Kind). (wanted of x).faults) is.is
    ∙ wanted_itself of is.value

pub alone : (xs ys : List Fault) → xs ≡ [] → ys ≡ [] → xs ++ ys ≡ []
alone xs ys e f = ap (λ (zs : List Fault). zs ++ ys) e ∙ f

pub value_of_one_type : (s : Scope) (target : Element) (name : List ℕ) (value : Expr) (other : List ℕ) (kind : Kind) (x : Known)
    → target ≡ elements.Named name [] → value ≡ exprs.Alone (operands.Element (elements.Named other [])) → kind ≡ (target_of s target).kind → kind ≡ k.Known x → is_data x.of ≡ true → type_of (visible s name) ≡ type_of (visible s other)
    → assigned (kind ∷ []) (judged_all (terms (said s (value ∷ [])))) ≡ []
value_of_one_type s target name value other kind x is_name is_other of_target is_known holds same =
    let mine : type_of (visible s name) ≡ Some x.of = target_type s name x (ap (λ (e : Element). (target_of s e).kind) (sym is_name) ∙ sym of_target ∙ is_known) in
    let its : IsOf x.of (whole_element s other []).kind = value_kind s other x.of (sym same ∙ mine) in
    ap (λ (y : Kind). assigned (y ∷ []) (judged_all (terms (said s (value ∷ []))))) is_known
    ∙ ap (λ (e : Expr). assigned (k.Known x ∷ []) (judged_all (terms (said s (e ∷ []))))) is_other
    ∙ ap (λ (y : Said). assigned (k.Known x ∷ []) (judged y.term ∷ [])) (said_alone s other)
    ∙ alone (value_for x.of (judged (v.Single (whole_element s other []).kind))) [] (value_fits x.of (whole_element s other []).kind holds its) refl
