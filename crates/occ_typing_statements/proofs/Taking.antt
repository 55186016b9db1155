-- A formal takes a name alone of its type: nothing is reported of it.
use Rattle.std.proofs.Common.{◌≡◌, ◌∙◌, ◌||◌, ◌&&◌, ℕ, Bool, true, false, List, [], Some, if◌then◌else◌, refl, ap, sym}
use Rattle.occ_base.specs.declared.code.Code.TheVariants as code
use Rattle.occ_types.specs.Fits.{fits}
use Rattle.occ_types.specs.View.{as_channel}
use Rattle.occ_types.specs.declared.types.OccType.{OccType}
use Rattle.occ_forms_expressions.specs.declared.tree.Element.{Element}
use Rattle.occ_forms_expressions.specs.declared.tree.Element.TheVariants as elements
use Rattle.occ_forms_expressions.specs.declared.tree.Expr.{Expr}
use Rattle.occ_forms_expressions.specs.declared.tree.Expr.TheVariants as exprs
use Rattle.occ_forms_expressions.specs.declared.tree.Operand.TheVariants as operands
use Rattle.occ_scope.specs.Elements.{type_of}
use Rattle.occ_scope.specs.Visible.{visible}
use Rattle.occ_scope.specs.declared.scope.Scope.{Scope}
use Rattle.occ_typing_operands.specs.Settling.{fault_of}
use Rattle.occ_typing_operands.specs.Wanting.{wanted}
use Rattle.occ_typing_operands.specs.declared.kind.Kind.{Kind}
use Rattle.occ_typing_operands.specs.declared.kind.Kind.TheVariants as k
use Rattle.occ_typing_operands.specs.declared.kind.Known.{Known}
use Rattle.occ_typing_tables.specs.Terms.{Judged, judged}
use Rattle.occ_typing_tables.proofs.Judging.{judged_single}
use Rattle.occ_expr_operations.specs.Parts.{Said, whole_element}
use Rattle.occ_expr_operations.specs.Views.{expr_view}
use Rattle.occ_expr.specs.Targets.{target_of}
use Rattle.occ_typing_statements.specs.Actuals.{any_carried, is_carried, taken, takes}
use Rattle.occ_expr.proofs.Alone.{IsOf, said_alone, value_kind, wanted_itself}
use Rattle.occ_expr.proofs.Fitting.{fits_itself}
use Rattle.occ_expr.proofs.Named.{target_type}

or_true : (a b : Bool) → b ≡ true → (a || b) ≡ true
or_true true b e = refl
or_true false b e = e

takes_itself : (of : OccType) → takes of of ≡ true
unfolding takes
takes_itself of = or_true (any_carried (as_channel of) && is_carried (as_channel of)) (fits of of) (fits_itself of)

-- what is known to be of the type
taken_itself : (of : OccType) (kind : Kind) → ((x : Known) → kind ≡ k.Known x → x.of ≡ of) → (taken of kind).faults ≡ []
taken_itself of k.Faulty is = refl
taken_itself of (k.Untyped f) is = refl
taken_itself of (k.Known x) is =
    ap (λ (b : Bool). (if b then record { faults = []; kind = k.Known x } else fault_of code.T2).faults) (ap (takes of) (is x refl) ∙ takes_itself of)

same_type : (a b : OccType) → Some a ≡ Some b → a ≡ b
same_type a b e = cc

pub element_taken : (s : Scope) (element : Element) (name : List ℕ) (of : OccType) → element ≡ elements.Named name [] → type_of (visible s name) ≡ Some of → (taken of (target_of s element).kind).faults ≡ []
element_taken s element name of is_name named =
    taken_itself of (target_of s element).kind
    (λ x known. same_type x.of of (sym (target_type s name x (ap (λ (e : Element). (target_of s e).kind) (sym is_name) ∙ known)) ∙ named))

pub value_taken : (s : Scope) (value : Expr) (name : List ℕ) (of : OccType) → value ≡ exprs.Alone (operands.Element (elements.Named name [])) → type_of (visible s name) ≡ Some of
    → ((judged ((expr_view value).said s).term).under of).faults ≡ []
value_taken s value name of is_name named =
    let its : IsOf of (whole_element s name []).kind = value_kind s name of named in
    ap (λ (e : Expr). ((judged ((expr_view e).said s).term).under of).faults) is_name
    ∙ ap (λ (y : Said). ((judged y.term).under of).faults) (said_alone s name)
    ∙ ap (λ (x : Judged). (x.under of).faults) (judged_single (whole_element s name []).kind)
    ∙ ap (λ (x : Kind). (wanted of x).faults) its.is
    ∙ wanted_itself of its.value
