-- What is known of an expression, an element or a written type is exactly what the relation says: the statements of the laws.
use Rattle.std.proofs.Common.{◌≡◌, ◌↔◌, [], Option, Some}
use Rattle.occ_expr_operations.specs.Views.{element_view, expr_view, type_form_view}
use Rattle.occ_expr_operations.specs.declared.written.Opening.TheVariants as opening
use Rattle.occ_forms_expressions.specs.declared.tree.Element.{Element}
use Rattle.occ_forms_expressions.specs.declared.tree.Expr.{Expr}
use Rattle.occ_forms_expressions.specs.declared.tree.TypeForm.{TypeForm}
use Rattle.occ_scope.specs.declared.scope.Scope.{Scope}
use Rattle.occ_typing_operands.specs.Settling.{known}
use Rattle.occ_typing_tables.specs.Terms.{judged}
use Rattle.occ_types.specs.declared.types.OccType.{OccType}
use Rattle.occ_types.specs.declared.value.Value.{Value}
use Rattle.occ_has_type.specs.Free.{is_free}
use Rattle.occ_has_type.specs.Types.{ElementHasType, HasType, IsWritten, StandsAlone, Takes}
use Rattle.occ_has_type.proofs.Exactly.{alone_type, element_type, takes_type, written_type}
use Rattle.occ_has_type.proofs.Gives.{any_is}
use Rattle.occ_has_type.proofs.Means.{knows_found}
use Rattle.occ_has_type.proofs.Operating.{Beside}
use Rattle.occ_has_type.proofs.Reading.{under_reads}
use Rattle.occ_has_type.proofs.Selecting.{Element_of}
use Rattle.occ_has_type.proofs.Typing.{element_reads, expr_reads, type_reads}

pub wanted_exactly : (s : Scope) (e : Expr) (to of : OccType) (value : Option Value) → (((judged ((expr_view e).said s).term).under to).kind ≡ known of value) ↔ Takes s e to of value
wanted_exactly s e to of value = (
  λ is. knows_found (λ y. Takes s e to y.of y.value) ((judged ((expr_view e).said s).term).under to).kind (record { of = of; value = value })
      (under_reads (is_free e) (StandsAlone s e) (Takes s e) (Beside (HasType s e)) ((expr_view e).said s).term to ((expr_reads e).reads s)) is,
  λ h. (takes_type s e to of value h).1.wanted.1,
)

pub wanted_silent : (s : Scope) (e : Expr) (to of : OccType) (value : Option Value) → Takes s e to of value → (((expr_view e).said s).faults ≡ []) × (((judged ((expr_view e).said s).term).under to).faults ≡ [])
wanted_silent s e to of value h = let x = takes_type s e to of value h in (x.0, x.1.wanted.0)

pub alone_exactly : (s : Scope) (e : Expr) (of : OccType) (value : Option Value) → ((judged ((expr_view e).said s).term).alone.kind ≡ known of value) ↔ StandsAlone s e of value
alone_exactly s e of value = (
  λ is. knows_found (λ y. StandsAlone s e y.of y.value) (judged ((expr_view e).said s).term).alone.kind (record { of = of; value = value }) ((expr_reads e).reads s).by_itself is,
  λ h. (alone_type s e of value h).1.by_itself.1,
)

pub alone_silent : (s : Scope) (e : Expr) (of : OccType) (value : Option Value) → StandsAlone s e of value → (((expr_view e).said s).faults ≡ []) × ((judged ((expr_view e).said s).term).alone.faults ≡ [])
alone_silent s e of value h = let x = alone_type s e of value h in (x.0, x.1.by_itself.0)

pub element_exactly : (s : Scope) (e : Element) (of : OccType) (value : Option Value) → (((element_view e).reported s).kind ≡ known of value) ↔ ElementHasType s e of value
element_exactly s e of value = (
  λ is. knows_found (Element_of s e) ((element_view e).reported s).kind (record { of = of; value = value }) ((element_reads e).reported s) is,
  λ h. (element_type s e of value h).reported.1,
)

pub element_silent : (s : Scope) (e : Element) (of : OccType) (value : Option Value) → ElementHasType s e of value → ((element_view e).reported s).faults ≡ []
element_silent s e of value h = (element_type s e of value h).reported.0

pub written_exactly : (s : Scope) (ty : TypeForm) (to : OccType) → ((type_form_view ty opening.Refused s).found ≡ Some to) ↔ IsWritten s ty to
written_exactly s ty to = (λ is. any_is (IsWritten s ty) (type_form_view ty opening.Refused s).found to (type_reads ty s) is, λ h. (written_type s ty to h).1)

pub written_silent : (s : Scope) (ty : TypeForm) (to : OccType) → IsWritten s ty to → (type_form_view ty opening.Refused s).faults ≡ []
written_silent s ty to h = (written_type s ty to h).0
