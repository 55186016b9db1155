-- An actual that is known to be of the type of its formal: nothing is reported of it, and it is not faulty.
use Rattle.std.proofs.Common.{◌≡◌, ◌∙◌, ◌++◌, ℕ, zero, suc, Bool, true, false, List, [], ◌∷◌, length, Option, Some, None, if◌then◌else◌, slice_get, refl, ap, sym, subst}
use Rattle.occ_base.specs.declared.code.Code.TheVariants as code
use Rattle.occ_types.specs.declared.interface.Formal.{Formal}
use Rattle.occ_types.specs.declared.types.OccType.{OccType}
use Rattle.occ_forms_expressions.specs.declared.tree.Element.TheVariants as elements
use Rattle.occ_forms_expressions.specs.declared.tree.Expr.{Expr}
use Rattle.occ_forms_expressions.specs.declared.tree.Expr.TheVariants as exprs
use Rattle.occ_forms_expressions.specs.declared.tree.Operand.TheVariants as operands
use Rattle.occ_scope.specs.Elements.{formal_of, formal_types, type_of}
use Rattle.occ_scope.specs.Visible.{visible}
use Rattle.occ_scope.specs.declared.meaning.Meaning.{Meaning}
use Rattle.occ_scope.specs.declared.meaning.Meaning.TheVariants as m
use Rattle.occ_scope.specs.declared.scope.Scope.{Scope}
use Rattle.occ_typing_operands.specs.Operators.{is_faulty}
use Rattle.occ_typing_operands.specs.Settling.{fault_of, silent}
use Rattle.occ_typing_operands.specs.declared.kind.Kind.{Kind}
use Rattle.occ_typing_operands.specs.declared.kind.Kind.TheVariants as k
use Rattle.occ_typing_operands.specs.declared.kind.Known.{Known}
use Rattle.occ_typing_tables.specs.Terms.{Judged, judged}
use Rattle.occ_typing_tables.specs.declared.term.Term.{Term, out-Term}
use Rattle.occ_typing_tables.specs.declared.term.Term.TheOpen.{Term-F}
use Rattle.occ_typing_tables.specs.declared.term.Term.TheViews.{out-roll-Term}
use Rattle.occ_typing_tables.specs.declared.term.Term.TheVariants as v
use Rattle.occ_typing_tables.proofs.Judging.{judged_single}
use Rattle.occ_expr_operations.specs.Parts.{ExprView, Said, actuals, call, call_of, function_call, in_scope, one_result, whole_element}
use Rattle.occ_expr_operations.specs.Views.{expr_view, expr_views}
use Rattle.occ_expr_operations.proofs.Views.{expr_alone_said, operand_call_whole}
use Rattle.occ_expr.specs.inside.Passing.{AreFormals, IsKnownOf}
use Rattle.occ_expr.proofs.Alone.{IsOf, said_alone, value_kind, wanted_itself}
use Rattle.occ_expr.proofs.Fitting.{fits_itself}

-- ---- where it fits

abbrev Fits : OccType → Term → Type 0
Fits of term = (((judged term).under of).faults ≡ []) × (is_faulty ((judged term).under of).kind ≡ false)

fits_so : (x : Known) → Fits x.of (v.Single (k.Known x))
fits_so x = (
  ap (λ (y : Judged). (y.under x.of).faults) (judged_single (k.Known x)) ∙ wanted_itself x.of x.value,
  ap (λ (y : Judged). is_faulty (y.under x.of).kind) (judged_single (k.Known x))
      ∙ ap (λ (b : Bool). is_faulty (if b then record { faults = []; kind = k.Known x } else fault_of code.T2).kind) (fits_itself x.of),
)

pub known_fits : (of : OccType) (x : Known) (term : Term) → term ≡ v.Single (k.Known x) → IsKnownOf of term → Fits of term
known_fits of x term is its = subst (Fits of) (sym is) (subst (λ (o : OccType). Fits o (v.Single (k.Known x))) (its x is) (fits_so x))

-- ---- a name alone

out_single : (kind : Kind) → out-Term (v.Single kind) ≡ Term-F.Single kind
out_single kind = ap out-Term (sym (v.rolls-Single kind)) ∙ out-roll-Term (Term-F.Single kind)

pub same_kind : (a b : Kind) → v.Single a ≡ v.Single b → a ≡ b
same_kind a b is = let e : Term-F.Single a ≡ Term-F.Single b = sym (out_single a) ∙ ap out-Term is ∙ out_single b in cc (e)

type_in : Kind → Option OccType
type_in k.Faulty = None
type_in (k.Untyped f) = None
type_in (k.Known y) = Some y.of

same_type : (a b : OccType) → Some a ≡ Some b → a ≡ b
same_type a b e = cc

known_type : (of : OccType) (kind : Kind) (x : Known) → IsOf of kind → v.Single kind ≡ v.Single (k.Known x) → x.of ≡ of
unfolding type_in
known_type of kind x its is =
    let e : kind ≡ k.Known x = same_kind kind (k.Known x) is in
    same_type x.of of (ap type_in (sym e ∙ its.is))

pub name_known : (s : Scope) (name : List ℕ) (of : OccType) (expr : Expr) → expr ≡ exprs.Alone (operands.Element (elements.Named name [])) → type_of (visible s name) ≡ Some of
    → IsKnownOf of ((expr_view expr).said s).term
name_known s name of expr is_name named x is =
    let e = ap (λ (y : Expr). ((expr_view y).said s).term) is_name ∙ ap (λ (y : Said). y.term) (said_alone s name) in
    known_type of (whole_element s name []).kind x (value_kind s name of named) (sym e ∙ is)

-- ---- a call

pub behind : (formals : List Formal) (of : OccType) (more : List OccType) → slice_get (formal_types formals ++ of ∷ more) (length formals) ≡ Some of
behind [] of more = refl
behind (f ∷ fs) of more = behind fs of more

result_known : (formals : List Formal) (results : List OccType) (x : Known) → (one_result results).kind ≡ k.Known x → slice_get (formal_types formals ++ results) (length formals) ≡ Some x.of
unfolding type_in
result_known formals [] x is = absurd cc
result_known formals (of ∷ []) x is = behind formals of [] ∙ ap type_in is
result_known formals (of ∷ q ∷ qs) x is = absurd cc

after_actuals : (formals : List Formal) (results : List OccType) (faulty : Bool) (x : Known) → (if faulty then silent else one_result results).kind ≡ k.Known x → slice_get (formal_types formals ++ results) (length formals) ≡ Some x.of
after_actuals formals results true x is = absurd cc
after_actuals formals results false x is = result_known formals results x is

call_gives : (s : Scope) (giver : List ℕ) (es : List ExprView) (formals : List Formal) (results : List OccType) (x : Known) → visible s giver ≡ Some (m.Function formals results) → (call s giver es).kind ≡ k.Known x
    → formal_of (visible s giver) (length formals) ≡ Some x.of
unfolding call function_call
call_gives s giver es formals results x is known_so =
    ap (λ (y : Option Meaning). formal_of y (length formals)) is
    ∙ after_actuals formals results (actuals formals (in_scope s es)).is_faulty x (ap (λ (y : Option Meaning). (call_of s giver es y).kind) (sym is) ∙ known_so)

pub call_known : (s : Scope) (giver callee : List ℕ) (place : ℕ) (es : List Expr) (formals : List Formal) (results : List OccType) (of : OccType) (expr : Expr)
    → expr ≡ exprs.Alone (operands.Call giver es) → visible s giver ≡ Some (m.Function formals results) → formal_of (visible s giver) (length formals) ≡ formal_of (visible s callee) place
    → formal_of (visible s callee) place ≡ Some of → IsKnownOf of ((expr_view expr).said s).term
call_known s giver callee place es formals results of expr is_call stands same formal x is =
    let e = ap (λ (y : Expr). ((expr_view y).said s).term) is_call ∙ ap (λ (y : Said). y.term) (expr_alone_said (operands.Call giver es) s ∙ operand_call_whole giver es s) in
    let known_so : (call s giver (expr_views es)).kind ≡ k.Known x = same_kind (call s giver (expr_views es)).kind (k.Known x) (sym e ∙ is) in
    same_type x.of of (sym (call_gives s giver (expr_views es) formals results x stands known_so) ∙ same ∙ formal)

-- ---- formals of a function

pub its_formals : (s : Scope) (name : List ℕ) (formals : List Formal) (results : List OccType) → visible s name ≡ Some (m.Function formals results) → AreFormals s name formals
its_formals s name formals results is k formal at = ap (λ (y : Option Meaning). formal_of y k) is ∙ among formals k at where
  among : (fs : List Formal) (i : ℕ) → slice_get fs i ≡ Some formal → slice_get (formal_types fs ++ results) i ≡ Some formal.of
  among [] i h = absurd cc
  among (f ∷ fs) zero h = first f h where
    first : (g : Formal) → Some g ≡ Some formal → Some g.of ≡ Some formal.of
    first g e = cc
  among (f ∷ fs) (suc i) h = among fs i h
