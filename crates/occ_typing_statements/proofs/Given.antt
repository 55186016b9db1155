-- What a call gives is of the type of its target: nothing is reported of it.
use Rattle.std.proofs.Common.{◌≡◌, ◌==◌, ◌∙◌, ◌++◌, ℕ, Bool, true, false, List, [], ◌∷◌, length, Option, Some, None, if◌then◌else◌, slice_get, arith, refl, ap, sym}
use Rattle.occ_types.specs.Fits.{is_data}
use Rattle.occ_types.specs.declared.interface.Formal.{Formal}
use Rattle.occ_types.specs.declared.types.OccType.{OccType}
use Rattle.occ_forms_expressions.specs.declared.tree.Element.{Element}
use Rattle.occ_forms_expressions.specs.declared.tree.Element.TheVariants as elements
use Rattle.occ_forms_expressions.specs.declared.tree.Expr.{Expr}
use Rattle.occ_scope.specs.Elements.{formal_of, formal_types, type_of}
use Rattle.occ_scope.specs.Visible.{referent, visible}
use Rattle.occ_scope.specs.declared.meaning.Meaning.{Meaning}
use Rattle.occ_scope.specs.declared.meaning.Meaning.TheVariants as m
use Rattle.occ_scope.specs.declared.scope.Scope.{Scope}
use Rattle.occ_typing_operands.specs.Settling.{known}
use Rattle.occ_typing_operands.specs.declared.kind.Kind.{Kind}
use Rattle.occ_typing_operands.specs.declared.kind.Kind.TheVariants as k
use Rattle.occ_typing_operands.specs.declared.kind.Known.{Known}
use Rattle.occ_typing_tables.specs.Terms.{judged, judged_all}
use Rattle.occ_typing_tables.specs.declared.term.Term.{Term}
use Rattle.occ_typing_tables.specs.declared.term.Term.TheVariants as v
use Rattle.occ_typing_rules.specs.Assigning.{assigned, value_for}
use Rattle.occ_typing_rules.specs.Calling.{Matched}
use Rattle.occ_typing_rules.specs.declared.expr.TypedExpr.{TypedExpr}
use Rattle.occ_expr_operations.specs.Parts.{actuals, in_scope}
use Rattle.occ_typing_rules.specs.declared.open_expr.OpenExpr.TheVariants as d
use Rattle.occ_expr_operations.specs.Sides.{Called, Side, call_of_first, call_side, one_call, result_opens, result_terms, results_after, results_side, side, side_by}
use Rattle.occ_expr_operations.specs.Views.{expr_views, item_opens}
use Rattle.occ_expr.specs.Targets.{target_of}
use Rattle.occ_expr.proofs.Alone.{IsOf}
use Rattle.occ_expr.proofs.Passing.{behind, same_kind}
use Rattle.occ_expr.proofs.Named.{target_type}
use Rattle.occ_typing_statements.proofs.Named.{alone, value_fits}

type_in : Kind → Option OccType
type_in k.Faulty = None
type_in (k.Untyped f) = None
type_in (k.Known y) = Some y.of

pub none_left : (ts : List Term) → (length ts == 0) ≡ true → ts ≡ []
none_left [] h = refl
none_left (t ∷ ts) h = absurd (let some : (length (t ∷ ts) == 0) ≡ false = grind arith in cc)

first_same : (a b : Term) → a ∷ [] ≡ b ∷ [] → a ≡ b
first_same a b e = cc

given : (formals : List Formal) (results : List OccType) (y : Known) → result_terms results ≡ v.Single (k.Known y) ∷ [] → slice_get (formal_types formals ++ results) (length formals) ≡ Some y.of
unfolding type_in
given formals [] y is = absurd cc
given formals (of ∷ []) y is = behind formals of [] ∙ ap type_in (same_kind (known of None) (k.Known y) (first_same (v.Single (known of None)) (v.Single (k.Known y)) is))
given formals (of ∷ q ∷ qs) y is = absurd cc

faulty_not : (y : Known) → k.Faulty ≡ k.Known y → ⊥
faulty_not y e = cc

after_all : (x : Matched) (call : Option TypedExpr) (formals : List Formal) (results : List OccType) (y : Known) (faulty : Bool) → x.is_faulty ≡ faulty → (results_after x call results).terms ≡ v.Single (k.Known y) ∷ []
    → slice_get (formal_types formals ++ results) (length formals) ≡ Some y.of
after_all x call formals results y faulty h is = by faulty (ap (λ (b : Bool). (side_so b).terms) (sym h) ∙ is) where
  side_so : Bool → Side
  side_so b =
      if b
      then record { faults = x.faults; terms = v.Single k.Faulty ∷ []; open_exprs = d.Faulty ∷ [] }
      else record { faults = x.faults; terms = result_terms results; open_exprs = result_opens call results }

  by : (b : Bool) → (side_so b).terms ≡ v.Single (k.Known y) ∷ [] → slice_get (formal_types formals ++ results) (length formals) ≡ Some y.of
  by true e = absurd (faulty_not y (same_kind k.Faulty (k.Known y) (first_same (v.Single k.Faulty) (v.Single (k.Known y)) e)))
  by false e = given formals results y e

pub side_gives : (s : Scope) (value : Expr) (callee : List ℕ) (es : List Expr) (formals : List Formal) (results : List OccType) (y : Known) → one_call (value ∷ []) ≡ Some (callee, es) → visible s callee ≡ Some (m.Function formals results)
    → (side s (value ∷ [])).terms ≡ v.Single (k.Known y) ∷ [] → slice_get (formal_types formals ++ results) (length formals) ≡ Some y.of
unfolding side results_side
side_gives s value callee es formals results y is_call stands is =
    let x = actuals formals (in_scope s (expr_views es)) in
    let call = call_of_first results (referent s callee) formals (item_opens s (expr_views es)) in
    after_all x call formals results y x.is_faulty refl
    (ap (λ (f : Option Meaning). (call_side s (value ∷ []) callee es f).terms) (sym stands) ∙ ap (λ (c : Option Called). (side_by s (value ∷ []) c).terms) (sym is_call) ∙ is)

same_type : (a b : OccType) → Some a ≡ Some b → a ≡ b
same_type a b e = cc

pub value_given : (s : Scope) (target : Element) (name : List ℕ) (value : Expr) (callee : List ℕ) (es : List Expr) (formals : List Formal) (results : List OccType) (kind : Kind) (x : Known) (ts : List Term) (y : Known)
    → target ≡ elements.Named name [] → one_call (value ∷ []) ≡ Some (callee, es) → visible s callee ≡ Some (m.Function formals results) → kind ≡ (target_of s target).kind → kind ≡ k.Known x → is_data x.of ≡ true
    → ts ≡ (side s (value ∷ [])).terms → ts ≡ v.Single (k.Known y) ∷ [] → formal_of (visible s callee) (length formals) ≡ type_of (visible s name) → assigned (kind ∷ []) (judged_all ts) ≡ []
value_given s target name value callee es formals results kind x ts y is_name is_call stands of_target is_known holds of_side is_one same =
    let mine : type_of (visible s name) ≡ Some x.of = target_type s name x (ap (λ (e : Element). (target_of s e).kind) (sym is_name) ∙ sym of_target ∙ is_known) in
    let its : formal_of (visible s callee) (length formals) ≡ Some y.of =
    ap (λ (f : Option Meaning). formal_of f (length formals)) stands ∙ side_gives s value callee es formals results y is_call stands (sym of_side ∙ is_one)
    in
    let e : y.of ≡ x.of = same_type y.of x.of (sym its ∙ same ∙ mine) in
    let fits : IsOf x.of (k.Known y) = record { value = y.value; is = ap (λ (o : OccType). known o y.value) e } in
    ap (λ (z : Kind). assigned (z ∷ []) (judged_all ts)) is_known ∙ ap (λ (zs : List Term). assigned (k.Known x ∷ []) (judged_all zs)) is_one
    ∙ alone (value_for x.of (judged (v.Single (k.Known y)))) [] (value_fits x.of (k.Known y) holds fits) refl
