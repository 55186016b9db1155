-- Expressions, elements and types without faults, form by form.
use Rattle.std.proofs.Common.{◌≡◌, ◌∙◌, ◌++◌, ℕ, List, [], ◌∷◌, Option, Some, None, sym, subst}
use Rattle.occ_base.specs.declared.fault.Fault.{Fault}
use Rattle.occ_expr_operations.specs.OpenExprs.{applied_open, conversion_open, decorated_open, literal_open, operation_open, pair_open}
use Rattle.occ_expr_operations.specs.Elements.{element_open, place_tree}
use Rattle.occ_expr_operations.specs.Operations.{applied, converted, extreme_of, operation, pair, run_operator}
use Rattle.occ_expr_operations.specs.Parts.{Said, after, call, in_scope, own_faults, single, table, table_as, terms}
use Rattle.occ_expr_operations.specs.Views.{BuiltinView, DimensionView, ElementView, NamedOperandView, OperandView, TypeFormView, bounds_view, builtin_view, call_open, decorated, decorated_table, dimension_view, dimension_views, each, element_view, expr_view, expr_views, for_of, from_for_of, from_of, item_opens, named_operand_view, operand_opens, operand_view, operand_views, operands, type_form_view}
use Rattle.occ_expr_operations.specs.Literals.{decorated_literal, literal, truth}
use Rattle.occ_expr_operations.specs.Written.{Written, array_over, array_over_more, data_form}
use Rattle.occ_expr_operations.specs.declared.written.Opening.{Opening}
use Rattle.occ_expr_operations.specs.declared.written.Opening.TheVariants as opening
use Rattle.occ_expr_operations.proofs.Views as views
use Rattle.occ_forms_expressions.proofs.Induction.{Every, Steps, every_builtin, every_dimension, every_element, every_expr, every_type_form}
use Rattle.occ_forms_expressions.specs.declared.tree.Bounds.{Bounds}
use Rattle.occ_forms_expressions.specs.declared.tree.Builtin.{Builtin}
use Rattle.occ_forms_expressions.specs.declared.tree.Dimension.{Dimension}
use Rattle.occ_forms_expressions.specs.declared.tree.Element.{Element}
use Rattle.occ_forms_expressions.specs.declared.tree.Element.TheVariants as ev
use Rattle.occ_forms_expressions.specs.declared.tree.Expr.{Expr}
use Rattle.occ_forms_expressions.specs.declared.tree.Literal.{Literal}
use Rattle.occ_forms_expressions.specs.declared.tree.NamedOperand.{NamedOperand}
use Rattle.occ_forms_expressions.specs.declared.tree.Operand.{Operand}
use Rattle.occ_forms_expressions.specs.declared.tree.TypeForm.{TypeForm}
use Rattle.occ_scope.specs.Lookup.{data_type}
use Rattle.occ_scope.specs.Visible.{visible}
use Rattle.occ_scope.specs.declared.scope.Scope.{Scope}
use Rattle.occ_typing_operands.specs.Settling.{Finding}
use Rattle.occ_typing_tables.specs.Terms.{judged, judged_all}
use Rattle.occ_typing_tables.specs.declared.term.Term.{Term}
use Rattle.occ_typing_rules.specs.declared.open_expr.OpenExpr.{OpenExpr}
use Rattle.occ_typing_rules.specs.declared.open_expr.OpenExpr.TheVariants as dr
use Rattle.occ_typing_rules.specs.declared.expr.TypedExpr.{TypedExpr}
use Rattle.occ_types.specs.declared.types.OccType.{OccType}
use Rattle.occ_types.proofs.Unknowns.{unknown_any, unknown_channel, unknown_primitive, unknown_timer}
use Rattle.occ_types.specs.declared.types.Protocol.TheVariants as protocol
use Rattle.occ_expr_operations.specs.Written.{primitive_of}
use Rattle.occ_typing.specs.Known.{IsKnownScope}
use Rattle.occ_typing.specs.WholeTrees.{IsWholeExpr, IsWholeSelector}
use Rattle.occ_typing.proofs.whole.Made as made
use Rattle.occ_theorems.proofs.whole.Clean.{Has, back_clean, front_clean}
use Rattle.occ_theorems.proofs.whole.Elements.{AllExprs, BoundsSound, ElementReads, ExprSound, SaidSound, all_sound, call_reads, element_may, named_element_reads, segment_element_reads, whole_element_reads}
use Rattle.occ_theorems.proofs.whole.Literals.{applied_reads, conversion_reads, decorated_reads, decorated_table_reads, literal_reads, most_reads, operation_reads, pair_reads, truth_reads}
use Rattle.occ_theorems.proofs.whole.Names.{IsTyped, type_found, visible_known}
use Rattle.occ_theorems.proofs.whole.Reading.{MayRead}
use Rattle.occ_theorems.proofs.whole.Sound.{AllSound, single_sound, table_sound}
use Rattle.occ_theorems.proofs.whole.Written.{AllSpan, SpanSound, TypeSound, array_more_sound, array_sound, channel_sound, counted_sound, data_form_sound, open_sound, sized_sound}

-- ---- what holds of each form, in each scope whose names are known

abbrev OfBounds : Bounds → Type 0
OfBounds b = (s : Scope) → IsKnownScope s → BoundsSound s (bounds_view b)

abbrev pub OfBuiltin : Builtin → Type 0
OfBuiltin u = (s : Scope) → IsKnownScope s → TypeSound (builtin_view u s)

abbrev pub OfDimension : Dimension → Type 0
OfDimension x = (o : Opening) (s : Scope) → IsKnownScope s → SpanSound (dimension_view x o s)

pub record ElementSound (s : Scope) (el : ElementView) : Type 0 where
  pub reported : (el.reported s).faults ≡ [] → ElementReads (el.reported s).kind (el.tree s)
  pub whole : (el.whole s).faults ≡ [] → MayRead (el.whole s).kind (el.whole_open s)

abbrev pub OfElement : Element → Type 0
OfElement el = (s : Scope) → IsKnownScope s → ElementSound s (element_view el)

abbrev pub OfExpr : Expr → Type 0
OfExpr e = (s : Scope) → IsKnownScope s → ExprSound s (expr_view e)

abbrev NamedSound : Scope → NamedOperandView → Type 0
NamedSound s o = SaidSound (o.said s) (o.open_expr s)

abbrev OfNamed : NamedOperand → Type 0
OfNamed o = (s : Scope) → IsKnownScope s → NamedSound s (named_operand_view o)

record OperandSound (s : Scope) (o : OperandView) : Type 0 where
  part : SaidSound (o.said s) (o.open_expr s)
  whole : SaidSound (o.whole s) (o.whole_open s)

abbrev OfOperand : Operand → Type 0
OfOperand o = (s : Scope) → IsKnownScope s → OperandSound s (operand_view o)

abbrev pub OfType : TypeForm → Type 0
OfType ty = (o : Opening) (s : Scope) → IsKnownScope s → TypeSound (type_form_view ty o s)

pub all_exprs : (s : Scope) (es : List Expr) → IsKnownScope s → Every OfExpr es → AllExprs s (expr_views es)
all_exprs s [] known h = tt
all_exprs s (e ∷ es) known h = (h.0 s known, all_exprs s es known h.1)

pub all_spans : (o : Opening) (s : Scope) (ds : List Dimension) → IsKnownScope s → Every OfDimension ds → AllSpan (each o s (dimension_views ds))
all_spans o s [] known h = tt
all_spans o s (x ∷ ds) known h = (h.0 o s known, all_spans o s ds known h.1)

all_operands : (s : Scope) (os : List Operand) → IsKnownScope s → Every OfOperand os → own_faults (operands s (operand_views os)) ≡ [] → AllSound (judged_all (terms (operands s (operand_views os)))) (operand_opens s (operand_views os))
all_operands s [] known h e = tt
all_operands s (o ∷ os) known h e =
    let x = (operand_view o).said s in
    let rest = own_faults (operands s (operand_views os)) in
    ((h.0 s known).part (front_clean x.faults rest e), all_operands s os known h.1 (back_clean x.faults rest e))

-- ---- one that is judged as one

reported_sound : (x : Finding) (d : OpenExpr) → (x.faults ≡ [] → MayRead x.kind d) → SaidSound (single x) d
reported_sound x d h e = single_sound x.kind d (h e)

after_sound : (fs : List Fault) (x : Finding) (d : OpenExpr) → (fs ≡ [] → x.faults ≡ [] → MayRead x.kind d) → SaidSound (single (after fs x)) d
after_sound fs x d h e = single_sound x.kind d (h (front_clean fs x.faults e) (back_clean fs x.faults e))

-- ---- bounds

from_there : (n : Option ℕ) (t : Option TypedExpr) → Has IsWholeExpr t → Has IsWholeSelector (from_of n t)
from_there n None h = h
from_there n (Some t) h = made.from n t h

for_there : (n : Option ℕ) (t : Option TypedExpr) → Has IsWholeExpr t → Has IsWholeSelector (for_of n t)
for_there n None h = h
for_there n (Some t) h = made.so_many n t h

from_for_there : (n : Option ℕ) (t u : Option TypedExpr) → Has IsWholeExpr t → Has IsWholeExpr u → Has IsWholeSelector (from_for_of n t u)
from_for_there n None u h g = h
from_for_there n (Some t) None h g = g
from_for_there n (Some t) (Some u) h g = made.from_so_many n t u h g

-- ---- conversions and tables with a type

converting : (to : Written) (x : Said) (d : OpenExpr) → TypeSound to → SaidSound x d → SaidSound (single (after (to.faults ++ x.faults) (converted to.found (judged x.term)))) (conversion_open to.found (judged x.term) d)
converting to x d h g = after_sound (to.faults ++ x.faults) (converted to.found (judged x.term)) (conversion_open to.found (judged x.term) d)
    (λ own. conversion_reads to.found (judged x.term) d (h (front_clean to.faults x.faults own)) (g (back_clean to.faults x.faults own)))

with_type : (js : List Term) (d : OpenExpr) (ds : List OpenExpr) (to : Option OccType) → IsTyped to → AllSound (judged_all js) (d ∷ ds) → (table_as to js).faults ≡ [] → MayRead (table_as to js).kind (decorated_open (table_as to js).kind (d ∷ ds))
unfolding table_as
with_type js d ds None h g e = absurd h
with_type js d ds (Some to) h g e = decorated_table_reads to (judged_all js) d ds h g e

typed_table_sound : (s : Scope) (e : Expr) (es : List Expr) (of : TypeForm) → IsKnownScope s → OfExpr e → Every OfExpr es → OfType of
    → SaidSound (single (decorated_table s (expr_view e ∷ expr_views es) (type_form_view of))) (decorated_open (decorated_table s (expr_view e ∷ expr_views es) (type_form_view of)).kind (item_opens s (expr_view e ∷ expr_views es)))
typed_table_sound s e es of known h g i =
    let xs = in_scope s (expr_view e ∷ expr_views es) in
    let to = type_form_view of opening.Refused s in
    let x = table_as to.found (terms xs) in
    after_sound (own_faults xs ++ to.faults) x (decorated_open x.kind (item_opens s (expr_view e ∷ expr_views es)))
    (λ own. with_type (terms xs) ((expr_view e).open_expr s) (item_opens s (expr_views es)) to.found (i opening.Refused s known (back_clean (own_faults xs) to.faults own))
    (all_sound s (expr_view e ∷ expr_views es) (h s known, all_exprs s es known g) (front_clean (own_faults xs) to.faults own)))

table_said : (s : Scope) (e : Expr) (es : List Expr) → IsKnownScope s → OfExpr e → Every OfExpr es → SaidSound (table (in_scope s (expr_view e ∷ expr_views es))) (dr.Table (item_opens s (expr_view e ∷ expr_views es)))
table_said s e es known h g c =
    let xs = in_scope s (expr_view e ∷ expr_views es) in
    table_sound (terms xs) ((expr_view e).open_expr s) (item_opens s (expr_views es)) (all_sound s (expr_view e ∷ expr_views es) (h s known, all_exprs s es known g) c)

decorated_sound : (of : TypeForm) (lit : Literal) (s : Scope) → IsKnownScope s → OfType of → SaidSound (single (decorated (type_form_view of opening.Refused s) lit)) (literal_open (decorated (type_form_view of opening.Refused s) lit).kind)
decorated_sound of lit s known h =
    let to = type_form_view of opening.Refused s in
    let x = decorated_literal to.found lit in
    after_sound to.faults x (literal_open x.kind) (λ own. decorated_reads to.found lit (h opening.Refused s known own))

call_sound : (name : List ℕ) (es : List Expr) (s : Scope) → IsKnownScope s → Every OfExpr es → SaidSound (single (call s name (expr_views es))) (call_open s name (expr_views es))
call_sound name es s known h = reported_sound (call s name (expr_views es)) (call_open s name (expr_views es)) (call_reads s name (expr_views es) known (all_exprs s es known h))

-- ---- all forms

steps : Steps OfBounds OfBuiltin OfDimension OfElement OfExpr OfNamed OfOperand OfType
steps = record {
  bounds_from = λ e h s known. subst (BoundsSound s) (sym (views.bounds_from e)) (λ c. ((expr_view e).open_expr s, h s known c, λ n t. from_there n (place_tree s (expr_view e)) t));
  bounds_for = λ e h s known. subst (BoundsSound s) (sym (views.bounds_for e)) (λ c. ((expr_view e).open_expr s, h s known c, λ n t. for_there n (place_tree s (expr_view e)) t));
  bounds_from_for = λ e f h g s known. subst (BoundsSound s) (sym (views.bounds_from_for e f))
      (λ c. ((expr_view e).open_expr s, (expr_view f).open_expr s, h s known (front_clean ((expr_view e).said s).faults ((expr_view f).said s).faults c), g s known (back_clean ((expr_view e).said s).faults ((expr_view f).said s).faults c), λ n t u. from_for_there n (place_tree s (expr_view e)) (place_tree s (expr_view f)) t u));
  builtin_primitive = λ w s known. subst (λ (v : BuiltinView). TypeSound (v s)) (sym (views.builtin_primitive w)) (λ c. unknown_primitive (primitive_of w));
  builtin_timer = λ s known. subst (λ (v : BuiltinView). TypeSound (v s)) (sym views.builtin_timer) (λ c. unknown_timer);
  builtin_any_channel = λ w s known. subst (λ (v : BuiltinView). TypeSound (v s)) (sym (views.builtin_any_channel w)) (λ c. unknown_channel protocol.Any ∙ unknown_any);
  builtin_channel = λ w ds b h s known. subst (λ (v : BuiltinView). TypeSound (v s)) (sym (views.builtin_channel w ds b)) (channel_sound s (each opening.Refused s (dimension_views ds)) b known (all_spans opening.Refused s ds known h));
  builtin_counted = λ w ds b es other h g s known. subst (λ (v : BuiltinView). TypeSound (v s)) (sym (views.builtin_counted w ds b es other))
      (counted_sound (data_form s (each opening.Refused s (dimension_views ds)) b) (data_form s (each opening.Refused s (dimension_views es)) other)
      (data_form_sound s (each opening.Refused s (dimension_views ds)) b known (all_spans opening.Refused s ds known h))
      (data_form_sound s (each opening.Refused s (dimension_views es)) other known (all_spans opening.Refused s es known g)));
  dimension_open = λ o s known. subst (λ (v : DimensionView). SpanSound (v o s)) (sym views.dimension_open) (open_sound o);
  dimension_sized = λ e h o s known. subst (λ (v : DimensionView). SpanSound (v o s)) (sym (views.dimension_sized e)) (sized_sound ((expr_view e).said s) ((expr_view e).open_expr s) (h s known));
  element_named = λ n es h s known. subst (ElementSound s) (sym (views.element_named n es))
      (record { reported = named_element_reads s n (expr_views es) known (all_exprs s es known h); whole = whole_element_reads s n (expr_views es) known (all_exprs s es known h) });
  element_segment = λ el b es h g i s known. subst (ElementSound s) (sym (views.element_segment el b es))
      (let reads = segment_element_reads s (element_view el) (bounds_view b) (expr_views es) (h s known).reported (g s known) (all_exprs s es known i) in
      record { reported = reads; whole = λ c. element_may _ _ (reads c) });
  expr_alone = λ o h s known. subst (ExprSound s) (sym (views.expr_alone o)) (h s known).whole;
  expr_run = λ operator a b os h g i s known. subst (ExprSound s) (sym (views.expr_run operator a b os))
      (let xs = operands s (operand_views (a ∷ b ∷ os)) in
      let ds = operand_opens s (operand_views (a ∷ b ∷ os)) in
      let x = operation (run_operator operator) (judged_all (terms xs)) in
      after_sound (own_faults xs) x (operation_open x.kind (run_operator operator) ds)
      (λ own. operation_reads (run_operator operator) (judged_all (terms xs)) ds (all_operands s (a ∷ b ∷ os) known (h, (g, i)) own)));
  expr_pair = λ a operator b h g s known. subst (ExprSound s) (sym (views.expr_pair a operator b))
      (let x = (operand_view a).said s in
      let y = (operand_view b).said s in
      let z = pair operator (judged x.term) (judged y.term) in
      after_sound (x.faults ++ y.faults) z (pair_open z.kind operator ((operand_view a).open_expr s) ((operand_view b).open_expr s))
      (λ own. pair_reads operator (judged x.term) (judged y.term) ((operand_view a).open_expr s) ((operand_view b).open_expr s)
      ((h s known).part (front_clean x.faults y.faults own)) ((g s known).part (back_clean x.faults y.faults own))));
  expr_applied = λ operator o h s known. subst (ExprSound s) (sym (views.expr_applied operator o))
      (let x = (operand_view o).said s in
      let z = applied operator (operand_view o).digits (judged x.term) in
      after_sound x.faults z (applied_open z.kind operator (operand_view o).digits (judged x.term) ((operand_view o).open_expr s))
      (λ own. applied_reads operator (operand_view o).digits (judged x.term) ((operand_view o).open_expr s) ((h s known).part own)));
  expr_converted = λ ds b o h g i s known. subst (ExprSound s) (sym (views.expr_converted ds b o))
      (converting (array_over (each opening.Refused s (dimension_views ds)) (builtin_view b s)) ((operand_view o).said s) ((operand_view o).open_expr s)
      (array_sound (each opening.Refused s (dimension_views ds)) (builtin_view b s) (all_spans opening.Refused s ds known h) (g s known)) (i s known).part);
  expr_array_converted = λ x ds n o h g i s known. subst (ExprSound s) (sym (views.expr_array_converted x ds n o))
      (converting (array_over_more (dimension_view x opening.Refused s) (each opening.Refused s (dimension_views ds)) (data_type n (visible s n))) ((operand_view o).said s) ((operand_view o).open_expr s)
      (array_more_sound (dimension_view x opening.Refused s) (each opening.Refused s (dimension_views ds)) (data_type n (visible s n)) (h opening.Refused s known) (all_spans opening.Refused s ds known g) (type_found n (visible s n) (visible_known s n known))) (i s known).part);
  expr_named = λ n o h s known. subst (ExprSound s) (sym (views.expr_named n o))
      (converting (array_over [] (data_type n (visible s n))) ((named_operand_view o).said s) ((named_operand_view o).open_expr s)
      (array_sound [] (data_type n (visible s n)) tt (type_found n (visible s n) (visible_known s n known))) (h s known));
  expr_most = λ x ty h s known. subst (ExprSound s) (sym (views.expr_most x ty))
      (let to = type_form_view ty opening.Refused s in
      let z = extreme_of x to.found in
      after_sound to.faults z (literal_open z.kind) (λ own. most_reads x to.found (h opening.Refused s known own)));
  named_operand_element = λ el h s known. subst (NamedSound s) (sym (views.named_operand_element el))
      (reported_sound ((element_view el).reported s) (element_open ((element_view el).tree s)) (λ c. element_may _ _ ((h s known).reported c)));
  named_operand_literal = λ lit s known. subst (NamedSound s) (sym (views.named_operand_literal lit)) (reported_sound (literal lit) (literal_open (literal lit).kind) (literal_reads lit));
  named_operand_decorated = λ lit ty h s known. subst (NamedSound s) (sym (views.named_operand_decorated lit ty)) (decorated_sound ty lit s known h);
  named_operand_truth = λ b s known. subst (NamedSound s) (sym (views.named_operand_truth b)) (reported_sound (truth b) (literal_open (truth b).kind) (λ c. truth_reads b));
  named_operand_table = λ e f es h g i s known. subst (NamedSound s) (sym (views.named_operand_table e f es)) (table_said s e (f ∷ es) known h (g, i));
  named_operand_decorated_table = λ e es ty h g i s known. subst (NamedSound s) (sym (views.named_operand_decorated_table e es ty)) (typed_table_sound s e es ty known h g i);
  named_operand_call = λ n es h s known. subst (NamedSound s) (sym (views.named_operand_call n es)) (call_sound n es s known h);
  operand_element = λ el h s known. subst (OperandSound s) (sym (views.operand_element el))
      (record {
        part = reported_sound ((element_view el).reported s) (element_open ((element_view el).tree s)) (λ c. element_may _ _ ((h s known).reported c));
        whole = reported_sound ((element_view el).whole s) ((element_view el).whole_open s) (h s known).whole;
      });
  operand_literal = λ lit s known. subst (OperandSound s) (sym (views.operand_literal lit))
      (let one = reported_sound (literal lit) (literal_open (literal lit).kind) (literal_reads lit) in record { part = one; whole = one });
  operand_decorated = λ lit ty h s known. subst (OperandSound s) (sym (views.operand_decorated lit ty)) (let one = decorated_sound ty lit s known h in record { part = one; whole = one });
  operand_truth = λ b s known. subst (OperandSound s) (sym (views.operand_truth b)) (let one = reported_sound (truth b) (literal_open (truth b).kind) (λ c. truth_reads b) in record { part = one; whole = one });
  operand_parens = λ e h s known. subst (OperandSound s) (sym (views.operand_parens e)) (record { part = h s known; whole = h s known });
  operand_table = λ e es h g s known. subst (OperandSound s) (sym (views.operand_table e es)) (let one = table_said s e es known h g in record { part = one; whole = one });
  operand_decorated_table = λ e es ty h g i s known. subst (OperandSound s) (sym (views.operand_decorated_table e es ty)) (let one = typed_table_sound s e es ty known h g i in record { part = one; whole = one });
  operand_call = λ n es h s known. subst (OperandSound s) (sym (views.operand_call n es)) (let one = call_sound n es s known h in record { part = one; whole = one });
  type_form_named = λ ds n h o s known. subst (λ (v : TypeFormView). TypeSound (v o s)) (sym (views.type_form_named ds n))
      (array_sound (each o s (dimension_views ds)) (data_type n (visible s n)) (all_spans o s ds known h) (type_found n (visible s n) (visible_known s n known)));
  type_form_builtin = λ ds b h g o s known. subst (λ (v : TypeFormView). TypeSound (v o s)) (sym (views.type_form_builtin ds b))
      (array_sound (each o s (dimension_views ds)) (builtin_view b s) (all_spans o s ds known h) (g s known));
}

pub expr_sound : (e : Expr) → OfExpr e
expr_sound = every_expr steps

pub element_sound : (el : Element) → OfElement el
element_sound = every_element steps

pub type_sound : (ty : TypeForm) → OfType ty
type_sound = every_type_form steps

pub dimension_sound : (x : Dimension) → OfDimension x
dimension_sound = every_dimension steps

pub builtin_sound : (u : Builtin) → OfBuiltin u
builtin_sound = every_builtin steps

-- ---- induction on elements alone

abbrev Anything : {X : Type 0} → X → Type 0
Anything x = Unit {0}

pub each_element : (P : Element → Type 0) → ((n : List ℕ) (es : List Expr) → P (ev.Named n es)) → ((el : Element) (b : Bounds) (es : List Expr) → P el → P (ev.Segment el b es)) → (el : Element) → P el
each_element P named segment = every_element {OfBounds = Anything} {OfBuiltin = Anything} {OfDimension = Anything} {OfElement = P} {OfExpr = Anything} {OfNamed = Anything} {OfOperand = Anything} {OfType = Anything} record {
  bounds_from = λ e h. tt;
  bounds_for = λ e h. tt;
  bounds_from_for = λ e f h g. tt;
  builtin_primitive = λ w. tt;
  builtin_timer = tt;
  builtin_any_channel = λ w. tt;
  builtin_channel = λ w ds b h. tt;
  builtin_counted = λ w ds b es other h g. tt;
  dimension_open = tt;
  dimension_sized = λ e h. tt;
  element_named = λ n es h. named n es;
  element_segment = λ el b es h g i. segment el b es h;
  expr_alone = λ o h. tt;
  expr_run = λ operator a b os h g i. tt;
  expr_pair = λ a operator b h g. tt;
  expr_applied = λ operator o h. tt;
  expr_converted = λ ds b o h g i. tt;
  expr_array_converted = λ x ds n o h g i. tt;
  expr_named = λ n o h. tt;
  expr_most = λ x ty h. tt;
  named_operand_element = λ el h. tt;
  named_operand_literal = λ lit. tt;
  named_operand_decorated = λ lit ty h. tt;
  named_operand_truth = λ b. tt;
  named_operand_table = λ e f es h g i. tt;
  named_operand_decorated_table = λ e es ty h g i. tt;
  named_operand_call = λ n es h. tt;
  operand_element = λ el h. tt;
  operand_literal = λ lit. tt;
  operand_decorated = λ lit ty h. tt;
  operand_truth = λ b. tt;
  operand_parens = λ e h. tt;
  operand_table = λ e es h g. tt;
  operand_decorated_table = λ e es ty h g i. tt;
  operand_call = λ n es h. tt;
  type_form_named = λ ds n h. tt;
  type_form_builtin = λ ds b h g. tt;
}
