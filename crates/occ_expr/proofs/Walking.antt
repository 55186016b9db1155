-- What is reported step by step is what is reported of the whole form.
use Rattle.std.proofs.Common.{◌≡◌, ◌∙◌, ◌++◌, ◌∷◌, [], ℕ, List, Option, Some, Result, Ok, Err, IfOk, OnOk, ap, sym, subst, append_assoc}
use Rattle.std.proofs.lemmas.Result.{IfOk-weaker, on_ok_weaker}
use Rattle.occ_forms_expressions.specs.declared.tree.Bounds.{Bounds}
use Rattle.occ_forms_expressions.specs.declared.tree.Builtin.{Builtin}
use Rattle.occ_forms_expressions.specs.declared.tree.Builtin.TheVariants as uv
use Rattle.occ_forms_expressions.specs.declared.tree.ChannelWords.{ChannelWords}
use Rattle.occ_forms_expressions.specs.declared.tree.DataBase.{DataBase}
use Rattle.occ_forms_expressions.specs.declared.tree.Dimension.{Dimension}
use Rattle.occ_forms_expressions.specs.declared.tree.Element.{Element}
use Rattle.occ_forms_expressions.specs.declared.tree.Element.TheVariants as ev
use Rattle.occ_forms_expressions.specs.declared.tree.Expr.{Expr}
use Rattle.occ_forms_expressions.specs.declared.tree.Expr.TheVariants as xv
use Rattle.occ_forms_expressions.specs.declared.tree.NamedOperand.{NamedOperand}
use Rattle.occ_forms_expressions.specs.declared.tree.NamedOperand.TheVariants as nv
use Rattle.occ_forms_expressions.specs.declared.tree.Operand.{Operand}
use Rattle.occ_forms_expressions.specs.declared.tree.Operand.TheVariants as ov
use Rattle.occ_forms_expressions.specs.declared.tree.PairOperator.{PairOperator}
use Rattle.occ_forms_expressions.specs.declared.tree.RunOperator.{RunOperator}
use Rattle.occ_forms_expressions.specs.declared.tree.TypeForm.{TypeForm}
use Rattle.occ_forms_expressions.specs.declared.tree.TypeForm.TheVariants as tv
use Rattle.occ_scope.specs.Lookup.{data_type}
use Rattle.occ_scope.specs.Visible.{visible}
use Rattle.occ_scope.specs.declared.scope.Scope.{Scope}
use Rattle.occ_base.specs.declared.fault.Fault.{Fault}
use Rattle.occ_typing_operands.specs.declared.kind.Kind.{Kind}
use Rattle.occ_typing_tables.specs.Terms.{judged, judged_all}
use Rattle.occ_typing_tables.specs.declared.term.Term.{Term}
use Rattle.occ_types.specs.declared.constant.Operator.{Operator}
use Rattle.occ_types.specs.declared.types.OccType.{OccType}
use Rattle.occ_types.specs.declared.value.Primitive.{Primitive}
use Rattle.occ_expr_operations.specs.Operations.{converted, operation, pair, run_operator}
use Rattle.occ_expr_operations.specs.Parts.{in_scope, own_faults, segment_within, subscripts, table_as, terms}
use Rattle.occ_typing_rules.specs.declared.expr.Selector.{Selector}
use Rattle.occ_typing_rules.specs.declared.expr.TypedElement.{TypedElement}
use Rattle.occ_expr_operations.specs.Elements.{selectors, with_selectors}
use Rattle.occ_expr_operations.proofs.Fields.{none_in_front}
use Rattle.occ_expr_operations.specs.Views.{bounds_view, components_of, part_of, builtin_view, dimension_view, dimension_views, each, element_view, expr_view, expr_views, named_operand_view, operand_view, operand_views, operands, type_form_view}
use Rattle.occ_expr_operations.specs.Written.{array_after, channel, count_type, counted_type, data_form}
use Rattle.occ_expr_operations.specs.declared.written.Extent.{Extent}
use Rattle.occ_expr_operations.specs.declared.written.Opening.{Opening}
use Rattle.occ_expr_operations.specs.declared.written.Opening.TheVariants as opening
use Rattle.occ_expr_operations.proofs.Views as views

two : (old a b m e : List Fault) → m ≡ old ++ a → e ≡ m ++ b → e ≡ old ++ (a ++ b)
two old a b m e h k = k ∙ ap (λ z. z ++ b) h ∙ append_assoc old a b

three : (old a b c m n e : List Fault) → m ≡ old ++ a → n ≡ m ++ b → e ≡ n ++ c → e ≡ old ++ ((a ++ b) ++ c)
three old a b c m n e h k l = two old (a ++ b) c n e (two old a b m n h k) l

three_right : (old a b c m n e : List Fault) → m ≡ old ++ a → n ≡ m ++ b → e ≡ n ++ c → e ≡ old ++ (a ++ (b ++ c))
three_right old a b c m n e h k l = three old a b c m n e h k l ∙ ap (λ z. old ++ z) (append_assoc a b c)

pub pair_faults : {T E : Type 0} (r : Result T E) (x : Expr) (a : Operand) (op : PairOperator) (b : Operand) (s : Scope) (ta tb : Term) (old m n e : List Fault)
    → x ≡ xv.Pair a op b
    → m ≡ old ++ ((operand_view a).said s).faults
    → ta ≡ ((operand_view a).said s).term
    → n ≡ m ++ ((operand_view b).said s).faults
    → tb ≡ ((operand_view b).said s).term
    → OnOk r (e ≡ n ++ (pair op (judged ta) (judged tb)).faults)
    → OnOk r (e ≡ old ++ ((expr_view x).said s).faults)
pair_faults r x a op b s ta tb old m n e is h f i g reported =
    on_ok_weaker r (λ k.
    subst (λ (y : Expr). e ≡ old ++ ((expr_view y).said s).faults) (sym is)
    (three _ _ _ _ _ _ _ h i (k ∙ ap (λ (z : Term). n ++ (pair op (judged z) (judged tb)).faults) f ∙ ap (λ (z : Term). n ++ (pair op (judged ((operand_view a).said s).term) (judged z)).faults) g) ∙ ap (λ z. old ++ z.faults) (sym (views.expr_pair_said a op b s)))) reported

pub table_faults : (x : Operand) (a : Expr) (es : List Expr) (s : Scope) (old m e : List Fault)
    → x ≡ ov.Table a es
    → m ≡ old ++ ((expr_view a).said s).faults
    → e ≡ m ++ own_faults (in_scope s (expr_views es))
    → e ≡ old ++ ((operand_view x).said s).faults
table_faults x a es s old m e is h k =
    subst (λ (y : Operand). e ≡ old ++ ((operand_view y).said s).faults) (sym is)
    (two _ _ _ _ _ h k ∙ ap (λ z. old ++ z.faults) (sym (views.operand_table_said a es s)))

pub named_table_faults : (x : NamedOperand) (a b : Expr) (es : List Expr) (s : Scope) (old m n e : List Fault)
    → x ≡ nv.Table a b es
    → m ≡ old ++ ((expr_view a).said s).faults
    → n ≡ m ++ ((expr_view b).said s).faults
    → e ≡ n ++ own_faults (in_scope s (expr_views es))
    → e ≡ old ++ ((named_operand_view x).said s).faults
named_table_faults x a b es s old m n e is h i k =
    subst (λ (y : NamedOperand). e ≡ old ++ ((named_operand_view y).said s).faults) (sym is)
    (three_right _ _ _ _ _ _ _ h i k ∙ ap (λ z. old ++ z.faults) (sym (views.named_operand_table_said a b es s)))

pub decorated_table_faults : {T E : Type 0} (r : Result T E) (x : Operand) (a : Expr) (es : List Expr) (ty : TypeForm) (s : Scope) (to : Option OccType) (term : Term) (its : List Term) (old m n p e : List Fault)
    → x ≡ ov.DecoratedTable a es ty
    → m ≡ old ++ ((expr_view a).said s).faults
    → term ≡ ((expr_view a).said s).term
    → n ≡ m ++ own_faults (in_scope s (expr_views es))
    → its ≡ (term ∷ []) ++ terms (in_scope s (expr_views es))
    → p ≡ n ++ (type_form_view ty opening.Refused s).faults
    → to ≡ (type_form_view ty opening.Refused s).found
    → OnOk r (e ≡ p ++ (table_as to its).faults)
    → OnOk r (e ≡ old ++ ((operand_view x).said s).faults)
decorated_table_faults r x a es ty s to term its old m n p e is h t i g j f reported =
    on_ok_weaker r (λ k.
    subst (λ (y : Operand). e ≡ old ++ ((operand_view y).said s).faults) (sym is)
    (three _ _ _ _ _ _ _ (two _ _ _ _ _ h i) j (k ∙ ap (λ (z : Option OccType). p ++ (table_as z its).faults) f ∙ ap (λ (z : List Term). p ++ (table_as (type_form_view ty opening.Refused s).found z).faults) (g ∙ ap (λ (z : Term). z ∷ terms (in_scope s (expr_views es))) t)) ∙ ap (λ z. old ++ z.faults) (sym (views.operand_decorated_table_said a es ty s)))) reported

pub named_decorated_table_faults : {T E : Type 0} (r : Result T E) (x : NamedOperand) (a : Expr) (es : List Expr) (ty : TypeForm) (s : Scope) (to : Option OccType) (term : Term) (its : List Term) (old m n p e : List Fault)
    → x ≡ nv.DecoratedTable a es ty
    → m ≡ old ++ ((expr_view a).said s).faults
    → term ≡ ((expr_view a).said s).term
    → n ≡ m ++ own_faults (in_scope s (expr_views es))
    → its ≡ (term ∷ []) ++ terms (in_scope s (expr_views es))
    → p ≡ n ++ (type_form_view ty opening.Refused s).faults
    → to ≡ (type_form_view ty opening.Refused s).found
    → OnOk r (e ≡ p ++ (table_as to its).faults)
    → OnOk r (e ≡ old ++ ((named_operand_view x).said s).faults)
named_decorated_table_faults r x a es ty s to term its old m n p e is h t i g j f reported =
    on_ok_weaker r (λ k.
    subst (λ (y : NamedOperand). e ≡ old ++ ((named_operand_view y).said s).faults) (sym is)
    (three _ _ _ _ _ _ _ (two _ _ _ _ _ h i) j (k ∙ ap (λ (z : Option OccType). p ++ (table_as z its).faults) f ∙ ap (λ (z : List Term). p ++ (table_as (type_form_view ty opening.Refused s).found z).faults) (g ∙ ap (λ (z : Term). z ∷ terms (in_scope s (expr_views es))) t)) ∙ ap (λ z. old ++ z.faults) (sym (views.named_operand_decorated_table_said a es ty s)))) reported

pub conversion_faults : {T E : Type 0} (r : Result T E) (x : Expr) (ds : List Dimension) (w : Builtin) (o : Operand) (s : Scope) (of to : Option OccType) (front : List Extent) (term : Term) (old m n p e : List Fault)
    → x ≡ xv.Converted ds w o
    → m ≡ old ++ (builtin_view w s).faults
    → of ≡ (builtin_view w s).found
    → front ≡ []
    → n ≡ m ++ (array_after front (each opening.Refused s (dimension_views ds)) of).faults
    → to ≡ (array_after front (each opening.Refused s (dimension_views ds)) of).found
    → p ≡ n ++ ((operand_view o).said s).faults
    → term ≡ ((operand_view o).said s).term
    → OnOk r (e ≡ p ++ (converted to (judged term)).faults)
    → OnOk r (e ≡ old ++ ((expr_view x).said s).faults)
conversion_faults r x ds w o s of to front term old m n p e is h f c i g j t reported =
    on_ok_weaker r (λ k.
    subst (λ (y : Expr). e ≡ old ++ ((expr_view y).said s).faults) (sym is)
    (three _ _ _ _ _ _ _ (two _ _ _ _ _ h (i ∙ ap (λ (z : List Extent). m ++ (array_after z (each opening.Refused s (dimension_views ds)) of).faults) c ∙ ap (λ (z : Option OccType). m ++ (array_after [] (each opening.Refused s (dimension_views ds)) z).faults) f)) j (k ∙ ap (λ (z : Option OccType). p ++ (converted z (judged term)).faults) (g ∙ ap (λ (z : List Extent). (array_after z (each opening.Refused s (dimension_views ds)) of).found) c ∙ ap (λ (z : Option OccType). (array_after [] (each opening.Refused s (dimension_views ds)) z).found) f) ∙ ap (λ (z : Term). p ++ (converted (array_after [] (each opening.Refused s (dimension_views ds)) (builtin_view w s).found).found (judged z)).faults) t) ∙ ap (λ z. old ++ z.faults) (sym (views.expr_converted_said ds w o s)))) reported

pub array_conversion_faults : {T E : Type 0} (r : Result T E) (x : Expr) (d : Dimension) (ds : List Dimension) (name : List ℕ) (o : Operand) (s : Scope) (of to : Option OccType) (ext : Extent) (front : List Extent) (term : Term) (old m l n p e : List Fault)
    → x ≡ xv.ArrayConverted d ds name o
    → m ≡ old ++ (data_type name (visible s name)).faults
    → of ≡ (data_type name (visible s name)).found
    → l ≡ m ++ (dimension_view d opening.Refused s).faults
    → ext ≡ (dimension_view d opening.Refused s).extent
    → front ≡ ext ∷ []
    → n ≡ l ++ (array_after front (each opening.Refused s (dimension_views ds)) of).faults
    → to ≡ (array_after front (each opening.Refused s (dimension_views ds)) of).found
    → p ≡ n ++ ((operand_view o).said s).faults
    → term ≡ ((operand_view o).said s).term
    → OnOk r (e ≡ p ++ (converted to (judged term)).faults)
    → OnOk r (e ≡ old ++ ((expr_view x).said s).faults)
array_conversion_faults r x d ds name o s of to ext front term old m l n p e is h f b x1 c i g j t reported =
    on_ok_weaker r (λ k.
    subst (λ (y : Expr). e ≡ old ++ ((expr_view y).said s).faults) (sym is)
    (three _ _ _ _ _ _ _ (three_right _ _ _ _ _ _ _ h b (i ∙ ap (λ (z : List Extent). l ++ (array_after z (each opening.Refused s (dimension_views ds)) of).faults) (c ∙ ap (λ (z : Extent). z ∷ []) x1) ∙ ap (λ (z : Option OccType). l ++ (array_after ((dimension_view d opening.Refused s).extent ∷ []) (each opening.Refused s (dimension_views ds)) z).faults) f)) j (k ∙ ap (λ (z : Option OccType). p ++ (converted z (judged term)).faults) (g ∙ ap (λ (z : List Extent). (array_after z (each opening.Refused s (dimension_views ds)) of).found) (c ∙ ap (λ (z : Extent). z ∷ []) x1) ∙ ap (λ (z : Option OccType). (array_after ((dimension_view d opening.Refused s).extent ∷ []) (each opening.Refused s (dimension_views ds)) z).found) f) ∙ ap (λ (z : Term). p ++ (converted (array_after ((dimension_view d opening.Refused s).extent ∷ []) (each opening.Refused s (dimension_views ds)) (data_type name (visible s name)).found).found (judged z)).faults) t) ∙ ap (λ z. old ++ z.faults) (sym (views.expr_array_converted_said d ds name o s)))) reported

pub run_faults : {T E : Type 0} (r : Result T E) (x : Expr) (op : RunOperator) (operator : Operator) (a b : Operand) (os : List Operand) (s : Scope) (ta tb : Term) (its all : List Term) (old m n p e : List Fault)
    → x ≡ xv.Run op a b os
    → m ≡ old ++ ((operand_view a).said s).faults
    → ta ≡ ((operand_view a).said s).term
    → n ≡ m ++ ((operand_view b).said s).faults
    → tb ≡ ((operand_view b).said s).term
    → p ≡ n ++ own_faults (operands s (operand_views os))
    → its ≡ ((ta ∷ []) ++ (tb ∷ [])) ++ terms (operands s (operand_views os))
    → all ≡ its
    → operator ≡ run_operator op
    → OnOk r (e ≡ p ++ (operation operator (judged_all all)).faults)
    → OnOk r (e ≡ old ++ ((expr_view x).said s).faults)
run_faults r x op operator a b os s ta tb its all old m n p e is h t i u j g v w reported =
    on_ok_weaker r (λ k.
    subst (λ (y : Expr). e ≡ old ++ ((expr_view y).said s).faults) (sym is)
    (two _ _ _ _ _ (three_right _ _ _ _ _ _ _ h i j) (k ∙ ap (λ (z : Operator). p ++ (operation z (judged_all all)).faults) w ∙ ap (λ (z : List Term). p ++ (operation (run_operator op) (judged_all z)).faults) (v ∙ g ∙ ap (λ (z : Term). z ∷ tb ∷ terms (operands s (operand_views os))) t ∙ ap (λ (z : Term). ((operand_view a).said s).term ∷ z ∷ terms (operands s (operand_views os))) u)) ∙ ap (λ z. old ++ z.faults) (sym (views.expr_run_said op a b os s)))) reported

pub segment_faults : (x el : Element) (part : Bounds) (es : List Expr) (s : Scope) (k1 k2 : Kind) (old m n e : List Fault)
    → x ≡ ev.Segment el part es
    → m ≡ old ++ ((element_view el).reported s).faults
    → k1 ≡ ((element_view el).reported s).kind
    → n ≡ m ++ (segment_within ((bounds_view part).said s) k1).faults
    → k2 ≡ (segment_within ((bounds_view part).said s) k1).kind
    → e ≡ n ++ (subscripts s (expr_views es) k2).faults
    → e ≡ old ++ ((element_view x).reported s).faults
segment_faults x el part es s k1 k2 old m n e is h f i u k =
    let b = (bounds_view part).said s in
    let whole = (element_view el).reported s in
    let w = segment_within b whole.kind in
    subst (λ (y : Element). e ≡ old ++ ((element_view y).reported s).faults) (sym is)
    (three old whole.faults w.faults (subscripts s (expr_views es) w.kind).faults m n e h (i ∙ ap (λ (z : Kind). m ++ (segment_within b z).faults) f) (k ∙ ap (λ (z : Kind). n ++ (subscripts s (expr_views es) z).faults) (u ∙ ap (λ (z : Kind). (segment_within b z).kind) f)) ∙ ap (λ z. old ++ z.faults) (sym (views.element_segment_reported el part es s)))

pub segment_kind : (x el : Element) (part : Bounds) (es : List Expr) (s : Scope) (k1 k2 v : Kind)
    → x ≡ ev.Segment el part es
    → k1 ≡ ((element_view el).reported s).kind
    → k2 ≡ (segment_within ((bounds_view part).said s) k1).kind
    → v ≡ (subscripts s (expr_views es) k2).kind
    → v ≡ ((element_view x).reported s).kind
segment_kind x el part es s k1 k2 v is f u k =
    subst (λ (y : Element). v ≡ ((element_view y).reported s).kind) (sym is)
    (k ∙ ap (λ (z : Kind). (subscripts s (expr_views es) z).kind) (u ∙ ap (λ (z : Kind). (segment_within ((bounds_view part).said s) z).kind) f) ∙ ap (λ z. z.kind) (sym (views.element_segment_reported el part es s)))

pub named_type_faults : {T E : Type 0} (r : Result T E) (x : TypeForm) (ds : List Dimension) (name : List ℕ) (o : Opening) (s : Scope) (of : Option OccType) (front : List Extent) (old m e : List Fault)
    → x ≡ tv.Named ds name
    → m ≡ old ++ (data_type name (visible s name)).faults
    → of ≡ (data_type name (visible s name)).found
    → front ≡ []
    → OnOk r (e ≡ m ++ (array_after front (each o s (dimension_views ds)) of).faults)
    → OnOk r (e ≡ old ++ (type_form_view x o s).faults)
named_type_faults r x ds name o s of front old m e is h f c reported =
    on_ok_weaker r (λ k.
    subst (λ (y : TypeForm). e ≡ old ++ (type_form_view y o s).faults) (sym is)
    (two old (data_type name (visible s name)).faults (array_after [] (each o s (dimension_views ds)) (data_type name (visible s name)).found).faults m e h (k ∙ ap (λ (z : List Extent). m ++ (array_after z (each o s (dimension_views ds)) of).faults) c ∙ ap (λ (z : Option OccType). m ++ (array_after [] (each o s (dimension_views ds)) z).faults) f) ∙ ap (λ z. old ++ z.faults) (sym (views.type_form_named_view ds name o s)))) reported

pub built_in_type_faults : {T E : Type 0} (r : Result T E) (x : TypeForm) (ds : List Dimension) (w : Builtin) (o : Opening) (s : Scope) (of : Option OccType) (front : List Extent) (old m e : List Fault)
    → x ≡ tv.Builtin ds w
    → m ≡ old ++ (builtin_view w s).faults
    → of ≡ (builtin_view w s).found
    → front ≡ []
    → OnOk r (e ≡ m ++ (array_after front (each o s (dimension_views ds)) of).faults)
    → OnOk r (e ≡ old ++ (type_form_view x o s).faults)
built_in_type_faults r x ds w o s of front old m e is h f c reported =
    on_ok_weaker r (λ k.
    subst (λ (y : TypeForm). e ≡ old ++ (type_form_view y o s).faults) (sym is)
    (two old (builtin_view w s).faults (array_after [] (each o s (dimension_views ds)) (builtin_view w s).found).faults m e h (k ∙ ap (λ (z : List Extent). m ++ (array_after z (each o s (dimension_views ds)) of).faults) c ∙ ap (λ (z : Option OccType). m ++ (array_after [] (each o s (dimension_views ds)) z).faults) f) ∙ ap (λ z. old ++ z.faults) (sym (views.type_form_builtin_view ds w o s)))) reported

pub named_type_found : {E : Type 0} (r : Result (Option OccType) E) (x : TypeForm) (ds : List Dimension) (name : List ℕ) (o : Opening) (s : Scope) (of : Option OccType) (front : List Extent)
    → x ≡ tv.Named ds name
    → of ≡ (data_type name (visible s name)).found
    → front ≡ []
    → IfOk r (λ found. found ≡ (array_after front (each o s (dimension_views ds)) of).found)
    → IfOk r (λ found. found ≡ (type_form_view x o s).found)
named_type_found r x ds name o s of front is f c reported =
    IfOk-weaker r (λ found. found ≡ (array_after front (each o s (dimension_views ds)) of).found) (λ found. found ≡ (type_form_view x o s).found) (λ found k.
    subst (λ (y : TypeForm). found ≡ (type_form_view y o s).found) (sym is)
    (k ∙ ap (λ (z : List Extent). (array_after z (each o s (dimension_views ds)) of).found) c ∙ ap (λ (z : Option OccType). (array_after [] (each o s (dimension_views ds)) z).found) f ∙ ap (λ z. z.found) (sym (views.type_form_named_view ds name o s)))) reported

pub channel_found : {E : Type 0} (r : Result (Option OccType) E) (x : Builtin) (words : ChannelWords) (ds : List Dimension) (base : DataBase) (s : Scope)
    → x ≡ uv.Channel words ds base
    → IfOk r (λ found. found ≡ (channel s (each opening.Refused s (dimension_views ds)) base).found)
    → IfOk r (λ found. found ≡ (builtin_view x s).found)
channel_found r x words ds base s is reported =
    IfOk-weaker r (λ found. found ≡ (channel s (each opening.Refused s (dimension_views ds)) base).found) (λ found. found ≡ (builtin_view x s).found) (λ found k.
    subst (λ (y : Builtin). found ≡ (builtin_view y s).found) (sym is)
    (k ∙ ap (λ z. z.found) (sym (views.builtin_channel_view words ds base s)))) reported

pub counted_faults : (x : Builtin) (words : ChannelWords) (ds : List Dimension) (base : DataBase) (es : List Dimension) (other : DataBase) (s : Scope) (of : Option OccType) (old m n e : List Fault)
    → x ≡ uv.Counted words ds base es other
    → m ≡ old ++ (data_form s (each opening.Refused s (dimension_views ds)) base).faults
    → of ≡ (data_form s (each opening.Refused s (dimension_views ds)) base).found
    → n ≡ m ++ (count_type of).faults
    → e ≡ n ++ (data_form s (each opening.Refused s (dimension_views es)) other).faults
    → e ≡ old ++ (builtin_view x s).faults
counted_faults x words ds base es other s of old m n e is h f i k =
    subst (λ (y : Builtin). e ≡ old ++ (builtin_view y s).faults) (sym is)
    (three_right _ _ _ _ _ _ _ h (i ∙ ap (λ (z : Option OccType). m ++ (count_type z).faults) f) k ∙ ap (λ z. old ++ z.faults) (sym (views.builtin_counted_view words ds base es other s)))

pub counted_found : {E : Type 0} (r : Result (Option OccType) E) (x : Builtin) (words : ChannelWords) (ds : List Dimension) (base : DataBase) (es : List Dimension) (other : DataBase) (s : Scope) (of to : Option OccType) (count : Option Primitive)
    → x ≡ uv.Counted words ds base es other
    → of ≡ (data_form s (each opening.Refused s (dimension_views ds)) base).found
    → count ≡ (count_type of).found
    → to ≡ (data_form s (each opening.Refused s (dimension_views es)) other).found
    → IfOk r (λ found. found ≡ counted_type count to)
    → IfOk r (λ found. found ≡ (builtin_view x s).found)
counted_found r x words ds base es other s of to count is f g i reported =
    IfOk-weaker r (λ found. found ≡ counted_type count to) (λ found. found ≡ (builtin_view x s).found) (λ found k.
    subst (λ (y : Builtin). found ≡ (builtin_view y s).found) (sym is)
    (k ∙ ap (λ (z : Option Primitive). counted_type z to) (g ∙ ap (λ (z : Option OccType). (count_type z).found) f) ∙ ap (λ (z : Option OccType). counted_type (count_type (data_form s (each opening.Refused s (dimension_views ds)) base).found).found z) i ∙ ap (λ z. z.found) (sym (views.builtin_counted_view words ds base es other s)))) reported

pub segment_tree_made : (x el : Element) (part : Bounds) (es : List Expr) (s : Scope) (k1 k2 kind : Kind) (inner : Option TypedElement) (sel : Option Selector) (start following : Option (List Selector)) (v : Option TypedElement)
    → x ≡ ev.Segment el part es
    → k1 ≡ ((element_view el).reported s).kind
    → inner ≡ (element_view el).tree s
    → sel ≡ (bounds_view part).tree s (components_of k1)
    → k2 ≡ (segment_within ((bounds_view part).said s) k1).kind
    → start ≡ Some []
    → kind ≡ (subscripts s (expr_views es) k2).kind
    → following ≡ with_selectors start (selectors s (expr_views es) k2)
    → v ≡ part_of kind inner sel following
    → v ≡ (element_view x).tree s
segment_tree_made x el part es s k1 k2 kind inner sel start following v is h1 hi hs h2 hz hk he hv =
    let whole = (element_view el).reported s in
    let b = (bounds_view part).said s in
    let segment = (segment_within b whole.kind).kind in
    let k2_is : k2 ≡ segment = h2 ∙ ap (λ (z : Kind). (segment_within b z).kind) h1 in
    let kind_is : kind ≡ (subscripts s (expr_views es) segment).kind = hk ∙ ap (λ (z : Kind). (subscripts s (expr_views es) z).kind) k2_is in
    let sel_is : sel ≡ (bounds_view part).tree s (components_of whole.kind) = hs ∙ ap (λ (z : Kind). (bounds_view part).tree s (components_of z)) h1 in
    let after_is : following ≡ selectors s (expr_views es) segment
    = he
    ∙ ap (λ (z : Option (List Selector)). with_selectors z (selectors s (expr_views es) k2)) hz
    ∙ none_in_front (selectors s (expr_views es) k2)
    ∙ ap (λ (z : Kind). selectors s (expr_views es) z) k2_is in
    hv
    ∙ ap (λ (z : Kind). part_of z inner sel following) kind_is
    ∙ ap (λ (z : Option TypedElement). part_of (subscripts s (expr_views es) segment).kind z sel following) hi
    ∙ ap (λ (z : Option Selector). part_of (subscripts s (expr_views es) segment).kind ((element_view el).tree s) z following) sel_is
    ∙ ap (λ (z : Option (List Selector)). part_of (subscripts s (expr_views es) segment).kind ((element_view el).tree s) ((bounds_view part).tree s (components_of whole.kind)) z) after_is
    ∙ sym (views.element_segment_tree el part es s)
    ∙ ap (λ (y : Element). (element_view y).tree s) (sym is)

-- what holds whatever is returned
pub whatever : {T E : Type 0} (r : Result T E) {P : Type 0} → P → OnOk r P
whatever (Ok x) p = p
whatever (Err y) p = tt
