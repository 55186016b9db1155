-- The variants of each tree: what it spells, and that there are no others.
use Rattle.std.proofs.Common.{◌≡◌, ◌∙◌, refl, sym, ap, subst, ℕ, Bool, List, [], ◌∷◌, map}
use Rattle.occ_lines.specs.declared.token.Token.{Token}
use Rattle.occ_lines.specs.declared.token.Token.TheVariants as t
use Rattle.occ_lines.specs.declared.token.Symbol.TheVariants as s
use Rattle.occ_lines.specs.declared.token.Word.TheVariants as w
use Rattle.occ_forms_expressions.specs.declared.tree.PrimitiveWord.{PrimitiveWord}
use Rattle.occ_forms_expressions.specs.declared.tree.ChannelWords.{ChannelWords}
use Rattle.occ_forms_expressions.specs.declared.tree.MonadicOperator.{MonadicOperator}
use Rattle.occ_forms_expressions.specs.declared.tree.RunOperator.{RunOperator}
use Rattle.occ_forms_expressions.specs.declared.tree.PairOperator.{PairOperator}
use Rattle.occ_forms_expressions.specs.declared.tree.Extreme.{Extreme}
use Rattle.occ_forms_expressions.specs.declared.tree.Literal.{Literal}
use Rattle.occ_forms_expressions.specs.declared.tree.DataBase.{DataBase}
use Rattle.occ_forms_expressions.specs.declared.tree.Bounds.{Bounds, out-Bounds, roll-Bounds}
use Rattle.occ_forms_expressions.specs.declared.tree.Bounds.TheVariants as bv
use Rattle.occ_forms_expressions.specs.declared.tree.Builtin.{Builtin, out-Builtin, roll-Builtin}
use Rattle.occ_forms_expressions.specs.declared.tree.Builtin.TheVariants as uv
use Rattle.occ_forms_expressions.specs.declared.tree.Dimension.{Dimension, out-Dimension, roll-Dimension}
use Rattle.occ_forms_expressions.specs.declared.tree.Dimension.TheVariants as dv
use Rattle.occ_forms_expressions.specs.declared.tree.Element.{Element, out-Element, roll-Element}
use Rattle.occ_forms_expressions.specs.declared.tree.Element.TheVariants as ev
use Rattle.occ_forms_expressions.specs.declared.tree.Expr.{Expr, out-Expr, roll-Expr}
use Rattle.occ_forms_expressions.specs.declared.tree.Expr.TheVariants as xv
use Rattle.occ_forms_expressions.specs.declared.tree.NamedOperand.{NamedOperand, out-NamedOperand, roll-NamedOperand}
use Rattle.occ_forms_expressions.specs.declared.tree.NamedOperand.TheVariants as nv
use Rattle.occ_forms_expressions.specs.declared.tree.Operand.{Operand, out-Operand, roll-Operand}
use Rattle.occ_forms_expressions.specs.declared.tree.Operand.TheVariants as ov
use Rattle.occ_forms_expressions.specs.declared.tree.TypeForm.{TypeForm, out-TypeForm, roll-TypeForm}
use Rattle.occ_forms_expressions.specs.declared.tree.TypeForm.TheVariants as tv
use Rattle.occ_forms_expressions.specs.declared.tree.Bounds.TheOpen.{Bounds-F, Builtin-F, Dimension-F, Element-F, Expr-F, NamedOperand-F, Operand-F, TypeForm-F}
use Rattle.occ_forms_expressions.specs.declared.tree.Bounds.TheFolds.{fold-roll-Bounds, fold-roll-Builtin, fold-roll-Dimension, fold-roll-Element, fold-roll-Expr, fold-roll-NamedOperand, fold-roll-Operand, fold-roll-TypeForm}
use Rattle.occ_forms_expressions.specs.declared.tree.Bounds.TheViews.{roll-out-Bounds, roll-out-Builtin, roll-out-Dimension, roll-out-Element, roll-out-Expr, roll-out-NamedOperand, roll-out-Operand, roll-out-TypeForm}
use Rattle.occ_forms_expressions.specs.Spelling.{Spelling, many, itself, primitive_word, channel_words, monadic_token, pair_token, extreme_word, literal_token, truth_word, data_base_token, counted_array, subscript, next_item, bracketed, arguments, operated, bounds_step, builtin_step, dimension_step, element_step, expr_step, named_operand_step, operand_step, type_form_step, bounds_then, builtin_then, dimension_then, element_then, expr_then, named_operand_then, operand_then, type_form_then, subscript_of, next_item_of, operated_of, table_of, arguments_of, decoration_of}

at : (k : List Token) (x y : Spelling) → x ≡ y → x k ≡ y k
at k x y e = ap (λ (f : Spelling). f k) e

pub many-map : {X : Type 0} (f : X → Spelling) (g : Spelling → Spelling) (xs : List X) (k : List Token) → many g (map f xs) k ≡ many (λ x. g (f x)) xs k
many-map f g [] k = refl
many-map f g (x ∷ xs) k = ap (g (f x)) (many-map f g xs k)

pub arguments_map : (es : List Expr) (k : List Token) → arguments (map expr_then es) k ≡ arguments_of es k
arguments_map [] k = refl
arguments_map (e ∷ es) k = ap (λ (z : List Token). t.Symbol s.Open ∷ expr_then e z) (many-map expr_then next_item es (t.Symbol s.Close ∷ k))

pub bounds_from_spells : (e : Expr) (k : List Token) → bounds_then (bv.From e) k ≡ t.Word w.From ∷ expr_then e k
bounds_from_spells e k = at k _ _ (ap bounds_then (sym (bv.rolls-From e)) ∙ fold-roll-Bounds Spelling Spelling Spelling Spelling Spelling Spelling Spelling Spelling bounds_step builtin_step dimension_step element_step expr_step named_operand_step operand_step type_form_step (Bounds-F.From e))

pub bounds_for_spells : (e : Expr) (k : List Token) → bounds_then (bv.For e) k ≡ t.Word w.For ∷ expr_then e k
bounds_for_spells e k = at k _ _ (ap bounds_then (sym (bv.rolls-For e)) ∙ fold-roll-Bounds Spelling Spelling Spelling Spelling Spelling Spelling Spelling Spelling bounds_step builtin_step dimension_step element_step expr_step named_operand_step operand_step type_form_step (Bounds-F.For e))

pub bounds_from_for_spells : (e : Expr) (f : Expr) (k : List Token) → bounds_then (bv.FromFor e f) k ≡ t.Word w.From ∷ expr_then e (t.Word w.For ∷ expr_then f k)
bounds_from_for_spells e f k = at k _ _ (ap bounds_then (sym (bv.rolls-FromFor e f)) ∙ fold-roll-Bounds Spelling Spelling Spelling Spelling Spelling Spelling Spelling Spelling bounds_step builtin_step dimension_step element_step expr_step named_operand_step operand_step type_form_step (Bounds-F.FromFor e f))

-- the variants of Bounds
pub data BoundsIs (x : Bounds) : Type 0 where
  bounds_is_from : (e' : Expr) → x ≡ bv.From e' → BoundsIs x
  bounds_is_for : (e' : Expr) → x ≡ bv.For e' → BoundsIs x
  bounds_is_from_for : (e' : Expr) (f' : Expr) → x ≡ bv.FromFor e' f' → BoundsIs x

bounds_layer : (x : Bounds-F Bounds Builtin Dimension Element Expr NamedOperand Operand TypeForm) → BoundsIs (roll-Bounds x)
bounds_layer (Bounds-F.From e) = bounds_is_from e (bv.rolls-From e)
bounds_layer (Bounds-F.For e) = bounds_is_for e (bv.rolls-For e)
bounds_layer (Bounds-F.FromFor e f) = bounds_is_from_for e f (bv.rolls-FromFor e f)

pub bounds_is : (x : Bounds) → BoundsIs x
bounds_is x = subst BoundsIs (roll-out-Bounds x) (bounds_layer (out-Bounds x))

pub builtin_primitive_spells : (p : PrimitiveWord) (k : List Token) → builtin_then (uv.Primitive p) k ≡ t.Word (primitive_word p) ∷ k
builtin_primitive_spells p k = at k _ _ (ap builtin_then (sym (uv.rolls-Primitive p)) ∙ fold-roll-Builtin Spelling Spelling Spelling Spelling Spelling Spelling Spelling Spelling bounds_step builtin_step dimension_step element_step expr_step named_operand_step operand_step type_form_step (Builtin-F.Primitive p))

pub builtin_timer_spells : (k : List Token) → builtin_then uv.Timer k ≡ t.Word w.Timer ∷ k
builtin_timer_spells k = at k _ _ (ap builtin_then (sym uv.rolls-Timer) ∙ fold-roll-Builtin Spelling Spelling Spelling Spelling Spelling Spelling Spelling Spelling bounds_step builtin_step dimension_step element_step expr_step named_operand_step operand_step type_form_step Builtin-F.Timer)

pub builtin_any_channel_spells : (c : ChannelWords) (k : List Token) → builtin_then (uv.AnyChannel c) k ≡ channel_words c (t.Word w.Any ∷ k)
builtin_any_channel_spells c k = at k _ _ (ap builtin_then (sym (uv.rolls-AnyChannel c)) ∙ fold-roll-Builtin Spelling Spelling Spelling Spelling Spelling Spelling Spelling Spelling bounds_step builtin_step dimension_step element_step expr_step named_operand_step operand_step type_form_step (Builtin-F.AnyChannel c))

pub builtin_channel_spells : (c : ChannelWords) (ds : List Dimension) (b : DataBase) (k : List Token) → builtin_then (uv.Channel c ds b) k ≡ channel_words c (many dimension_then ds (data_base_token b ∷ k))
builtin_channel_spells c ds b k = at k _ _ (ap builtin_then (sym (uv.rolls-Channel c ds b)) ∙ fold-roll-Builtin Spelling Spelling Spelling Spelling Spelling Spelling Spelling Spelling bounds_step builtin_step dimension_step element_step expr_step named_operand_step operand_step type_form_step (Builtin-F.Channel c ds b)) ∙ ap (λ (z : List Token). channel_words c z) (many-map dimension_then itself ds (data_base_token b ∷ k))

pub builtin_counted_spells : (c : ChannelWords) (ds : List Dimension) (b : DataBase) (es : List Dimension) (d : DataBase) (k : List Token)
    → builtin_then (uv.Counted c ds b es d) k ≡ channel_words c (many dimension_then ds (data_base_token b ∷ counted_array (many dimension_then es (data_base_token d ∷ k))))
builtin_counted_spells c ds b es d k = at k _ _ (ap builtin_then (sym (uv.rolls-Counted c ds b es d)) ∙ fold-roll-Builtin Spelling Spelling Spelling Spelling Spelling Spelling Spelling Spelling bounds_step builtin_step dimension_step element_step expr_step named_operand_step operand_step type_form_step (Builtin-F.Counted c ds b es d))
    ∙ ap (λ (z : List Token). channel_words c z) (many-map dimension_then itself ds _ ∙ ap (λ (z : List Token). many dimension_then ds (data_base_token b ∷ counted_array z)) (many-map dimension_then itself es (data_base_token d ∷ k)))

-- the variants of Builtin
pub data BuiltinIs (x : Builtin) : Type 0 where
  builtin_is_primitive : (p' : PrimitiveWord) → x ≡ uv.Primitive p' → BuiltinIs x
  builtin_is_timer : x ≡ uv.Timer → BuiltinIs x
  builtin_is_any_channel : (c' : ChannelWords) → x ≡ uv.AnyChannel c' → BuiltinIs x
  builtin_is_channel : (c' : ChannelWords) (ds' : List Dimension) (b' : DataBase) → x ≡ uv.Channel c' ds' b' → BuiltinIs x
  builtin_is_counted : (c' : ChannelWords) (ds' : List Dimension) (b' : DataBase) (es' : List Dimension) (d' : DataBase) → x ≡ uv.Counted c' ds' b' es' d' → BuiltinIs x

builtin_layer : (x : Builtin-F Bounds Builtin Dimension Element Expr NamedOperand Operand TypeForm) → BuiltinIs (roll-Builtin x)
builtin_layer (Builtin-F.Primitive p) = builtin_is_primitive p (uv.rolls-Primitive p)
builtin_layer Builtin-F.Timer = builtin_is_timer uv.rolls-Timer
builtin_layer (Builtin-F.AnyChannel c) = builtin_is_any_channel c (uv.rolls-AnyChannel c)
builtin_layer (Builtin-F.Channel c ds b) = builtin_is_channel c ds b (uv.rolls-Channel c ds b)
builtin_layer (Builtin-F.Counted c ds b es d) = builtin_is_counted c ds b es d (uv.rolls-Counted c ds b es d)

pub builtin_is : (x : Builtin) → BuiltinIs x
builtin_is x = subst BuiltinIs (roll-out-Builtin x) (builtin_layer (out-Builtin x))

pub dimension_open_spells : (k : List Token) → dimension_then dv.Open k ≡ t.Symbol s.OpenIndex ∷ t.Symbol s.CloseIndex ∷ k
dimension_open_spells k = at k _ _ (ap dimension_then (sym dv.rolls-Open) ∙ fold-roll-Dimension Spelling Spelling Spelling Spelling Spelling Spelling Spelling Spelling bounds_step builtin_step dimension_step element_step expr_step named_operand_step operand_step type_form_step Dimension-F.Open)

pub dimension_sized_spells : (e : Expr) (k : List Token) → dimension_then (dv.Sized e) k ≡ subscript_of e k
dimension_sized_spells e k = at k _ _ (ap dimension_then (sym (dv.rolls-Sized e)) ∙ fold-roll-Dimension Spelling Spelling Spelling Spelling Spelling Spelling Spelling Spelling bounds_step builtin_step dimension_step element_step expr_step named_operand_step operand_step type_form_step (Dimension-F.Sized e))

-- the variants of Dimension
pub data DimensionIs (x : Dimension) : Type 0 where
  dimension_is_open : x ≡ dv.Open → DimensionIs x
  dimension_is_sized : (e' : Expr) → x ≡ dv.Sized e' → DimensionIs x

dimension_layer : (x : Dimension-F Bounds Builtin Dimension Element Expr NamedOperand Operand TypeForm) → DimensionIs (roll-Dimension x)
dimension_layer Dimension-F.Open = dimension_is_open dv.rolls-Open
dimension_layer (Dimension-F.Sized e) = dimension_is_sized e (dv.rolls-Sized e)

pub dimension_is : (x : Dimension) → DimensionIs x
dimension_is x = subst DimensionIs (roll-out-Dimension x) (dimension_layer (out-Dimension x))

pub element_named_spells : (n : List ℕ) (es : List Expr) (k : List Token) → element_then (ev.Named n es) k ≡ t.Name n ∷ many subscript_of es k
element_named_spells n es k = at k _ _ (ap element_then (sym (ev.rolls-Named n es)) ∙ fold-roll-Element Spelling Spelling Spelling Spelling Spelling Spelling Spelling Spelling bounds_step builtin_step dimension_step element_step expr_step named_operand_step operand_step type_form_step (Element-F.Element::Named n es)) ∙ ap (λ (z : List Token). t.Name n ∷ z) (many-map expr_then subscript es k)

pub element_segment_spells : (el : Element) (b : Bounds) (es : List Expr) (k : List Token) → element_then (ev.Segment el b es) k ≡ t.Symbol s.OpenIndex ∷ element_then el (bounds_then b (t.Symbol s.CloseIndex ∷ many subscript_of es k))
element_segment_spells el b es k = at k _ _ (ap element_then (sym (ev.rolls-Segment el b es)) ∙ fold-roll-Element Spelling Spelling Spelling Spelling Spelling Spelling Spelling Spelling bounds_step builtin_step dimension_step element_step expr_step named_operand_step operand_step type_form_step (Element-F.Segment el b es)) ∙ ap (λ (z : List Token). t.Symbol s.OpenIndex ∷ element_then el (bounds_then b (t.Symbol s.CloseIndex ∷ z))) (many-map expr_then subscript es k)

-- the variants of Element
pub data ElementIs (x : Element) : Type 0 where
  element_is_named : (n' : List ℕ) (es' : List Expr) → x ≡ ev.Named n' es' → ElementIs x
  element_is_segment : (el' : Element) (b' : Bounds) (es' : List Expr) → x ≡ ev.Segment el' b' es' → ElementIs x

element_layer : (x : Element-F Bounds Builtin Dimension Element Expr NamedOperand Operand TypeForm) → ElementIs (roll-Element x)
element_layer (Element-F.Element::Named n es) = element_is_named n es (ev.rolls-Named n es)
element_layer (Element-F.Segment el b es) = element_is_segment el b es (ev.rolls-Segment el b es)

pub element_is : (x : Element) → ElementIs x
element_is x = subst ElementIs (roll-out-Element x) (element_layer (out-Element x))

pub expr_alone_spells : (o : Operand) (k : List Token) → expr_then (xv.Alone o) k ≡ operand_then o k
expr_alone_spells o k = at k _ _ (ap expr_then (sym (xv.rolls-Alone o)) ∙ fold-roll-Expr Spelling Spelling Spelling Spelling Spelling Spelling Spelling Spelling bounds_step builtin_step dimension_step element_step expr_step named_operand_step operand_step type_form_step (Expr-F.Alone o))

pub expr_run_spells : (op : RunOperator) (a : Operand) (b : Operand) (os : List Operand) (k : List Token) → expr_then (xv.Run op a b os) k ≡ operand_then a (operated_of op b (many (operated_of op) os k))
expr_run_spells op a b os k = at k _ _ (ap expr_then (sym (xv.rolls-Run op a b os)) ∙ fold-roll-Expr Spelling Spelling Spelling Spelling Spelling Spelling Spelling Spelling bounds_step builtin_step dimension_step element_step expr_step named_operand_step operand_step type_form_step (Expr-F.Run op a b os)) ∙ ap (λ (z : List Token). operand_then a (operated_of op b z)) (many-map operand_then (operated op) os k)

pub expr_pair_spells : (a : Operand) (op : PairOperator) (b : Operand) (k : List Token) → expr_then (xv.Pair a op b) k ≡ operand_then a (pair_token op ∷ operand_then b k)
expr_pair_spells a op b k = at k _ _ (ap expr_then (sym (xv.rolls-Pair a op b)) ∙ fold-roll-Expr Spelling Spelling Spelling Spelling Spelling Spelling Spelling Spelling bounds_step builtin_step dimension_step element_step expr_step named_operand_step operand_step type_form_step (Expr-F.Pair a op b))

pub expr_applied_spells : (op : MonadicOperator) (o : Operand) (k : List Token) → expr_then (xv.Applied op o) k ≡ monadic_token op ∷ operand_then o k
expr_applied_spells op o k = at k _ _ (ap expr_then (sym (xv.rolls-Applied op o)) ∙ fold-roll-Expr Spelling Spelling Spelling Spelling Spelling Spelling Spelling Spelling bounds_step builtin_step dimension_step element_step expr_step named_operand_step operand_step type_form_step (Expr-F.Applied op o))

pub expr_converted_spells : (ds : List Dimension) (b : Builtin) (o : Operand) (k : List Token) → expr_then (xv.Converted ds b o) k ≡ many dimension_then ds (builtin_then b (operand_then o k))
expr_converted_spells ds b o k = at k _ _ (ap expr_then (sym (xv.rolls-Converted ds b o)) ∙ fold-roll-Expr Spelling Spelling Spelling Spelling Spelling Spelling Spelling Spelling bounds_step builtin_step dimension_step element_step expr_step named_operand_step operand_step type_form_step (Expr-F.Converted ds b o)) ∙ many-map dimension_then itself ds (builtin_then b (operand_then o k))

pub expr_array_converted_spells : (d : Dimension) (ds : List Dimension) (n : List ℕ) (o : Operand) (k : List Token) → expr_then (xv.ArrayConverted d ds n o) k ≡ dimension_then d (many dimension_then ds (t.Name n ∷ operand_then o k))
expr_array_converted_spells d ds n o k = at k _ _ (ap expr_then (sym (xv.rolls-ArrayConverted d ds n o)) ∙ fold-roll-Expr Spelling Spelling Spelling Spelling Spelling Spelling Spelling Spelling bounds_step builtin_step dimension_step element_step expr_step named_operand_step operand_step type_form_step (Expr-F.ArrayConverted d ds n o)) ∙ ap (λ (z : List Token). dimension_then d z) (many-map dimension_then itself ds (t.Name n ∷ operand_then o k))

pub expr_named_spells : (n : List ℕ) (o : NamedOperand) (k : List Token) → expr_then (xv.Named n o) k ≡ t.Name n ∷ named_operand_then o k
expr_named_spells n o k = at k _ _ (ap expr_then (sym (xv.rolls-Named n o)) ∙ fold-roll-Expr Spelling Spelling Spelling Spelling Spelling Spelling Spelling Spelling bounds_step builtin_step dimension_step element_step expr_step named_operand_step operand_step type_form_step (Expr-F.Expr::Named n o))

pub expr_most_spells : (x : Extreme) (ty : TypeForm) (k : List Token) → expr_then (xv.Most x ty) k ≡ t.Word (extreme_word x) ∷ type_form_then ty k
expr_most_spells x ty k = at k _ _ (ap expr_then (sym (xv.rolls-Most x ty)) ∙ fold-roll-Expr Spelling Spelling Spelling Spelling Spelling Spelling Spelling Spelling bounds_step builtin_step dimension_step element_step expr_step named_operand_step operand_step type_form_step (Expr-F.Most x ty))

-- the variants of Expr
pub data ExprIs (x : Expr) : Type 0 where
  expr_is_alone : (o' : Operand) → x ≡ xv.Alone o' → ExprIs x
  expr_is_run : (op' : RunOperator) (a' : Operand) (b' : Operand) (os' : List Operand) → x ≡ xv.Run op' a' b' os' → ExprIs x
  expr_is_pair : (a' : Operand) (op' : PairOperator) (b' : Operand) → x ≡ xv.Pair a' op' b' → ExprIs x
  expr_is_applied : (op' : MonadicOperator) (o' : Operand) → x ≡ xv.Applied op' o' → ExprIs x
  expr_is_converted : (ds' : List Dimension) (b' : Builtin) (o' : Operand) → x ≡ xv.Converted ds' b' o' → ExprIs x
  expr_is_array_converted : (d' : Dimension) (ds' : List Dimension) (n' : List ℕ) (o' : Operand) → x ≡ xv.ArrayConverted d' ds' n' o' → ExprIs x
  expr_is_named : (n' : List ℕ) (o' : NamedOperand) → x ≡ xv.Named n' o' → ExprIs x
  expr_is_most : (x' : Extreme) (ty' : TypeForm) → x ≡ xv.Most x' ty' → ExprIs x

expr_layer : (x : Expr-F Bounds Builtin Dimension Element Expr NamedOperand Operand TypeForm) → ExprIs (roll-Expr x)
expr_layer (Expr-F.Alone o) = expr_is_alone o (xv.rolls-Alone o)
expr_layer (Expr-F.Run op a b os) = expr_is_run op a b os (xv.rolls-Run op a b os)
expr_layer (Expr-F.Pair a op b) = expr_is_pair a op b (xv.rolls-Pair a op b)
expr_layer (Expr-F.Applied op o) = expr_is_applied op o (xv.rolls-Applied op o)
expr_layer (Expr-F.Converted ds b o) = expr_is_converted ds b o (xv.rolls-Converted ds b o)
expr_layer (Expr-F.ArrayConverted d ds n o) = expr_is_array_converted d ds n o (xv.rolls-ArrayConverted d ds n o)
expr_layer (Expr-F.Expr::Named n o) = expr_is_named n o (xv.rolls-Named n o)
expr_layer (Expr-F.Most x ty) = expr_is_most x ty (xv.rolls-Most x ty)

pub expr_is : (x : Expr) → ExprIs x
expr_is x = subst ExprIs (roll-out-Expr x) (expr_layer (out-Expr x))

pub named_operand_element_spells : (el : Element) (k : List Token) → named_operand_then (nv.Element el) k ≡ element_then el k
named_operand_element_spells el k = at k _ _ (ap named_operand_then (sym (nv.rolls-Element el)) ∙ fold-roll-NamedOperand Spelling Spelling Spelling Spelling Spelling Spelling Spelling Spelling bounds_step builtin_step dimension_step element_step expr_step named_operand_step operand_step type_form_step (NamedOperand-F.NamedOperand::Element el))

pub named_operand_literal_spells : (l : Literal) (k : List Token) → named_operand_then (nv.Literal l) k ≡ literal_token l ∷ k
named_operand_literal_spells l k = at k _ _ (ap named_operand_then (sym (nv.rolls-Literal l)) ∙ fold-roll-NamedOperand Spelling Spelling Spelling Spelling Spelling Spelling Spelling Spelling bounds_step builtin_step dimension_step element_step expr_step named_operand_step operand_step type_form_step (NamedOperand-F.NamedOperand::Literal l))

pub named_operand_decorated_spells : (l : Literal) (ty : TypeForm) (k : List Token) → named_operand_then (nv.Decorated l ty) k ≡ literal_token l ∷ decoration_of ty k
named_operand_decorated_spells l ty k = at k _ _ (ap named_operand_then (sym (nv.rolls-Decorated l ty)) ∙ fold-roll-NamedOperand Spelling Spelling Spelling Spelling Spelling Spelling Spelling Spelling bounds_step builtin_step dimension_step element_step expr_step named_operand_step operand_step type_form_step (NamedOperand-F.NamedOperand::Decorated l ty))

pub named_operand_truth_spells : (b : Bool) (k : List Token) → named_operand_then (nv.Truth b) k ≡ t.Word (truth_word b) ∷ k
named_operand_truth_spells b k = at k _ _ (ap named_operand_then (sym (nv.rolls-Truth b)) ∙ fold-roll-NamedOperand Spelling Spelling Spelling Spelling Spelling Spelling Spelling Spelling bounds_step builtin_step dimension_step element_step expr_step named_operand_step operand_step type_form_step (NamedOperand-F.NamedOperand::Truth b))

pub named_operand_table_spells : (e : Expr) (f : Expr) (es : List Expr) (k : List Token) → named_operand_then (nv.Table e f es) k ≡ table_of e (f ∷ es) k
named_operand_table_spells e f es k = at k _ _ (ap named_operand_then (sym (nv.rolls-Table e f es)) ∙ fold-roll-NamedOperand Spelling Spelling Spelling Spelling Spelling Spelling Spelling Spelling bounds_step builtin_step dimension_step element_step expr_step named_operand_step operand_step type_form_step (NamedOperand-F.NamedOperand::Table e f es)) ∙ ap (λ (z : List Token). t.Symbol s.OpenIndex ∷ expr_then e (next_item_of f z)) (many-map expr_then next_item es (t.Symbol s.CloseIndex ∷ k))

pub named_operand_decorated_table_spells : (e : Expr) (es : List Expr) (ty : TypeForm) (k : List Token) → named_operand_then (nv.DecoratedTable e es ty) k ≡ table_of e es (decoration_of ty k)
named_operand_decorated_table_spells e es ty k = at k _ _ (ap named_operand_then (sym (nv.rolls-DecoratedTable e es ty)) ∙ fold-roll-NamedOperand Spelling Spelling Spelling Spelling Spelling Spelling Spelling Spelling bounds_step builtin_step dimension_step element_step expr_step named_operand_step operand_step type_form_step (NamedOperand-F.NamedOperand::DecoratedTable e es ty)) ∙ ap (λ (z : List Token). t.Symbol s.OpenIndex ∷ expr_then e z) (many-map expr_then next_item es (t.Symbol s.CloseIndex ∷ decoration_of ty k))

pub named_operand_call_spells : (n : List ℕ) (es : List Expr) (k : List Token) → named_operand_then (nv.Call n es) k ≡ t.Name n ∷ arguments_of es k
named_operand_call_spells n es k = at k _ _ (ap named_operand_then (sym (nv.rolls-Call n es)) ∙ fold-roll-NamedOperand Spelling Spelling Spelling Spelling Spelling Spelling Spelling Spelling bounds_step builtin_step dimension_step element_step expr_step named_operand_step operand_step type_form_step (NamedOperand-F.NamedOperand::Call n es)) ∙ ap (λ (z : List Token). t.Name n ∷ z) (arguments_map es k)

-- the variants of NamedOperand
pub data NamedOperandIs (x : NamedOperand) : Type 0 where
  named_operand_is_element : (el' : Element) → x ≡ nv.Element el' → NamedOperandIs x
  named_operand_is_literal : (l' : Literal) → x ≡ nv.Literal l' → NamedOperandIs x
  named_operand_is_decorated : (l' : Literal) (ty' : TypeForm) → x ≡ nv.Decorated l' ty' → NamedOperandIs x
  named_operand_is_truth : (b' : Bool) → x ≡ nv.Truth b' → NamedOperandIs x
  named_operand_is_table : (e' : Expr) (f' : Expr) (es' : List Expr) → x ≡ nv.Table e' f' es' → NamedOperandIs x
  named_operand_is_decorated_table : (e' : Expr) (es' : List Expr) (ty' : TypeForm) → x ≡ nv.DecoratedTable e' es' ty' → NamedOperandIs x
  named_operand_is_call : (n' : List ℕ) (es' : List Expr) → x ≡ nv.Call n' es' → NamedOperandIs x

named_operand_layer : (x : NamedOperand-F Bounds Builtin Dimension Element Expr NamedOperand Operand TypeForm) → NamedOperandIs (roll-NamedOperand x)
named_operand_layer (NamedOperand-F.NamedOperand::Element el) = named_operand_is_element el (nv.rolls-Element el)
named_operand_layer (NamedOperand-F.NamedOperand::Literal l) = named_operand_is_literal l (nv.rolls-Literal l)
named_operand_layer (NamedOperand-F.NamedOperand::Decorated l ty) = named_operand_is_decorated l ty (nv.rolls-Decorated l ty)
named_operand_layer (NamedOperand-F.NamedOperand::Truth b) = named_operand_is_truth b (nv.rolls-Truth b)
named_operand_layer (NamedOperand-F.NamedOperand::Table e f es) = named_operand_is_table e f es (nv.rolls-Table e f es)
named_operand_layer (NamedOperand-F.NamedOperand::DecoratedTable e es ty) = named_operand_is_decorated_table e es ty (nv.rolls-DecoratedTable e es ty)
named_operand_layer (NamedOperand-F.NamedOperand::Call n es) = named_operand_is_call n es (nv.rolls-Call n es)

pub named_operand_is : (x : NamedOperand) → NamedOperandIs x
named_operand_is x = subst NamedOperandIs (roll-out-NamedOperand x) (named_operand_layer (out-NamedOperand x))

pub operand_element_spells : (el : Element) (k : List Token) → operand_then (ov.Element el) k ≡ element_then el k
operand_element_spells el k = at k _ _ (ap operand_then (sym (ov.rolls-Element el)) ∙ fold-roll-Operand Spelling Spelling Spelling Spelling Spelling Spelling Spelling Spelling bounds_step builtin_step dimension_step element_step expr_step named_operand_step operand_step type_form_step (Operand-F.Operand::Element el))

pub operand_literal_spells : (l : Literal) (k : List Token) → operand_then (ov.Literal l) k ≡ literal_token l ∷ k
operand_literal_spells l k = at k _ _ (ap operand_then (sym (ov.rolls-Literal l)) ∙ fold-roll-Operand Spelling Spelling Spelling Spelling Spelling Spelling Spelling Spelling bounds_step builtin_step dimension_step element_step expr_step named_operand_step operand_step type_form_step (Operand-F.Operand::Literal l))

pub operand_decorated_spells : (l : Literal) (ty : TypeForm) (k : List Token) → operand_then (ov.Decorated l ty) k ≡ literal_token l ∷ decoration_of ty k
operand_decorated_spells l ty k = at k _ _ (ap operand_then (sym (ov.rolls-Decorated l ty)) ∙ fold-roll-Operand Spelling Spelling Spelling Spelling Spelling Spelling Spelling Spelling bounds_step builtin_step dimension_step element_step expr_step named_operand_step operand_step type_form_step (Operand-F.Operand::Decorated l ty))

pub operand_truth_spells : (b : Bool) (k : List Token) → operand_then (ov.Truth b) k ≡ t.Word (truth_word b) ∷ k
operand_truth_spells b k = at k _ _ (ap operand_then (sym (ov.rolls-Truth b)) ∙ fold-roll-Operand Spelling Spelling Spelling Spelling Spelling Spelling Spelling Spelling bounds_step builtin_step dimension_step element_step expr_step named_operand_step operand_step type_form_step (Operand-F.Operand::Truth b))

pub operand_parens_spells : (e : Expr) (k : List Token) → operand_then (ov.Parens e) k ≡ bracketed (expr_then e) k
operand_parens_spells e k = at k _ _ (ap operand_then (sym (ov.rolls-Parens e)) ∙ fold-roll-Operand Spelling Spelling Spelling Spelling Spelling Spelling Spelling Spelling bounds_step builtin_step dimension_step element_step expr_step named_operand_step operand_step type_form_step (Operand-F.Parens e))

pub operand_table_spells : (e : Expr) (es : List Expr) (k : List Token) → operand_then (ov.Table e es) k ≡ table_of e es k
operand_table_spells e es k = at k _ _ (ap operand_then (sym (ov.rolls-Table e es)) ∙ fold-roll-Operand Spelling Spelling Spelling Spelling Spelling Spelling Spelling Spelling bounds_step builtin_step dimension_step element_step expr_step named_operand_step operand_step type_form_step (Operand-F.Operand::Table e es)) ∙ ap (λ (z : List Token). t.Symbol s.OpenIndex ∷ expr_then e z) (many-map expr_then next_item es (t.Symbol s.CloseIndex ∷ k))

pub operand_decorated_table_spells : (e : Expr) (es : List Expr) (ty : TypeForm) (k : List Token) → operand_then (ov.DecoratedTable e es ty) k ≡ table_of e es (decoration_of ty k)
operand_decorated_table_spells e es ty k = at k _ _ (ap operand_then (sym (ov.rolls-DecoratedTable e es ty)) ∙ fold-roll-Operand Spelling Spelling Spelling Spelling Spelling Spelling Spelling Spelling bounds_step builtin_step dimension_step element_step expr_step named_operand_step operand_step type_form_step (Operand-F.Operand::DecoratedTable e es ty)) ∙ ap (λ (z : List Token). t.Symbol s.OpenIndex ∷ expr_then e z) (many-map expr_then next_item es (t.Symbol s.CloseIndex ∷ decoration_of ty k))

pub operand_call_spells : (n : List ℕ) (es : List Expr) (k : List Token) → operand_then (ov.Call n es) k ≡ t.Name n ∷ arguments_of es k
operand_call_spells n es k = at k _ _ (ap operand_then (sym (ov.rolls-Call n es)) ∙ fold-roll-Operand Spelling Spelling Spelling Spelling Spelling Spelling Spelling Spelling bounds_step builtin_step dimension_step element_step expr_step named_operand_step operand_step type_form_step (Operand-F.Operand::Call n es)) ∙ ap (λ (z : List Token). t.Name n ∷ z) (arguments_map es k)

-- the variants of Operand
pub data OperandIs (x : Operand) : Type 0 where
  operand_is_element : (el' : Element) → x ≡ ov.Element el' → OperandIs x
  operand_is_literal : (l' : Literal) → x ≡ ov.Literal l' → OperandIs x
  operand_is_decorated : (l' : Literal) (ty' : TypeForm) → x ≡ ov.Decorated l' ty' → OperandIs x
  operand_is_truth : (b' : Bool) → x ≡ ov.Truth b' → OperandIs x
  operand_is_parens : (e' : Expr) → x ≡ ov.Parens e' → OperandIs x
  operand_is_table : (e' : Expr) (es' : List Expr) → x ≡ ov.Table e' es' → OperandIs x
  operand_is_decorated_table : (e' : Expr) (es' : List Expr) (ty' : TypeForm) → x ≡ ov.DecoratedTable e' es' ty' → OperandIs x
  operand_is_call : (n' : List ℕ) (es' : List Expr) → x ≡ ov.Call n' es' → OperandIs x

operand_layer : (x : Operand-F Bounds Builtin Dimension Element Expr NamedOperand Operand TypeForm) → OperandIs (roll-Operand x)
operand_layer (Operand-F.Operand::Element el) = operand_is_element el (ov.rolls-Element el)
operand_layer (Operand-F.Operand::Literal l) = operand_is_literal l (ov.rolls-Literal l)
operand_layer (Operand-F.Operand::Decorated l ty) = operand_is_decorated l ty (ov.rolls-Decorated l ty)
operand_layer (Operand-F.Operand::Truth b) = operand_is_truth b (ov.rolls-Truth b)
operand_layer (Operand-F.Parens e) = operand_is_parens e (ov.rolls-Parens e)
operand_layer (Operand-F.Operand::Table e es) = operand_is_table e es (ov.rolls-Table e es)
operand_layer (Operand-F.Operand::DecoratedTable e es ty) = operand_is_decorated_table e es ty (ov.rolls-DecoratedTable e es ty)
operand_layer (Operand-F.Operand::Call n es) = operand_is_call n es (ov.rolls-Call n es)

pub operand_is : (x : Operand) → OperandIs x
operand_is x = subst OperandIs (roll-out-Operand x) (operand_layer (out-Operand x))

pub type_form_named_spells : (ds : List Dimension) (n : List ℕ) (k : List Token) → type_form_then (tv.Named ds n) k ≡ many dimension_then ds (t.Name n ∷ k)
type_form_named_spells ds n k = at k _ _ (ap type_form_then (sym (tv.rolls-Named ds n)) ∙ fold-roll-TypeForm Spelling Spelling Spelling Spelling Spelling Spelling Spelling Spelling bounds_step builtin_step dimension_step element_step expr_step named_operand_step operand_step type_form_step (TypeForm-F.TypeForm::Named ds n)) ∙ many-map dimension_then itself ds (t.Name n ∷ k)

pub type_form_builtin_spells : (ds : List Dimension) (b : Builtin) (k : List Token) → type_form_then (tv.Builtin ds b) k ≡ many dimension_then ds (builtin_then b k)
type_form_builtin_spells ds b k = at k _ _ (ap type_form_then (sym (tv.rolls-Builtin ds b)) ∙ fold-roll-TypeForm Spelling Spelling Spelling Spelling Spelling Spelling Spelling Spelling bounds_step builtin_step dimension_step element_step expr_step named_operand_step operand_step type_form_step (TypeForm-F.Builtin ds b)) ∙ many-map dimension_then itself ds (builtin_then b k)

-- the variants of TypeForm
pub data TypeFormIs (x : TypeForm) : Type 0 where
  type_form_is_named : (ds' : List Dimension) (n' : List ℕ) → x ≡ tv.Named ds' n' → TypeFormIs x
  type_form_is_builtin : (ds' : List Dimension) (b' : Builtin) → x ≡ tv.Builtin ds' b' → TypeFormIs x

type_form_layer : (x : TypeForm-F Bounds Builtin Dimension Element Expr NamedOperand Operand TypeForm) → TypeFormIs (roll-TypeForm x)
type_form_layer (TypeForm-F.TypeForm::Named ds n) = type_form_is_named ds n (tv.rolls-Named ds n)
type_form_layer (TypeForm-F.Builtin ds b) = type_form_is_builtin ds b (tv.rolls-Builtin ds b)

pub type_form_is : (x : TypeForm) → TypeFormIs x
type_form_is x = subst TypeFormIs (roll-out-TypeForm x) (type_form_layer (out-TypeForm x))

-- what each variant spells
pub ruleset spelling_rules = (bounds_from_spells, bounds_for_spells, bounds_from_for_spells, builtin_primitive_spells, builtin_timer_spells, builtin_any_channel_spells, builtin_channel_spells, builtin_counted_spells, dimension_open_spells, dimension_sized_spells, element_named_spells, element_segment_spells, expr_alone_spells, expr_run_spells, expr_pair_spells, expr_applied_spells, expr_converted_spells, expr_array_converted_spells, expr_named_spells, expr_most_spells, named_operand_element_spells, named_operand_literal_spells, named_operand_decorated_spells, named_operand_truth_spells, named_operand_table_spells, named_operand_decorated_table_spells, named_operand_call_spells, operand_element_spells, operand_literal_spells, operand_decorated_spells, operand_truth_spells, operand_parens_spells, operand_table_spells, operand_decorated_table_spells, operand_call_spells, type_form_named_spells, type_form_builtin_spells)
