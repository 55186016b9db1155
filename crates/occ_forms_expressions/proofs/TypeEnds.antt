-- An expression that begins with `[]` is a conversion, so `::` and it never go on with the type of a channel.
use Rattle.std.proofs.Common.{◌≡◌, ◌∙◌, refl, sym, ap, true, false, List, ◌∷◌, None}
use Rattle.occ_lines.specs.declared.token.Symbol.TheVariants as s
use Rattle.occ_lines.specs.declared.token.Token.{Token}
use Rattle.occ_lines.specs.declared.token.Token.TheVariants as t
use Rattle.occ_lines.specs.declared.token.Word.{Word}
use Rattle.occ_lines.specs.declared.token.Word.TheVariants as w
use Rattle.occ_forms_expressions.specs.declared.begin.Begin.{Begin}
use Rattle.occ_forms_expressions.specs.declared.tree.Builtin.{Builtin}
use Rattle.occ_forms_expressions.specs.declared.tree.DataBase.TheVariants as da
use Rattle.occ_forms_expressions.specs.declared.tree.DataForm.{DataForm}
use Rattle.occ_forms_expressions.specs.declared.tree.Dimension.{Dimension}
use Rattle.occ_forms_expressions.specs.declared.tree.Dimension.TheVariants as dv
use Rattle.occ_forms_expressions.specs.declared.tree.Expr.{Expr}
use Rattle.occ_forms_expressions.specs.declared.tree.Expr.TheVariants as xv
use Rattle.occ_forms_expressions.specs.declared.tree.Extreme.{Extreme}
use Rattle.occ_forms_expressions.specs.declared.tree.Operand.{Operand}
use Rattle.occ_forms_expressions.specs.declared.tree.TypeForm.{TypeForm}
use Rattle.occ_forms_expressions.specs.declared.tree.TypeForm.TheVariants as tv
use Rattle.occ_forms_expressions.specs.inside.Parts.{primitive_of}
use Rattle.occ_forms_expressions.specs.Reading.{IsEndOfRun, begin_of, is_operand_begin}
use Rattle.occ_forms_expressions.specs.Spelling.{builtin_then, data_base_token, data_form_then, dimension_then, expr_then, many, operand_then}
use Rattle.occ_forms_expressions.specs.TypeEnds.{EndsChannel, EndsMost}
use Rattle.occ_forms_expressions.proofs.Begins.{no_expr}
use Rattle.occ_forms_expressions.proofs.Bracketing.{AfterBracket, AfterDimension, after_bracket_at, after_open, after_operand, after_sized, dimension_of_builtin, dimension_of_name}
use Rattle.occ_forms_expressions.proofs.Dimensions.{base_ends, base_word, builtin_ends, run_no_operand}
use Rattle.occ_forms_expressions.proofs.Operands.{OperandAt, at_bracket, at_call, at_decorated, at_element, at_literal, at_parens, at_truth, operand_at}
use Rattle.occ_forms_expressions.proofs.UniqueExprs.{one_data_form, one_dimensions_of, one_run}
use Rattle.occ_forms_expressions.proofs.UniqueTypes.{BuiltinAt, TypeApart, at_channel, at_primitive, at_timer, builtin_at, chan_first}

-- an operand begins as one
operand_class : (o : Operand) (k : List Token) → is_operand_begin (begin_of (operand_then o k)) ≡ true
operand_class o k = by (begin_of (operand_then o k)) (operand_at o k (operand_then o k) _ refl refl) where
  by : (b : Begin) → OperandAt (operand_then o k) k o b → is_operand_begin b ≡ true
  by b (at_element n es q f) = refl
  by b (at_call n es q f) = refl
  by b (at_literal l q f) = refl
  by b (at_decorated l type q f) = refl
  by b (at_truth x q f) = refl
  by b (at_parens x q f) = refl
  by b (at_bracket x c q f) = refl

-- after a data type that an operand follows, an operand stands
after_data : (form other : DataForm) (l k : List Token) (o : Operand) → data_form_then form l ≡ data_form_then other (operand_then o k) → is_operand_begin (begin_of l) ≡ true
after_data form other l k o e = ap (λ (z : List Token). is_operand_begin (begin_of z)) (one_data_form form other l _ e).1 ∙ operand_class o k

-- a word that is no primitive type is no data type
no_data_word : {Z : Type 0} (form : DataForm) (ds : List Dimension) (b : Builtin) (l k rest : List Token) (word : Word) → primitive_of (t.Word word) ≡ None → builtin_then b k ≡ t.Word word ∷ rest
    → data_form_then form l ≡ many dimension_then ds (builtin_then b k) → Z
no_data_word form ds b l k rest word none is e =
    let h = one_dimensions_of form.dimensions ds (data_base_token form.base ∷ l) (builtin_then b k) (base_ends form.base l) (builtin_ends b k) e in
    absurd (base_word form.base l word rest none (h.1 ∙ is))

after_builtin : (form : DataForm) (ds : List Dimension) (b : Builtin) (o : Operand) (l k : List Token) → data_form_then form l ≡ many dimension_then ds (builtin_then b (operand_then o k)) → is_operand_begin (begin_of l) ≡ true
after_builtin form ds b o l k e = by (builtin_at b (operand_then o k) _ refl) where
  by : BuiltinAt (builtin_then b (operand_then o k)) (operand_then o k) b → is_operand_begin (begin_of l) ≡ true
  by (at_primitive p q f) = after_data form (record { dimensions = ds; base = da.Primitive p }) l k o (e ∙ ap (many dimension_then ds) f)
  by (at_timer q f) = no_data_word form ds b l _ _ w.Timer refl f e
  by (at_channel c x q f) = let h = chan_first c _ in no_data_word form ds b l _ h.0 w.Chan refl (f ∙ h.1) e

after_dimension : (form : DataForm) (l rest k : List Token) (z : Expr) → rest ≡ data_form_then form l → AfterDimension rest k dv.Open z → is_operand_begin (begin_of l) ≡ true
after_dimension form l rest k z e (dimension_of_name ds n o q f) = after_data form (record { dimensions = ds; base = da.Named n }) l k o (sym e ∙ f)
after_dimension form l rest k z e (dimension_of_builtin ds b o q f) = after_builtin form ds b o l k (sym e ∙ f)

after_bracket : (form : DataForm) (l k : List Token) (z : Expr) → AfterBracket (t.Symbol s.CloseIndex ∷ data_form_then form l) k z → is_operand_begin (begin_of l) ≡ true
after_bracket form l k z (after_open rest e following) = after_dimension form l rest k z (cc) following
after_bracket form l k z (after_sized i rest e begins following) = absurd (no_expr i _ (t.Symbol s.CloseIndex ∷ data_form_then form l) refl e)
after_bracket form l k z (after_operand i c o x q p e) = absurd (no_expr i _ (t.Symbol s.CloseIndex ∷ data_form_then form l) refl e)

channel_ends : (z : Expr) (k : List Token) → EndsChannel (t.Symbol s.Counted ∷ expr_then z k)
channel_ends z k form l e =
    let h : expr_then z k ≡ t.Symbol s.OpenIndex ∷ t.Symbol s.CloseIndex ∷ data_form_then form l = (cc) in
    after_bracket form l k z (after_bracket_at (expr_then z k) _ z k h refl)

-- `::` and an expression may follow the type of MOSTPOS or MOSTNEG
pub array_ends : (z : Expr) (k : List Token) (type : TypeForm) → EndsMost type (t.Symbol s.Counted ∷ expr_then z k)
array_ends z k type es words ds base is = channel_ends z k

-- after it no `::[]` and a type lead to where a run ends
ends_apart : (type : TypeForm) (j k : List Token) → EndsMost type j → IsEndOfRun k → TypeApart type j k
ends_apart type j k ends run ds b p c es base q form e =
    let h : true ≡ false = sym (ends ds c es base (p ∙ ap (λ (z : Builtin). tv.Builtin ds z) q) form k e) ∙ run_no_operand k run in absurd cc

-- an expression that stands before the end of a run is read in one way
pub one_counting : (x y : Expr) (j k : List Token) → IsEndOfRun j → IsEndOfRun k → ((m : Extreme) (type : TypeForm) → x ≡ xv.Most m type → EndsMost type j) → ((m : Extreme) (type : TypeForm) → y ≡ xv.Most m type → EndsMost type k)
    → expr_then x j ≡ expr_then y k → (x ≡ y) × (j ≡ k)
one_counting x y j k a b ends also e = one_run x y j k a b (λ m type p. ends_apart type j k (ends m type p) b) (λ m type p. ends_apart type k j (also m type p) a) e
