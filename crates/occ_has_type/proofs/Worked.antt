-- Worked expressions: five that have a type, and one that has none.
use Rattle.std.proofs.Common.{◌≡◌, ◌∙◌, ℕ, Bool, true, List, [], ◌∷◌, Option, Some, None, if◌then◌else◌, refl, ap, sym, subst}
use Rattle.occ_expr_operations.proofs.Layers as layers
use Rattle.occ_expr_operations.specs.Operations.{run_operator}
use Rattle.occ_forms_expressions.specs.declared.tree.Bounds.{Bounds}
use Rattle.occ_forms_expressions.specs.declared.tree.Bounds.TheOpen.{Expr-F, Operand-F}
use Rattle.occ_forms_expressions.specs.declared.tree.Builtin.{Builtin}
use Rattle.occ_forms_expressions.specs.declared.tree.Dimension.{Dimension}
use Rattle.occ_forms_expressions.specs.declared.tree.Element.{Element}
use Rattle.occ_forms_expressions.specs.declared.tree.Element.TheVariants as ev
use Rattle.occ_forms_expressions.specs.declared.tree.Expr.{Expr, out-Expr}
use Rattle.occ_forms_expressions.specs.declared.tree.Expr.TheVariants as xv
use Rattle.occ_forms_expressions.specs.declared.tree.Literal.TheVariants as l
use Rattle.occ_forms_expressions.specs.declared.tree.MonadicOperator.TheVariants as mo
use Rattle.occ_forms_expressions.specs.declared.tree.NamedOperand.{NamedOperand}
use Rattle.occ_forms_expressions.specs.declared.tree.Operand.{Operand, out-Operand}
use Rattle.occ_forms_expressions.specs.declared.tree.Operand.TheVariants as ov
use Rattle.occ_forms_expressions.specs.declared.tree.RunOperator.TheVariants as ro
use Rattle.occ_forms_expressions.specs.declared.tree.TypeForm.{TypeForm}
use Rattle.occ_scope.specs.Visible.{visible}
use Rattle.occ_scope.specs.declared.meaning.Meaning.TheVariants as meaning
use Rattle.occ_scope.specs.declared.meaning.Whole.{Whole}
use Rattle.occ_scope.specs.declared.scope.Scope.{Scope}
use Rattle.occ_typing_operands.specs.Operators.{allows, class_of}
use Rattle.occ_typing_operands.specs.Settling.{base_of, int, number}
use Rattle.occ_typing_operands.specs.declared.operate.Class.TheVariants as c
use Rattle.std.specs.Prelude.{pos}
use Rattle.occ_typing_tables.specs.Merging.{Fill, fill_step, filled, merged}
use Rattle.occ_types.specs.Constant.{number_value}
use Rattle.occ_types.specs.Fits.{array_fits, fits, unnamed}
use Rattle.occ_types.specs.declared.types.Item.TheFolds.{fold-OccType, fold-roll-OccType}
use Rattle.occ_types.specs.declared.types.Item.TheOpen.{OccType-F}
use Rattle.occ_types.specs.View.{as_array, as_primitive}
use Rattle.occ_types.specs.declared.interface.Formal.{Formal}
use Rattle.occ_types.specs.declared.types.OccType.{OccType}
use Rattle.occ_types.specs.declared.types.OccType.TheVariants as t
use Rattle.occ_types.specs.declared.value.Primitive.TheVariants as p
use Rattle.occ_types.specs.declared.value.Value.{Value}
use Rattle.occ_types.specs.declared.value.Value.TheVariants as vv
use Rattle.occ_types.proofs.Agreeing.{as_array_at_array, fits_of_array, as_primitive_at_primitive, unnamed_of_array, unnamed_of_primitive}
use Rattle.occ_has_type.specs.Trees.{name_alone}
use Rattle.occ_has_type.specs.Types.{AreOperands, ElementHasType, HasType, IsArray, OperandHasType, Takes, agreed, byte, merged_with}
use Rattle.occ_has_type.specs.Types as has
use Rattle.occ_has_type.proofs.Fitting.{first_same, number_fits}
use Rattle.occ_has_type.proofs.Literals.{int_base}
use Rattle.occ_has_type.proofs.Operating.{allowed_base}
use Rattle.occ_has_type.proofs.Reaching.{int_fits}

-- a variable
pub variable : (s : Scope) (name : List ℕ) (w : Whole) (of : OccType) → visible s name ≡ Some (meaning.Element w) → w.of ≡ of → w.value ≡ None → ElementHasType s (ev.Named name []) of None
variable s name w of is at none = has.named name [] w of None is (subst (λ (v : Option Value). has.Selects s [] w.of v of None) (sym none) (subst (λ (u : OccType). has.Selects s [] u None of None) (sym at) (has.whole of None)))

variable_alone : (s : Scope) (name : List ℕ) (w : Whole) (of : OccType) → visible s name ≡ Some (meaning.Element w) → w.of ≡ of → w.value ≡ None → HasType s (name_alone name) of None
variable_alone s name w of is at none = has.operand (ov.Element (ev.Named name [])) of None (has.element (ev.Named name []) of None (variable s name w of is at none))

int_allowed : allows c.Arithmetic (base_of int) ≡ true
int_allowed = ap (allows c.Arithmetic) int_base

-- `x + 1`
pub sum : (s : Scope) (x : List ℕ) (w : Whole) → visible s x ≡ Some (meaning.Element w) → w.of ≡ int → w.value ≡ None → HasType s (xv.Run ro.Add (ov.Element (ev.Named x [])) (ov.Literal (l.Decimal 1)) []) int None
sum s x w is at none =
    has.run ro.Add (ov.Element (ev.Named x [])) (ov.Literal (l.Decimal 1)) [] int (None ∷ Some (vv.Int _) ∷ []) None
    (has.one_operand (ov.Element (ev.Named x [])) (ov.Literal (l.Decimal 1) ∷ []) int int None (Some (vv.Int _) ∷ []) (has.element (ev.Named x []) int None (variable s x w int is at none)) int_fits
    (has.one_operand (ov.Literal (l.Decimal 1)) [] int int (Some (vv.Int _)) [] (has.literal (l.Decimal 1) int (Some (vv.Int _)) (has.decimal 1 int p.Int (vv.Int _) (ap number int_base) refl)) int_fits (has.no_operand int)))
    int_allowed (λ free other. refl) refl

-- `'a'`
pub character : (s : Scope) (b : ℕ) → HasType s (xv.Alone (ov.Literal (l.Character b))) byte (Some (vv.Byte b))
character s b = has.operand (ov.Literal (l.Character b)) byte (Some (vv.Byte b)) (has.literal (l.Character b) byte (Some (vv.Byte b)) (has.character b))

-- `[1, 2, 3]`, of which `[3]BYTE` is wanted
byte_base : base_of byte ≡ Some p.Byte
byte_base = ap as_primitive (unnamed_of_primitive p.Byte) ∙ as_primitive_at_primitive p.Byte

byte_fits : fits byte byte ≡ true
byte_fits = number_fits byte p.Byte (ap number byte_base)

byte_filled : filled byte byte ≡ byte
unfolding filled
byte_filled = ap (λ (f : Fill). f byte byte) (ap (fold-OccType (Unit {0}) Fill (Unit {0}) (Unit {0}) (Unit {0}) (λ _. tt) fill_step (λ _. tt) (λ _. tt) (λ _. tt)) (sym (t.rolls-Primitive p.Byte))
    ∙ fold-roll-OccType (Unit {0}) Fill (Unit {0}) (Unit {0}) (Unit {0}) (λ _. tt) fill_step (λ _. tt) (λ _. tt) (λ _. tt) (OccType-F.Primitive p.Byte))

abbrev some_if : Bool → OccType → Option OccType
some_if b of = if b then Some of else None

byte_merged : merged byte byte ≡ Some byte
byte_merged = ap (λ (b : Bool). some_if b (filled byte byte)) byte_fits ∙ ap Some byte_filled

number_item : (s : Scope) (i : ℕ) (value : Value) → number_value p.Byte (pos i) ≡ Some value → Takes s (xv.Alone (ov.Literal (l.Decimal i))) byte byte (Some value)
number_item s i value is =
    has.fitting (xv.Alone (ov.Literal (l.Decimal i))) byte byte (Some value)
    (has.operand (ov.Literal (l.Decimal i)) byte (Some value) (has.literal (l.Decimal i) byte (Some value) (has.decimal i byte p.Byte value (ap number byte_base) is))) byte_fits

abbrev numeral : ℕ → Expr
numeral i = xv.Alone (ov.Literal (l.Decimal i))

bytes_agree : agreed (byte ∷ byte ∷ byte ∷ []) ≡ Some byte
bytes_agree =
    ap (λ (o : Option OccType). merged_with o (byte ∷ byte ∷ [])) byte_merged ∙ ap (λ (o : Option OccType). merged_with o (byte ∷ [])) byte_merged ∙ byte_merged

array_fits_it : fits (t.Array (Some 3) byte) (t.Array (Some 3) byte) ≡ true
array_fits_it = fits_of_array (Some 3) byte (t.Array (Some 3) byte) ∙ ap (array_fits (Some 3) (fits byte)) (as_array_at_array (Some 3) byte) ∙ byte_fits

pub three_bytes : (s : Scope) → IsArray 3 byte → Takes s (xv.Alone (ov.Table (numeral 1) (numeral 2 ∷ numeral 3 ∷ []))) (t.Array (Some 3) byte) (t.Array (Some 3) byte) None
three_bytes s small =
    let es = numeral 1 ∷ numeral 2 ∷ numeral 3 ∷ [] in
    has.table_taking (xv.Alone (ov.Table (numeral 1) (numeral 2 ∷ numeral 3 ∷ []))) es (t.Array (Some 3) byte) (t.Array (Some 3) byte) (Some 3, byte)
    (has.table_alone (ov.Table (numeral 1) (numeral 2 ∷ numeral 3 ∷ [])) es (has.table_itself (numeral 1) (numeral 2 ∷ numeral 3 ∷ []))) (as_array_at_array (Some 3) byte)
    (has.table_of es byte (byte ∷ byte ∷ byte ∷ []) byte
    (has.one_item (numeral 1) (numeral 2 ∷ numeral 3 ∷ []) byte byte (Some (vv.Byte 1)) (byte ∷ byte ∷ []) (number_item s 1 (vv.Byte 1) refl)
    (has.one_item (numeral 2) (numeral 3 ∷ []) byte byte (Some (vv.Byte 2)) (byte ∷ []) (number_item s 2 (vv.Byte 2) refl)
    (has.one_item (numeral 3) [] byte byte (Some (vv.Byte 3)) [] (number_item s 3 (vv.Byte 3) refl) (has.no_item byte)))) bytes_agree small) array_fits_it

-- `a[i]`
pub subscripted : (s : Scope) (a i : List ℕ) (v w : Whole) (n : ℕ) (of : OccType) → visible s a ≡ Some (meaning.Element v) → v.of ≡ t.Array (Some n) of → visible s i ≡ Some (meaning.Element w) → w.of ≡ int → w.value ≡ None
    → HasType s (xv.Alone (ov.Element (ev.Named a (name_alone i ∷ [])))) of None
subscripted s a i v w n of is at here there none =
    let parts : as_array (unnamed v.of) ≡ Some (Some n, of) = ap (λ (u : OccType). as_array (unnamed u)) at ∙ ap as_array (unnamed_of_array (Some n) of) ∙ as_array_at_array (Some n) of in
    let el = ev.Named a (name_alone i ∷ []) in
    has.operand (ov.Element el) of None
    (has.element el of None
    (has.named a (name_alone i ∷ []) v of None is
    (has.component (name_alone i) [] v.of of v.value None None (Some n, of) parts (variable_alone s i w int here there none) refl (has.whole of None))))

-- `p (x)`
pub called : (s : Scope) (q x : List ℕ) (w : Whole) (f : Formal) (result : OccType) → visible s q ≡ Some (meaning.Function (f ∷ []) (result ∷ [])) → visible s x ≡ Some (meaning.Element w) → w.value ≡ None → fits f.of w.of ≡ true
    → HasType s (xv.Alone (ov.Call q (name_alone x ∷ []))) result None
called s q x w f result is here none fit =
    let call = ov.Call q (name_alone x ∷ []) in
    has.operand call result None
    (has.call q (name_alone x ∷ []) result None
    (has.function q (name_alone x ∷ []) (f ∷ []) result is
    (has.one_actual (name_alone x) [] f [] w.of None (has.fitting (name_alone x) f.of w.of None (variable_alone s x w w.of here refl none) fit) has.no_actual)))

-- ---- `TRUE + 1`

AtRun : Scope → Expr-F Bounds Builtin Dimension Element Expr NamedOperand Operand TypeForm → Type 0
AtRun s (Expr-F.Run operator a b es) = (of : OccType) × (values : List (Option Value)) × AreOperands s (a ∷ b ∷ es) of values × (allows (class_of (run_operator operator)) (base_of of) ≡ true)
AtRun s (Expr-F.Alone e) = Unit {0}
AtRun s (Expr-F.Pair a operator b) = Unit {0}
AtRun s (Expr-F.Applied operator e) = Unit {0}
AtRun s (Expr-F.Converted ds b e) = Unit {0}
AtRun s (Expr-F.ArrayConverted d ds name e) = Unit {0}
AtRun s (Expr-F.Expr::Named name e) = Unit {0}
AtRun s (Expr-F.Most end of) = Unit {0}

at_run : (s : Scope) (e : Expr) (of : OccType) (value : Option Value) → HasType s e of value → AtRun s (out-Expr e)
unfolding AtRun
at_run s _ _ _ (has.operand e of value h) = subst (AtRun s) (sym (layers.expr_alone e)) tt
at_run s _ _ _ (has.table_converted name e to of value is h co made) = subst (AtRun s) (sym (layers.expr_alone (ov.Element (ev.Named name (e ∷ []))))) tt
at_run s _ _ _ (has.run operator a b es of values value h al choice r) = subst (AtRun s) (sym (layers.expr_run operator a b es)) (of, values, h, al)
at_run s _ _ _ (has.pair a operator b of values value is h al choice r) = subst (AtRun s) (sym (layers.expr_pair a operator b)) tt
at_run s _ _ _ (has.shift a operator b means of by left count value is h n g an made) = subst (AtRun s) (sym (layers.expr_pair a operator b)) tt
at_run s _ _ _ (has.front operator means e of inner value is never h tk made) = subst (AtRun s) (sym (layers.expr_applied operator e)) tt
at_run s _ _ _ (has.negative i of base value n is) = subst (AtRun s) (sym (layers.expr_applied mo.Negate (ov.Literal (l.Decimal i)))) tt
at_run s _ _ _ (has.size e of inner value parts h is count) = subst (AtRun s) (sym (layers.expr_applied mo.Size e)) tt
at_run s _ _ _ (has.converted ds b e inside to of inner value h g i co made) = subst (AtRun s) (sym (layers.expr_converted ds b e)) tt
at_run s _ _ _ (has.array_converted d ds name e inside to of inner value is g i co made) = subst (AtRun s) (sym (layers.expr_array_converted d ds name e)) tt
at_run s _ _ _ (has.named_converted name e inside to of inner value is g i co made) = subst (AtRun s) (sym (layers.expr_named name e)) tt
at_run s _ _ _ (has.most end ty to base h n) = subst (AtRun s) (sym (layers.expr_most end ty)) tt

AtTruth : OccType → Operand-F Bounds Builtin Dimension Element Expr NamedOperand Operand TypeForm → Type 0
AtTruth of (Operand-F.Operand::Truth b) = of ≡ t.Primitive p.Bool
AtTruth of (Operand-F.Operand::Element e) = Unit {0}
AtTruth of (Operand-F.Operand::Literal lit) = Unit {0}
AtTruth of (Operand-F.Operand::Decorated lit ty) = Unit {0}
AtTruth of (Operand-F.Parens e) = Unit {0}
AtTruth of (Operand-F.Operand::Table e es) = Unit {0}
AtTruth of (Operand-F.Operand::DecoratedTable e es ty) = Unit {0}
AtTruth of (Operand-F.Operand::Call name es) = Unit {0}

at_truth : (s : Scope) (e : Operand) (of : OccType) (value : Option Value) → OperandHasType s e of value → AtTruth of (out-Operand e)
unfolding AtTruth
at_truth s _ _ _ (has.element e of value h) = subst (AtTruth of) (sym (layers.operand_element e)) tt
at_truth s _ _ _ (has.literal lit of value h) = subst (AtTruth of) (sym (layers.operand_literal lit)) tt
at_truth s _ _ _ (has.decorated lit ty to value h g) = subst (AtTruth to) (sym (layers.operand_decorated lit ty)) tt
at_truth s _ _ _ (has.truth b) = subst (AtTruth (t.Primitive p.Bool)) (sym (layers.operand_truth b)) refl
at_truth s _ _ _ (has.parens e of value h) = subst (AtTruth of) (sym (layers.operand_parens e)) tt
at_truth s _ _ _ (has.decorated_table e es ty to h g) = subst (AtTruth to) (sym (layers.operand_decorated_table e es ty)) tt
at_truth s _ _ _ (has.call name es of value h) = subst (AtTruth of) (sym (layers.operand_call name es)) tt

-- TRUE is of no type that `+` allows
truth_first : (s : Scope) (b : Bool) (es : List Operand) (of : OccType) (values : List (Option Value)) → AreOperands s (ov.Truth b ∷ es) of values → allows c.Arithmetic (base_of of) ≡ true → ⊥
unfolding AtTruth
truth_first s b es of values (has.one_operand _ _ _ own value _ h fit g) al =
    let is : own ≡ t.Primitive p.Bool = subst (AtTruth own) (layers.operand_truth b) (at_truth s (ov.Truth b) own value h) in
    let named = allowed_base c.Arithmetic (base_of of) al in
    let same : of ≡ t.Primitive p.Bool = first_same of own named.0 named.1 fit ∙ is in
    let base : base_of of ≡ Some p.Bool = ap base_of same ∙ ap as_primitive (unnamed_of_primitive p.Bool) ∙ as_primitive_at_primitive p.Bool in
    cc (base, al)

pub truth_sum : (s : Scope) (of : OccType) (value : Option Value) → HasType s (xv.Run ro.Add (ov.Truth true) (ov.Literal (l.Decimal 1)) []) of value → ⊥
unfolding AtRun
truth_sum s of value h =
    let x = subst (AtRun s) (layers.expr_run ro.Add (ov.Truth true) (ov.Literal (l.Decimal 1)) []) (at_run s (xv.Run ro.Add (ov.Truth true) (ov.Literal (l.Decimal 1)) []) of value h) in
    truth_first s true (ov.Literal (l.Decimal 1) ∷ []) x.0 x.1 x.2 x.3
