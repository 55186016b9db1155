-- What type an expression has in a scope, and its value where it is constant: one case for each form. It has none where the language
-- has a fault in it. What is free has each number's type that fits it. A table has no type by itself: it takes one where one is
-- wanted (`Takes`) or none is (`StandsAlone`).
use Rattle.std.specs.Prelude.{◌≡◌, ℕ, ℤ, nat_le, pos, ◌-ℤ◌, Bool, true, false, Option, Some, None, List, [], ◌∷◌, length}
use Rattle.occ_types.specs.Constant.{folded_one, number_of, number_value, pattern_value, value_of}
use Rattle.occ_types.specs.Fits.{alike, counts_fit, fits, is_data, unnamed}
use Rattle.occ_types.specs.View.{as_array, as_primitive, fields_in, is_unknown}
use Rattle.occ_types.specs.declared.constant.Monadic.{Monadic}
use Rattle.occ_types.specs.declared.constant.Operator.{Operator}
use Rattle.occ_types.specs.declared.interface.Formal.{Formal}
use Rattle.occ_types.specs.declared.types.Field.{Field}
use Rattle.occ_types.specs.declared.types.Item.TheVariants as item
use Rattle.occ_types.specs.declared.types.OccType.{OccType}
use Rattle.occ_types.specs.declared.types.OccType.TheVariants as t
use Rattle.occ_types.specs.declared.types.Protocol.{Protocol}
use Rattle.occ_types.specs.declared.types.Protocol.TheVariants as protocol
use Rattle.occ_types.specs.declared.value.Primitive.{Primitive}
use Rattle.occ_types.specs.declared.value.Primitive.TheVariants as p
use Rattle.occ_types.specs.declared.value.Value.{Value}
use Rattle.occ_types.specs.declared.value.Value.TheVariants as v
use Rattle.occ_scope.specs.Visible.{visible}
use Rattle.occ_scope.specs.declared.meaning.Meaning.TheVariants as meaning
use Rattle.occ_scope.specs.declared.meaning.Whole.{Whole}
use Rattle.occ_scope.specs.declared.scope.Scope.{Scope}
use Rattle.occ_typing_operands.specs.Operators.{allows, class_of, given, is_arithmetic, is_there, takes}
use Rattle.occ_typing_operands.specs.Parts.{field_named, is_constant_outside}
use Rattle.occ_typing_operands.specs.Settling.{base_of, int, number}
use Rattle.occ_typing_operands.specs.Wanting.{converts}
use Rattle.occ_typing_tables.specs.Extents.{is_too_large}
use Rattle.occ_typing_tables.specs.Merging.{merged}
use Rattle.occ_typing_tables.specs.Segments.{count_of, is_beyond, is_negative, number_in, to_the_end}
use Rattle.occ_forms_expressions.specs.declared.tree.Bounds.{Bounds}
use Rattle.occ_forms_expressions.specs.declared.tree.Bounds.TheVariants as bounds
use Rattle.occ_forms_expressions.specs.declared.tree.Builtin.{Builtin}
use Rattle.occ_forms_expressions.specs.declared.tree.Builtin.TheVariants as builtin
use Rattle.occ_forms_expressions.specs.declared.tree.ChannelWords.{ChannelWords}
use Rattle.occ_forms_expressions.specs.declared.tree.DataBase.{DataBase}
use Rattle.occ_forms_expressions.specs.declared.tree.DataBase.TheVariants as base
use Rattle.occ_forms_expressions.specs.declared.tree.Dimension.{Dimension}
use Rattle.occ_forms_expressions.specs.declared.tree.Dimension.TheVariants as dimension
use Rattle.occ_forms_expressions.specs.declared.tree.Element.{Element}
use Rattle.occ_forms_expressions.specs.declared.tree.Element.TheVariants as el
use Rattle.occ_forms_expressions.specs.declared.tree.Expr.{Expr}
use Rattle.occ_forms_expressions.specs.declared.tree.Expr.TheVariants as x
use Rattle.occ_forms_expressions.specs.declared.tree.Extreme.{Extreme}
use Rattle.occ_forms_expressions.specs.declared.tree.Literal.{Literal}
use Rattle.occ_forms_expressions.specs.declared.tree.Literal.TheVariants as l
use Rattle.occ_forms_expressions.specs.declared.tree.MonadicOperator.{MonadicOperator}
use Rattle.occ_forms_expressions.specs.declared.tree.MonadicOperator.TheVariants as mo
use Rattle.occ_forms_expressions.specs.declared.tree.NamedOperand.{NamedOperand}
use Rattle.occ_forms_expressions.specs.declared.tree.NamedOperand.TheVariants as n
use Rattle.occ_forms_expressions.specs.declared.tree.Operand.{Operand}
use Rattle.occ_forms_expressions.specs.declared.tree.Operand.TheVariants as o
use Rattle.occ_forms_expressions.specs.declared.tree.PairOperator.{PairOperator}
use Rattle.occ_forms_expressions.specs.declared.tree.PairOperator.TheVariants as po
use Rattle.occ_forms_expressions.specs.declared.tree.PrimitiveWord.{PrimitiveWord}
use Rattle.occ_forms_expressions.specs.declared.tree.RunOperator.{RunOperator}
use Rattle.occ_forms_expressions.specs.declared.tree.TypeForm.{TypeForm}
use Rattle.occ_forms_expressions.specs.declared.tree.TypeForm.TheVariants as form
use Rattle.occ_expr_operations.specs.Operations.{pair_operator, run_operator}
use Rattle.occ_expr_operations.specs.Written.{primitive_of}
use Rattle.occ_types.specs.declared.constant.Operator.TheVariants as op
use Rattle.occ_has_type.specs.Free.{are_free, is_free, is_free_named, is_free_operand, is_integer}
use Rattle.occ_has_type.specs.Trees.{digits_in, end_of, front_operator, name_alone}
use Rattle.occ_has_type.specs.Values.{IsCast, IsCount, IsMade, IsRun, IsShifted}

-- ---- literals

-- a type is an integer type or BYTE, or named over this one
abbrev pub IsNumber : OccType → Primitive → Type 0
IsNumber of base = number (base_of of) ≡ Some base

abbrev pub byte : OccType
byte = t.Primitive p.Byte

-- an array of so many components, which are data, that is not too large
pub record IsArray (count : ℕ) (of : OccType) : Type 0 where
  pub data_inside : is_data of ≡ true
  pub counted : nat_le count 4294967295 ≡ true
  pub small : is_too_large (t.Array (Some count) of) ≡ false

pub data LiteralHasType : Literal → OccType → Option Value → Type 0 where
  decimal : (i : ℕ) (of : OccType) (base : Primitive) (value : Value) → IsNumber of base → number_value base (pos i) ≡ Some value → LiteralHasType (l.Decimal i) of (Some value)
  hexadecimal : (i : ℕ) (of : OccType) (base : Primitive) (value : Value) → IsNumber of base → pattern_value base i ≡ Some value → LiteralHasType (l.Hexadecimal i) of (Some value)
  character : (b : ℕ) → LiteralHasType (l.Character b) byte (Some (v.Byte b))
  string : (bytes : List ℕ) → IsArray (length bytes) byte → LiteralHasType (l.String bytes) (t.Array (Some (length bytes)) byte) None

-- with its type after it: an integer has to fit the type; the type of a character or a string is alike it
pub data DecoratedHasType : Literal → OccType → Option Value → Type 0 where
  integer : (lit : Literal) (to : OccType) (value : Option Value) → is_integer lit ≡ true → LiteralHasType lit to value → DecoratedHasType lit to value
  text : (lit : Literal) (to of : OccType) (value : Option Value) → is_integer lit ≡ false → LiteralHasType lit of value → alike to of ≡ true → DecoratedHasType lit to value

-- ---- operators

-- a shift, which takes no part in the type of its operands
abbrev pub shift_operator : PairOperator → Option Operator
shift_operator po.ShiftLeft = Some op.ShiftLeft
shift_operator po.ShiftRight = Some op.ShiftRight
shift_operator _ = None

-- the operand is no integer in decimal digits behind `-`, with which it would be one literal
abbrev pub IsNoNegative : MonadicOperator → Operand → Type 0
IsNoNegative operator e = operator ≡ mo.Negate → digits_in e ≡ None

-- operands that are all free are INT, but under an arithmetic or bit operator
abbrev pub IsChosen : Bool → Operator → OccType → Type 0
IsChosen free operator of = free ≡ true → is_arithmetic (class_of operator) ≡ false → of ≡ int

-- nothing is wanted of it: what is free is an INT
abbrev pub IsAlone : Bool → OccType → Type 0
IsAlone free of = free ≡ true → of ≡ int

-- ---- tables

-- an expression, an operand that is a table without a type after it, perhaps in parentheses, and its items
mutual
  pub data IsTableExpr : Expr → List Expr → Type 0 where
    table_alone : (e : Operand) (es : List Expr) → IsTableOperand e es → IsTableExpr (x.Alone e) es

  pub data IsTableOperand : Operand → List Expr → Type 0 where
    table_itself : (e : Expr) (es : List Expr) → IsTableOperand (o.Table e es) (e ∷ es)
    table_in_parens : (e : Expr) (es : List Expr) → IsTableExpr e es → IsTableOperand (o.Parens e) es

-- the one type of several that fit one another: a number of components that one leaves unknown is that of another
abbrev pub merged_with : Option OccType → List OccType → Option OccType
merged_with of [] = of
merged_with None (u ∷ us) = None
merged_with (Some of) (u ∷ us) = merged_with (merged of u) us

abbrev pub agreed : List OccType → Option OccType
agreed [] = None
agreed (of ∷ us) = merged_with (Some of) (of ∷ us)

-- ---- types that are written

-- the outermost number first
abbrev pub arrays : List ℕ → OccType → OccType
arrays [] of = of
arrays (n ∷ ns) of = t.Array (Some n) (arrays ns of)

abbrev pub values_channel : OccType → OccType
values_channel of = t.Channel (protocol.Sequence (item.Value of ∷ []))

mutual
  -- ---- expressions

  pub data HasType (s : Scope) : Expr → OccType → Option Value → Type 0 where
    operand : (e : Operand) (of : OccType) (value : Option Value) → OperandHasType s e of value → HasType s (x.Alone e) of value
    -- `n [e]`, of a data type n: the conversion of a table of one item
    table_converted : (name : List ℕ) (e : Expr) (to of : OccType) (value : Option Value) → visible s name ≡ Some (meaning.Type (Some to)) → IsTableAlone s (e ∷ []) of
        → converts to of ≡ true → IsCast (base_of to) None value → HasType s (x.Alone (o.Element (el.Named name (e ∷ [])))) to value
    -- operands of one type, which the operator takes
    run : (operator : RunOperator) (a b : Operand) (es : List Operand) (of : OccType) (values : List (Option Value)) (value : Option Value)
        → AreOperands s (a ∷ b ∷ es) of values → allows (class_of (run_operator operator)) (base_of of) ≡ true → IsChosen (are_free (a ∷ b ∷ es)) (run_operator operator) of
        → IsRun (run_operator operator) values value → HasType s (x.Run operator a b es) (given (class_of (run_operator operator)) of) value
    pair : (a : Operand) (operator : PairOperator) (b : Operand) (of : OccType) (values : List (Option Value)) (value : Option Value) → shift_operator operator ≡ None
        → AreOperands s (a ∷ b ∷ []) of values → allows (class_of (pair_operator operator)) (base_of of) ≡ true → IsChosen (are_free (a ∷ b ∷ [])) (pair_operator operator) of
        → IsRun (pair_operator operator) values value → HasType s (x.Pair a operator b) (given (class_of (pair_operator operator)) of) value
    -- the left operand is a number, the count an INT
    shift : (a : Operand) (operator : PairOperator) (b : Operand) (means : Operator) (of by : OccType) (left count value : Option Value) → shift_operator operator ≡ Some means
        → OperandHasType s a of left → is_there (number (base_of of)) ≡ true → OperandHasType s b by count → as_primitive by ≡ Some p.Int
        → IsShifted means left count value → HasType s (x.Pair a operator b) of value
    front : (operator : MonadicOperator) (means : Monadic) (e : Operand) (of : OccType) (operand value : Option Value) → front_operator operator ≡ Some means
        → IsNoNegative operator e → OperandHasType s e of operand → takes means (base_of of) ≡ true → IsMade (folded_one means) operand value → HasType s (x.Applied operator e) of value
    -- `-` and an integer in decimal digits are one literal
    negative : (i : ℕ) (of : OccType) (base : Primitive) (value : Value) → IsNumber of base → number_value base (pos 0 -ℤ pos i) ≡ Some value
        → HasType s (x.Applied mo.Negate (o.Literal (l.Decimal i))) of (Some value)
    -- the number of components of an array, perhaps under names
    size : (e : Operand) (of : OccType) (inner value : Option Value) (parts : Option ℕ × OccType) → OperandAlone s e of inner → as_array (unnamed of) ≡ Some parts
        → IsCount parts.0 value → HasType s (x.Applied mo.Size e) int value
    converted : (ds : List Dimension) (b : Builtin) (e : Operand) (inside to of : OccType) (inner value : Option Value) → IsBuiltin s b inside → IsArrayOf s ds inside to
        → OperandAlone s e of inner → converts to of ≡ true → IsCast (base_of to) inner value → HasType s (x.Converted ds b e) to value
    array_converted : (d : Dimension) (ds : List Dimension) (name : List ℕ) (e : Operand) (inside to of : OccType) (inner value : Option Value)
        → visible s name ≡ Some (meaning.Type (Some inside)) → IsArrayOf s (d ∷ ds) inside to
        → OperandAlone s e of inner → converts to of ≡ true → IsCast (base_of to) inner value → HasType s (x.ArrayConverted d ds name e) to value
    named_converted : (name : List ℕ) (e : NamedOperand) (inside to of : OccType) (inner value : Option Value) → visible s name ≡ Some (meaning.Type (Some inside)) → IsArrayOf s [] inside to
        → NamedAlone s e of inner → converts to of ≡ true → IsCast (base_of to) inner value → HasType s (x.Named name e) to value
    -- the greatest or the least value of a number's type
    most : (end : Extreme) (ty : TypeForm) (to : OccType) (base : Primitive) → IsWritten s ty to → IsNumber to base → HasType s (x.Most end ty) to (Some (value_of base (end_of end base)))

  -- ---- operands

  pub data OperandHasType (s : Scope) : Operand → OccType → Option Value → Type 0 where
    element : (e : Element) (of : OccType) (value : Option Value) → ElementHasType s e of value → OperandHasType s (o.Element e) of value
    literal : (lit : Literal) (of : OccType) (value : Option Value) → LiteralHasType lit of value → OperandHasType s (o.Literal lit) of value
    decorated : (lit : Literal) (ty : TypeForm) (to : OccType) (value : Option Value) → IsWritten s ty to → DecoratedHasType lit to value → OperandHasType s (o.Decorated lit ty) to value
    truth : (b : Bool) → OperandHasType s (o.Truth b) (t.Primitive p.Bool) (Some (v.Bool b))
    parens : (e : Expr) (of : OccType) (value : Option Value) → HasType s e of value → OperandHasType s (o.Parens e) of value
    decorated_table : (e : Expr) (es : List Expr) (ty : TypeForm) (to : OccType) → IsWritten s ty to → IsTableOf s (e ∷ es) to → OperandHasType s (o.DecoratedTable e es ty) to None
    call : (name : List ℕ) (es : List Expr) (of : OccType) (value : Option Value) → CallHasType s name es of value → OperandHasType s (o.Call name es) of value

  -- an operand after the name of a type
  pub data NamedHasType (s : Scope) : NamedOperand → OccType → Option Value → Type 0 where
    named_element : (e : Element) (of : OccType) (value : Option Value) → ElementHasType s e of value → NamedHasType s (n.Element e) of value
    named_literal : (lit : Literal) (of : OccType) (value : Option Value) → LiteralHasType lit of value → NamedHasType s (n.Literal lit) of value
    named_decorated : (lit : Literal) (ty : TypeForm) (to : OccType) (value : Option Value) → IsWritten s ty to → DecoratedHasType lit to value → NamedHasType s (n.Decorated lit ty) to value
    named_truth : (b : Bool) → NamedHasType s (n.Truth b) (t.Primitive p.Bool) (Some (v.Bool b))
    named_decorated_table : (e : Expr) (es : List Expr) (ty : TypeForm) (to : OccType) → IsWritten s ty to → IsTableOf s (e ∷ es) to → NamedHasType s (n.DecoratedTable e es ty) to None
    named_call : (name : List ℕ) (es : List Expr) (of : OccType) (value : Option Value) → CallHasType s name es of value → NamedHasType s (n.Call name es) of value

  -- operands of this type, and their values
  pub data AreOperands (s : Scope) : List Operand → OccType → List (Option Value) → Type 0 where
    no_operand : (of : OccType) → AreOperands s [] of []
    one_operand : (e : Operand) (es : List Operand) (of own : OccType) (value : Option Value) (values : List (Option Value))
        → OperandHasType s e own value → fits of own ≡ true → AreOperands s es of values → AreOperands s (e ∷ es) of (value ∷ values)

  -- ---- elements

  pub data ElementHasType (s : Scope) : Element → OccType → Option Value → Type 0 where
    named : (name : List ℕ) (es : List Expr) (whole : Whole) (of : OccType) (value : Option Value)
        → visible s name ≡ Some (meaning.Element whole) → Selects s es whole.of whole.value of value → ElementHasType s (el.Named name es) of value
    -- an array without a name, of as many components as the count says
    segment : (e : Element) (b : Bounds) (es : List Expr) (whole of : OccType) (inner value : Option Value) (parts : Option ℕ × OccType) (from count : Option ℤ)
        → ElementHasType s e whole inner → as_array (unnamed whole) ≡ Some parts → HasBounds s parts.0 b from count
        → is_negative count ≡ false → is_beyond parts.0 from count ≡ false
        → Selects s es (t.Array (count_of count) parts.1) None of value → ElementHasType s (el.Segment e b es) of value

  -- of a value of a type, subscripts select one of another type
  pub data Selects (s : Scope) : List Expr → OccType → Option Value → OccType → Option Value → Type 0 where
    whole : (of : OccType) (value : Option Value) → Selects s [] of value of value
    -- a component of an array, perhaps under names: the place is an INT, and in the array if it is constant
    component : (e : Expr) (es : List Expr) (from of : OccType) (inner place value : Option Value) (parts : Option ℕ × OccType)
        → as_array (unnamed from) ≡ Some parts → HasType s e int place → is_constant_outside parts.0 place ≡ false
        → Selects s es parts.1 None of value → Selects s (e ∷ es) from inner of value
    -- of a record a name selects its field
    field : (name : List ℕ) (es : List Expr) (from found of : OccType) (inner value : Option Value) (fields : List Field)
        → fields_in (unnamed from) ≡ Some fields → field_named name fields ≡ Some found → is_unknown found ≡ false
        → Selects s es found None of value → Selects s (name_alone name ∷ es) from inner of value

  -- of an array of so many components: where a segment begins and how many it takes, as far as that is constant; all are INTs
  pub data HasBounds (s : Scope) : Option ℕ → Bounds → Option ℤ → Option ℤ → Type 0 where
    from : (n : Option ℕ) (e : Expr) (value : Option Value) → HasType s e int value → HasBounds s n (bounds.From e) (number_in value) (to_the_end n (number_in value))
    so_many : (n : Option ℕ) (e : Expr) (value : Option Value) → HasType s e int value → HasBounds s n (bounds.For e) (Some (pos 0)) (number_in value)
    from_so_many : (n : Option ℕ) (e f : Expr) (value count : Option Value) → HasType s e int value → HasType s f int count → HasBounds s n (bounds.FromFor e f) (number_in value) (number_in count)

  -- ---- calls

  pub data CallHasType (s : Scope) : List ℕ → List Expr → OccType → Option Value → Type 0 where
    -- of a FUNCTION: the actuals are of the types of the formals, and it is of its one result's
    function : (name : List ℕ) (es : List Expr) (formals : List Formal) (result : OccType) → visible s name ≡ Some (meaning.Function formals (result ∷ []))
        → AreActuals s es formals → CallHasType s name es result None
    -- of a data type: a conversion
    conversion : (name : List ℕ) (e : Expr) (to of : OccType) (inner value : Option Value) → visible s name ≡ Some (meaning.Type (Some to))
        → StandsAlone s e of inner → converts to of ≡ true → IsCast (base_of to) inner value → CallHasType s name (e ∷ []) to value

  pub data AreActuals (s : Scope) : List Expr → List Formal → Type 0 where
    no_actual : AreActuals s [] []
    one_actual : (e : Expr) (es : List Expr) (f : Formal) (formals : List Formal) (of : OccType) (value : Option Value)
        → Takes s e f.of of value → AreActuals s es formals → AreActuals s (e ∷ es) (f ∷ formals)

  -- ---- where a type is wanted, and where none is

  -- a table takes the type of its components from an array without a name
  pub data Takes (s : Scope) : Expr → OccType → OccType → Option Value → Type 0 where
    fitting : (e : Expr) (to of : OccType) (value : Option Value) → HasType s e of value → fits to of ≡ true → Takes s e to of value
    table_taking : (e : Expr) (es : List Expr) (to of : OccType) (parts : Option ℕ × OccType) → IsTableExpr e es → as_array to ≡ Some parts → IsTable s es parts.1 of → fits to of ≡ true → Takes s e to of None

  -- what is free is an INT then
  pub data StandsAlone (s : Scope) : Expr → OccType → Option Value → Type 0 where
    by_itself : (e : Expr) (of : OccType) (value : Option Value) → HasType s e of value → IsAlone (is_free e) of → StandsAlone s e of value
    table_by_itself : (e : Expr) (es : List Expr) (of : OccType) → IsTableExpr e es → IsTableAlone s es of → StandsAlone s e of None

  pub data OperandAlone (s : Scope) : Operand → OccType → Option Value → Type 0 where
    operand_by_itself : (e : Operand) (of : OccType) (value : Option Value) → OperandHasType s e of value → IsAlone (is_free_operand e) of → OperandAlone s e of value
    operand_table : (e : Operand) (es : List Expr) (of : OccType) → IsTableOperand e es → IsTableAlone s es of → OperandAlone s e of None

  pub data NamedAlone (s : Scope) : NamedOperand → OccType → Option Value → Type 0 where
    named_by_itself : (e : NamedOperand) (of : OccType) (value : Option Value) → NamedHasType s e of value → IsAlone (is_free_named e) of → NamedAlone s e of value
    named_table : (e f : Expr) (es : List Expr) (of : OccType) → IsTableAlone s (e ∷ f ∷ es) of → NamedAlone s (n.Table e f es) of None

  -- ---- tables

  -- n items of which this type is wanted are `[n]` of their one type
  pub data IsTable (s : Scope) : List Expr → OccType → OccType → Type 0 where
    table_of : (es : List Expr) (to : OccType) (types : List OccType) (of : OccType) → AreItems s es to types → agreed types ≡ Some of → IsArray (length es) of
        → IsTable s es to (t.Array (Some (length es)) of)

  pub data AreItems (s : Scope) : List Expr → OccType → List OccType → Type 0 where
    no_item : (to : OccType) → AreItems s [] to []
    one_item : (e : Expr) (es : List Expr) (to of : OccType) (value : Option Value) (types : List OccType) → Takes s e to of value → AreItems s es to types → AreItems s (e ∷ es) to (of ∷ types)

  -- no type is wanted: the items take that of the first one
  pub data IsTableAlone (s : Scope) : List Expr → OccType → Type 0 where
    table_of_first : (es : List Expr) (to of : OccType) → IsFirst s es to → IsTable s es to of → IsTableAlone s es of

  -- the type of the first item that is not free, which stands alone; INT if all are free
  pub data IsFirst (s : Scope) : List Expr → OccType → Type 0 where
    none_first : IsFirst s [] int
    free_first : (e : Expr) (es : List Expr) (to : OccType) → is_free e ≡ true → IsFirst s es to → IsFirst s (e ∷ es) to
    typed_first : (e : Expr) (es : List Expr) (to : OccType) (value : Option Value) → is_free e ≡ false → StandsAlone s e to value → IsFirst s (e ∷ es) to

  -- with its type after it: as many components as the type has, or the values of the fields of a record in their order
  pub data IsTableOf (s : Scope) : List Expr → OccType → Type 0 where
    components : (es : List Expr) (to : OccType) (parts : Option ℕ × OccType) → as_array (unnamed to) ≡ Some parts → AreAll s es parts.1
        → counts_fit parts.0 (Some (length es)) ≡ true → IsTableOf s es to
    values : (es : List Expr) (to : OccType) (fields : List Field) → as_array (unnamed to) ≡ None → fields_in (unnamed to) ≡ Some fields → AreFields s es fields → IsTableOf s es to

  pub data AreAll (s : Scope) : List Expr → OccType → Type 0 where
    no_component : (of : OccType) → AreAll s [] of
    one_component : (e : Expr) (es : List Expr) (of own : OccType) (value : Option Value) → Takes s e of own value → AreAll s es of → AreAll s (e ∷ es) of

  pub data AreFields (s : Scope) : List Expr → List Field → Type 0 where
    no_field : AreFields s [] []
    one_field : (e : Expr) (es : List Expr) (f : Field) (fields : List Field) (of : OccType) (value : Option Value)
        → is_unknown f.of ≡ false → Takes s e f.of of value → AreFields s es fields → AreFields s (e ∷ es) (f ∷ fields)

  -- ---- types that are written

  pub data IsWritten (s : Scope) : TypeForm → OccType → Type 0 where
    named_type : (ds : List Dimension) (name : List ℕ) (inside to : OccType) → visible s name ≡ Some (meaning.Type (Some inside)) → IsArrayOf s ds inside to → IsWritten s (form.Named ds name) to
    builtin_type : (ds : List Dimension) (b : Builtin) (inside to : OccType) → IsBuiltin s b inside → IsArrayOf s ds inside to → IsWritten s (form.Builtin ds b) to

  -- with these dimensions, and not too large
  pub data IsArrayOf (s : Scope) : List Dimension → OccType → OccType → Type 0 where
    array_of : (ds : List Dimension) (inside : OccType) (ns : List ℕ) → AreSizes s ds ns → is_too_large (arrays ns inside) ≡ false → IsArrayOf s ds inside (arrays ns inside)

  -- a size is a constant INT that is not negative
  pub data AreSizes (s : Scope) : List Dimension → List ℕ → Type 0 where
    no_size : AreSizes s [] []
    one_size : (e : Expr) (ds : List Dimension) (value : Value) (n : ℕ) (ns : List ℕ) → HasType s e int (Some value) → number_of value ≡ pos n
        → nat_le n 4294967295 ≡ true → AreSizes s ds ns → AreSizes s (dimension.Sized e ∷ ds) (n ∷ ns)

  pub data IsBuiltin (s : Scope) : Builtin → OccType → Type 0 where
    primitive : (w : PrimitiveWord) → IsBuiltin s (builtin.Primitive w) (t.Primitive (primitive_of w))
    timer : IsBuiltin s builtin.Timer t.Timer
    any_channel : (words : ChannelWords) → IsBuiltin s (builtin.AnyChannel words) (t.Channel protocol.Any)
    channel_of_name : (words : ChannelWords) (name : List ℕ) (of : OccType) → visible s name ≡ Some (meaning.Type (Some of))
        → IsBuiltin s (builtin.Channel words [] (base.Named name)) (values_channel of)
    channel_of_protocol : (words : ChannelWords) (name : List ℕ) (c : Protocol) → visible s name ≡ Some (meaning.Protocol c)
        → IsBuiltin s (builtin.Channel words [] (base.Named name)) (t.Channel c)
    channel : (words : ChannelWords) (ds : List Dimension) (b : DataBase) (of : OccType) → IsData s ds b of → IsBuiltin s (builtin.Channel words ds b) (values_channel of)
    -- `t::[]u`: t is a number's type without a name
    counted : (words : ChannelWords) (ds es : List Dimension) (b c : DataBase) (count of : OccType) (primitive : Primitive) → IsData s ds b count → number (as_primitive count) ≡ Some primitive
        → IsData s es c of → IsBuiltin s (builtin.Counted words ds b es c) (t.Channel (protocol.Sequence (item.Counted primitive of ∷ [])))

  pub data IsData (s : Scope) : List Dimension → DataBase → OccType → Type 0 where
    named_data : (ds : List Dimension) (name : List ℕ) (inside to : OccType) → visible s name ≡ Some (meaning.Type (Some inside)) → IsArrayOf s ds inside to → IsData s ds (base.Named name) to
    primitive_data : (ds : List Dimension) (w : PrimitiveWord) (to : OccType) → IsArrayOf s ds (t.Primitive (primitive_of w)) to → IsData s ds (base.Primitive w) to
