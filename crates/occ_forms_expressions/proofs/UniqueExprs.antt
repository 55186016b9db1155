-- Two readings of the same tokens are one: expressions, by induction on the number of tokens.
use Rattle.std.proofs.Common.{◌≡◌, ◌<◌, ◌+◌, ◌&&◌, ◌∙◌, refl, sym, ap, subst, not, ℕ, zero, suc, Bool, true, false, List, [], ◌∷◌, length, Option, Some, None, arith}
use Rattle.occ_lines.specs.declared.token.Token.{Token}
use Rattle.occ_lines.specs.declared.token.Token.TheVariants as t
use Rattle.occ_lines.specs.declared.token.Symbol.TheVariants as s
use Rattle.occ_lines.specs.declared.token.Word.TheVariants as w
use Rattle.occ_forms_expressions.specs.declared.begin.Begin.{Begin}
use Rattle.occ_forms_expressions.specs.declared.begin.Begin.TheVariants as be
use Rattle.occ_forms_expressions.specs.declared.bracket.Closing.{Closing}
use Rattle.occ_forms_expressions.specs.declared.bracket.Closing.TheVariants as cl
use Rattle.occ_forms_expressions.specs.declared.operator.Dyadic.TheVariants as dy
use Rattle.occ_forms_expressions.specs.declared.tail.Tail.{Tail}
use Rattle.occ_forms_expressions.specs.declared.tail.Tail.TheVariants as ta
use Rattle.occ_forms_expressions.specs.declared.tree.Builtin.{Builtin}
use Rattle.occ_forms_expressions.specs.declared.tree.DataForm.{DataForm}
use Rattle.occ_forms_expressions.specs.declared.tree.Dimension.{Dimension}
use Rattle.occ_forms_expressions.specs.declared.tree.Element.{Element}
use Rattle.occ_forms_expressions.specs.declared.tree.Expr.{Expr}
use Rattle.occ_forms_expressions.specs.declared.tree.Expr.TheVariants as xv
use Rattle.occ_forms_expressions.specs.declared.tree.Extreme.{Extreme}
use Rattle.occ_forms_expressions.specs.declared.tree.Extreme.TheVariants as ex
use Rattle.occ_forms_expressions.specs.declared.tree.MonadicOperator.{MonadicOperator}
use Rattle.occ_forms_expressions.specs.declared.tree.MonadicOperator.TheVariants as mo
use Rattle.occ_forms_expressions.specs.declared.tree.NamedOperand.{NamedOperand}
use Rattle.occ_forms_expressions.specs.declared.tree.Operand.{Operand}
use Rattle.occ_forms_expressions.specs.declared.tree.Operand.TheVariants as ov
use Rattle.occ_forms_expressions.specs.declared.tree.PrimitiveWord.{PrimitiveWord}
use Rattle.occ_forms_expressions.specs.declared.tree.PrimitiveWord.TheVariants as pr
use Rattle.occ_forms_expressions.specs.declared.tree.RunOperator.{RunOperator}
use Rattle.occ_forms_expressions.specs.declared.tree.TypeForm.{TypeForm}
use Rattle.occ_forms_expressions.specs.inside.Brackets.{IsBracketed, bounds_begin, closing_then, narrow_of}
use Rattle.occ_forms_expressions.specs.inside.Parts.{extreme_of, monadic_of}
use Rattle.occ_forms_expressions.specs.Reading.{IsAfter, IsEnd, IsEndOfRun, IsNot, IsNotCounted, begin_of, ends_operand, ends_run, is_counted}
use Rattle.occ_forms_expressions.specs.Spelling.{arguments_of, builtin_then, data_form_then, dimension_then, element_then, expr_then, extreme_word, many, monadic_token, named_operand_then, operand_then, operated_of, perhaps_decoration_of, primitive_word, run_token, subscript_of, type_form_then}
use Rattle.occ_forms_expressions.specs.inside.Tails.{joined, tail_then}
use Rattle.occ_forms_expressions.proofs.Begins.{no_expr}
use Rattle.occ_forms_expressions.proofs.Cases.{DimensionIs, ExprIs, dimension_is, dimension_is_open, dimension_is_sized, dimension_open_spells, dimension_sized_spells, expr_alone_spells, expr_applied_spells, expr_array_converted_spells, expr_converted_spells, expr_is, expr_is_alone, expr_is_applied, expr_is_array_converted, expr_is_converted, expr_is_most, expr_is_named, expr_is_pair, expr_is_run, expr_most_spells, expr_named_spells, expr_pair_spells, expr_run_spells}
use Rattle.occ_forms_expressions.proofs.Closings.{bounds_begins, closing_ends}
use Rattle.occ_forms_expressions.proofs.Dimensions.{builtin_ends, builtin_no_name, dimension_begins, name_ends}
use Rattle.occ_forms_expressions.proofs.Inner.{inner_builtin, inner_dimension, inner_operand, inner_operated}
use Rattle.occ_forms_expressions.proofs.Lists.{Anything}
use Rattle.occ_forms_expressions.proofs.Named.{no_call}
use Rattle.occ_forms_expressions.proofs.Narrow.{narrow_one, narrow_parens}
use Rattle.occ_forms_expressions.proofs.Operands.{OperandAt, at_bracket, at_call, at_element, at_parens, no_operand, operand_at}
use Rattle.occ_forms_expressions.proofs.Tailed.{cut, dyadic_no_end, end_after, nothing_only, operator_within, pair_only, run_no_end_at, run_only, tail_after}
use Rattle.occ_forms_expressions.proofs.Unique.{Below, ExprBelow, after_below, fewer, left_below, list_grows, one_after, one_many}
use Rattle.occ_forms_expressions.proofs.UniqueOperands.{arguments_first, one_element_below, one_named_operand_below, one_operand_below, operand_first, same_name, wide}
use Rattle.occ_forms_expressions.proofs.UniqueTypes.{BuiltinAt, TypeApart, at_channel, at_primitive, at_timer, builtin_at, chan_first, one_builtin_below, one_data_form_below, one_dimension, one_dimensions, one_type_apart, one_type_form_below, plain_type}

-- what ends an expression ends a run, and is not counted
parts : (a b : Bool) → (a && not b) ≡ true → (a ≡ true) × (b ≡ false)
parts true false e = (refl, refl)
parts true true e = absurd cc
parts false b e = absurd cc

pub end_of_run : (k : List Token) → IsEnd k → IsEndOfRun k
end_of_run k ends = (parts (ends_run k) (is_counted k) ends).0

pub end_no_count : (k : List Token) → IsEnd k → IsNotCounted k
end_no_count k ends = (parts (ends_run k) (is_counted k) ends).1

pub end_of_operand : (k : List Token) → IsEnd k → IsAfter k
end_of_operand k ends = end_after k (end_of_run k ends)

-- operands after their operators
one_operateds : (n : ℕ) → ExprBelow n → (op : RunOperator) → Below (many (operated_of op)) IsEndOfRun (n + 1)
one_operateds n one op = one_many (operated_of op) IsAfter IsEndOfRun (n + 1) (operator_within op) (inner_operated op) (λ o k ends. run_no_end_at op _ _ refl ends)
    (one_after (run_token op) operand_then IsAfter n (fewer operand_then IsAfter n (one_operand_below n one)))

-- what stands after the first operand
one_tail : (n : ℕ) → ExprBelow n → Below tail_then IsEndOfRun (n + 1)
one_tail n one tokens less ta.Nothing y j k a b e f = let h = nothing_only tokens (λ d l i. dyadic_no_end d tokens l i (subst IsEndOfRun (sym e) a)) y k b f in (h.0, sym e ∙ h.1)
one_tail n one tokens less (ta.Pair op o) y j k a b e f =
    pair_only tokens (operand_then o j) (dy.Pair op) op o j e refl
    (λ p l ends i. one_operand_below n one (operand_then o j) (omega (arith, less, ap length e)) o p j l (end_after j a) ends refl i) y k b f
one_tail n one tokens less (ta.Run op o os) y j k a b e f =
    let left : List Token = many (operated_of op) os j in
    let short : length (operand_then o left) < n + 1 = omega (arith, less, ap length e) in
    run_only tokens (operand_then o left) (dy.Run op) op o left os j e refl
    (λ p l ends i. one_operand_below n one (operand_then o left) short o p left l (operator_within op os j a) ends refl i)
    (λ ps l ends i. one_operateds n one op left (left_below (operand_then o) (operand_then o left) left (n + 1) (inner_operand o) short refl) os ps j l a ends refl i) y k b f

-- with what an expression begins, and its tokens
data ExprAt (tokens k : List Token) (e : Expr) : Begin → Type 0 where
  at_operated : {b : Begin} (o : Operand) (x : Tail) → e ≡ joined o x → tokens ≡ operand_then o (tail_then x k) → ExprAt tokens k e b
  at_applied : (op : MonadicOperator) (o : Operand) → e ≡ xv.Applied op o → tokens ≡ monadic_token op ∷ operand_then o k → ExprAt tokens k e be.Monadic
  at_most : (x : Extreme) (type : TypeForm) → e ≡ xv.Most x type → tokens ≡ t.Word (extreme_word x) ∷ type_form_then type k → ExprAt tokens k e be.Extreme
  at_builtin : (u : Builtin) (o : Operand) → e ≡ xv.Converted [] u o → tokens ≡ builtin_then u (operand_then o k) → ExprAt tokens k e be.Builtin
  at_converted : (d : Dimension) (ds : List Dimension) (u : Builtin) (o : Operand) → e ≡ xv.Converted (d ∷ ds) u o → tokens ≡ many dimension_then (d ∷ ds) (builtin_then u (operand_then o k)) → ExprAt tokens k e be.Bracket
  at_array : (d : Dimension) (ds : List Dimension) (m : List ℕ) (o : Operand) → e ≡ xv.ArrayConverted d ds m o → tokens ≡ many dimension_then (d ∷ ds) (t.Name m ∷ operand_then o k) → ExprAt tokens k e be.Bracket
  at_named : (m : List ℕ) (v : NamedOperand) → e ≡ xv.Named m v → tokens ≡ t.Name m ∷ named_operand_then v k → ExprAt tokens k e be.Name

monadic_begin : (op : MonadicOperator) (k : List Token) → begin_of (monadic_token op ∷ k) ≡ be.Monadic
monadic_begin mo.Negate k = refl
monadic_begin mo.Minus k = refl
monadic_begin mo.BitNot k = refl
monadic_begin mo.BitNotWord k = refl
monadic_begin mo.Not k = refl
monadic_begin mo.Size k = refl

extreme_begin : (x : Extreme) (k : List Token) → begin_of (t.Word (extreme_word x) ∷ k) ≡ be.Extreme
extreme_begin ex.Greatest k = refl
extreme_begin ex.Least k = refl

-- a type of a reserved word is no end, and no bracket stands first
record BeginsType (tokens : List Token) : Type 0 where
  no_end : ends_operand tokens ≡ false
  no_open : IsNot s.Open tokens

primitive_begin : (p : PrimitiveWord) (k : List Token) → (begin_of (t.Word (primitive_word p) ∷ k) ≡ be.Builtin) × BeginsType (t.Word (primitive_word p) ∷ k)
primitive_begin pr.Bool k = (refl, record { no_end = refl; no_open = λ r e. absurd cc })
primitive_begin pr.Byte k = (refl, record { no_end = refl; no_open = λ r e. absurd cc })
primitive_begin pr.Int k = (refl, record { no_end = refl; no_open = λ r e. absurd cc })
primitive_begin pr.Int16 k = (refl, record { no_end = refl; no_open = λ r e. absurd cc })
primitive_begin pr.Int32 k = (refl, record { no_end = refl; no_open = λ r e. absurd cc })
primitive_begin pr.Int64 k = (refl, record { no_end = refl; no_open = λ r e. absurd cc })

abbrev BeginsBuiltin : List Token → Type 0
BeginsBuiltin tokens = (begin_of tokens ≡ be.Builtin) × BeginsType tokens

word_begin : (tokens rest : List Token) → tokens ≡ t.Word w.Chan ∷ rest → BeginsBuiltin tokens
word_begin tokens rest e = subst BeginsBuiltin (sym e) (refl, record { no_end = refl; no_open = λ r i. absurd cc })

builtin_begin : (u : Builtin) (k : List Token) → BeginsBuiltin (builtin_then u k)
builtin_begin u k = by (builtin_at u k (builtin_then u k) refl) where
  by : BuiltinAt (builtin_then u k) k u → BeginsBuiltin (builtin_then u k)
  by (at_primitive p q r) = subst BeginsBuiltin (sym r) (primitive_begin p k)
  by (at_timer q r) = subst BeginsBuiltin (sym r) (refl, record { no_end = refl; no_open = λ l i. absurd cc })
  by (at_channel c x q r) = let h = chan_first c _ in word_begin _ h.0 (r ∙ h.1)

-- what stands after a dimension: another, and at last a type
after_dimension : (ds : List Dimension) (rest : List Token) → BeginsType rest → BeginsType (many dimension_then ds rest)
after_dimension [] rest begins = begins
after_dimension (d ∷ ds) rest begins = let h = dimension_begins d (many dimension_then ds rest) in
    subst BeginsType (sym h.1) (record { no_end = refl; no_open = λ r e. absurd cc })

name_begin : (m : List ℕ) (k : List Token) → BeginsType (t.Name m ∷ k)
name_begin m k = record { no_end = refl; no_open = λ r e. absurd cc }

expr_at : (e : Expr) (k tokens : List Token) (b : Begin) → tokens ≡ expr_then e k → begin_of tokens ≡ b → ExprAt tokens k e b
expr_at e k tokens b is begin = by (expr_is e) where
  spelled : (v : Expr) (read : List Token) → e ≡ v → expr_then v k ≡ read → tokens ≡ read
  spelled v read q r = is ∙ ap (λ (u : Expr). expr_then u k) q ∙ r

  at : (c : Begin) (read : List Token) → tokens ≡ read → begin_of read ≡ c → ExprAt tokens k e c → ExprAt tokens k e b
  at c read q r h = subst (ExprAt tokens k e) (sym r ∙ sym (ap begin_of q) ∙ begin) h

  at_dimension : (d : Dimension) (rest : List Token) → tokens ≡ dimension_then d rest → ExprAt tokens k e be.Bracket → ExprAt tokens k e b
  at_dimension d rest q h = let i = dimension_begins d rest in at be.Bracket (t.Symbol s.OpenIndex ∷ i.0) (q ∙ i.1) refl h

  converted : (ds : List Dimension) (u : Builtin) (o : Operand) → e ≡ xv.Converted ds u o → tokens ≡ many dimension_then ds (builtin_then u (operand_then o k)) → ExprAt tokens k e b
  converted [] u o q r = at be.Builtin (builtin_then u (operand_then o k)) r (builtin_begin u (operand_then o k)).0 (at_builtin u o q r)
  converted (d ∷ ds) u o q r = at_dimension d (many dimension_then ds (builtin_then u (operand_then o k))) r (at_converted d ds u o q r)

  by : ExprIs e → ExprAt tokens k e b
  by (expr_is_alone o q) = at_operated o ta.Nothing q (spelled _ _ q (expr_alone_spells o k))
  by (expr_is_run op g h os q) = at_operated g (ta.Run op h os) q (spelled _ _ q (expr_run_spells op g h os k))
  by (expr_is_pair g op h q) = at_operated g (ta.Pair op h) q (spelled _ _ q (expr_pair_spells g op h k))
  by (expr_is_applied op o q) = let r = spelled _ _ q (expr_applied_spells op o k) in at be.Monadic (monadic_token op ∷ operand_then o k) r (monadic_begin op (operand_then o k)) (at_applied op o q r)
  by (expr_is_converted ds u o q) = converted ds u o q (spelled _ _ q (expr_converted_spells ds u o k))
  by (expr_is_array_converted d ds m o q) = let r = spelled _ _ q (expr_array_converted_spells d ds m o k) in at_dimension d (many dimension_then ds (t.Name m ∷ operand_then o k)) r (at_array d ds m o q r)
  by (expr_is_named m v q) = let r = spelled _ _ q (expr_named_spells m v k) in at be.Name (t.Name m ∷ named_operand_then v k) r refl (at_named m v q r)
  by (expr_is_most x type q) = let r = spelled _ _ q (expr_most_spells x type k) in at be.Extreme (t.Word (extreme_word x) ∷ type_form_then type k) r (extreme_begin x (type_form_then type k)) (at_most x type q r)

-- a bracket that is closed at once
closed_at_once : (c : Closing) (k rest : List Token) → closing_then c k ≡ t.Symbol s.CloseIndex ∷ rest → (type : Option TypeForm) × (c ≡ cl.Items [] type) × (perhaps_decoration_of type k ≡ rest)
closed_at_once (cl.Items [] type) k rest e = (type, refl, (cut _ _ _ _ e).1)
closed_at_once (cl.Items (x ∷ es) type) k rest e = absurd cc
closed_at_once (cl.Segment b es) k rest e = let h : true ≡ false = sym (bounds_begins b (t.Symbol s.CloseIndex ∷ many subscript_of es k)) ∙ ap bounds_begin e in absurd cc

after_no_end : {Z : Type 0} (j k : List Token) → IsAfter j → ends_operand k ≡ false → j ≡ k → Z
after_no_end j k after none e = let h : true ≡ false = sym after ∙ ap ends_operand e ∙ none in absurd cc

-- no operand begins with a dimension of a type
no_dimension_first : (n : ℕ) → ExprBelow n → (tokens : List Token) → length tokens < n + 1 → (o : Operand) (d : Dimension) (j rest : List Token) → IsAfter j → BeginsType rest
    → tokens ≡ operand_then o j → tokens ≡ dimension_then d rest → ⊥
no_dimension_first n one tokens less o d j rest after begins e f = by (operand_at o j tokens be.Bracket e (let h = dimension_begins d rest in ap begin_of (f ∙ h.1))) (dimension_is d) where
  closed : (type : Option TypeForm) → perhaps_decoration_of type j ≡ rest → ⊥
  closed None i = after_no_end j rest after begins.no_end i
  closed (Some type) i = begins.no_open _ (sym i)

  by : OperandAt tokens j o be.Bracket → DimensionIs d → ⊥
  by (at_bracket x c q p) (dimension_is_open r) =
      let h : tokens ≡ t.Symbol s.OpenIndex ∷ t.Symbol s.CloseIndex ∷ rest = f ∙ ap (λ (z : Dimension). dimension_then z rest) r ∙ dimension_open_spells rest in
      no_expr x _ (t.Symbol s.CloseIndex ∷ rest) refl (cut _ _ _ _ (sym h ∙ p)).1
  by (at_bracket x c q p) (dimension_is_sized g r) =
      let h : tokens ≡ subscript_of g rest = f ∙ ap (λ (z : Dimension). dimension_then z rest) r ∙ dimension_sized_spells g rest in
      let m = one (expr_then x (closing_then c j)) (after_below _ tokens _ n less p) x g (closing_then c j) (t.Symbol s.CloseIndex ∷ rest) (closing_ends c j) refl refl (cut _ _ _ _ (sym p ∙ h)).1 in
      let i = closed_at_once c j rest m.1 in
      closed i.0 i.2

-- no name with its subscripts or arguments begins a conversion to a named type
no_named_first : (n : ℕ) → ExprBelow n → (tokens : List Token) → length tokens < n + 1 → (o : Operand) (m : List ℕ) (v : NamedOperand) (j k : List Token) → IsAfter j
    → tokens ≡ operand_then o j → tokens ≡ t.Name m ∷ named_operand_then v k → ⊥
no_named_first n one tokens less o m v j k after e f = by (operand_at o j tokens be.Name e (ap begin_of f)) where
  of : Operand
  of = (wide v).0

  narrows : narrow_of of ≡ Some v
  narrows = (wide v).1.narrows

  not_narrow : (x : Operand) → narrow_of x ≡ None → of ≡ x → ⊥
  not_narrow x none i = let h : Some v ≡ None = sym narrows ∙ ap narrow_of i ∙ none in absurd cc

  following : named_operand_then v k ≡ operand_then of k
  following = (wide v).1.spells k

  at_index : (x : Expr) (xs : List Expr) → length (subscript_of x (many subscript_of xs j)) < n → OperandAt (subscript_of x (many subscript_of xs j)) k of be.Bracket → ⊥
  at_index x xs short (at_bracket y c q p) =
      let rest : List Token = many subscript_of xs j in
      let m = one (expr_then x (t.Symbol s.CloseIndex ∷ rest)) (omega (arith, short)) x y (t.Symbol s.CloseIndex ∷ rest) (closing_then c k) refl (closing_ends c k) refl (cut _ _ _ _ p).1 in
      let i = closed_at_once c k rest (sym m.1) in
      closed i.0 (subst (λ (z : Closing). IsBracketed y z (Some of)) i.1 q) i.2
    where
      closed : (type : Option TypeForm) → IsBracketed y (cl.Items [] type) (Some of) → perhaps_decoration_of type k ≡ many subscript_of xs j → ⊥
      closed None z u = let h : of ≡ ov.Table y [] = (cc) in not_narrow (ov.Table y []) (narrow_one y [] refl) h
      closed (Some type) z u = no_call xs j _ (many subscript_of xs j) after (sym u) refl

  subscripts : (es : List Expr) → length (many subscript_of es j) < n → many subscript_of es j ≡ operand_then of k → ⊥
  subscripts [] short i = after_no_end j (operand_then of k) after (operand_first of k).no_end i
  subscripts (x ∷ xs) short i = at_index x xs short (operand_at of k (subscript_of x (many subscript_of xs j)) be.Bracket i refl)

  parens : (tokens : List Token) → OperandAt tokens k of be.Parens → ⊥
  parens tokens (at_parens x q p) = not_narrow (ov.Parens x) (narrow_parens x) q

  by : OperandAt tokens j o be.Name → ⊥
  by (at_element p es q r) = subscripts es (after_below _ tokens _ n less r) ((cut _ _ _ _ (sym r ∙ f)).1 ∙ following)
  by (at_call p es q r) = let h = arguments_first es j in
      parens (arguments_of es j) (operand_at of k (arguments_of es j) be.Parens ((cut _ _ _ _ (sym r ∙ f)).1 ∙ following) (ap begin_of h.1))

monadic_back : (op : MonadicOperator) → monadic_of (monadic_token op) ≡ Some op
monadic_back mo.Negate = refl
monadic_back mo.Minus = refl
monadic_back mo.BitNot = refl
monadic_back mo.BitNotWord = refl
monadic_back mo.Not = refl
monadic_back mo.Size = refl

same_monadic : (op other : MonadicOperator) → monadic_token op ≡ monadic_token other → op ≡ other
same_monadic op other e = let h : Some op ≡ Some other = sym (monadic_back op) ∙ ap monadic_of e ∙ monadic_back other in (cc)

extreme_back : (x : Extreme) → extreme_of (t.Word (extreme_word x)) ≡ Some x
extreme_back ex.Greatest = refl
extreme_back ex.Least = refl

same_extreme : (x y : Extreme) → t.Word (extreme_word x) ≡ t.Word (extreme_word y) → x ≡ y
same_extreme x y e = let h : Some x ≡ Some y = sym (extreme_back x) ∙ ap extreme_of e ∙ extreme_back y in (cc)

same_first : (d c : Dimension) (ds cs : List Dimension) → d ∷ ds ≡ c ∷ cs → (d ≡ c) × (ds ≡ cs)
same_first d c ds cs e = (cc, cc)

-- the step of the induction
-- `::[]` and a type do not lead from the one to the other where MOSTPOS or MOSTNEG of a type could go on
abbrev pub MostApart : Expr → List Token → List Token → Type 0
MostApart e j k = (x : Extreme) (type : TypeForm) → e ≡ xv.Most x type → TypeApart type j k

plain_most : (e : Expr) (j k : List Token) → IsNotCounted j → MostApart e j k
plain_most e j k none x type p = plain_type type j k none

one_expr_apart : (n : ℕ) → ExprBelow n → (tokens : List Token) → length tokens < n + 1 → (x y : Expr) (j k : List Token) → IsEndOfRun j → IsEndOfRun k → MostApart x j k → MostApart y k j
    → tokens ≡ expr_then x j → tokens ≡ expr_then y k → (x ≡ y) × (j ≡ k)
one_expr_apart n one tokens less x y j k a b xa ya e f = by (begin_of tokens) refl (expr_at x j tokens (begin_of tokens) e refl) (expr_at y k tokens (begin_of tokens) f refl) where
  one_operand : (o p : Operand) → length (operand_then o j) < n + 1 → operand_then o j ≡ operand_then p k → (o ≡ p) × (j ≡ k)
  one_operand o p short i = one_operand_below n one (operand_then o j) short o p j k (end_after j a) (end_after k b) refl i

  operated : (o p : Operand) (u v : Tail) → x ≡ joined o u → y ≡ joined p v → tokens ≡ operand_then o (tail_then u j) → tokens ≡ operand_then p (tail_then v k) → (x ≡ y) × (j ≡ k)
  operated o p u v q r i l =
      let h = one_operand_below n one tokens less o p (tail_then u j) (tail_then v k) (tail_after u j a) (tail_after v k b) i l in
      let m = one_tail n one (tail_then u j) (left_below (operand_then o) tokens (tail_then u j) (n + 1) (inner_operand o) less i) u v j k a b refl h.1 in
      (q ∙ ap (λ (z : Operand). joined z u) h.0 ∙ ap (λ (z : Tail). joined p z) m.0 ∙ sym r, m.1)

  converted : (ds cs : List Dimension) (u v : Builtin) (o p : Operand) → x ≡ xv.Converted ds u o → y ≡ xv.Converted cs v p
      → tokens ≡ many dimension_then ds (builtin_then u (operand_then o j)) → tokens ≡ many dimension_then cs (builtin_then v (operand_then p k)) → (x ≡ y) × (j ≡ k)
  converted ds cs u v o p q r i l =
      let g = one_dimensions n one tokens less ds cs _ _ (builtin_ends u (operand_then o j)) (builtin_ends v (operand_then p k)) i l in
      let short : length (builtin_then u (operand_then o j)) < n + 1 = omega (arith, less, ap length i, list_grows dimension_then inner_dimension ds (builtin_then u (operand_then o j))) in
      let h = one_builtin_below n one (builtin_then u (operand_then o j)) short u v (operand_then o j) (operand_then p k) (operand_first o j).no_count (operand_first p k).no_count refl g.1 in
      let m = one_operand o p (left_below (builtin_then u) (builtin_then u (operand_then o j)) (operand_then o j) (n + 1) (inner_builtin u) short refl) h.1 in
      (q ∙ ap (λ (z : List Dimension). xv.Converted z u o) g.0 ∙ ap (λ (z : Builtin). xv.Converted cs z o) h.0 ∙ ap (λ (z : Operand). xv.Converted cs v z) m.0 ∙ sym r, m.1)

  converted_array : {Z : Type 0} (ds cs : List Dimension) (u : Builtin) (m : List ℕ) (i l : List Token) → tokens ≡ many dimension_then ds (builtin_then u i) → tokens ≡ many dimension_then cs (t.Name m ∷ l) → Z
  converted_array ds cs u m i l q r = let h = one_dimensions n one tokens less ds cs _ _ (builtin_ends u i) (name_ends m l) q r in absurd (builtin_no_name u i m l h.1)

  by_monadic : begin_of tokens ≡ be.Monadic → ExprAt tokens j x be.Monadic → ExprAt tokens k y be.Monadic → (x ≡ y) × (j ≡ k)
  by_monadic is (at_operated o u q r) at = absurd (no_operand tokens be.Monadic is refl o _ r)
  by_monadic is (at_applied op o q r) (at_operated p u i l) = absurd (no_operand tokens be.Monadic is refl p _ l)
  by_monadic is (at_applied op o q r) (at_applied other p i l) =
      let c = cut _ _ _ _ (sym r ∙ l) in
      let m = one_operand o p (omega (arith, after_below _ tokens (operand_then o j) n less r)) c.1 in
      (q ∙ ap (λ (z : MonadicOperator). xv.Applied z o) (same_monadic op other c.0) ∙ ap (λ (z : Operand). xv.Applied other z) m.0 ∙ sym i, m.1)

  by_extreme : begin_of tokens ≡ be.Extreme → ExprAt tokens j x be.Extreme → ExprAt tokens k y be.Extreme → (x ≡ y) × (j ≡ k)
  by_extreme is (at_operated o u q r) at = absurd (no_operand tokens be.Extreme is refl o _ r)
  by_extreme is (at_most z type q r) (at_operated p u i l) = absurd (no_operand tokens be.Extreme is refl p _ l)
  by_extreme is (at_most z type q r) (at_most v other i l) =
      let c = cut _ _ _ _ (sym r ∙ l) in
      let m = one_type_apart n one (type_form_then type j) (omega (arith, after_below _ tokens (type_form_then type j) n less r)) type other j k (xa z type q) (ya v other i) refl c.1 in
      (q ∙ ap (λ (g : Extreme). xv.Most g type) (same_extreme z v c.0) ∙ ap (λ (g : TypeForm). xv.Most v g) m.0 ∙ sym i, m.1)

  by_builtin : begin_of tokens ≡ be.Builtin → ExprAt tokens j x be.Builtin → ExprAt tokens k y be.Builtin → (x ≡ y) × (j ≡ k)
  by_builtin is (at_operated o u q r) at = absurd (no_operand tokens be.Builtin is refl o _ r)
  by_builtin is (at_builtin u o q r) (at_operated p v i l) = absurd (no_operand tokens be.Builtin is refl p _ l)
  by_builtin is (at_builtin u o q r) (at_builtin v p i l) = converted [] [] u v o p q i r l

  by_name : ExprAt tokens j x be.Name → ExprAt tokens k y be.Name → (x ≡ y) × (j ≡ k)
  by_name (at_operated o u q r) (at_operated p v i l) = operated o p u v q i r l
  by_name (at_operated o u q r) (at_named m v i l) = absurd (no_named_first n one tokens less o m v (tail_then u j) k (tail_after u j a) r l)
  by_name (at_named m v i l) (at_operated o u q r) = absurd (no_named_first n one tokens less o m v (tail_then u k) j (tail_after u k b) r l)
  by_name (at_named m v q r) (at_named o u i l) =
      let c = cut _ _ _ _ (sym r ∙ l) in
      let h = one_named_operand_below n one (named_operand_then v j) (omega (arith, after_below _ tokens (named_operand_then v j) n less r)) v u j k (end_after j a) (end_after k b) refl c.1 in
      (q ∙ ap (λ (z : List ℕ). xv.Named z v) (same_name m o c.0) ∙ ap (λ (z : NamedOperand). xv.Named o z) h.0 ∙ sym i, h.1)

  by_bracket : ExprAt tokens j x be.Bracket → ExprAt tokens k y be.Bracket → (x ≡ y) × (j ≡ k)
  by_bracket (at_operated o u q r) (at_operated p v i l) = operated o p u v q i r l
  by_bracket (at_operated o u q r) (at_converted d ds c p i l) =
      absurd (no_dimension_first n one tokens less o d (tail_then u j) _ (tail_after u j a) (after_dimension ds (builtin_then c (operand_then p k)) (builtin_begin c (operand_then p k)).1) r l)
  by_bracket (at_operated o u q r) (at_array d ds m p i l) =
      absurd (no_dimension_first n one tokens less o d (tail_then u j) _ (tail_after u j a) (after_dimension ds (t.Name m ∷ operand_then p k) (name_begin m (operand_then p k))) r l)
  by_bracket (at_converted d ds c p i l) (at_operated o u q r) =
      absurd (no_dimension_first n one tokens less o d (tail_then u k) _ (tail_after u k b) (after_dimension ds (builtin_then c (operand_then p j)) (builtin_begin c (operand_then p j)).1) r l)
  by_bracket (at_converted d ds u o q r) (at_converted c cs v p i l) = converted (d ∷ ds) (c ∷ cs) u v o p q i r l
  by_bracket (at_converted d ds u o q r) (at_array c cs m p i l) = converted_array (d ∷ ds) (c ∷ cs) u m _ _ r l
  by_bracket (at_array d ds m p i l) (at_operated o u q r) =
      absurd (no_dimension_first n one tokens less o d (tail_then u k) _ (tail_after u k b) (after_dimension ds (t.Name m ∷ operand_then p j) (name_begin m (operand_then p j))) r l)
  by_bracket (at_array d ds m p i l) (at_converted c cs u o q r) = converted_array (c ∷ cs) (d ∷ ds) u m _ _ r l
  by_bracket (at_array d ds m o q r) (at_array c cs g p i l) =
      let h = one_dimensions n one tokens less (d ∷ ds) (c ∷ cs) _ _ (name_ends m (operand_then o j)) (name_ends g (operand_then p k)) r l in
      let rest = cut _ _ _ _ h.1 in
      let both = same_first d c ds cs h.0 in
      let short : length (operand_then o j) < n + 1 = omega (arith, less, ap length r, list_grows dimension_then inner_dimension (d ∷ ds) (t.Name m ∷ operand_then o j)) in
      let z = one_operand o p short rest.1 in
      (q ∙ ap (λ (v : Dimension). xv.ArrayConverted v ds m o) both.0 ∙ ap (λ (v : List Dimension). xv.ArrayConverted c v m o) both.1 ∙ ap (λ (v : List ℕ). xv.ArrayConverted c cs v o) (same_name m g rest.0) ∙ ap (λ (v : Operand). xv.ArrayConverted c cs g v) z.0 ∙ sym i, z.1)

  by_value : ExprAt tokens j x be.Value → ExprAt tokens k y be.Value → (x ≡ y) × (j ≡ k)
  by_value (at_operated o u q r) (at_operated p v i l) = operated o p u v q i r l

  by_parens : ExprAt tokens j x be.Parens → ExprAt tokens k y be.Parens → (x ≡ y) × (j ≡ k)
  by_parens (at_operated o u q r) (at_operated p v i l) = operated o p u v q i r l

  by_nothing : ExprAt tokens j x be.Nothing → ExprAt tokens k y be.Nothing → (x ≡ y) × (j ≡ k)
  by_nothing (at_operated o u q r) (at_operated p v i l) = operated o p u v q i r l

  by : (begin : Begin) → begin_of tokens ≡ begin → ExprAt tokens j x begin → ExprAt tokens k y begin → (x ≡ y) × (j ≡ k)
  by be.Nothing is u v = by_nothing u v
  by be.Extreme is u v = by_extreme is u v
  by be.Monadic is u v = by_monadic is u v
  by be.Builtin is u v = by_builtin is u v
  by be.Name is u v = by_name u v
  by be.Bracket is u v = by_bracket u v
  by be.Parens is u v = by_parens u v
  by be.Value is u v = by_value u v

one_expr_step : (n : ℕ) → ExprBelow n → ExprBelow (n + 1)
one_expr_step n one tokens less x y j k a b e f =
    one_expr_apart n one tokens less x y j k (end_of_run j a) (end_of_run k b) (plain_most x j k (end_no_count j a)) (plain_most y k j (end_no_count k b)) e f

expr_below : (n : ℕ) → ExprBelow n
expr_below zero tokens less = absurd (omega (arith, less))
expr_below (suc n) tokens less = one_expr_step n (expr_below n) tokens (omega (arith, less))

-- whatever is below a number of tokens is so of any tokens
pub always : {X : Type 0} (spells : X → List Token → List Token) (Ends : List Token → Type 0) → ((n : ℕ) → ExprBelow n → Below spells Ends (n + 1))
    → (x y : X) (j k : List Token) → Ends j → Ends k → spells x j ≡ spells y k → (x ≡ y) × (j ≡ k)
always spells Ends one x y j k a b e = let n = length (spells x j) in one n (expr_below n) (spells x j) (omega arith) x y j k a b refl e

-- an expression is read in one way, and so is each of its parts
pub one_expr : (a b : Expr) (j k : List Token) → IsEnd j → IsEnd k → expr_then a j ≡ expr_then b k → (a ≡ b) × (j ≡ k)
one_expr = always expr_then IsEnd one_expr_step

-- where the end of a run follows, too
pub one_run : (x y : Expr) (j k : List Token) → IsEndOfRun j → IsEndOfRun k → MostApart x j k → MostApart y k j → expr_then x j ≡ expr_then y k → (x ≡ y) × (j ≡ k)
one_run x y j k a b xa ya e = let n = length (expr_then x j) in one_expr_apart n (expr_below n) (expr_then x j) (omega arith) x y j k a b xa ya refl e

pub one_operand : (a b : Operand) (j k : List Token) → IsAfter j → IsAfter k → operand_then a j ≡ operand_then b k → (a ≡ b) × (j ≡ k)
one_operand = always operand_then IsAfter one_operand_below

pub one_element : (a b : Element) (j k : List Token) → IsAfter j → IsAfter k → element_then a j ≡ element_then b k → (a ≡ b) × (j ≡ k)
one_element = always element_then IsAfter one_element_below

pub one_type : (a b : TypeForm) (j k : List Token) → IsNotCounted j → IsNotCounted k → type_form_then a j ≡ type_form_then b k → (a ≡ b) × (j ≡ k)
one_type = always type_form_then IsNotCounted one_type_form_below

pub one_data_form : (a b : DataForm) (j k : List Token) → data_form_then a j ≡ data_form_then b k → (a ≡ b) × (j ≡ k)
one_data_form a b j k e = always data_form_then Anything one_data_form_below a b j k tt tt e

pub one_dimension_of : (a b : Dimension) (j k : List Token) → dimension_then a j ≡ dimension_then b k → (a ≡ b) × (j ≡ k)
one_dimension_of a b j k e = always dimension_then Anything one_dimension a b j k tt tt e

pub one_dimensions_of : (a b : List Dimension) (j k : List Token) → IsNot s.OpenIndex j → IsNot s.OpenIndex k → many dimension_then a j ≡ many dimension_then b k → (a ≡ b) × (j ≡ k)
one_dimensions_of = always (many dimension_then) (IsNot s.OpenIndex) one_dimensions
