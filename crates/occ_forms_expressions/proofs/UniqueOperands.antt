-- Two readings of the same tokens are one: operands.
use Rattle.std.proofs.Common.{◌≡◌, ◌<◌, ◌+◌, ◌∙◌, refl, sym, ap, subst, ℕ, Bool, true, false, List, [], ◌∷◌, length, Option, Some, None, arith}
use Rattle.occ_lines.specs.declared.token.Token.{Token}
use Rattle.occ_lines.specs.declared.token.Token.TheVariants as t
use Rattle.occ_lines.specs.declared.token.Symbol.TheVariants as s
use Rattle.occ_forms_expressions.specs.declared.begin.Begin.{Begin}
use Rattle.occ_forms_expressions.specs.declared.begin.Begin.TheVariants as be
use Rattle.occ_forms_expressions.specs.declared.bracket.Closing.{Closing}
use Rattle.occ_forms_expressions.specs.declared.bracket.Closing.TheVariants as cl
use Rattle.occ_forms_expressions.specs.declared.tree.Bounds.{Bounds}
use Rattle.occ_forms_expressions.specs.declared.tree.Element.TheVariants as ev
use Rattle.occ_forms_expressions.specs.declared.tree.Expr.{Expr}
use Rattle.occ_forms_expressions.specs.declared.tree.Literal.{Literal}
use Rattle.occ_forms_expressions.specs.declared.tree.Literal.TheVariants as li
use Rattle.occ_forms_expressions.specs.declared.tree.NamedOperand.{NamedOperand}
use Rattle.occ_forms_expressions.specs.declared.tree.Operand.{Operand, out-Operand}
use Rattle.occ_forms_expressions.specs.declared.tree.Operand.TheVariants as ov
use Rattle.occ_forms_expressions.specs.declared.tree.TypeForm.{TypeForm}
use Rattle.occ_forms_expressions.specs.inside.Brackets.{Fits, IsBracketed, bounds_begin, closing_then, narrow_of}
use Rattle.occ_forms_expressions.specs.inside.Parts.{literal_of, truth_of}
use Rattle.occ_forms_expressions.specs.Reading.{IsAfter, IsNot, begin_of, ends_operand, is_counted}
use Rattle.occ_forms_expressions.specs.Spelling.{arguments_of, decoration_of, element_then, expr_then, literal_token, many, named_operand_then, next_item_of, operand_then, perhaps_decoration_of, subscript_of, truth_word}
use Rattle.occ_forms_expressions.proofs.Cases.{NamedOperandIs, named_operand_call_spells, named_operand_decorated_spells, named_operand_decorated_table_spells, named_operand_element_spells, named_operand_is, named_operand_is_call, named_operand_is_decorated, named_operand_is_decorated_table, named_operand_is_element, named_operand_is_literal, named_operand_is_table, named_operand_is_truth, named_operand_literal_spells, named_operand_table_spells, named_operand_truth_spells, operand_call_spells, operand_decorated_spells, operand_decorated_table_spells, operand_element_spells, operand_literal_spells, operand_table_spells, operand_truth_spells}
use Rattle.occ_forms_expressions.proofs.Closings.{bounds_begins, closing_ends, items_begin}
use Rattle.occ_forms_expressions.proofs.Inner.{inner_bounds, inner_expr, inner_next_item}
use Rattle.occ_forms_expressions.proofs.Lists.{Anything}
use Rattle.occ_forms_expressions.proofs.Named.{no_call}
use Rattle.occ_forms_expressions.proofs.Narrow.{narrow_call, narrow_decorated, narrow_decorated_table, narrow_element, narrow_literal, narrow_of_table, narrow_truth}
use Rattle.occ_forms_expressions.proofs.Operands.{OperandAt, after_no_index, after_no_open, at_bracket, at_call, at_decorated, at_element, at_literal, at_parens, at_truth, bracketed_one, element_back, element_step, no_operand, operand_at}
use Rattle.occ_forms_expressions.proofs.Tailed.{cut}
use Rattle.occ_forms_expressions.proofs.Unique.{Below, ExprBelow, after_below, bounds_closed, fewer, index_ends, left_below, list_grows, one_arguments, one_after, one_bounds, one_closed, one_next_items, one_subscripts}
use Rattle.occ_forms_expressions.proofs.UniqueTypes.{one_decoration}

one_perhaps : (n : ℕ) → ExprBelow n → (tokens : List Token) → length tokens < n + 1 → (x y : Option TypeForm) (j k : List Token) → IsNot s.Open j → IsNot s.Open k
    → tokens ≡ perhaps_decoration_of x j → tokens ≡ perhaps_decoration_of y k → (x ≡ y) × (j ≡ k)
one_perhaps n one tokens less None None j k a b e f = (refl, sym e ∙ f)
one_perhaps n one tokens less None (Some type) j k a b e f = absurd (a _ (sym e ∙ f))
one_perhaps n one tokens less (Some type) None j k a b e f = absurd (b _ (sym f ∙ e))
one_perhaps n one tokens less (Some type) (Some other) j k a b e f = let h = one_decoration n one tokens less type other j k tt tt e f in (ap (λ (z : TypeForm). Some z) h.0, h.1)

items_bounds : {Z : Type 0} (tokens : List Token) (es : List Expr) (b : Bounds) (j k : List Token) → tokens ≡ many next_item_of es (t.Symbol s.CloseIndex ∷ j) → tokens ≡ bounds_closed b k → Z
items_bounds tokens es b j k e f = let h : true ≡ false = sym (bounds_begins b _) ∙ ap bounds_begin (sym f ∙ e) ∙ items_begin es j in absurd cc

-- what closes a bracket
pub one_closing : (n : ℕ) → ExprBelow n → (tokens : List Token) → length tokens < n + 1 → (x y : Closing) (j k : List Token) → Fits x j → Fits y k
    → tokens ≡ closing_then x j → tokens ≡ closing_then y k → (x ≡ y) × (j ≡ k)
one_closing n one tokens less (cl.Items es type) (cl.Items fs other) j k a b e f =
    let h = one_next_items n one tokens less es fs _ _ (index_ends _) (index_ends _) e f in
    let short : length (perhaps_decoration_of type j) < n + 1 = omega (arith, less, ap length e, list_grows next_item_of inner_next_item es (t.Symbol s.CloseIndex ∷ perhaps_decoration_of type j)) in
    let m = one_perhaps n one (perhaps_decoration_of type j) short type other j k a b refl (cut _ _ _ _ h.1).1 in
    (ap (λ (z : List Expr). cl.Items z type) h.0 ∙ ap (λ (z : Option TypeForm). cl.Items fs z) m.0, m.1)
one_closing n one tokens less (cl.Items es type) (cl.Segment b fs) j k fit fits e f = items_bounds tokens es b _ _ e f
one_closing n one tokens less (cl.Segment b es) (cl.Items fs other) j k fit fits e f = items_bounds tokens fs b _ _ f e
one_closing n one tokens less (cl.Segment b es) (cl.Segment c fs) j k fit fits e f =
    let h = one_bounds n one tokens less b c (many subscript_of es j) (many subscript_of fs k) tt tt e f in
    let short : length (many subscript_of es j) < n + 1 = omega (arith, less, ap length e, (inner_bounds b).grows (t.Symbol s.CloseIndex ∷ many subscript_of es j)) in
    let m = one_subscripts n one (many subscript_of es j) short es fs j k fit fits refl h.1 in
    (ap (λ (z : Bounds). cl.Segment z es) h.0 ∙ ap (λ (z : List Expr). cl.Segment c z) m.0, m.1)

literal_back : (l : Literal) → literal_of (literal_token l) ≡ Some l
literal_back (li.Decimal n) = refl
literal_back (li.Hexadecimal n) = refl
literal_back (li.Character n) = refl
literal_back (li.String n) = refl

same_literal : (l m : Literal) → literal_token l ≡ literal_token m → l ≡ m
same_literal l m e = let h : Some l ≡ Some m = sym (literal_back l) ∙ ap literal_of e ∙ literal_back m in (cc)

literal_truth : {Z : Type 0} (l : Literal) (b : Bool) (tokens j k : List Token) → tokens ≡ literal_token l ∷ j → tokens ≡ t.Word (truth_word b) ∷ k → Z
literal_truth l b tokens j k e f = let h : Some l ≡ None = sym (literal_back l) ∙ ap literal_of (cut _ _ _ _ (sym e ∙ f)).0 in absurd cc

truth_back : (b : Bool) → truth_of (t.Word (truth_word b)) ≡ Some b
truth_back true = refl
truth_back false = refl

same_truth : (a b : Bool) → t.Word (truth_word a) ≡ t.Word (truth_word b) → a ≡ b
same_truth a b e = let h : Some a ≡ Some b = sym (truth_back a) ∙ ap truth_of e ∙ truth_back b in (cc)

pub same_name : (n m : List ℕ) → t.Name n ≡ t.Name m → n ≡ m
same_name n m e = cc

pub arguments_first : (es : List Expr) (k : List Token) → (rest : List Token) × (arguments_of es k ≡ t.Symbol s.Open ∷ rest)
arguments_first [] k = (_, refl)
arguments_first (e ∷ es) k = (_, refl)

fitting : (c : Closing) (k : List Token) → IsAfter k → Fits c k
fitting (cl.Items es type) k after = after_no_open k after
fitting (cl.Segment bounds es) k after = after_no_index k after

pub one_operand_below : (n : ℕ) → ExprBelow n → Below operand_then IsAfter (n + 1)
one_operand_below n one tokens less x y j k a b e f = by (begin_of tokens) refl (operand_at x j tokens (begin_of tokens) e refl) (operand_at y k tokens (begin_of tokens) f refl) where
  subscripts_call : {Z : Type 0} (m o : List ℕ) (es fs : List Expr) (i l : List Token) → IsAfter i → tokens ≡ t.Name m ∷ many subscript_of es i → tokens ≡ t.Name o ∷ arguments_of fs l → Z
  subscripts_call m o es fs i l after p q = let h = arguments_first fs l in absurd (no_call es i h.0 (arguments_of fs l) after h.1 (cut _ _ _ _ (sym q ∙ p)).1)

  by_name : OperandAt tokens j x be.Name → OperandAt tokens k y be.Name → (x ≡ y) × (j ≡ k)
  by_name (at_element m es q p) (at_element o fs r u) =
      let c = cut _ _ _ _ (sym p ∙ u) in
      let h = fewer (many subscript_of) (IsNot s.OpenIndex) n (one_subscripts n one) (many subscript_of es j) (after_below _ tokens _ n less p) es fs j k (after_no_index j a) (after_no_index k b) refl c.1 in
      (q ∙ ap (λ (z : List ℕ). ov.Element (ev.Named z es)) (same_name m o c.0) ∙ ap (λ (z : List Expr). ov.Element (ev.Named o z)) h.0 ∙ sym r, h.1)
  by_name (at_element m es q p) (at_call o fs r u) = subscripts_call m o es fs j k a p u
  by_name (at_call m es q p) (at_element o fs r u) = subscripts_call o m fs es k j b u p
  by_name (at_call m es q p) (at_call o fs r u) =
      let c = cut _ _ _ _ (sym p ∙ u) in
      let h = fewer arguments_of Anything n (one_arguments n one) (arguments_of es j) (after_below _ tokens _ n less p) es fs j k tt tt refl c.1 in
      (q ∙ ap (λ (z : List ℕ). ov.Call z es) (same_name m o c.0) ∙ ap (λ (z : List Expr). ov.Call o z) h.0 ∙ sym r, h.1)

  plain_decorated : {Z : Type 0} (l m : Literal) (type : TypeForm) (i o : List Token) → IsAfter i → tokens ≡ literal_token l ∷ i → tokens ≡ literal_token m ∷ decoration_of type o → Z
  plain_decorated l m type i o after p q = absurd (after_no_open i after _ (cut _ _ _ _ (sym p ∙ q)).1)

  by_value : OperandAt tokens j x be.Value → OperandAt tokens k y be.Value → (x ≡ y) × (j ≡ k)
  by_value (at_literal l q p) (at_literal m r u) = let c = cut _ _ _ _ (sym p ∙ u) in (q ∙ ap (λ (z : Literal). ov.Literal z) (same_literal l m c.0) ∙ sym r, c.1)
  by_value (at_literal l q p) (at_decorated m type r u) = plain_decorated l m type j k a p u
  by_value (at_literal l q p) (at_truth m r u) = literal_truth l m tokens _ _ p u
  by_value (at_decorated l type q p) (at_literal m r u) = plain_decorated m l type k j b u p
  by_value (at_decorated l type q p) (at_decorated m other r u) =
      let c = cut _ _ _ _ (sym p ∙ u) in
      let h = fewer decoration_of Anything n (one_decoration n one) (decoration_of type j) (after_below _ tokens _ n less p) type other j k tt tt refl c.1 in
      (q ∙ ap (λ (z : Literal). ov.Decorated z type) (same_literal l m c.0) ∙ ap (λ (z : TypeForm). ov.Decorated m z) h.0 ∙ sym r, h.1)
  by_value (at_decorated l type q p) (at_truth m r u) = literal_truth l m tokens _ _ p u
  by_value (at_truth l q p) (at_literal m r u) = literal_truth m l tokens _ _ u p
  by_value (at_truth l q p) (at_decorated m type r u) = literal_truth m l tokens _ _ u p
  by_value (at_truth l q p) (at_truth m r u) = let c = cut _ _ _ _ (sym p ∙ u) in (q ∙ ap (λ (z : Bool). ov.Truth z) (same_truth l m c.0) ∙ sym r, c.1)

  by_parens : OperandAt tokens j x be.Parens → OperandAt tokens k y be.Parens → (x ≡ y) × (j ≡ k)
  by_parens (at_parens g q p) (at_parens h r u) =
      let m = one_after (t.Symbol s.Open) (λ z i. expr_then z (t.Symbol s.Close ∷ i)) Anything n (one_closed n one) tokens less g h j k tt tt p u in
      (q ∙ ap (λ (z : Expr). ov.Parens z) m.0 ∙ sym r, m.1)

  by_bracket : OperandAt tokens j x be.Bracket → OperandAt tokens k y be.Bracket → (x ≡ y) × (j ≡ k)
  by_bracket (at_bracket g c q p) (at_bracket h d r u) =
      let short = after_below _ tokens (expr_then g (closing_then c j)) n less p in
      let m = one (expr_then g (closing_then c j)) short g h (closing_then c j) (closing_then d k) (closing_ends c j) (closing_ends d k) refl (cut _ _ _ _ (sym p ∙ u)).1 in
      let o = one_closing n one (closing_then c j) (omega (arith, left_below (expr_then g) _ (closing_then c j) n (inner_expr g) short refl)) c d j k (fitting c j a) (fitting d k b) refl m.1 in
      (bracketed_one h d x y (subst (λ (z : Closing). IsBracketed h z (Some x)) o.0 (subst (λ (z : Expr). IsBracketed z c (Some x)) m.0 q)) r, o.1)

  by : (begin : Begin) → begin_of tokens ≡ begin → OperandAt tokens j x begin → OperandAt tokens k y begin → (x ≡ y) × (j ≡ k)
  by be.Name is u v = by_name u v
  by be.Value is u v = by_value u v
  by be.Parens is u v = by_parens u v
  by be.Bracket is u v = by_bracket u v
  by be.Nothing is u v = absurd (no_operand tokens be.Nothing is refl x j e)
  by be.Extreme is u v = absurd (no_operand tokens be.Extreme is refl x j e)
  by be.Monadic is u v = absurd (no_operand tokens be.Monadic is refl x j e)
  by be.Builtin is u v = absurd (no_operand tokens be.Builtin is refl x j e)

pub one_element_below : (n : ℕ) → ExprBelow n → Below element_then IsAfter (n + 1)
one_element_below n one tokens less x y j k a b e f =
    let h = one_operand_below n one tokens less (ov.Element x) (ov.Element y) j k a b (e ∙ sym (operand_element_spells x j)) (f ∙ sym (operand_element_spells y k)) in
    let i : Some x ≡ Some y = sym (element_back x) ∙ ap (λ (z : Operand). element_step (out-Operand z)) h.0 ∙ element_back y in
    ((cc), h.1)

-- an operand after the name of a type is an operand
pub record IsWide (x : NamedOperand) (o : Operand) : Type 0 where
  pub narrows : narrow_of o ≡ Some x
  pub spells : (k : List Token) → named_operand_then x k ≡ operand_then o k

pub wide : (x : NamedOperand) → (o : Operand) × IsWide x o
wide x = by (named_operand_is x) where
  of : (v : NamedOperand) (o : Operand) → x ≡ v → narrow_of o ≡ Some v → ((k : List Token) → named_operand_then v k ≡ operand_then o k) → (o : Operand) × IsWide x o
  of v o q narrows spells = (o, record { narrows = narrows ∙ ap (λ (z : NamedOperand). Some z) (sym q); spells = λ k. ap (λ (z : NamedOperand). named_operand_then z k) q ∙ spells k })

  by : NamedOperandIs x → (o : Operand) × IsWide x o
  by (named_operand_is_element el q) = of _ _ q (narrow_element el) (λ k. named_operand_element_spells el k ∙ sym (operand_element_spells el k))
  by (named_operand_is_literal l q) = of _ _ q (narrow_literal l) (λ k. named_operand_literal_spells l k ∙ sym (operand_literal_spells l k))
  by (named_operand_is_decorated l type q) = of _ _ q (narrow_decorated l type) (λ k. named_operand_decorated_spells l type k ∙ sym (operand_decorated_spells l type k))
  by (named_operand_is_truth b q) = of _ _ q (narrow_truth b) (λ k. named_operand_truth_spells b k ∙ sym (operand_truth_spells b k))
  by (named_operand_is_table e f es q) = of _ _ q (narrow_of_table e (f ∷ es)) (λ k. named_operand_table_spells e f es k ∙ sym (operand_table_spells e (f ∷ es) k))
  by (named_operand_is_decorated_table e es type q) = of _ _ q (narrow_decorated_table e es type) (λ k. named_operand_decorated_table_spells e es type k ∙ sym (operand_decorated_table_spells e es type k))
  by (named_operand_is_call n es q) = of _ _ q (narrow_call n es) (λ k. named_operand_call_spells n es k ∙ sym (operand_call_spells n es k))

pub one_named_operand_below : (n : ℕ) → ExprBelow n → Below named_operand_then IsAfter (n + 1)
one_named_operand_below n one tokens less x y j k a b e f =
    let u = wide x in
    let v = wide y in
    let h = one_operand_below n one tokens less u.0 v.0 j k a b (e ∙ u.1.spells j) (f ∙ v.1.spells k) in
    let i : Some x ≡ Some y = sym u.1.narrows ∙ ap narrow_of h.0 ∙ v.1.narrows in
    ((cc), h.1)

-- no operand begins with what may follow one
pub record BeginsOperand (tokens : List Token) : Type 0 where
  pub no_end : ends_operand tokens ≡ false
  pub no_count : is_counted tokens ≡ false

literal_first : (l : Literal) (k : List Token) → BeginsOperand (literal_token l ∷ k)
literal_first (li.Decimal n) k = record { no_end = refl; no_count = refl }
literal_first (li.Hexadecimal n) k = record { no_end = refl; no_count = refl }
literal_first (li.Character n) k = record { no_end = refl; no_count = refl }
literal_first (li.String n) k = record { no_end = refl; no_count = refl }

truth_first : (b : Bool) (k : List Token) → BeginsOperand (t.Word (truth_word b) ∷ k)
truth_first true k = record { no_end = refl; no_count = refl }
truth_first false k = record { no_end = refl; no_count = refl }

pub operand_first : (o : Operand) (k : List Token) → BeginsOperand (operand_then o k)
operand_first o k = by (operand_at o k (operand_then o k) (begin_of (operand_then o k)) refl refl) where
  by : {b : Begin} → OperandAt (operand_then o k) k o b → BeginsOperand (operand_then o k)
  by (at_element n es q p) = subst BeginsOperand (sym p) (record { no_end = refl; no_count = refl })
  by (at_call n es q p) = subst BeginsOperand (sym p) (record { no_end = refl; no_count = refl })
  by (at_literal l q p) = subst BeginsOperand (sym p) (literal_first l k)
  by (at_decorated l type q p) = subst BeginsOperand (sym p) (literal_first l (decoration_of type k))
  by (at_truth b q p) = subst BeginsOperand (sym p) (truth_first b k)
  by (at_parens e q p) = subst BeginsOperand (sym p) (record { no_end = refl; no_count = refl })
  by (at_bracket e c q p) = subst BeginsOperand (sym p) (record { no_end = refl; no_count = refl })
