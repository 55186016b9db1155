-- Which operands begin with what.
use Rattle.std.proofs.Common.{◌≡◌, ◌∙◌, refl, sym, ap, subst, ℕ, Bool, true, false, List, ◌∷◌, Option, Some, None, Result, Ok, Err, IfOk, Bor}
use Rattle.std.specs.declared.alloc.AllocError.{AllocError}
use Rattle.occ_lines.specs.declared.token.Symbol.TheVariants as s
use Rattle.occ_lines.specs.declared.token.Token.{Token}
use Rattle.occ_lines.specs.declared.token.Token.TheVariants as t
use Rattle.occ_forms_expressions.specs.declared.begin.Begin.{Begin}
use Rattle.occ_forms_expressions.specs.declared.begin.Begin.TheVariants as be
use Rattle.occ_forms_expressions.specs.declared.bracket.Bracket.{Bracket}
use Rattle.occ_forms_expressions.specs.declared.bracket.Bracket.TheVariants as br
use Rattle.occ_forms_expressions.specs.declared.bracket.Closing.{Closing}
use Rattle.occ_forms_expressions.specs.declared.bracket.Closing.TheVariants as cl
use Rattle.occ_forms_expressions.specs.declared.tree.Bounds.{Bounds}
use Rattle.occ_forms_expressions.specs.declared.tree.Bounds.TheOpen.{Expr-F, Operand-F}
use Rattle.occ_forms_expressions.specs.declared.tree.Bounds.TheViews.{out-roll-Expr, out-roll-Operand}
use Rattle.occ_forms_expressions.specs.declared.tree.Builtin.{Builtin}
use Rattle.occ_forms_expressions.specs.declared.tree.Dimension.{Dimension}
use Rattle.occ_forms_expressions.specs.declared.tree.NamedOperand.{NamedOperand}
use Rattle.occ_forms_expressions.specs.declared.tree.Element.{Element}
use Rattle.occ_forms_expressions.specs.declared.tree.Element.TheVariants as ev
use Rattle.occ_forms_expressions.specs.declared.tree.Expr.{Expr, out-Expr}
use Rattle.occ_forms_expressions.specs.declared.tree.Expr.TheVariants as xv
use Rattle.occ_forms_expressions.specs.declared.tree.Extreme.{Extreme}
use Rattle.occ_forms_expressions.specs.declared.tree.Literal.{Literal}
use Rattle.occ_forms_expressions.specs.declared.tree.Literal.TheVariants as li
use Rattle.occ_forms_expressions.specs.declared.tree.Operand.{Operand, out-Operand}
use Rattle.occ_forms_expressions.specs.declared.tree.Operand.TheVariants as ov
use Rattle.occ_forms_expressions.specs.declared.tree.TypeForm.{TypeForm}
use Rattle.occ_forms_expressions.specs.inside.Brackets.{Fits, IsBracketed, bracket_then, closing_then}
use Rattle.occ_forms_expressions.specs.Reading.{IsAfter, IsNot, Reads, begin_of, ends_operand}
use Rattle.occ_forms_expressions.specs.Spelling.{arguments_of, bounds_then, bracketed, decoration_of, element_then, expr_then, literal_token, many, operand_then, subscript_of, table_of, truth_word}
use Rattle.occ_forms_expressions.proofs.Cases.{ElementIs, OperandIs, element_is, element_is_named, element_is_segment, element_named_spells, element_segment_spells, expr_alone_spells, operand_call_spells, operand_decorated_spells, operand_decorated_table_spells, operand_element_spells, operand_is, operand_is_call, operand_is_decorated, operand_is_decorated_table, operand_is_element, operand_is_literal, operand_is_parens, operand_is_table, operand_is_truth, operand_literal_spells, operand_parens_spells, operand_table_spells, operand_truth_spells}

-- the operand begins so, and these are its tokens
pub data OperandAt (tokens k : List Token) (o : Operand) : Begin → Type 0 where
  at_element : (n : List ℕ) (es : List Expr) → o ≡ ov.Element (ev.Named n es) → tokens ≡ t.Name n ∷ many subscript_of es k → OperandAt tokens k o be.Name
  at_call : (n : List ℕ) (es : List Expr) → o ≡ ov.Call n es → tokens ≡ t.Name n ∷ arguments_of es k → OperandAt tokens k o be.Name
  at_literal : (l : Literal) → o ≡ ov.Literal l → tokens ≡ literal_token l ∷ k → OperandAt tokens k o be.Value
  at_decorated : (l : Literal) (type : TypeForm) → o ≡ ov.Decorated l type → tokens ≡ literal_token l ∷ decoration_of type k → OperandAt tokens k o be.Value
  at_truth : (b : Bool) → o ≡ ov.Truth b → tokens ≡ t.Word (truth_word b) ∷ k → OperandAt tokens k o be.Value
  at_parens : (x : Expr) → o ≡ ov.Parens x → tokens ≡ bracketed (expr_then x) k → OperandAt tokens k o be.Parens
  at_bracket : (x : Expr) (c : Closing) → IsBracketed x c (Some o) → tokens ≡ t.Symbol s.OpenIndex ∷ expr_then x (closing_then c k) → OperandAt tokens k o be.Bracket

literal_value : (l : Literal) (k : List Token) → begin_of (literal_token l ∷ k) ≡ be.Value
literal_value (li.Decimal n) k = refl
literal_value (li.Hexadecimal n) k = refl
literal_value (li.Character n) k = refl
literal_value (li.String n) k = refl

truth_value : (b : Bool) (k : List Token) → begin_of (t.Word (truth_word b) ∷ k) ≡ be.Value
truth_value true k = refl
truth_value false k = refl

pub operand_at : (o : Operand) (k tokens : List Token) (b : Begin) → tokens ≡ operand_then o k → begin_of tokens ≡ b → OperandAt tokens k o b
operand_at o k tokens b e is = by (operand_is o) where
  spelled : (x : Operand) (read : List Token) → o ≡ x → operand_then x k ≡ read → tokens ≡ read
  spelled x read q r = e ∙ ap (λ (y : Operand). operand_then y k) q ∙ r

  at : (c : Begin) (read : List Token) → tokens ≡ read → begin_of read ≡ c → OperandAt tokens k o c → OperandAt tokens k o b
  at c read q r h = subst (OperandAt tokens k o) (sym r ∙ sym (ap begin_of q) ∙ is) h

  by_element : (el : Element) → o ≡ ov.Element el → ElementIs el → OperandAt tokens k o b
  by_element el q (element_is_named n es p) =
      let r = spelled (ov.Element (ev.Named n es)) (t.Name n ∷ many subscript_of es k) (q ∙ ap (λ (y : Element). ov.Element y) p) (operand_element_spells (ev.Named n es) k ∙ element_named_spells n es k) in
      at be.Name (t.Name n ∷ many subscript_of es k) r refl (at_element n es (q ∙ ap (λ (y : Element). ov.Element y) p) r)
  by_element el q (element_is_segment of bounds es p) =
      let r = spelled (ov.Element (ev.Segment of bounds es)) (t.Symbol s.OpenIndex ∷ element_then of (bounds_then bounds (t.Symbol s.CloseIndex ∷ many subscript_of es k))) (q ∙ ap (λ (y : Element). ov.Element y) p)
      (operand_element_spells (ev.Segment of bounds es) k ∙ element_segment_spells of bounds es k) in
      let j : expr_then (xv.Alone (ov.Element of)) (closing_then (cl.Segment bounds es) k) ≡ element_then of (closing_then (cl.Segment bounds es) k) =
      expr_alone_spells (ov.Element of) (closing_then (cl.Segment bounds es) k) ∙ operand_element_spells of (closing_then (cl.Segment bounds es) k) in
      let m : tokens ≡ t.Symbol s.OpenIndex ∷ expr_then (xv.Alone (ov.Element of)) (closing_then (cl.Segment bounds es) k) = r ∙ ap (λ (z : List Token). t.Symbol s.OpenIndex ∷ z) (sym j) in
      at be.Bracket (t.Symbol s.OpenIndex ∷ expr_then (xv.Alone (ov.Element of)) (closing_then (cl.Segment bounds es) k)) m refl (at_bracket (xv.Alone (ov.Element of)) (cl.Segment bounds es) (of, refl, q ∙ ap (λ (y : Element). ov.Element y) p) m)

  by : OperandIs o → OperandAt tokens k o b
  by (operand_is_element el q) = by_element el q (element_is el)
  by (operand_is_literal l q) = let r = spelled (ov.Literal l) (literal_token l ∷ k) q (operand_literal_spells l k) in at be.Value (literal_token l ∷ k) r (literal_value l k) (at_literal l q r)
  by (operand_is_decorated l type q) = let r = spelled (ov.Decorated l type) (literal_token l ∷ decoration_of type k) q (operand_decorated_spells l type k) in at be.Value (literal_token l ∷ decoration_of type k) r (literal_value l (decoration_of type k)) (at_decorated l type q r)
  by (operand_is_truth x q) = let r = spelled (ov.Truth x) (t.Word (truth_word x) ∷ k) q (operand_truth_spells x k) in at be.Value (t.Word (truth_word x) ∷ k) r (truth_value x k) (at_truth x q r)
  by (operand_is_parens x q) = let r = spelled (ov.Parens x) (bracketed (expr_then x) k) q (operand_parens_spells x k) in at be.Parens (bracketed (expr_then x) k) r refl (at_parens x q r)
  by (operand_is_table x es q) = let r = spelled (ov.Table x es) (table_of x es k) q (operand_table_spells x es k) in at be.Bracket (table_of x es k) r refl (at_bracket x (cl.Items es None) (ap (λ (y : Operand). Some y) q) r)
  by (operand_is_decorated_table x es type q) = let r = spelled (ov.DecoratedTable x es type) (table_of x es (decoration_of type k)) q (operand_decorated_table_spells x es type k) in
      at be.Bracket (table_of x es (decoration_of type k)) r refl (at_bracket x (cl.Items es (Some type)) (ap (λ (y : Operand). Some y) q) r)
  by (operand_is_call n es q) = let r = spelled (ov.Call n es) (t.Name n ∷ arguments_of es k) q (operand_call_spells n es k) in at be.Name (t.Name n ∷ arguments_of es k) r refl (at_call n es q r)

-- no bracket follows an operand
pub after_no_open : (k : List Token) → IsAfter k → IsNot s.Open k
after_no_open k after rest is = let h : false ≡ true = sym (ap ends_operand is) ∙ after in (cc)

pub after_no_index : (k : List Token) → IsAfter k → IsNot s.OpenIndex k
after_no_index k after rest is = let h : false ≡ true = sym (ap ends_operand is) ∙ after in (cc)

-- what an operand in brackets spells, and that it is one
pub bracketed_spells : (x : Expr) (c : Closing) (o : Operand) (k : List Token) → IsBracketed x c (Some o) → operand_then o k ≡ t.Symbol s.OpenIndex ∷ expr_then x (closing_then c k)
bracketed_spells x (cl.Items es None) o k is = let h : o ≡ ov.Table x es = (cc) in ap (λ (y : Operand). operand_then y k) h ∙ operand_table_spells x es k
bracketed_spells x (cl.Items es (Some type)) o k is = let h : o ≡ ov.DecoratedTable x es type = (cc) in ap (λ (y : Operand). operand_then y k) h ∙ operand_decorated_table_spells x es type k
bracketed_spells x (cl.Segment bounds es) o k (el, first, is) =
    ap (λ (y : Operand). operand_then y k) is ∙ operand_element_spells (ev.Segment el bounds es) k ∙ element_segment_spells el bounds es k
    ∙ ap (λ (z : List Token). t.Symbol s.OpenIndex ∷ z) (sym (operand_element_spells el (closing_then (cl.Segment bounds es) k)) ∙ sym (expr_alone_spells (ov.Element el) (closing_then (cl.Segment bounds es) k)) ∙ ap (λ (y : Expr). expr_then y (closing_then (cl.Segment bounds es) k)) (sym first))

abbrev operand_step : Expr-F Bounds Builtin Dimension Element Expr NamedOperand Operand TypeForm → Option Operand
operand_step (Expr-F.Alone o) = Some o
operand_step (Expr-F.Run operator a b os) = None
operand_step (Expr-F.Pair a operator b) = None
operand_step (Expr-F.Applied operator o) = None
operand_step (Expr-F.Converted ds b o) = None
operand_step (Expr-F.ArrayConverted d ds n o) = None
operand_step (Expr-F.Expr::Named n o) = None
operand_step (Expr-F.Most x type) = None

abbrev pub element_step : Operand-F Bounds Builtin Dimension Element Expr NamedOperand Operand TypeForm → Option Element
element_step (Operand-F.Operand::Element el) = Some el
element_step (Operand-F.Operand::Literal l) = None
element_step (Operand-F.Operand::Decorated l type) = None
element_step (Operand-F.Operand::Truth b) = None
element_step (Operand-F.Parens e) = None
element_step (Operand-F.Operand::Table e es) = None
element_step (Operand-F.Operand::DecoratedTable e es type) = None
element_step (Operand-F.Operand::Call n es) = None

alone_back : (o : Operand) → operand_step (out-Expr (xv.Alone o)) ≡ Some o
alone_back o = ap (λ (x : Expr). operand_step (out-Expr x)) (sym (xv.rolls-Alone o)) ∙ ap operand_step (out-roll-Expr (Expr-F.Alone o))

pub element_back : (el : Element) → element_step (out-Operand (ov.Element el)) ≡ Some el
element_back el = ap (λ (x : Operand). element_step (out-Operand x)) (sym (ov.rolls-Element el)) ∙ ap element_step (out-roll-Operand (Operand-F.Operand::Element el))

pub same_element : (a b : Element) → xv.Alone (ov.Element a) ≡ xv.Alone (ov.Element b) → a ≡ b
same_element a b e =
    let h : Some (ov.Element a) ≡ Some (ov.Element b) = sym (alone_back (ov.Element a)) ∙ ap (λ (x : Expr). operand_step (out-Expr x)) e ∙ alone_back (ov.Element b) in
    let i : ov.Element a ≡ ov.Element b = (cc) in
    let j : Some a ≡ Some b = sym (element_back a) ∙ ap (λ (x : Operand). element_step (out-Operand x)) i ∙ element_back b in (cc)

most_back : (m : Extreme) (type : TypeForm) → operand_step (out-Expr (xv.Most m type)) ≡ None
most_back m type = ap (λ (x : Expr). operand_step (out-Expr x)) (sym (xv.rolls-Most m type)) ∙ ap operand_step (out-roll-Expr (Expr-F.Most m type))

pub alone_no_most : (o : Operand) (m : Extreme) (type : TypeForm) → xv.Alone o ≡ xv.Most m type → ⊥
alone_no_most o m type e = let h : Some o ≡ None = sym (alone_back o) ∙ ap (λ (x : Expr). operand_step (out-Expr x)) e ∙ most_back m type in (cc)

pub bracketed_one : (x : Expr) (c : Closing) (o p : Operand) → IsBracketed x c (Some o) → IsBracketed x c (Some p) → o ≡ p
bracketed_one x (cl.Items es None) o p a b = let h : Some o ≡ Some p = a ∙ sym b in (cc)
bracketed_one x (cl.Items es (Some type)) o p a b = let h : Some o ≡ Some p = a ∙ sym b in (cc)
bracketed_one x (cl.Segment bounds es) o p (el, first, is) (other, second, also) =
    is ∙ ap (λ (y : Element). ov.Element (ev.Segment y bounds es)) (same_element el other (sym first ∙ second)) ∙ sym also

pub table_found : (x : Expr) (c : Closing) (o : Operand) (tokens begun rest : List Token) (found : Bracket) → tokens ≡ t.Symbol s.OpenIndex ∷ begun → found ≡ br.Closed x c
    → t.Symbol s.OpenIndex ∷ begun ≡ bracket_then found rest → IsBracketed x c (Some o) → tokens ≡ operand_then o rest
table_found x c o tokens begun rest found is closed read operand = is ∙ read ∙ ap (λ (y : Bracket). bracket_then y rest) closed ∙ sym (bracketed_spells x c o rest operand)

pub table_only : (first : Expr) (closing : Closing) (o : Operand) (tokens begun rest : List Token) (found : Bracket) → tokens ≡ t.Symbol s.OpenIndex ∷ begun → found ≡ br.Closed first closing
    → ((x : Expr) (c : Closing) (k : List Token) → Fits c k → begun ≡ expr_then x (closing_then c k) → (found ≡ br.Closed x c) × (rest ≡ k)) → IsBracketed first closing (Some o)
    → (x : Expr) (c : Closing) (y : Operand) (k : List Token) → IsAfter k → IsBracketed x c (Some y) → tokens ≡ t.Symbol s.OpenIndex ∷ expr_then x (closing_then c k) → (o ≡ y) × (rest ≡ k)
table_only first closing o tokens begun rest found is closed only operand x c y k after other e =
    let i : t.Symbol s.OpenIndex ∷ begun ≡ t.Symbol s.OpenIndex ∷ expr_then x (closing_then c k) = sym is ∙ e in
    let h = only x c k (fitting c k after) (cc) in
    let j : br.Closed first closing ≡ br.Closed x c = sym closed ∙ h.0 in
    (bracketed_one x c o y (moved (cc) (cc)) other, h.1)
  where
    fitting : (c : Closing) (k : List Token) → IsAfter k → Fits c k
    fitting (cl.Items es type) k after = after_no_open k after
    fitting (cl.Segment bounds es) k after = after_no_index k after

    moved : {x : Expr} {c : Closing} → first ≡ x → closing ≡ c → IsBracketed x c (Some o)
    moved {x} {c} p q = subst (λ (y : Closing). IsBracketed x y (Some o)) q (subst (λ (y : Expr). IsBracketed y closing (Some o)) p operand)

-- what is read of an operand
abbrev pub AnswersOperand : List Token → Option (Operand × Bor (List Token)) → Type 0
AnswersOperand tokens r = (o : Operand) (k : List Token) → IsAfter k → tokens ≡ operand_then o k → Reads r o k

pub name_only : (tokens : List Token) (result : Result (Option (Operand × Bor (List Token))) AllocError) → begin_of tokens ≡ be.Name
    → IfOk result (λ r. (n : List ℕ) (es : List Expr) (k : List Token) → IsAfter k → tokens ≡ t.Name n ∷ many subscript_of es k → Reads r (ov.Element (ev.Named n es)) k)
    → IfOk result (λ r. (n : List ℕ) (es : List Expr) (k : List Token) → tokens ≡ t.Name n ∷ arguments_of es k → Reads r (ov.Call n es) k)
    → IfOk result (AnswersOperand tokens)
name_only tokens (Err e) is element call = tt
name_only tokens (Ok r) is element call = λ o k after e. by o k after (operand_at o k tokens be.Name e is) where
  by : (o : Operand) (k : List Token) → IsAfter k → OperandAt tokens k o be.Name → Reads r o k
  by o k after (at_element n es q p) = subst (λ (y : Operand). Reads r y k) (sym q) (element n es k after p)
  by o k after (at_call n es q p) = subst (λ (y : Operand). Reads r y k) (sym q) (call n es k p)

pub value_only : (tokens : List Token) (result : Result (Option (Operand × Bor (List Token))) AllocError) → begin_of tokens ≡ be.Value
    → IfOk result (λ r. (l : Literal) (k : List Token) → IsNot s.Open k → tokens ≡ literal_token l ∷ k → Reads r (ov.Literal l) k)
    → IfOk result (λ r. (l : Literal) (type : TypeForm) (k : List Token) → IsNot s.Open k → tokens ≡ literal_token l ∷ decoration_of type k → Reads r (ov.Decorated l type) k)
    → IfOk result (λ r. (b : Bool) (k : List Token) → tokens ≡ t.Word (truth_word b) ∷ k → Reads r (ov.Truth b) k)
    → IfOk result (AnswersOperand tokens)
value_only tokens (Err e) is literal decorated truth = tt
value_only tokens (Ok r) is literal decorated truth = λ o k after e. by o k after (operand_at o k tokens be.Value e is) where
  by : (o : Operand) (k : List Token) → IsAfter k → OperandAt tokens k o be.Value → Reads r o k
  by o k after (at_literal l q p) = subst (λ (y : Operand). Reads r y k) (sym q) (literal l k (after_no_open k after) p)
  by o k after (at_decorated l type q p) = subst (λ (y : Operand). Reads r y k) (sym q) (decorated l type k (after_no_open k after) p)
  by o k after (at_truth b q p) = subst (λ (y : Operand). Reads r y k) (sym q) (truth b k p)

pub parens_only : (tokens : List Token) (result : Result (Option (Operand × Bor (List Token))) AllocError) → begin_of tokens ≡ be.Parens
    → IfOk result (λ r. (x : Expr) (k : List Token) → tokens ≡ bracketed (expr_then x) k → Reads r (ov.Parens x) k)
    → IfOk result (AnswersOperand tokens)
parens_only tokens (Err e) is parens = tt
parens_only tokens (Ok r) is parens = λ o k after e. by o k (operand_at o k tokens be.Parens e is) where
  by : (o : Operand) (k : List Token) → OperandAt tokens k o be.Parens → Reads r o k
  by o k (at_parens x q p) = subst (λ (y : Operand). Reads r y k) (sym q) (parens x k p)

pub bracket_only : (tokens : List Token) (result : Result (Option (Operand × Bor (List Token))) AllocError) → begin_of tokens ≡ be.Bracket
    → IfOk result (λ r. (x : Expr) (c : Closing) (y : Operand) (k : List Token) → IsAfter k → IsBracketed x c (Some y) → tokens ≡ t.Symbol s.OpenIndex ∷ expr_then x (closing_then c k) → Reads r y k)
    → IfOk result (AnswersOperand tokens)
bracket_only tokens (Err e) is table = tt
bracket_only tokens (Ok r) is table = λ o k after e. by o k after (operand_at o k tokens be.Bracket e is) where
  by : (o : Operand) (k : List Token) → IsAfter k → OperandAt tokens k o be.Bracket → Reads r o k
  by o k after (at_bracket x c q p) = table x c o k after q p

-- where none begins
abbrev begins_operand : Begin → Bool
begins_operand be.Name = true
begins_operand be.Value = true
begins_operand be.Parens = true
begins_operand be.Bracket = true
begins_operand other = false

begun_operand : (tokens k : List Token) (o : Operand) (b : Begin) → OperandAt tokens k o b → begins_operand b ≡ true
begun_operand tokens k o b (at_element n es q p) = refl
begun_operand tokens k o b (at_call n es q p) = refl
begun_operand tokens k o b (at_literal l q p) = refl
begun_operand tokens k o b (at_decorated l type q p) = refl
begun_operand tokens k o b (at_truth x q p) = refl
begun_operand tokens k o b (at_parens x q p) = refl
begun_operand tokens k o b (at_bracket x c q p) = refl

pub no_operand : (tokens : List Token) (b : Begin) → begin_of tokens ≡ b → begins_operand b ≡ false → (o : Operand) (k : List Token) → tokens ≡ operand_then o k → ⊥
no_operand tokens b is none o k e = let h : false ≡ true = sym none ∙ begun_operand tokens k o b (operand_at o k tokens b e is) in (cc)
