-- Conversions, step by step as they are read.
use Rattle.std.proofs.Common.{◌≡◌, ◌∙◌, sym, ap, ℕ, List, [], ◌∷◌, Some, None}
use Rattle.occ_lines.specs.declared.token.Symbol.TheVariants as s
use Rattle.occ_lines.specs.declared.token.Token.{Token}
use Rattle.occ_lines.specs.declared.token.Token.TheVariants as t
use Rattle.occ_forms_expressions.specs.declared.bracket.Closing.{Closing}
use Rattle.occ_forms_expressions.specs.declared.tree.Builtin.{Builtin}
use Rattle.occ_forms_expressions.specs.declared.tree.Dimension.{Dimension}
use Rattle.occ_forms_expressions.specs.declared.tree.Expr.{Expr}
use Rattle.occ_forms_expressions.specs.declared.tree.Expr.TheVariants as xv
use Rattle.occ_forms_expressions.specs.declared.tree.NamedOperand.{NamedOperand}
use Rattle.occ_forms_expressions.specs.declared.tree.Operand.{Operand}
use Rattle.occ_forms_expressions.specs.declared.tree.Operand.TheVariants as ov
use Rattle.occ_forms_expressions.specs.inside.Brackets.{IsBracketed, closing_then, narrow_of}
use Rattle.occ_forms_expressions.specs.Spelling.{builtin_then, dimension_then, expr_then, many, named_operand_then, operand_then}
use Rattle.occ_forms_expressions.proofs.Cases.{NamedOperandIs, OperandIs, expr_array_converted_spells, expr_converted_spells, expr_named_spells, named_operand_call_spells, named_operand_decorated_spells, named_operand_decorated_table_spells, named_operand_element_spells, named_operand_is, named_operand_is_call, named_operand_is_decorated, named_operand_is_decorated_table, named_operand_is_element, named_operand_is_literal, named_operand_is_table, named_operand_is_truth, named_operand_literal_spells, named_operand_table_spells, named_operand_truth_spells, operand_call_spells, operand_decorated_spells, operand_decorated_table_spells, operand_element_spells, operand_is, operand_is_call, operand_is_decorated, operand_is_decorated_table, operand_is_element, operand_is_literal, operand_is_parens, operand_is_table, operand_is_truth, operand_literal_spells, operand_table_spells, operand_truth_spells}
use Rattle.occ_forms_expressions.proofs.Narrow.{narrow_call, narrow_decorated, narrow_decorated_table, narrow_element, narrow_literal, narrow_of_table, narrow_parens, narrow_truth}
use Rattle.occ_forms_expressions.proofs.Operands.{bracketed_one, bracketed_spells}

-- each operand after the name of a type is an operand that spells alike
pub record Widened (o : NamedOperand) : Type 0 where
  pub wide : Operand
  pub narrows : narrow_of wide ≡ Some o
  pub spells : (k : List Token) → operand_then wide k ≡ named_operand_then o k

pub widen : (o : NamedOperand) → Widened o
widen o = by (named_operand_is o) where
  spelled : (p : Operand) (q : NamedOperand) (k read : List Token) → o ≡ q → operand_then p k ≡ read → named_operand_then q k ≡ read → operand_then p k ≡ named_operand_then o k
  spelled p q k read is wide narrow = wide ∙ sym narrow ∙ ap (λ (y : NamedOperand). named_operand_then y k) (sym is)

  known : (q : NamedOperand) → o ≡ q → Some q ≡ Some o
  known q is = ap (λ (y : NamedOperand). Some y) (sym is)

  by : NamedOperandIs o → Widened o
  by (named_operand_is_element el q) = record { wide = ov.Element el; narrows = narrow_element el ∙ known _ q; spells = λ k. spelled _ _ k _ q (operand_element_spells el k) (named_operand_element_spells el k) }
  by (named_operand_is_literal l q) = record { wide = ov.Literal l; narrows = narrow_literal l ∙ known _ q; spells = λ k. spelled _ _ k _ q (operand_literal_spells l k) (named_operand_literal_spells l k) }
  by (named_operand_is_decorated l type q) = record { wide = ov.Decorated l type; narrows = narrow_decorated l type ∙ known _ q; spells = λ k. spelled _ _ k _ q (operand_decorated_spells l type k) (named_operand_decorated_spells l type k) }
  by (named_operand_is_truth b q) = record { wide = ov.Truth b; narrows = narrow_truth b ∙ known _ q; spells = λ k. spelled _ _ k _ q (operand_truth_spells b k) (named_operand_truth_spells b k) }
  by (named_operand_is_table e f es q) = record { wide = ov.Table e (f ∷ es); narrows = narrow_of_table e (f ∷ es) ∙ known _ q; spells = λ k. spelled _ _ k _ q (operand_table_spells e (f ∷ es) k) (named_operand_table_spells e f es k) }
  by (named_operand_is_decorated_table e es type q) = record { wide = ov.DecoratedTable e es type; narrows = narrow_decorated_table e es type ∙ known _ q; spells = λ k. spelled _ _ k _ q (operand_decorated_table_spells e es type k) (named_operand_decorated_table_spells e es type k) }
  by (named_operand_is_call n es q) = record { wide = ov.Call n es; narrows = narrow_call n es ∙ known _ q; spells = λ k. spelled _ _ k _ q (operand_call_spells n es k) (named_operand_call_spells n es k) }

-- and one that is narrowed spells what it did
pub narrow_spells : (p : Operand) (o : NamedOperand) (k : List Token) → narrow_of p ≡ Some o → operand_then p k ≡ named_operand_then o k
narrow_spells p o k narrows = by (operand_is p) where
  known : (q : Operand) (r : NamedOperand) → p ≡ q → narrow_of q ≡ Some r → r ≡ o
  known q r is from = let h : Some r ≡ Some o = sym from ∙ sym (ap narrow_of is) ∙ narrows in (cc)

  spelled : (q : Operand) (r : NamedOperand) (read : List Token) → p ≡ q → narrow_of q ≡ Some r → operand_then q k ≡ read → named_operand_then r k ≡ read → operand_then p k ≡ named_operand_then o k
  spelled q r read is from wide narrow = ap (λ (y : Operand). operand_then y k) is ∙ wide ∙ sym narrow ∙ ap (λ (y : NamedOperand). named_operand_then y k) (known q r is from)

  by : OperandIs p → operand_then p k ≡ named_operand_then o k
  by (operand_is_element el q) = spelled _ _ _ q (narrow_element el) (operand_element_spells el k) (named_operand_element_spells el k)
  by (operand_is_literal l q) = spelled _ _ _ q (narrow_literal l) (operand_literal_spells l k) (named_operand_literal_spells l k)
  by (operand_is_decorated l type q) = spelled _ _ _ q (narrow_decorated l type) (operand_decorated_spells l type k) (named_operand_decorated_spells l type k)
  by (operand_is_truth b q) = spelled _ _ _ q (narrow_truth b) (operand_truth_spells b k) (named_operand_truth_spells b k)
  by (operand_is_parens e q) = let h : None ≡ Some o = sym (narrow_parens e) ∙ sym (ap narrow_of q) ∙ narrows in absurd cc
  by (operand_is_table e [] q) = let h : None ≡ Some o = sym (narrow_of_table e []) ∙ sym (ap narrow_of q) ∙ narrows in absurd cc
  by (operand_is_table e (f ∷ es) q) = spelled _ _ _ q (narrow_of_table e (f ∷ es)) (operand_table_spells e (f ∷ es) k) (named_operand_table_spells e f es k)
  by (operand_is_decorated_table e es type q) = spelled _ _ _ q (narrow_decorated_table e es type) (operand_decorated_table_spells e es type k) (named_operand_decorated_table_spells e es type k)
  by (operand_is_call n es q) = spelled _ _ _ q (narrow_call n es) (operand_call_spells n es k) (named_operand_call_spells n es k)

pub name_found : (m n : List ℕ) (p : Operand) (o boxed : NamedOperand) (tokens rest : List Token) → m ≡ n → tokens ≡ operand_then p rest → narrow_of p ≡ Some o → boxed ≡ o
    → t.Name n ∷ tokens ≡ expr_then (xv.Named m boxed) rest
name_found m n p o boxed tokens rest same e narrows is =
    ap (λ (z : List Token). t.Name n ∷ z) (e ∙ narrow_spells p o rest narrows ∙ ap (λ (y : NamedOperand). named_operand_then y rest) (sym is)) ∙ sym (expr_named_spells n boxed rest)
    ∙ ap (λ (y : List ℕ). expr_then (xv.Named y boxed) rest) (sym same)

pub bracket_found : (m n : List ℕ) (first : Expr) (closing : Closing) (p : Operand) (o boxed : NamedOperand) → m ≡ n → IsBracketed first closing (Some p) → narrow_of p ≡ Some o → boxed ≡ o
    → (k : List Token) → t.Name n ∷ t.Symbol s.OpenIndex ∷ expr_then first (closing_then closing k) ≡ expr_then (xv.Named m boxed) k
bracket_found m n first closing p o boxed same operand narrows is k = name_found m n p o boxed _ k same (sym (bracketed_spells first closing p k operand)) narrows is

-- of what stands in brackets one operand is made at most
pub bracket_none : {Z : Type 0} (first : Expr) (closing : Closing) (p q : Operand) (o : NamedOperand) → IsBracketed first closing (Some p) → narrow_of p ≡ None → IsBracketed first closing (Some q) → narrow_of q ≡ Some o → Z
bracket_none first closing p q o one none other some =
    let h : None ≡ Some o = sym none ∙ ap narrow_of (bracketed_one first closing p q one other) ∙ some in absurd cc

pub bracket_same : (m n : List ℕ) (first : Expr) (closing : Closing) (p q : Operand) (o boxed other : NamedOperand) → m ≡ n → IsBracketed first closing (Some p) → narrow_of p ≡ Some o → boxed ≡ o
    → IsBracketed first closing (Some q) → narrow_of q ≡ Some other → Some (xv.Named m boxed) ≡ Some (xv.Named n other)
bracket_same m n first closing p q o boxed other same one narrows is second also =
    let h : Some o ≡ Some other = sym narrows ∙ ap narrow_of (bracketed_one first closing p q one second) ∙ also in
    let i : o ≡ other = (cc) in
    ap (λ (y : List ℕ). Some (xv.Named y boxed)) same ∙ ap (λ (y : NamedOperand). Some (xv.Named n y)) (is ∙ i)

pub converted_found : (ds : List Dimension) (b form : Builtin) (o operand : Operand) (tokens following rest : List Token) → tokens ≡ builtin_then b following → following ≡ operand_then o rest → form ≡ b → operand ≡ o
    → many dimension_then ds tokens ≡ expr_then (xv.Converted ds form operand) rest
converted_found ds b form o operand tokens following rest e f p q =
    ap (many dimension_then ds) (e ∙ ap (builtin_then b) f) ∙ sym (expr_converted_spells ds b o rest)
    ∙ ap (λ (y : Builtin). expr_then (xv.Converted ds y o) rest) (sym p) ∙ ap (λ (y : Operand). expr_then (xv.Converted ds form y) rest) (sym q)

pub converted_same : (ds : List Dimension) (b form c : Builtin) (o operand p : Operand) → form ≡ b → operand ≡ o → b ≡ c → o ≡ p → xv.Converted ds form operand ≡ xv.Converted ds c p
converted_same ds b form c o operand p e f g h = ap (λ (y : Builtin). xv.Converted ds y operand) (e ∙ g) ∙ ap (λ (y : Operand). xv.Converted ds c y) (f ∙ h)

pub array_found : (first d : Dimension) (ds : List Dimension) (n : List ℕ) (o operand : Operand) (tokens rest : List Token) → tokens ≡ operand_then o rest → first ≡ d → operand ≡ o
    → dimension_then d (many dimension_then ds (t.Name n ∷ tokens)) ≡ expr_then (xv.ArrayConverted first ds n operand) rest
array_found first d ds n o operand tokens rest e p q =
    ap (λ (z : List Token). dimension_then d (many dimension_then ds (t.Name n ∷ z))) e ∙ sym (expr_array_converted_spells d ds n o rest)
    ∙ ap (λ (y : Dimension). expr_then (xv.ArrayConverted y ds n o) rest) (sym p) ∙ ap (λ (y : Operand). expr_then (xv.ArrayConverted first ds n y) rest) (sym q)
