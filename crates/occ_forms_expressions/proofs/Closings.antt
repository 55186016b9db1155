-- What stands in square brackets, step by step as it is read.
use Rattle.std.proofs.Common.{◌≡◌, List, [], ◌∷◌, true, false, Option, Result, Ok, Err, IfOk, Bor, refl, sym, ◌∙◌, ap}
use Rattle.std.specs.declared.alloc.AllocError.{AllocError}
use Rattle.occ_lines.specs.declared.token.Symbol.TheVariants as s
use Rattle.occ_lines.specs.declared.token.Token.{Token}
use Rattle.occ_lines.specs.declared.token.Token.TheVariants as t
use Rattle.occ_forms_expressions.specs.declared.bracket.Bracket.TheVariants as br
use Rattle.occ_forms_expressions.specs.declared.bracket.Closing.{Closing}
use Rattle.occ_forms_expressions.specs.declared.bracket.Closing.TheVariants as cl
use Rattle.occ_forms_expressions.specs.declared.tree.Bounds.{Bounds}
use Rattle.occ_forms_expressions.specs.declared.tree.Expr.{Expr}
use Rattle.occ_forms_expressions.specs.inside.Brackets.{bounds_begin, closing_then, Fits}
use Rattle.occ_forms_expressions.specs.Reading.{IsEnd, Reads, ends_expr}
use Rattle.occ_forms_expressions.specs.Spelling.{bounds_then, expr_then, many, next_item_of}
use Rattle.occ_forms_expressions.proofs.Begins.{no_expr}
use Rattle.occ_forms_expressions.proofs.Cases.{BoundsIs, bounds_is, bounds_is_for, bounds_is_from, bounds_is_from_for, bounds_for_spells, bounds_from_for_spells, bounds_from_spells}

pub bounds_begins : (b : Bounds) (k : List Token) → bounds_begin (bounds_then b k) ≡ true
bounds_begins b k = by b k (bounds_is b) where
  by : (b : Bounds) (k : List Token) → BoundsIs b → bounds_begin (bounds_then b k) ≡ true
  by b k (bounds_is_from e q) = ap (λ (x : Bounds). bounds_begin (bounds_then x k)) q ∙ ap bounds_begin (bounds_from_spells e k)
  by b k (bounds_is_for e q) = ap (λ (x : Bounds). bounds_begin (bounds_then x k)) q ∙ ap bounds_begin (bounds_for_spells e k)
  by b k (bounds_is_from_for e f q) = ap (λ (x : Bounds). bounds_begin (bounds_then x k)) q ∙ ap bounds_begin (bounds_from_for_spells e f k)

bounds_end : (b : Bounds) (k : List Token) → ends_expr (bounds_then b k) ≡ true
bounds_end b k = by b k (bounds_is b) where
  by : (b : Bounds) (k : List Token) → BoundsIs b → ends_expr (bounds_then b k) ≡ true
  by b k (bounds_is_from e q) = ap (λ (x : Bounds). ends_expr (bounds_then x k)) q ∙ ap ends_expr (bounds_from_spells e k)
  by b k (bounds_is_for e q) = ap (λ (x : Bounds). ends_expr (bounds_then x k)) q ∙ ap ends_expr (bounds_for_spells e k)
  by b k (bounds_is_from_for e f q) = ap (λ (x : Bounds). ends_expr (bounds_then x k)) q ∙ ap ends_expr (bounds_from_for_spells e f k)

pub items_begin : (es : List Expr) (k : List Token) → bounds_begin (many next_item_of es (t.Symbol s.CloseIndex ∷ k)) ≡ false
items_begin [] k = refl
items_begin (e ∷ es) k = refl

items_end : (es : List Expr) (k : List Token) → ends_expr (many next_item_of es (t.Symbol s.CloseIndex ∷ k)) ≡ true
items_end [] k = refl
items_end (e ∷ es) k = refl

-- an expression ends where it is closed
pub closing_ends : (c : Closing) (k : List Token) → IsEnd (closing_then c k)
closing_ends (cl.Items es type) k = items_end es _
closing_ends (cl.Segment b es) k = bounds_end b _

pub segment_only : (tokens : List Token) (result : Result (Option (Closing × Bor (List Token))) AllocError) → bounds_begin tokens ≡ true
    → IfOk result (λ r. (b : Bounds) (es : List Expr) (k : List Token) → Fits (cl.Segment b es) k → tokens ≡ closing_then (cl.Segment b es) k → Reads r (cl.Segment b es) k)
    → IfOk result (λ r. (c : Closing) (k : List Token) → Fits c k → tokens ≡ closing_then c k → Reads r c k)
segment_only tokens (Err e) begun only = tt
segment_only tokens (Ok r) begun only = by where
  by : (c : Closing) (k : List Token) → Fits c k → tokens ≡ closing_then c k → Reads r c k
  by (cl.Items es type) k fit e = let h : true ≡ false = sym begun ∙ ap bounds_begin e ∙ items_begin es _ in absurd cc
  by (cl.Segment b es) k fit e = only b es k fit e

pub no_closed : (tokens rest : List Token) → tokens ≡ t.Symbol s.CloseIndex ∷ rest → (e : Expr) (c : Closing) (k : List Token) → tokens ≡ expr_then e (closing_then c k) → ⊥
no_closed tokens rest is e c k q = no_expr e _ (t.Symbol s.CloseIndex ∷ rest) refl (sym is ∙ q)

pub both : (first e : Expr) (closing c : Closing) → first ≡ e → closing ≡ c → br.Closed first closing ≡ br.Closed e c
both first e closing c p q = ap (λ (x : Expr). br.Closed x closing) p ∙ ap (λ (x : Closing). br.Closed e x) q
