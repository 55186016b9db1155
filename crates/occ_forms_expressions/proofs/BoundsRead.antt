-- The bounds of a segment of which FROM is read, step by step as they are read.
use Rattle.std.proofs.Common.{◌≡◌, ◌≢◌, ◌∙◌, refl, sym, ap, List, ◌∷◌}
use Rattle.occ_lines.specs.declared.token.Symbol.TheVariants as s
use Rattle.occ_lines.specs.declared.token.Token.{Token}
use Rattle.occ_lines.specs.declared.token.Token.TheVariants as t
use Rattle.occ_lines.specs.declared.token.Word.TheVariants as w
use Rattle.occ_forms_expressions.specs.declared.tree.Bounds.{Bounds}
use Rattle.occ_forms_expressions.specs.declared.tree.Bounds.TheVariants as bv
use Rattle.occ_forms_expressions.specs.declared.tree.Expr.{Expr}
use Rattle.occ_forms_expressions.specs.Reading.{IsEnd}
use Rattle.occ_forms_expressions.specs.Spelling.{bounds_then, expr_then}
use Rattle.occ_forms_expressions.proofs.Arguments.{IsFirstRead}
use Rattle.occ_forms_expressions.proofs.Cases.{BoundsIs, bounds_for_spells, bounds_from_for_spells, bounds_from_spells, bounds_is, bounds_is_for, bounds_is_from, bounds_is_from_for}
use Rattle.occ_forms_expressions.proofs.Lists.{after_same}

-- what may stand after FROM
data AfterFrom (tokens : List Token) (b : Bounds) (k : List Token) : Type 0 where
  from_alone : (e : Expr) → b ≡ bv.From e → tokens ≡ expr_then e (t.Symbol s.CloseIndex ∷ k) → AfterFrom tokens b k
  from_and_for : (e : Expr) (f : Expr) → b ≡ bv.FromFor e f → tokens ≡ expr_then e (t.Word w.For ∷ expr_then f (t.Symbol s.CloseIndex ∷ k)) → AfterFrom tokens b k

after_from : (tokens : List Token) (b : Bounds) (k : List Token) → t.Word w.From ∷ tokens ≡ bounds_then b (t.Symbol s.CloseIndex ∷ k) → AfterFrom tokens b k
after_from tokens b k e = by (bounds_is b) where
  spelled : (y : Bounds) → b ≡ y → t.Word w.From ∷ tokens ≡ bounds_then y (t.Symbol s.CloseIndex ∷ k)
  spelled y q = e ∙ ap (λ (x : Bounds). bounds_then x (t.Symbol s.CloseIndex ∷ k)) q

  by : BoundsIs b → AfterFrom tokens b k
  by (bounds_is_from x q) = from_alone x q (after_same (t.Word w.From) (t.Word w.From ∷ tokens) tokens (expr_then x (t.Symbol s.CloseIndex ∷ k)) refl (spelled (bv.From x) q ∙ bounds_from_spells x (t.Symbol s.CloseIndex ∷ k)))
  by (bounds_is_for x q) = let h : t.Word w.From ∷ tokens ≡ t.Word w.For ∷ expr_then x (t.Symbol s.CloseIndex ∷ k) = spelled (bv.For x) q ∙ bounds_for_spells x (t.Symbol s.CloseIndex ∷ k) in absurd cc
  by (bounds_is_from_for x f q) = from_and_for x f q (after_same (t.Word w.From) (t.Word w.From ∷ tokens) tokens (expr_then x (t.Word w.For ∷ expr_then f (t.Symbol s.CloseIndex ∷ k))) refl (spelled (bv.FromFor x f) q ∙ bounds_from_for_spells x f (t.Symbol s.CloseIndex ∷ k)))

pub no_from : (tokens : List Token) → ((x : Expr) (k : List Token) → IsEnd k → tokens ≡ expr_then x k → ⊥)
    → (b : Bounds) (k : List Token) → t.Word w.From ∷ tokens ≡ bounds_then b (t.Symbol s.CloseIndex ∷ k) → ⊥
no_from tokens none b k e = by (after_from tokens b k e) where
  by : AfterFrom tokens b k → ⊥
  by (from_alone x q r) = none x (t.Symbol s.CloseIndex ∷ k) refl r
  by (from_and_for x f q r) = none x (t.Word w.For ∷ expr_then f (t.Symbol s.CloseIndex ∷ k)) refl r

-- FROM alone
pub from_found : (tokens : List Token) (from boxed : Expr) (rest left : List Token) → tokens ≡ expr_then from rest → boxed ≡ from → rest ≡ t.Symbol s.CloseIndex ∷ left
    → t.Word w.From ∷ tokens ≡ bounds_then (bv.From boxed) (t.Symbol s.CloseIndex ∷ left)
from_found tokens from boxed rest left read same is =
    ap (λ (z : List Token). t.Word w.From ∷ z) (read ∙ ap (λ (y : Expr). expr_then y rest) (sym same) ∙ ap (λ (z : List Token). expr_then boxed z) is)
    ∙ sym (bounds_from_spells boxed (t.Symbol s.CloseIndex ∷ left))

pub from_only : (tokens : List Token) (from boxed : Expr) (rest left : List Token) → IsFirstRead tokens from rest → boxed ≡ from → rest ≡ t.Symbol s.CloseIndex ∷ left
    → (b : Bounds) (k : List Token) → t.Word w.From ∷ tokens ≡ bounds_then b (t.Symbol s.CloseIndex ∷ k) → (bv.From boxed ≡ b) × (left ≡ k)
from_only tokens from boxed rest left one same is b k e = by (after_from tokens b k e) where
  by : AfterFrom tokens b k → (bv.From boxed ≡ b) × (left ≡ k)
  by (from_alone x q r) = let h = one x (t.Symbol s.CloseIndex ∷ k) refl r in (ap (λ (y : Expr). bv.From y) (same ∙ h.0) ∙ sym q, after_same (t.Symbol s.CloseIndex) rest left k is h.1)
  by (from_and_for x f q r) = let h = one x (t.Word w.For ∷ expr_then f (t.Symbol s.CloseIndex ∷ k)) refl r in
      let m : t.Symbol s.CloseIndex ∷ left ≡ t.Word w.For ∷ expr_then f (t.Symbol s.CloseIndex ∷ k) = sym is ∙ h.1 in absurd cc

pub no_end : (tokens : List Token) (from : Expr) (rest : List Token) → IsFirstRead tokens from rest → ((k : List Token) → rest ≢ t.Symbol s.CloseIndex ∷ k) → ((k : List Token) → rest ≢ t.Word w.For ∷ k)
    → (b : Bounds) (k : List Token) → t.Word w.From ∷ tokens ≡ bounds_then b (t.Symbol s.CloseIndex ∷ k) → ⊥
no_end tokens from rest one no_close no_for b k e = by (after_from tokens b k e) where
  by : AfterFrom tokens b k → ⊥
  by (from_alone x q r) = no_close k (one x (t.Symbol s.CloseIndex ∷ k) refl r).1
  by (from_and_for x f q r) = no_for (expr_then f (t.Symbol s.CloseIndex ∷ k)) (one x (t.Word w.For ∷ expr_then f (t.Symbol s.CloseIndex ∷ k)) refl r).1

-- FROM and FOR
pub no_count : (tokens : List Token) (from : Expr) (rest begun : List Token) → IsFirstRead tokens from rest → ((k : List Token) → rest ≢ t.Symbol s.CloseIndex ∷ k) → rest ≡ t.Word w.For ∷ begun
    → ((x : Expr) (k : List Token) → begun ≡ expr_then x (t.Symbol s.CloseIndex ∷ k) → ⊥)
    → (b : Bounds) (k : List Token) → t.Word w.From ∷ tokens ≡ bounds_then b (t.Symbol s.CloseIndex ∷ k) → ⊥
no_count tokens from rest begun one no_close is none b k e = by (after_from tokens b k e) where
  by : AfterFrom tokens b k → ⊥
  by (from_alone x q r) = no_close k (one x (t.Symbol s.CloseIndex ∷ k) refl r).1
  by (from_and_for x f q r) = none f k (after_same (t.Word w.For) rest begun (expr_then f (t.Symbol s.CloseIndex ∷ k)) is (one x (t.Word w.For ∷ expr_then f (t.Symbol s.CloseIndex ∷ k)) refl r).1)

pub from_for_found : (tokens : List Token) (from boxed : Expr) (rest begun : List Token) (count counted : Expr) (left : List Token) → tokens ≡ expr_then from rest → boxed ≡ from → rest ≡ t.Word w.For ∷ begun
    → begun ≡ expr_then count (t.Symbol s.CloseIndex ∷ left) → counted ≡ count
    → t.Word w.From ∷ tokens ≡ bounds_then (bv.FromFor boxed counted) (t.Symbol s.CloseIndex ∷ left)
from_for_found tokens from boxed rest begun count counted left read same is following alike =
    ap (λ (z : List Token). t.Word w.From ∷ z) (read ∙ ap (λ (y : Expr). expr_then y rest) (sym same) ∙ ap (λ (z : List Token). expr_then boxed z) (is ∙ ap (λ (z : List Token). t.Word w.For ∷ z) (following ∙ ap (λ (y : Expr). expr_then y (t.Symbol s.CloseIndex ∷ left)) (sym alike))))
    ∙ sym (bounds_from_for_spells boxed counted (t.Symbol s.CloseIndex ∷ left))

pub from_for_only : (tokens : List Token) (from boxed : Expr) (rest begun : List Token) (count counted : Expr) (left : List Token) → IsFirstRead tokens from rest → boxed ≡ from → ((k : List Token) → rest ≢ t.Symbol s.CloseIndex ∷ k) → rest ≡ t.Word w.For ∷ begun
    → ((x : Expr) (k : List Token) → begun ≡ expr_then x (t.Symbol s.CloseIndex ∷ k) → (count ≡ x) × (left ≡ k)) → counted ≡ count
    → (b : Bounds) (k : List Token) → t.Word w.From ∷ tokens ≡ bounds_then b (t.Symbol s.CloseIndex ∷ k) → (bv.FromFor boxed counted ≡ b) × (left ≡ k)
from_for_only tokens from boxed rest begun count counted left one same no_close is read alike b k e = by (after_from tokens b k e) where
  by : AfterFrom tokens b k → (bv.FromFor boxed counted ≡ b) × (left ≡ k)
  by (from_alone x q r) = absurd (no_close k (one x (t.Symbol s.CloseIndex ∷ k) refl r).1)
  by (from_and_for x f q r) = let h = one x (t.Word w.For ∷ expr_then f (t.Symbol s.CloseIndex ∷ k)) refl r in
      let m = read f k (after_same (t.Word w.For) rest begun (expr_then f (t.Symbol s.CloseIndex ∷ k)) is h.1) in
      (ap (λ (y : Expr). bv.FromFor y counted) (same ∙ h.0) ∙ ap (λ (y : Expr). bv.FromFor x y) (alike ∙ m.0) ∙ sym q, m.1)
