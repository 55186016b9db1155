-- Output items, as they are read.
use Rattle.std.proofs.Common.{◌≡◌, ◌≢◌, ◌∙◌, refl, sym, ap, subst, Bool, true, false, List, ◌∷◌}
use Rattle.occ_lines.specs.declared.token.Symbol.TheVariants as s
use Rattle.occ_lines.specs.declared.token.Token.{Token}
use Rattle.occ_lines.specs.declared.token.Token.TheVariants as t
use Rattle.occ_forms_expressions.specs.declared.tree.Bounds.{Bounds}
use Rattle.occ_forms_expressions.specs.declared.tree.Bounds.TheOpen.{Expr-F}
use Rattle.occ_forms_expressions.specs.declared.tree.Bounds.TheViews.{out-roll-Expr}
use Rattle.occ_forms_expressions.specs.declared.tree.Builtin.{Builtin}
use Rattle.occ_forms_expressions.specs.declared.tree.Dimension.{Dimension}
use Rattle.occ_forms_expressions.specs.declared.tree.Element.{Element}
use Rattle.occ_forms_expressions.specs.declared.tree.Expr.{Expr, out-Expr}
use Rattle.occ_forms_expressions.specs.declared.tree.Expr.TheVariants as xv
use Rattle.occ_forms_expressions.specs.declared.tree.Extreme.{Extreme}
use Rattle.occ_forms_expressions.specs.declared.tree.NamedOperand.{NamedOperand}
use Rattle.occ_forms_expressions.specs.declared.tree.Operand.{Operand}
use Rattle.occ_forms_expressions.specs.declared.tree.TypeForm.{TypeForm}
use Rattle.occ_forms_expressions.specs.Reading.{IsEnd, IsEndOfRun}
use Rattle.occ_forms_expressions.specs.Spelling.{expr_then}
use Rattle.occ_forms_expressions.specs.TypeEnds.{EndsMost}
use Rattle.occ_forms_expressions.proofs.Cases.{ExprIs, expr_is, expr_is_alone, expr_is_applied, expr_is_array_converted, expr_is_converted, expr_is_most, expr_is_named, expr_is_pair, expr_is_run}
use Rattle.occ_forms_expressions.proofs.TypeEnds.{array_ends}
use Rattle.occ_forms.specs.declared.tree.OutputItem.{OutputItem}
use Rattle.occ_forms.specs.declared.tree.OutputItem.TheVariants as oi
use Rattle.occ_forms.specs.Reading.{IsItemEnd, ends_item}
use Rattle.occ_forms.specs.Spelling.{output_item_then}
use Rattle.occ_forms.proofs.Ends.{item_end}

-- the expression is MOSTPOS or MOSTNEG of a type
abbrev most_step : Expr-F Bounds Builtin Dimension Element Expr NamedOperand Operand TypeForm → Bool
most_step (Expr-F.Alone o) = false
most_step (Expr-F.Run operator a b os) = false
most_step (Expr-F.Pair a operator b) = false
most_step (Expr-F.Applied operator o) = false
most_step (Expr-F.Converted ds b o) = false
most_step (Expr-F.ArrayConverted d ds n o) = false
most_step (Expr-F.Expr::Named n o) = false
most_step (Expr-F.Most x type) = true

abbrev is_most : Expr → Bool
is_most e = most_step (out-Expr e)

most_is : (m : Extreme) (type : TypeForm) → is_most (xv.Most m type) ≡ true
most_is m type = ap is_most (sym (xv.rolls-Most m type)) ∙ ap most_step (out-roll-Expr (Expr-F.Most m type))

no_most : (z : Expr) → is_most z ≡ false → (m : Extreme) (type : TypeForm) → z ≢ xv.Most m type
no_most z none m type e = let h : false ≡ true = sym none ∙ ap is_most e ∙ most_is m type in (cc)

-- the count of a counted item is read, whatever the array is
count_by : (R : Expr → List Token → Type 0) (tokens : List Token)
    → ((z : Expr) (k : List Token) → IsEndOfRun k → ((m : Extreme) (type : TypeForm) → z ≢ xv.Most m type) → tokens ≡ expr_then z k → R z k)
    → ((m : Extreme) (type : TypeForm) (k : List Token) → IsEndOfRun k → EndsMost type k → tokens ≡ expr_then (xv.Most m type) k → R (xv.Most m type) k)
    → (e array : Expr) (k : List Token) → tokens ≡ expr_then e (t.Symbol s.Counted ∷ expr_then array k) → R e (t.Symbol s.Counted ∷ expr_then array k)
count_by R tokens run most e array k q = by (expr_is e) where
  plain : (z : Expr) → e ≡ z → is_most z ≡ false → R e (t.Symbol s.Counted ∷ expr_then array k)
  plain z is none = run e (t.Symbol s.Counted ∷ expr_then array k) refl (no_most e (ap is_most is ∙ none)) q

  by : ExprIs e → R e (t.Symbol s.Counted ∷ expr_then array k)
  by (expr_is_alone o is) = plain (xv.Alone o) is (ap is_most (sym (xv.rolls-Alone o)) ∙ ap most_step (out-roll-Expr (Expr-F.Alone o)))
  by (expr_is_run op a b os is) = plain (xv.Run op a b os) is (ap is_most (sym (xv.rolls-Run op a b os)) ∙ ap most_step (out-roll-Expr (Expr-F.Run op a b os)))
  by (expr_is_pair a op b is) = plain (xv.Pair a op b) is (ap is_most (sym (xv.rolls-Pair a op b)) ∙ ap most_step (out-roll-Expr (Expr-F.Pair a op b)))
  by (expr_is_applied op o is) = plain (xv.Applied op o) is (ap is_most (sym (xv.rolls-Applied op o)) ∙ ap most_step (out-roll-Expr (Expr-F.Applied op o)))
  by (expr_is_converted ds b o is) = plain (xv.Converted ds b o) is (ap is_most (sym (xv.rolls-Converted ds b o)) ∙ ap most_step (out-roll-Expr (Expr-F.Converted ds b o)))
  by (expr_is_array_converted d ds n o is) = plain (xv.ArrayConverted d ds n o) is (ap is_most (sym (xv.rolls-ArrayConverted d ds n o)) ∙ ap most_step (out-roll-Expr (Expr-F.ArrayConverted d ds n o)))
  by (expr_is_named n o is) = plain (xv.Named n o) is (ap is_most (sym (xv.rolls-Named n o)) ∙ ap most_step (out-roll-Expr (Expr-F.Expr::Named n o)))
  by (expr_is_most m type is) = subst (λ (y : Expr). R y (t.Symbol s.Counted ∷ expr_then array k)) (sym is)
      (most m type (t.Symbol s.Counted ∷ expr_then array k) refl (array_ends array k type) (q ∙ ap (λ (y : Expr). expr_then y (t.Symbol s.Counted ∷ expr_then array k)) is))

-- an expression is read, and this is left
abbrev pub IsExprRead : List Token → Expr → List Token → Type 0
IsExprRead tokens first rest = (e : Expr) (k : List Token) → IsEnd k → tokens ≡ expr_then e k → (first ≡ e) × (rest ≡ k)

abbrev pub IsRunRead : List Token → Expr → List Token → Type 0
IsRunRead tokens first rest = (z : Expr) (k : List Token) → IsEndOfRun k → ((m : Extreme) (type : TypeForm) → z ≢ xv.Most m type) → tokens ≡ expr_then z k → (first ≡ z) × (rest ≡ k)

abbrev pub IsMostRead : List Token → Expr → List Token → Type 0
IsMostRead tokens first rest = (m : Extreme) (type : TypeForm) (k : List Token) → IsEndOfRun k → EndsMost type k → tokens ≡ expr_then (xv.Most m type) k → (first ≡ xv.Most m type) × (rest ≡ k)

count_read : (tokens rest : List Token) (first : Expr) → IsRunRead tokens first rest → IsMostRead tokens first rest
    → (e array : Expr) (k : List Token) → tokens ≡ expr_then e (t.Symbol s.Counted ∷ expr_then array k) → (first ≡ e) × (rest ≡ t.Symbol s.Counted ∷ expr_then array k)
count_read tokens rest first run most e array k q = count_by (λ z j. (first ≡ z) × (rest ≡ j)) tokens run most e array k q

pub no_item : (tokens : List Token) → ((e : Expr) (k : List Token) → IsEnd k → tokens ≡ expr_then e k → ⊥)
    → ((z : Expr) (k : List Token) → IsEndOfRun k → ((m : Extreme) (type : TypeForm) → z ≢ xv.Most m type) → tokens ≡ expr_then z k → ⊥)
    → ((m : Extreme) (type : TypeForm) (k : List Token) → IsEndOfRun k → EndsMost type k → tokens ≡ expr_then (xv.Most m type) k → ⊥)
    → (x : OutputItem) (k : List Token) → IsItemEnd k → tokens ≡ output_item_then x k → ⊥
no_item tokens none run most (oi.Plain e) k ends q = none e k (item_end k ends) q
no_item tokens none run most (oi.Counted e array) k ends q = count_by (λ z j. ⊥) tokens run most e array k q

pub plain_item : (tokens rest : List Token) (first : Expr) → IsExprRead tokens first rest → IsRunRead tokens first rest → IsMostRead tokens first rest → ((k : List Token) → rest ≢ t.Symbol s.Counted ∷ k)
    → (x : OutputItem) (k : List Token) → IsItemEnd k → tokens ≡ output_item_then x k → (oi.Plain first ≡ x) × (rest ≡ k)
plain_item tokens rest first read run most none (oi.Plain e) k ends q = let h = read e k (item_end k ends) q in (ap (λ (y : Expr). oi.Plain y) h.0, h.1)
plain_item tokens rest first read run most none (oi.Counted e array) k ends q = absurd (none _ (count_read tokens rest first run most e array k q).1)

pub no_count : (begun k : List Token) → IsItemEnd k → k ≡ t.Symbol s.Counted ∷ begun → ⊥
no_count begun k ends e = let h : true ≡ false = sym ends ∙ ap ends_item e in absurd cc

inside : (j k : List Token) → t.Symbol s.Counted ∷ j ≡ t.Symbol s.Counted ∷ k → j ≡ k
inside j k e = cc

pub no_array : (tokens rest begun : List Token) (first : Expr) → IsExprRead tokens first rest → IsRunRead tokens first rest → IsMostRead tokens first rest → rest ≡ t.Symbol s.Counted ∷ begun
    → ((e : Expr) (k : List Token) → IsEnd k → begun ≡ expr_then e k → ⊥)
    → (x : OutputItem) (k : List Token) → IsItemEnd k → tokens ≡ output_item_then x k → ⊥
no_array tokens rest begun first read run most is none (oi.Plain e) k ends q = no_count begun k ends (sym (read e k (item_end k ends) q).1 ∙ is)
no_array tokens rest begun first read run most is none (oi.Counted e array) k ends q = none array k (item_end k ends) (inside _ _ (sym is ∙ (count_read tokens rest first run most e array k q).1))

pub counted_item : (tokens rest begun left : List Token) (first array : Expr) → IsExprRead tokens first rest → IsRunRead tokens first rest → IsMostRead tokens first rest → rest ≡ t.Symbol s.Counted ∷ begun
    → IsExprRead begun array left
    → (x : OutputItem) (k : List Token) → IsItemEnd k → tokens ≡ output_item_then x k → (oi.Counted first array ≡ x) × (left ≡ k)
counted_item tokens rest begun left first array read run most is one (oi.Plain e) k ends q = absurd (no_count begun k ends (sym (read e k (item_end k ends) q).1 ∙ is))
counted_item tokens rest begun left first array read run most is one (oi.Counted e other) k ends q = let h = count_read tokens rest first run most e other k q in
    let m = one other k (item_end k ends) (inside _ _ (sym is ∙ h.1)) in
    (ap (λ (y : Expr). oi.Counted y array) h.0 ∙ ap (λ (y : Expr). oi.Counted e y) m.0, m.1)
