-- What a call's arguments are, step by step as they are read.
use Rattle.std.proofs.Common.{◌≡◌, ◌≢◌, List, [], ◌∷◌, refl, sym, ◌∙◌, ap}
use Rattle.occ_lines.specs.declared.token.Symbol.TheVariants as s
use Rattle.occ_lines.specs.declared.token.Token.{Token}
use Rattle.occ_lines.specs.declared.token.Token.TheVariants as t
use Rattle.occ_forms_expressions.specs.declared.tree.Expr.{Expr}
use Rattle.occ_forms_expressions.specs.Reading.{IsEnd, IsEndOfItems}
use Rattle.occ_forms_expressions.specs.Spelling.{arguments_of, expr_then, many, next_item_of}
use Rattle.occ_forms_expressions.proofs.Begins.{no_expr}
use Rattle.occ_forms_expressions.proofs.Lists.{item_within}

-- a list of expressions ends at a bracket that closes it
pub close_ends : (k : List Token) → IsEndOfItems (t.Symbol s.Close ∷ k)
close_ends k = record { ends = refl; no_comma = λ rest e. absurd cc }

inside : (tokens read : List Token) → t.Symbol s.Open ∷ tokens ≡ t.Symbol s.Open ∷ read → tokens ≡ read
inside tokens read e = cc

pub no_arguments : (none : List Expr) (tokens rest : List Token) → none ≡ [] → tokens ≡ t.Symbol s.Close ∷ rest
    → (es : List Expr) (k : List Token) → t.Symbol s.Open ∷ tokens ≡ arguments_of es k → (none ≡ es) × (rest ≡ k)
no_arguments none tokens rest empty is [] k e = let h : t.Symbol s.Close ∷ rest ≡ t.Symbol s.Close ∷ k = sym is ∙ inside tokens _ e in (empty, cc)
no_arguments none tokens rest empty is (x ∷ xs) k e = absurd (no_expr x _ (t.Symbol s.Close ∷ rest) refl (sym is ∙ inside tokens _ e))

pub no_first : (tokens : List Token) → ((k : List Token) → tokens ≢ t.Symbol s.Close ∷ k)
    → ((x : Expr) (k : List Token) → IsEnd k → tokens ≡ expr_then x k → ⊥)
    → (es : List Expr) (k : List Token) → t.Symbol s.Open ∷ tokens ≡ arguments_of es k → ⊥
no_first tokens none nothing [] k e = none k (inside tokens _ e)
no_first tokens none nothing (x ∷ xs) k e = nothing x _ (item_within xs (t.Symbol s.Close ∷ k) (close_ends k)) (inside tokens _ e)

-- the first is read, and this is left
abbrev pub IsFirstRead : List Token → Expr → List Token → Type 0
IsFirstRead tokens first rest = (x : Expr) (k : List Token) → IsEnd k → tokens ≡ expr_then x k → (first ≡ x) × (rest ≡ k)

pub no_more : (tokens : List Token) (first : Expr) (rest : List Token) → ((k : List Token) → tokens ≢ t.Symbol s.Close ∷ k) → IsFirstRead tokens first rest
    → ((es : List Expr) (k : List Token) → IsEndOfItems k → rest ≡ many next_item_of es k → ⊥)
    → (es : List Expr) (k : List Token) → t.Symbol s.Open ∷ tokens ≡ arguments_of es k → ⊥
no_more tokens first rest none one no_list [] k e = none k (inside tokens _ e)
no_more tokens first rest none one no_list (x ∷ xs) k e =
    let h = one x _ (item_within xs (t.Symbol s.Close ∷ k) (close_ends k)) (inside tokens _ e) in
    no_list xs _ (close_ends k) h.1

pub no_close : (tokens : List Token) (first : Expr) (rest : List Token) (more : List Expr) (left : List Token) → ((k : List Token) → tokens ≢ t.Symbol s.Close ∷ k) → IsFirstRead tokens first rest
    → ((es : List Expr) (k : List Token) → IsEndOfItems k → rest ≡ many next_item_of es k → (more ≡ es) × (left ≡ k))
    → ((k : List Token) → left ≢ t.Symbol s.Close ∷ k)
    → (es : List Expr) (k : List Token) → t.Symbol s.Open ∷ tokens ≡ arguments_of es k → ⊥
no_close tokens first rest more left none one list no_end [] k e = none k (inside tokens _ e)
no_close tokens first rest more left none one list no_end (x ∷ xs) k e =
    let h = one x _ (item_within xs (t.Symbol s.Close ∷ k) (close_ends k)) (inside tokens _ e) in
    let m = list xs _ (close_ends k) h.1 in no_end k m.1

pub all_arguments : (tokens : List Token) (first : Expr) (rest : List Token) (more : List Expr) (left end : List Token) (all : List Expr) → ((k : List Token) → tokens ≢ t.Symbol s.Close ∷ k) → IsFirstRead tokens first rest
    → ((es : List Expr) (k : List Token) → IsEndOfItems k → rest ≡ many next_item_of es k → (more ≡ es) × (left ≡ k))
    → left ≡ t.Symbol s.Close ∷ end → all ≡ first ∷ more
    → (es : List Expr) (k : List Token) → t.Symbol s.Open ∷ tokens ≡ arguments_of es k → (all ≡ es) × (end ≡ k)
all_arguments tokens first rest more left end all none one list closed joined [] k e = absurd (none k (inside tokens _ e))
all_arguments tokens first rest more left end all none one list closed joined (x ∷ xs) k e =
    let h = one x _ (item_within xs (t.Symbol s.Close ∷ k) (close_ends k)) (inside tokens _ e) in
    let m = list xs _ (close_ends k) h.1 in
    let c : t.Symbol s.Close ∷ end ≡ t.Symbol s.Close ∷ k = sym closed ∙ m.1 in
    (joined ∙ ap (λ (y : Expr). y ∷ more) h.0 ∙ ap (λ (ys : List Expr). x ∷ ys) m.0, cc)
