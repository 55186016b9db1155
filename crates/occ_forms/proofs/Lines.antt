-- Lines, step by step as they are read.
use Rattle.std.proofs.Common.{◌≡◌, List, [], ◌∷◌, refl, sym, ◌∙◌}
use Rattle.occ_lines.specs.declared.token.Token.{Token}
use Rattle.occ_forms_expressions.specs.declared.tree.Expr.{Expr}
use Rattle.occ_forms_expressions.specs.Spelling.{expr_then}
use Rattle.occ_forms_expressions.proofs.Begins.{no_expr}

-- an expression is not without tokens
pub no_empty : {Z : Type 0} (token : Token) (tokens rest : List Token) (x : Expr) → tokens ≡ token ∷ rest → rest ≡ [] → tokens ≡ token ∷ expr_then x [] → Z
no_empty token tokens rest x is empty e = let h : token ∷ rest ≡ token ∷ expr_then x [] = sym is ∙ e in
    let i : rest ≡ expr_then x [] = (cc) in absurd (no_expr x [] [] refl (sym empty ∙ i))
