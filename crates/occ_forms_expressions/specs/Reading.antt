-- What a reader of tokens has to answer, and what may follow the trees.
use Rattle.std.specs.Prelude.{◌≡◌, ◌<◌, ◌||◌, ◌&&◌, not, ℕ, Bool, true, false, List, [], ◌∷◌, length, Option, Some, None, Result, IfOk, IfSome}
use denote.Bor.{Bor}
use Rattle.std.specs.Global.{Global}
use Rattle.std.specs.declared.alloc.AllocError.{AllocError}
use Rattle.occ_lines.specs.declared.token.Token.{Token}
use Rattle.occ_lines.specs.declared.token.Token.TheVariants as t
use Rattle.occ_lines.specs.declared.token.Symbol.{Symbol}
use Rattle.occ_lines.specs.declared.token.Symbol.TheVariants as s
use Rattle.occ_lines.specs.declared.token.Word.{Word}
use Rattle.occ_lines.specs.declared.token.Word.TheVariants as w
use Rattle.occ_forms_expressions.specs.declared.begin.Begin.{Begin}
use Rattle.occ_forms_expressions.specs.declared.begin.Begin.TheVariants as be
use Rattle.occ_forms_expressions.specs.declared.operator.Dyadic.{Dyadic}
use Rattle.occ_forms_expressions.specs.declared.operator.Dyadic.TheVariants as dy
use Rattle.occ_forms_expressions.specs.declared.tree.Expr.{Expr}
use Rattle.occ_forms_expressions.specs.Spelling.{expr_then, pair_token, run_token}

-- it found x, and what follows is k
abbrev pub Reads : {X : Type 0} → Option (X × Bor (List Token)) → X → List Token → Type 0
Reads (Some found) x k = (found.0 ≡ x) × (found.1.now ≡ k)
Reads None x k = ⊥

-- the symbol does not follow
abbrev pub IsNot : Symbol → List Token → Type 0
IsNot symbol k = (rest : List Token) → k ≡ t.Symbol symbol ∷ rest → ⊥

abbrev pub IsNotWord : Word → List Token → Type 0
IsNotWord word k = (rest : List Token) → k ≡ t.Word word ∷ rest → ⊥

-- the operator of a run or of a pair
abbrev pub dyadic_token : Dyadic → Token
dyadic_token (dy.Run operator) = run_token operator
dyadic_token (dy.Pair operator) = pair_token operator

abbrev pub is_dyadic_symbol : Symbol → Bool
is_dyadic_symbol s.AtMost = true
is_dyadic_symbol s.AtLeast = true
is_dyadic_symbol s.Unequal = true
is_dyadic_symbol s.BitXor = true
is_dyadic_symbol s.ShiftLeft = true
is_dyadic_symbol s.ShiftRight = true
is_dyadic_symbol s.BitAnd = true
is_dyadic_symbol s.BitOr = true
is_dyadic_symbol s.Plus = true
is_dyadic_symbol s.Minus = true
is_dyadic_symbol s.Times = true
is_dyadic_symbol s.Divide = true
is_dyadic_symbol s.Remainder = true
is_dyadic_symbol s.Equal = true
is_dyadic_symbol s.Less = true
is_dyadic_symbol s.Greater = true
is_dyadic_symbol other = false

abbrev pub is_dyadic_word : Word → Bool
is_dyadic_word w.After = true
is_dyadic_word w.And = true
is_dyadic_word w.BitAnd = true
is_dyadic_word w.BitOr = true
is_dyadic_word w.Minus = true
is_dyadic_word w.Or = true
is_dyadic_word w.Plus = true
is_dyadic_word w.Rem = true
is_dyadic_word w.Times = true
is_dyadic_word other = false

-- these symbols and words may follow an expression
abbrev pub is_end_symbol : Symbol → Bool
is_end_symbol s.Assign = true
is_end_symbol s.Counted = true
is_end_symbol s.Close = true
is_end_symbol s.CloseIndex = true
is_end_symbol s.Comma = true
is_end_symbol s.Semicolon = true
is_end_symbol s.Colon = true
is_end_symbol s.Input = true
is_end_symbol s.Output = true
is_end_symbol s.Ampersand = true
is_end_symbol other = false

abbrev pub is_end_word : Word → Bool
is_end_word w.For = true
is_end_word w.From = true
is_end_word other = false

-- `::[]` goes on with the type of a channel, so it may not follow where a type may end
abbrev pub is_counted : List Token → Bool
is_counted (t.Symbol s.Counted ∷ t.Symbol s.OpenIndex ∷ t.Symbol s.CloseIndex ∷ k) = true
is_counted other = false

-- what follows operands with operators between them, what follows an expression, and what follows an operand
abbrev pub ends_run : List Token → Bool
ends_run [] = true
ends_run (t.Symbol symbol ∷ k) = is_end_symbol symbol
ends_run (t.Word word ∷ k) = is_end_word word
ends_run (other ∷ k) = false

abbrev pub ends_expr : List Token → Bool
ends_expr k = ends_run k && not (is_counted k)

abbrev pub ends_operand : List Token → Bool
ends_operand [] = true
ends_operand (t.Symbol symbol ∷ k) = is_end_symbol symbol || is_dyadic_symbol symbol
ends_operand (t.Word word ∷ k) = is_end_word word || is_dyadic_word word
ends_operand (other ∷ k) = false

abbrev pub IsEndOfRun : List Token → Type 0
IsEndOfRun k = ends_run k ≡ true

abbrev pub IsEnd : List Token → Type 0
IsEnd k = ends_expr k ≡ true

abbrev pub IsNotCounted : List Token → Type 0
IsNotCounted k = is_counted k ≡ false

abbrev pub IsAfter : List Token → Type 0
IsAfter k = ends_operand k ≡ true

-- what follows a list of expressions with commas between them
pub record IsEndOfItems (k : List Token) : Type 0 where
  pub ends : IsEnd k
  pub no_comma : IsNot s.Comma k

-- with what an expression of this first token begins
abbrev pub begin_word : Word → Begin
begin_word w.MostPos = be.Extreme
begin_word w.MostNeg = be.Extreme
begin_word w.Minus = be.Monadic
begin_word w.BitNot = be.Monadic
begin_word w.Not = be.Monadic
begin_word w.Size = be.Monadic
begin_word w.Bool = be.Builtin
begin_word w.Byte = be.Builtin
begin_word w.Int = be.Builtin
begin_word w.Int16 = be.Builtin
begin_word w.Int32 = be.Builtin
begin_word w.Int64 = be.Builtin
begin_word w.Timer = be.Builtin
begin_word w.Chan = be.Builtin
begin_word w.True = be.Value
begin_word w.False = be.Value
begin_word other = be.Nothing

abbrev pub begin_symbol : Symbol → Begin
begin_symbol s.Minus = be.Monadic
begin_symbol s.BitNot = be.Monadic
begin_symbol s.Open = be.Parens
begin_symbol s.OpenIndex = be.Bracket
begin_symbol other = be.Nothing

abbrev pub begin_of : List Token → Begin
begin_of [] = be.Nothing
begin_of (t.Symbol symbol ∷ k) = begin_symbol symbol
begin_of (t.Word word ∷ k) = begin_word word
begin_of (t.Name name ∷ k) = be.Name
begin_of (literal ∷ k) = be.Value

abbrev pub is_type_begin : Begin → Bool
is_type_begin be.Name = true
is_type_begin be.Builtin = true
is_type_begin be.Bracket = true
is_type_begin other = false

abbrev pub is_operand_begin : Begin → Bool
is_operand_begin be.Name = true
is_operand_begin be.Bracket = true
is_operand_begin be.Parens = true
is_operand_begin be.Value = true
is_operand_begin other = false

abbrev pub is_plain_begin : Begin → Bool
is_plain_begin be.Name = true
is_plain_begin be.Value = true
is_plain_begin other = false

-- a function value that reads expressions from fewer than n tokens
pub record ReadsExpr (n : ℕ) (pre : Global → Bor (List Token) → Type 0) (post : Global → Bor (List Token) → Result (Option (Expr × Bor (List Token))) AllocError → Type 0) : Type 0 where
  pub callable : (alloc : Global) (tokens : Bor (List Token)) → length tokens.now < n → pre alloc tokens
  pub found : (alloc : Global) (tokens : Bor (List Token)) (r : Result (Option (Expr × Bor (List Token))) AllocError) → post alloc tokens r → IfOk r (λ o. IfSome o (λ x. tokens.now ≡ expr_then x.0 x.1.now))
  pub shorter : (alloc : Global) (tokens : Bor (List Token)) (r : Result (Option (Expr × Bor (List Token))) AllocError) → post alloc tokens r → IfOk r (λ o. IfSome o (λ x. length x.1.now < length tokens.now))
  pub only : (alloc : Global) (tokens : Bor (List Token)) (r : Result (Option (Expr × Bor (List Token))) AllocError) → post alloc tokens r → IfOk r (λ o. (e : Expr) (k : List Token) → IsEnd k → tokens.now ≡ expr_then e k → Reads o e k)
