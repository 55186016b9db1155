-- What stands after the first operand, step by step as it is read.
use Rattle.std.proofs.Common.{◌≡◌, ◌≢◌, ◌∙◌, ◌||◌, refl, sym, ap, Bool, true, false, List, [], ◌∷◌, Some}
use Rattle.occ_lines.specs.declared.token.Token.{Token}
use Rattle.occ_lines.specs.declared.token.Token.TheVariants as t
use Rattle.occ_forms_expressions.specs.declared.operator.Dyadic.{Dyadic}
use Rattle.occ_forms_expressions.specs.declared.operator.Dyadic.TheVariants as dy
use Rattle.occ_forms_expressions.specs.declared.tail.Tail.{Tail}
use Rattle.occ_forms_expressions.specs.declared.tail.Tail.TheVariants as ta
use Rattle.occ_forms_expressions.specs.declared.tree.Expr.{Expr}
use Rattle.occ_forms_expressions.specs.declared.tree.Expr.TheVariants as xv
use Rattle.occ_forms_expressions.specs.declared.tree.Operand.{Operand}
use Rattle.occ_forms_expressions.specs.declared.tree.PairOperator.{PairOperator}
use Rattle.occ_forms_expressions.specs.declared.tree.PairOperator.TheVariants as pa
use Rattle.occ_forms_expressions.specs.declared.tree.RunOperator.{RunOperator}
use Rattle.occ_forms_expressions.specs.declared.tree.RunOperator.TheVariants as ru
use Rattle.occ_forms_expressions.specs.inside.Parts.{dyadic_of}
use Rattle.occ_forms_expressions.specs.Reading.{IsAfter, IsEndOfRun, dyadic_token, ends_run, ends_operand, is_dyadic_symbol, is_dyadic_word}
use Rattle.occ_forms_expressions.specs.Spelling.{expr_then, many, operand_then, operated_of, pair_token, run_token}
use Rattle.occ_forms_expressions.specs.inside.Tails.{joined, tail_then}
use Rattle.occ_forms_expressions.proofs.Cases.{expr_alone_spells, expr_pair_spells, expr_run_spells}
use Rattle.occ_forms_expressions.proofs.Many.{Within}

run_after : (operator : RunOperator) (k : List Token) → ends_operand (run_token operator ∷ k) ≡ true
run_after ru.Add k = refl
run_after ru.Multiply k = refl
run_after ru.Plus k = refl
run_after ru.Times k = refl
run_after ru.And k = refl
run_after ru.Or k = refl
run_after ru.BitAnd k = refl
run_after ru.BitAndWord k = refl
run_after ru.BitOr k = refl
run_after ru.BitOrWord k = refl
run_after ru.BitXor k = refl

pair_after : (operator : PairOperator) (k : List Token) → ends_operand (pair_token operator ∷ k) ≡ true
pair_after pa.Subtract k = refl
pair_after pa.Minus k = refl
pair_after pa.Divide k = refl
pair_after pa.Remainder k = refl
pair_after pa.RemainderWord k = refl
pair_after pa.ShiftLeft k = refl
pair_after pa.ShiftRight k = refl
pair_after pa.Equal k = refl
pair_after pa.Unequal k = refl
pair_after pa.Less k = refl
pair_after pa.Greater k = refl
pair_after pa.AtMost k = refl
pair_after pa.AtLeast k = refl
pair_after pa.After k = refl

run_no_end : (operator : RunOperator) (k : List Token) → ends_run (run_token operator ∷ k) ≡ false
run_no_end ru.Add k = refl
run_no_end ru.Multiply k = refl
run_no_end ru.Plus k = refl
run_no_end ru.Times k = refl
run_no_end ru.And k = refl
run_no_end ru.Or k = refl
run_no_end ru.BitAnd k = refl
run_no_end ru.BitAndWord k = refl
run_no_end ru.BitOr k = refl
run_no_end ru.BitOrWord k = refl
run_no_end ru.BitXor k = refl

pair_no_end : (operator : PairOperator) (k : List Token) → ends_run (pair_token operator ∷ k) ≡ false
pair_no_end pa.Subtract k = refl
pair_no_end pa.Minus k = refl
pair_no_end pa.Divide k = refl
pair_no_end pa.Remainder k = refl
pair_no_end pa.RemainderWord k = refl
pair_no_end pa.ShiftLeft k = refl
pair_no_end pa.ShiftRight k = refl
pair_no_end pa.Equal k = refl
pair_no_end pa.Unequal k = refl
pair_no_end pa.Less k = refl
pair_no_end pa.Greater k = refl
pair_no_end pa.AtMost k = refl
pair_no_end pa.AtLeast k = refl
pair_no_end pa.After k = refl

dyadic_back : (d : Dyadic) → dyadic_of (dyadic_token d) ≡ Some d
dyadic_back (dy.Run ru.Add) = refl
dyadic_back (dy.Run ru.Multiply) = refl
dyadic_back (dy.Run ru.Plus) = refl
dyadic_back (dy.Run ru.Times) = refl
dyadic_back (dy.Run ru.And) = refl
dyadic_back (dy.Run ru.Or) = refl
dyadic_back (dy.Run ru.BitAnd) = refl
dyadic_back (dy.Run ru.BitAndWord) = refl
dyadic_back (dy.Run ru.BitOr) = refl
dyadic_back (dy.Run ru.BitOrWord) = refl
dyadic_back (dy.Run ru.BitXor) = refl
dyadic_back (dy.Pair pa.Subtract) = refl
dyadic_back (dy.Pair pa.Minus) = refl
dyadic_back (dy.Pair pa.Divide) = refl
dyadic_back (dy.Pair pa.Remainder) = refl
dyadic_back (dy.Pair pa.RemainderWord) = refl
dyadic_back (dy.Pair pa.ShiftLeft) = refl
dyadic_back (dy.Pair pa.ShiftRight) = refl
dyadic_back (dy.Pair pa.Equal) = refl
dyadic_back (dy.Pair pa.Unequal) = refl
dyadic_back (dy.Pair pa.Less) = refl
dyadic_back (dy.Pair pa.Greater) = refl
dyadic_back (dy.Pair pa.AtMost) = refl
dyadic_back (dy.Pair pa.AtLeast) = refl
dyadic_back (dy.Pair pa.After) = refl

same_dyadic : (c d : Dyadic) → dyadic_token c ≡ dyadic_token d → c ≡ d
same_dyadic c d e = let h : Some c ≡ Some d = sym (dyadic_back c) ∙ ap dyadic_of e ∙ dyadic_back d in (cc)

-- what ends an expression ends an operand
pub end_after : (k : List Token) → IsEndOfRun k → IsAfter k
end_after [] ends = refl
end_after (t.Symbol x ∷ k) ends = ap (λ (b : Bool). b || is_dyadic_symbol x) ends
end_after (t.Word x ∷ k) ends = ap (λ (b : Bool). b || is_dyadic_word x) ends
end_after (t.Name n ∷ k) ends = absurd cc
end_after (t.Decimal n ∷ k) ends = absurd cc
end_after (t.Hexadecimal n ∷ k) ends = absurd cc
end_after (t.Character n ∷ k) ends = absurd cc
end_after (t.String n ∷ k) ends = absurd cc

-- an operand of a run ends at the next operator or where the run ends
pub operator_within : (operator : RunOperator) → Within (operated_of operator) IsAfter IsEndOfRun
operator_within operator [] k ends = end_after k ends
operator_within operator (o ∷ os) k ends = run_after operator _

pub run_no_end_at : (operator : RunOperator) (rest begun : List Token) → rest ≡ run_token operator ∷ begun → IsEndOfRun rest → ⊥
run_no_end_at operator rest begun is ends = let h : false ≡ true = sym (run_no_end operator begun) ∙ sym (ap ends_run is) ∙ ends in (cc)

pub dyadic_no_end : (d : Dyadic) (rest begun : List Token) → rest ≡ dyadic_token d ∷ begun → IsEndOfRun rest → ⊥
dyadic_no_end (dy.Run operator) rest begun is ends = run_no_end_at operator rest begun is ends
dyadic_no_end (dy.Pair operator) rest begun is ends = let h : false ≡ true = sym (pair_no_end operator begun) ∙ sym (ap ends_run is) ∙ ends in (cc)

-- after the first operand the tail ends it
pub tail_after : (x : Tail) (k : List Token) → IsEndOfRun k → IsAfter (tail_then x k)
tail_after ta.Nothing k ends = end_after k ends
tail_after (ta.Pair operator o) k ends = pair_after operator _
tail_after (ta.Run operator o os) k ends = run_after operator _

pub nothing_only : (tokens : List Token) → ((d : Dyadic) (k : List Token) → tokens ≢ dyadic_token d ∷ k)
    → (x : Tail) (k : List Token) → IsEndOfRun k → tokens ≡ tail_then x k → (ta.Nothing ≡ x) × (tokens ≡ k)
nothing_only tokens none ta.Nothing k ends e = (refl, e)
nothing_only tokens none (ta.Pair operator o) k ends e = absurd (none (dy.Pair operator) (operand_then o k) e)
nothing_only tokens none (ta.Run operator o os) k ends e = absurd (none (dy.Run operator) (operand_then o (many (operated_of operator) os k)) e)

-- where operands end, the first stands alone
pub ended_only : (first : Operand) (tokens : List Token) → IsEndOfRun tokens
    → (x : Tail) (k : List Token) → IsEndOfRun k → tokens ≡ tail_then x k → (xv.Alone first ≡ joined first x) × (tokens ≡ k)
ended_only first tokens ended x k ends e =
    let h = nothing_only tokens (λ d begun is. dyadic_no_end d tokens begun is ended) x k ends e in
    (ap (joined first) h.0, h.1)

pub ended_found : (first : Operand) (tokens : List Token) → operand_then first tokens ≡ expr_then (xv.Alone first) tokens
ended_found first tokens = sym (expr_alone_spells first tokens)

pub cut : (a b : Token) (r q : List Token) → a ∷ r ≡ b ∷ q → (a ≡ b) × (r ≡ q)
cut a b r q e = (cc, cc)

pub no_second : (tokens rest : List Token) (d : Dyadic) → tokens ≡ dyadic_token d ∷ rest → ((o : Operand) (k : List Token) → IsAfter k → rest ≡ operand_then o k → ⊥)
    → (x : Tail) (k : List Token) → IsEndOfRun k → tokens ≡ tail_then x k → ⊥
no_second tokens rest d is none ta.Nothing k ends e = dyadic_no_end d tokens rest is (rw e ends)
no_second tokens rest d is none (ta.Pair operator o) k ends e = none o k (end_after k ends) (cut _ _ _ _ (sym is ∙ e)).1
no_second tokens rest d is none (ta.Run operator o os) k ends e = none o _ (operator_within operator os k ends) (cut _ _ _ _ (sym is ∙ e)).1

-- the second operand is read, and this is left
abbrev pub IsSecondRead : List Token → Operand → List Token → Type 0
IsSecondRead rest second left = (o : Operand) (k : List Token) → IsAfter k → rest ≡ operand_then o k → (second ≡ o) × (left ≡ k)

-- and put into a box
pub boxed_read : (rest : List Token) (second boxed : Operand) (left : List Token) → boxed ≡ second → IsSecondRead rest second left → IsSecondRead rest boxed left
boxed_read rest second boxed left same read = λ o k after e. let h = read o k after e in (same ∙ h.0, h.1)

pub pair_only : (tokens rest : List Token) (d : Dyadic) (operator : PairOperator) (second : Operand) (left : List Token) → tokens ≡ dyadic_token d ∷ rest → d ≡ dy.Pair operator → IsSecondRead rest second left
    → (x : Tail) (k : List Token) → IsEndOfRun k → tokens ≡ tail_then x k → (ta.Pair operator second ≡ x) × (left ≡ k)
pair_only tokens rest d operator second left is pair read ta.Nothing k ends e = absurd (dyadic_no_end d tokens rest is (rw e ends))
pair_only tokens rest d operator second left is pair read (ta.Pair other o) k ends e =
    let h = cut (dyadic_token d) (dyadic_token (dy.Pair other)) rest (operand_then o k) (sym is ∙ e) in
    let i : dy.Pair operator ≡ dy.Pair other = sym pair ∙ same_dyadic d (dy.Pair other) h.0 in
    let m = read o k (end_after k ends) h.1 in
    let j : operator ≡ other = (cc) in
    (ap (λ (y : PairOperator). ta.Pair y second) j ∙ ap (λ (y : Operand). ta.Pair other y) m.0, m.1)
pair_only tokens rest d operator second left is pair read (ta.Run other o os) k ends e =
    let h = cut (dyadic_token d) (dyadic_token (dy.Run other)) rest (operand_then o (many (operated_of other) os k)) (sym is ∙ e) in
    let i : dy.Pair operator ≡ dy.Run other = sym pair ∙ same_dyadic d (dy.Run other) h.0 in absurd cc

pub no_more_operands : (tokens rest : List Token) (d : Dyadic) (operator : RunOperator) (second : Operand) (left : List Token) → tokens ≡ dyadic_token d ∷ rest → d ≡ dy.Run operator → IsSecondRead rest second left
    → ((os : List Operand) (k : List Token) → IsEndOfRun k → left ≡ many (operated_of operator) os k → ⊥)
    → (x : Tail) (k : List Token) → IsEndOfRun k → tokens ≡ tail_then x k → ⊥
no_more_operands tokens rest d operator second left is run read none ta.Nothing k ends e = dyadic_no_end d tokens rest is (rw e ends)
no_more_operands tokens rest d operator second left is run read none (ta.Pair other o) k ends e =
    let h = cut (dyadic_token d) (dyadic_token (dy.Pair other)) rest (operand_then o k) (sym is ∙ e) in
    let i : dy.Run operator ≡ dy.Pair other = sym run ∙ same_dyadic d (dy.Pair other) h.0 in absurd cc
no_more_operands tokens rest d operator second left is run read none (ta.Run other o os) k ends e =
    let h = cut (dyadic_token d) (dyadic_token (dy.Run other)) rest (operand_then o (many (operated_of other) os k)) (sym is ∙ e) in
    let i : dy.Run other ≡ dy.Run operator = sym (same_dyadic d (dy.Run other) h.0) ∙ run in
    let j : other ≡ operator = (cc) in
    let m = read o (many (operated_of other) os k) (operator_within other os k ends) h.1 in
    none os k ends (m.1 ∙ ap (λ (y : RunOperator). many (operated_of y) os k) j)

pub run_only : (tokens rest : List Token) (d : Dyadic) (operator : RunOperator) (second : Operand) (left : List Token) (more : List Operand) (end : List Token) → tokens ≡ dyadic_token d ∷ rest → d ≡ dy.Run operator → IsSecondRead rest second left
    → ((os : List Operand) (k : List Token) → IsEndOfRun k → left ≡ many (operated_of operator) os k → (more ≡ os) × (end ≡ k))
    → (x : Tail) (k : List Token) → IsEndOfRun k → tokens ≡ tail_then x k → (ta.Run operator second more ≡ x) × (end ≡ k)
run_only tokens rest d operator second left more end is run read list ta.Nothing k ends e = absurd (dyadic_no_end d tokens rest is (rw e ends))
run_only tokens rest d operator second left more end is run read list (ta.Pair other o) k ends e =
    let h = cut (dyadic_token d) (dyadic_token (dy.Pair other)) rest (operand_then o k) (sym is ∙ e) in
    let i : dy.Run operator ≡ dy.Pair other = sym run ∙ same_dyadic d (dy.Pair other) h.0 in absurd cc
run_only tokens rest d operator second left more end is run read list (ta.Run other o os) k ends e =
    let h = cut (dyadic_token d) (dyadic_token (dy.Run other)) rest (operand_then o (many (operated_of other) os k)) (sym is ∙ e) in
    let i : dy.Run other ≡ dy.Run operator = sym (same_dyadic d (dy.Run other) h.0) ∙ run in
    let j : other ≡ operator = (cc) in
    let m = read o (many (operated_of other) os k) (operator_within other os k ends) h.1 in
    let l = list os k ends (m.1 ∙ ap (λ (y : RunOperator). many (operated_of y) os k) j) in
    (ap (λ (y : RunOperator). ta.Run y second more) (sym j) ∙ ap (λ (y : Operand). ta.Run other y more) m.0 ∙ ap (λ (y : List Operand). ta.Run other o y) l.0, l.1)

-- an operand and its tail are one expression
pub joined_spells : (o : Operand) (x : Tail) (k : List Token) → operand_then o (tail_then x k) ≡ expr_then (joined o x) k
joined_spells o ta.Nothing k = sym (expr_alone_spells o k)
joined_spells o (ta.Pair operator second) k = sym (expr_pair_spells o operator second k)
joined_spells o (ta.Run operator second more) k = sym (expr_run_spells operator o second more k)

pub joined_found : (o : Operand) (x : Tail) (e : Expr) (tokens rest : List Token) → tokens ≡ tail_then x rest → e ≡ joined o x → operand_then o tokens ≡ expr_then e rest
joined_found o x e tokens rest read is = ap (operand_then o) read ∙ joined_spells o x rest ∙ ap (λ (y : Expr). expr_then y rest) (sym is)
