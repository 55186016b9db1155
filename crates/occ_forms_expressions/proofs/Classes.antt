-- Which expressions begin with what.
use Rattle.std.proofs.Common.{◌≡◌, ◌≢◌, ◌∙◌, ◌&&◌, not, refl, sym, ap, subst, ℕ, Bool, true, false, List, [], ◌∷◌, Option, Result, Ok, Err, IfOk, Bor}
use Rattle.std.specs.declared.alloc.AllocError.{AllocError}
use Rattle.occ_lines.specs.declared.token.Token.{Token}
use Rattle.occ_lines.specs.declared.token.Token.TheVariants as t
use Rattle.occ_forms_expressions.specs.declared.begin.Begin.{Begin}
use Rattle.occ_forms_expressions.specs.declared.begin.Begin.TheVariants as be
use Rattle.occ_forms_expressions.specs.declared.tail.Tail.{Tail}
use Rattle.occ_forms_expressions.specs.declared.tail.Tail.TheVariants as ta
use Rattle.occ_forms_expressions.specs.declared.tree.Builtin.{Builtin}
use Rattle.occ_forms_expressions.specs.declared.tree.ChannelWords.{ChannelWords}
use Rattle.occ_forms_expressions.specs.declared.tree.ChannelWords.TheVariants as ch
use Rattle.occ_forms_expressions.specs.declared.tree.Dimension.{Dimension}
use Rattle.occ_forms_expressions.specs.declared.tree.Element.{Element}
use Rattle.occ_forms_expressions.specs.declared.tree.Expr.{Expr}
use Rattle.occ_forms_expressions.specs.declared.tree.Expr.TheVariants as xv
use Rattle.occ_forms_expressions.specs.declared.tree.Extreme.{Extreme}
use Rattle.occ_forms_expressions.specs.declared.tree.Extreme.TheVariants as ex
use Rattle.occ_forms_expressions.specs.declared.tree.MonadicOperator.{MonadicOperator}
use Rattle.occ_forms_expressions.specs.declared.tree.MonadicOperator.TheVariants as mo
use Rattle.occ_forms_expressions.specs.declared.tree.NamedOperand.{NamedOperand}
use Rattle.occ_forms_expressions.specs.declared.tree.Operand.{Operand}
use Rattle.occ_forms_expressions.specs.declared.tree.Operand.TheVariants as ov
use Rattle.occ_forms_expressions.specs.declared.tree.PrimitiveWord.{PrimitiveWord}
use Rattle.occ_forms_expressions.specs.declared.tree.PrimitiveWord.TheVariants as pr
use Rattle.occ_forms_expressions.specs.declared.tree.TypeForm.{TypeForm}
use Rattle.occ_forms_expressions.specs.Reading.{IsAfter, IsEnd, IsEndOfRun, IsNotCounted, Reads, begin_of, ends_run, is_counted}
use Rattle.occ_forms_expressions.specs.Spelling.{builtin_then, channel_words, dimension_then, element_then, expr_then, extreme_word, many, monadic_token, named_operand_then, operand_then, primitive_word, type_form_then}
use Rattle.occ_forms_expressions.specs.inside.Tails.{joined, tail_then}
use Rattle.occ_forms_expressions.specs.TypeEnds.{EndsMost}
use Rattle.occ_forms_expressions.proofs.Cases.{BuiltinIs, DimensionIs, ExprIs, builtin_any_channel_spells, builtin_channel_spells, builtin_counted_spells, builtin_is, builtin_is_any_channel, builtin_is_channel, builtin_is_counted, builtin_is_primitive, builtin_is_timer, builtin_primitive_spells, builtin_timer_spells, dimension_is, dimension_is_open, dimension_is_sized, dimension_open_spells, dimension_sized_spells, expr_alone_spells, expr_applied_spells, expr_array_converted_spells, expr_converted_spells, expr_is, expr_is_alone, expr_is_applied, expr_is_array_converted, expr_is_converted, expr_is_most, expr_is_named, expr_is_pair, expr_is_run, expr_most_spells, expr_named_spells, operand_element_spells}
use Rattle.occ_forms_expressions.proofs.Operands.{OperandAt, alone_no_most, at_bracket, at_call, at_decorated, at_element, at_literal, at_parens, at_truth, operand_at, same_element}
use Rattle.occ_forms_expressions.proofs.Tailed.{end_after, joined_spells}

-- the expression begins so, and these are its tokens
pub data ExprAt (tokens k : List Token) (z : Expr) : Begin → Type 0 where
  at_most : (m : Extreme) (type : TypeForm) → z ≡ xv.Most m type → tokens ≡ t.Word (extreme_word m) ∷ type_form_then type k → ExprAt tokens k z be.Extreme
  at_applied : (m : MonadicOperator) (o : Operand) → z ≡ xv.Applied m o → tokens ≡ monadic_token m ∷ operand_then o k → ExprAt tokens k z be.Monadic
  at_builtin : (b : Builtin) (o : Operand) → z ≡ xv.Converted [] b o → tokens ≡ builtin_then b (operand_then o k) → ExprAt tokens k z be.Builtin
  at_named : (n : List ℕ) (o : NamedOperand) → z ≡ xv.Named n o → tokens ≡ t.Name n ∷ named_operand_then o k → ExprAt tokens k z be.Name
  at_array : (d : Dimension) (ds : List Dimension) (n : List ℕ) (o : Operand) → z ≡ xv.ArrayConverted d ds n o → tokens ≡ dimension_then d (many dimension_then ds (t.Name n ∷ operand_then o k)) → ExprAt tokens k z be.Bracket
  at_dimension : (d : Dimension) (ds : List Dimension) (b : Builtin) (o : Operand) → z ≡ xv.Converted (d ∷ ds) b o → tokens ≡ dimension_then d (many dimension_then ds (builtin_then b (operand_then o k))) → ExprAt tokens k z be.Bracket
  run_at_name : (o : Operand) (x : Tail) → z ≡ joined o x → tokens ≡ operand_then o (tail_then x k) → ExprAt tokens k z be.Name
  run_at_value : (o : Operand) (x : Tail) → z ≡ joined o x → tokens ≡ operand_then o (tail_then x k) → ExprAt tokens k z be.Value
  run_at_parens : (o : Operand) (x : Tail) → z ≡ joined o x → tokens ≡ operand_then o (tail_then x k) → ExprAt tokens k z be.Parens
  run_at_bracket : (o : Operand) (x : Tail) → z ≡ joined o x → tokens ≡ operand_then o (tail_then x k) → ExprAt tokens k z be.Bracket

extreme_class : (x : Extreme) (k : List Token) → begin_of (t.Word (extreme_word x) ∷ k) ≡ be.Extreme
extreme_class ex.Greatest k = refl
extreme_class ex.Least k = refl

monadic_class : (x : MonadicOperator) (k : List Token) → begin_of (monadic_token x ∷ k) ≡ be.Monadic
monadic_class mo.Negate k = refl
monadic_class mo.Minus k = refl
monadic_class mo.BitNot k = refl
monadic_class mo.BitNotWord k = refl
monadic_class mo.Not k = refl
monadic_class mo.Size k = refl

primitive_class : (x : PrimitiveWord) (k : List Token) → begin_of (t.Word (primitive_word x) ∷ k) ≡ be.Builtin
primitive_class pr.Bool k = refl
primitive_class pr.Byte k = refl
primitive_class pr.Int k = refl
primitive_class pr.Int16 k = refl
primitive_class pr.Int32 k = refl
primitive_class pr.Int64 k = refl

channel_class : (x : ChannelWords) (k : List Token) → begin_of (channel_words x k) ≡ be.Builtin
channel_class ch.Chan k = refl
channel_class ch.ChanOf k = refl

pub builtin_class : (b : Builtin) (k : List Token) → begin_of (builtin_then b k) ≡ be.Builtin
builtin_class b k = by (builtin_is b) where
  spelled : (c : Builtin) (read : List Token) → b ≡ c → builtin_then c k ≡ read → begin_of read ≡ be.Builtin → begin_of (builtin_then b k) ≡ be.Builtin
  spelled c read q r h = ap begin_of (ap (λ (x : Builtin). builtin_then x k) q ∙ r) ∙ h

  by : BuiltinIs b → begin_of (builtin_then b k) ≡ be.Builtin
  by (builtin_is_primitive p q) = spelled _ _ q (builtin_primitive_spells p k) (primitive_class p k)
  by (builtin_is_timer q) = spelled _ _ q (builtin_timer_spells k) refl
  by (builtin_is_any_channel c q) = spelled _ _ q (builtin_any_channel_spells c k) (channel_class c _)
  by (builtin_is_channel c ds base q) = spelled _ _ q (builtin_channel_spells c ds base k) (channel_class c _)
  by (builtin_is_counted c ds base es other q) = spelled _ _ q (builtin_counted_spells c ds base es other k) (channel_class c _)

pub dimension_class : (d : Dimension) (k : List Token) → begin_of (dimension_then d k) ≡ be.Bracket
dimension_class d k = by (dimension_is d) where
  by : DimensionIs d → begin_of (dimension_then d k) ≡ be.Bracket
  by (dimension_is_open q) = ap begin_of (ap (λ (x : Dimension). dimension_then x k) q ∙ dimension_open_spells k)
  by (dimension_is_sized e q) = ap begin_of (ap (λ (x : Dimension). dimension_then x k) q ∙ dimension_sized_spells e k)

pub expr_at : (z : Expr) (k tokens : List Token) (b : Begin) → tokens ≡ expr_then z k → begin_of tokens ≡ b → ExprAt tokens k z b
expr_at z k tokens b e is = by (expr_is z) where
  spelled : (y : Expr) (read : List Token) → z ≡ y → expr_then y k ≡ read → tokens ≡ read
  spelled y read q r = e ∙ ap (λ (x : Expr). expr_then x k) q ∙ r

  at : (c : Begin) (read : List Token) → tokens ≡ read → begin_of read ≡ c → ExprAt tokens k z c → ExprAt tokens k z b
  at c read q r h = subst (ExprAt tokens k z) (sym r ∙ sym (ap begin_of q) ∙ is) h

  of_run : (c : Begin) (o : Operand) (x : Tail) → z ≡ joined o x → tokens ≡ operand_then o (tail_then x k) → OperandAt tokens (tail_then x k) o c → ExprAt tokens k z c
  of_run c o x q r (at_element n es p f) = run_at_name o x q r
  of_run c o x q r (at_call n es p f) = run_at_name o x q r
  of_run c o x q r (at_literal l p f) = run_at_value o x q r
  of_run c o x q r (at_decorated l type p f) = run_at_value o x q r
  of_run c o x q r (at_truth y p f) = run_at_value o x q r
  of_run c o x q r (at_parens y p f) = run_at_parens o x q r
  of_run c o x q r (at_bracket y closing p f) = run_at_bracket o x q r

  by_run : (o : Operand) (x : Tail) → z ≡ joined o x → ExprAt tokens k z b
  by_run o x q = let r : tokens ≡ operand_then o (tail_then x k) = e ∙ ap (λ (y : Expr). expr_then y k) q ∙ sym (joined_spells o x k) in
      of_run b o x q r (operand_at o (tail_then x k) tokens b r is)

  by_converted : (ds : List Dimension) (c : Builtin) (o : Operand) → z ≡ xv.Converted ds c o → ExprAt tokens k z b
  by_converted [] c o q = let r = spelled (xv.Converted [] c o) (builtin_then c (operand_then o k)) q (expr_converted_spells [] c o k) in
      at be.Builtin (builtin_then c (operand_then o k)) r (builtin_class c (operand_then o k)) (at_builtin c o q r)
  by_converted (d ∷ ds) c o q = let r = spelled (xv.Converted (d ∷ ds) c o) (dimension_then d (many dimension_then ds (builtin_then c (operand_then o k)))) q (expr_converted_spells (d ∷ ds) c o k) in
      at be.Bracket (dimension_then d (many dimension_then ds (builtin_then c (operand_then o k)))) r (dimension_class d (many dimension_then ds (builtin_then c (operand_then o k)))) (at_dimension d ds c o q r)

  by : ExprIs z → ExprAt tokens k z b
  by (expr_is_alone o q) = by_run o ta.Nothing q
  by (expr_is_run operator o second more q) = by_run o (ta.Run operator second more) q
  by (expr_is_pair o operator second q) = by_run o (ta.Pair operator second) q
  by (expr_is_applied m o q) = let r = spelled (xv.Applied m o) (monadic_token m ∷ operand_then o k) q (expr_applied_spells m o k) in at be.Monadic (monadic_token m ∷ operand_then o k) r (monadic_class m (operand_then o k)) (at_applied m o q r)
  by (expr_is_converted ds c o q) = by_converted ds c o q
  by (expr_is_array_converted d ds n o q) = let r = spelled (xv.ArrayConverted d ds n o) (dimension_then d (many dimension_then ds (t.Name n ∷ operand_then o k))) q (expr_array_converted_spells d ds n o k) in
      at be.Bracket (dimension_then d (many dimension_then ds (t.Name n ∷ operand_then o k))) r (dimension_class d (many dimension_then ds (t.Name n ∷ operand_then o k))) (at_array d ds n o q r)
  by (expr_is_named n o q) = let r = spelled (xv.Named n o) (t.Name n ∷ named_operand_then o k) q (expr_named_spells n o k) in at be.Name (t.Name n ∷ named_operand_then o k) r refl (at_named n o q r)
  by (expr_is_most m type q) = let r = spelled (xv.Most m type) (t.Word (extreme_word m) ∷ type_form_then type k) q (expr_most_spells m type k) in at be.Extreme (t.Word (extreme_word m) ∷ type_form_then type k) r (extreme_class m (type_form_then type k)) (at_most m type q r)

-- what ends an expression ends a run, and is no `::[]`
both_left : (a b : Bool) → (a && b) ≡ true → a ≡ true
both_left true b e = refl
both_left false b e = absurd cc

both_right : (a b : Bool) → (a && not b) ≡ true → b ≡ false
both_right true true e = absurd cc
both_right true false e = refl
both_right false b e = absurd cc

pub end_run : (k : List Token) → IsEnd k → IsEndOfRun k
end_run k ends = both_left (ends_run k) (not (is_counted k)) ends

pub end_no_counted : (k : List Token) → IsEnd k → IsNotCounted k
end_no_counted k ends = both_right (ends_run k) (is_counted k) ends

-- what is read of an expression
abbrev pub AnswersEnd : List Token → Option (Expr × Bor (List Token)) → Type 0
AnswersEnd tokens r = (z : Expr) (k : List Token) → IsEnd k → tokens ≡ expr_then z k → Reads r z k

abbrev pub AnswersRun : List Token → Option (Expr × Bor (List Token)) → Type 0
AnswersRun tokens r = (z : Expr) (k : List Token) → IsEndOfRun k → ((m : Extreme) (type : TypeForm) → z ≢ xv.Most m type) → tokens ≡ expr_then z k → Reads r z k

abbrev pub Answers : List Token → Option (Expr × Bor (List Token)) → Type 0
Answers tokens r = (z : Expr) (k : List Token) → IsEndOfRun k → tokens ≡ expr_then z k → Reads r z k

pub answers_end : (tokens : List Token) (result : Result (Option (Expr × Bor (List Token))) AllocError) → IfOk result (Answers tokens) → IfOk result (AnswersEnd tokens)
answers_end tokens (Err e) all = tt
answers_end tokens (Ok r) all = λ z k ends e. all z k (end_run k ends) e

pub answers_run : (tokens : List Token) (result : Result (Option (Expr × Bor (List Token))) AllocError) → IfOk result (Answers tokens) → IfOk result (AnswersRun tokens)
answers_run tokens (Err e) all = tt
answers_run tokens (Ok r) all = λ z k ends none e. all z k ends e

-- what is read of the greatest or the least value of a type
abbrev pub AnswersMost : List Token → Option (Expr × Bor (List Token)) → Type 0
AnswersMost tokens r = (m : Extreme) (type : TypeForm) (k : List Token) → IsEndOfRun k → EndsMost type k → tokens ≡ expr_then (xv.Most m type) k → Reads r (xv.Most m type) k

pub answers_most : (tokens : List Token) (result : Result (Option (Expr × Bor (List Token))) AllocError) → IfOk result (Answers tokens) → IfOk result (AnswersMost tokens)
answers_most tokens (Err e) all = tt
answers_most tokens (Ok r) all = λ m type k ends following e. all (xv.Most m type) k ends e

-- where no `::[]` follows the type ends
pub plain_ends : (type : TypeForm) (k : List Token) → IsNotCounted k → EndsMost type k
plain_ends type k none es words ds base is form l e = let h : true ≡ false = sym (ap is_counted e) ∙ none in absurd cc

pub most_most : (tokens : List Token) (result : Result (Option (Expr × Bor (List Token))) AllocError)
    → IfOk result (λ r. (m : Extreme) (type : TypeForm) (k : List Token) → IsEndOfRun k → EndsMost type k → tokens ≡ t.Word (extreme_word m) ∷ type_form_then type k → Reads r (xv.Most m type) k)
    → IfOk result (AnswersMost tokens)
most_most tokens (Err e) most = tt
most_most tokens (Ok r) most = λ m type k ends following e. most m type k ends following (e ∙ expr_most_spells m type k)

pub most_end : (tokens : List Token) (result : Result (Option (Expr × Bor (List Token))) AllocError) → begin_of tokens ≡ be.Extreme
    → IfOk result (λ r. (m : Extreme) (type : TypeForm) (k : List Token) → IsEndOfRun k → EndsMost type k → tokens ≡ t.Word (extreme_word m) ∷ type_form_then type k → Reads r (xv.Most m type) k)
    → IfOk result (AnswersEnd tokens)
most_end tokens (Err e) is most = tt
most_end tokens (Ok r) is most = λ z k ends e. by z k ends (expr_at z k tokens be.Extreme e is) where
  by : (z : Expr) (k : List Token) → IsEnd k → ExprAt tokens k z be.Extreme → Reads r z k
  by z k ends (at_most m type q p) = subst (λ (y : Expr). Reads r y k) (sym q) (most m type k (end_run k ends) (plain_ends type k (end_no_counted k ends)) p)

pub most_run : (tokens : List Token) (result : Result (Option (Expr × Bor (List Token))) AllocError) → begin_of tokens ≡ be.Extreme → IfOk result (AnswersRun tokens)
most_run tokens (Err e) is = tt
most_run tokens (Ok r) is = λ z k ends none e. by z k none (expr_at z k tokens be.Extreme e is) where
  by : (z : Expr) (k : List Token) → ((m : Extreme) (type : TypeForm) → z ≢ xv.Most m type) → ExprAt tokens k z be.Extreme → Reads r z k
  by z k none (at_most m type q p) = absurd (none m type q)

pub applied_all : (tokens : List Token) (result : Result (Option (Expr × Bor (List Token))) AllocError) → begin_of tokens ≡ be.Monadic
    → IfOk result (λ r. (m : MonadicOperator) (o : Operand) (k : List Token) → IsAfter k → tokens ≡ monadic_token m ∷ operand_then o k → Reads r (xv.Applied m o) k)
    → IfOk result (Answers tokens)
applied_all tokens (Err e) is applied = tt
applied_all tokens (Ok r) is applied = λ z k ends e. by z k ends (expr_at z k tokens be.Monadic e is) where
  by : (z : Expr) (k : List Token) → IsEndOfRun k → ExprAt tokens k z be.Monadic → Reads r z k
  by z k ends (at_applied m o q p) = subst (λ (y : Expr). Reads r y k) (sym q) (applied m o k (end_after k ends) p)

pub converted_all : (tokens : List Token) (none : List Dimension) (result : Result (Option (Expr × Bor (List Token))) AllocError) → begin_of tokens ≡ be.Builtin → none ≡ []
    → IfOk result (λ r. (b : Builtin) (o : Operand) (k : List Token) → IsAfter k → tokens ≡ builtin_then b (operand_then o k) → Reads r (xv.Converted none b o) k)
    → IfOk result (Answers tokens)
converted_all tokens none (Err e) is empty converted = tt
converted_all tokens none (Ok r) is empty converted = λ z k ends e. by z k ends (expr_at z k tokens be.Builtin e is) where
  by : (z : Expr) (k : List Token) → IsEndOfRun k → ExprAt tokens k z be.Builtin → Reads r z k
  by z k ends (at_builtin b o q p) = subst (λ (y : Expr). Reads r y k) (ap (λ (y : List Dimension). xv.Converted y b o) empty ∙ sym q) (converted b o k (end_after k ends) p)

pub parens_all : (tokens : List Token) (result : Result (Option (Expr × Bor (List Token))) AllocError) → begin_of tokens ≡ be.Parens
    → IfOk result (λ r. (o : Operand) (x : Tail) (k : List Token) → IsEndOfRun k → tokens ≡ operand_then o (tail_then x k) → Reads r (joined o x) k)
    → IfOk result (Answers tokens)
parens_all tokens (Err e) is run = tt
parens_all tokens (Ok r) is run = λ z k ends e. by z k ends (expr_at z k tokens be.Parens e is) where
  by : (z : Expr) (k : List Token) → IsEndOfRun k → ExprAt tokens k z be.Parens → Reads r z k
  by z k ends (run_at_parens o x q p) = subst (λ (y : Expr). Reads r y k) (sym q) (run o x k ends p)

pub value_all : (tokens : List Token) (result : Result (Option (Expr × Bor (List Token))) AllocError) → begin_of tokens ≡ be.Value
    → IfOk result (λ r. (o : Operand) (x : Tail) (k : List Token) → IsEndOfRun k → tokens ≡ operand_then o (tail_then x k) → Reads r (joined o x) k)
    → IfOk result (Answers tokens)
value_all tokens (Err e) is run = tt
value_all tokens (Ok r) is run = λ z k ends e. by z k ends (expr_at z k tokens be.Value e is) where
  by : (z : Expr) (k : List Token) → IsEndOfRun k → ExprAt tokens k z be.Value → Reads r z k
  by z k ends (run_at_value o x q p) = subst (λ (y : Expr). Reads r y k) (sym q) (run o x k ends p)

-- of a class whose reader knows where it is called
pub answers_at : (tokens : List Token) (b : Begin) (result : Result (Option (Expr × Bor (List Token))) AllocError) → begin_of tokens ≡ b
    → IfOk result (λ r. (z : Expr) (k : List Token) → begin_of tokens ≡ b → IsEndOfRun k → tokens ≡ expr_then z k → Reads r z k)
    → IfOk result (Answers tokens)
answers_at tokens b (Err e) is all = tt
answers_at tokens b (Ok r) is all = λ z k ends e. all z k is ends e

-- an element is read as the expression that it is alone
expr_of_element : (el : Element) (k tokens : List Token) → tokens ≡ element_then el k → tokens ≡ expr_then (xv.Alone (ov.Element el)) k
expr_of_element el k tokens e = e ∙ sym (operand_element_spells el k) ∙ sym (expr_alone_spells (ov.Element el) k)

pub element_found : (found : Expr) (el : Element) (tokens rest : List Token) → tokens ≡ expr_then found rest → found ≡ xv.Alone (ov.Element el) → tokens ≡ element_then el rest
element_found found el tokens rest e is = e ∙ ap (λ (y : Expr). expr_then y rest) is ∙ expr_alone_spells (ov.Element el) rest ∙ operand_element_spells el rest

pub no_element : (tokens : List Token) → ((z : Expr) (k : List Token) → IsEndOfRun k → ((m : Extreme) (type : TypeForm) → z ≢ xv.Most m type) → tokens ≡ expr_then z k → ⊥)
    → (el : Element) (k : List Token) → IsEndOfRun k → tokens ≡ element_then el k → ⊥
no_element tokens none el k ends e = none (xv.Alone (ov.Element el)) k ends (alone_no_most (ov.Element el)) (expr_of_element el k tokens e)

-- what is read of an expression, and this is left
abbrev pub IsRunRead : List Token → Expr → List Token → Type 0
IsRunRead tokens found rest = (z : Expr) (k : List Token) → IsEndOfRun k → ((m : Extreme) (type : TypeForm) → z ≢ xv.Most m type) → tokens ≡ expr_then z k → (found ≡ z) × (rest ≡ k)

pub no_element_alone : (tokens rest : List Token) (found : Expr) → IsRunRead tokens found rest → ((el : Element) → found ≢ xv.Alone (ov.Element el))
    → (el : Element) (k : List Token) → IsEndOfRun k → tokens ≡ element_then el k → ⊥
no_element_alone tokens rest found read none el k ends e = none el (read (xv.Alone (ov.Element el)) k ends (alone_no_most (ov.Element el)) (expr_of_element el k tokens e)).0

pub element_only : (tokens rest : List Token) (found : Expr) (one : Element) → IsRunRead tokens found rest → found ≡ xv.Alone (ov.Element one)
    → (el : Element) (k : List Token) → IsEndOfRun k → tokens ≡ element_then el k → (one ≡ el) × (rest ≡ k)
element_only tokens rest found one read is el k ends e = let h = read (xv.Alone (ov.Element el)) k ends (alone_no_most (ov.Element el)) (expr_of_element el k tokens e) in
    (same_element one el (sym is ∙ h.0), h.1)
