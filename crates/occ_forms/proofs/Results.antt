-- What stands after the first result of a function.
use Rattle.std.proofs.Common.{◌≡◌, ◌∙◌, Bool, true, false, ℕ, List, [], ◌∷◌, Option, Some, Result, Ok, Err, IfOk, refl, sym, ap}
use Rattle.std.specs.declared.alloc.AllocError.{AllocError}
use Rattle.occ_lines.specs.declared.token.Symbol.TheVariants as s
use Rattle.occ_lines.specs.declared.token.Token.{Token}
use Rattle.occ_lines.specs.declared.token.Token.TheVariants as t
use Rattle.occ_lines.specs.declared.token.Word.{Word}
use Rattle.occ_lines.specs.declared.token.Word.TheVariants as w
use Rattle.occ_forms_expressions.specs.declared.tree.Expr.{Expr}
use Rattle.occ_forms_expressions.specs.declared.tree.TypeForm.{TypeForm}
use Rattle.occ_forms_expressions.specs.Reading.{IsNotCounted, is_counted}
use Rattle.occ_forms_expressions.specs.Spelling.{Spelling, expr_then, many, type_form_then}
use Rattle.occ_forms.specs.declared.specification_tree.FunctionHead.{FunctionHead}
use Rattle.occ_forms.specs.declared.specification_tree.Inlined.{Inlined}
use Rattle.occ_forms.specs.declared.specification_tree.Inlined.TheVariants as nl
use Rattle.occ_forms.specs.declared.specification_tree.Head.TheVariants as he
use Rattle.occ_forms.specs.declared.specification_tree.Specification.TheVariants as sp
use Rattle.occ_forms.specs.declared.specification_tree.Specified.{Specified}
use Rattle.occ_forms.specs.declared.specification_tree.Specified.TheVariants as sd
use Rattle.occ_forms.specs.SpecificationSpelling.{colon, function_head_then, function_then, inlined_then, listed, name_then, next}
use Rattle.occ_forms.proofs.Groups.{IsTypeRead}
use Rattle.occ_forms.proofs.Types.{name_type}

abbrev pub after_first : FunctionHead → Spelling
after_first head k = many (next s.Comma type_form_then) head.more (function_then head k)

-- a comma, INLINE or FUNCTION
abbrev begins_results : List Token → Bool
begins_results (t.Symbol s.Comma ∷ k) = true
begins_results (t.Word w.Inline ∷ k) = true
begins_results (t.Word w.Function ∷ k) = true
begins_results other = false

results_begin : (more : List TypeForm) (i : Inlined) (k : List Token) → begins_results (many (next s.Comma type_form_then) more (inlined_then i (t.Word w.Function ∷ k))) ≡ true
results_begin [] nl.No k = refl
results_begin [] nl.Yes k = refl
results_begin (x ∷ xs) i k = refl

pub results_end : (more : List TypeForm) (i : Inlined) (k : List Token) → is_counted (many (next s.Comma type_form_then) more (inlined_then i (t.Word w.Function ∷ k))) ≡ false
results_end [] nl.No k = refl
results_end [] nl.Yes k = refl
results_end (x ∷ xs) i k = refl

pub no_results : (head : FunctionHead) (k tokens : List Token) → begins_results tokens ≡ false → tokens ≡ after_first head k → ⊥
no_results head k tokens none e = let h : true ≡ false = sym (results_begin head.more head.inlined _) ∙ sym (ap begins_results e) ∙ none in absurd cc

-- no type is read, so there is no function
pub no_first : (tokens : List Token) → ((f : TypeForm) (k : List Token) → IsNotCounted k → tokens ≡ type_form_then f k → ⊥)
    → (head : FunctionHead) (k : List Token) → tokens ≡ function_head_then head k → ⊥
no_first tokens none head k e = none head.first (after_first head k) (results_end head.more head.inlined _) e

-- a name stands after the type
pub no_function : (tokens rest : List Token) (form : TypeForm) (n : List ℕ) (following : List Token) → IsTypeRead tokens form rest → rest ≡ t.Name n ∷ following
    → (head : FunctionHead) (k : List Token) → tokens ≡ function_head_then head k → ⊥
no_function tokens rest form n following type name head k e =
    no_results head k (t.Name n ∷ following) refl (sym name ∙ (type head.first (after_first head k) (results_end head.more head.inlined _) e).1)

-- a name and IS begin no function
pub named_is_no_function : (tokens : List Token) (n : List ℕ) (rest : List Token) → tokens ≡ t.Name n ∷ t.Word w.Is ∷ rest
    → (head : FunctionHead) (k : List Token) → tokens ≡ function_head_then head k → ⊥
named_is_no_function tokens n rest is head k e =
    no_results head k (t.Word w.Is ∷ rest) refl (name_type head.first (after_first head k) n (t.Word w.Is ∷ rest) (sym is ∙ e)).1

-- what is read after the first result is what is read from there on
pub head_from_first : (tokens rest : List Token) (form : TypeForm) (result : Result (Option Specified) AllocError) → IsTypeRead tokens form rest
    → IfOk result (λ r. (head : FunctionHead) → form ≡ head.first → rest ≡ after_first head [] → r ≡ Some (sd.Head (he.Function head)))
    → IfOk result (λ r. (head : FunctionHead) → tokens ≡ function_head_then head [] → r ≡ Some (sd.Head (he.Function head)))
head_from_first tokens rest form (Err e) type one = tt
head_from_first tokens rest form (Ok r) type one = λ head e. let h = type head.first (after_first head []) (results_end head.more head.inlined _) e in one head h.0 h.1

-- the results of a function written in one line
abbrev results : Expr → List Expr → List Token
results e more = t.Word w.Is ∷ listed s.Comma expr_then e more colon

pub line_from_first : (tokens rest : List Token) (form : TypeForm) (result : Result (Option Specified) AllocError) → IsTypeRead tokens form rest
    → IfOk result (λ r. (head : FunctionHead) (e : Expr) (more : List Expr) → form ≡ head.first → rest ≡ after_first head (results e more) → r ≡ Some (sd.Line (sp.Function head e more)))
    → IfOk result (λ r. (head : FunctionHead) (e : Expr) (more : List Expr) → tokens ≡ function_head_then head (results e more) → r ≡ Some (sd.Line (sp.Function head e more)))
line_from_first tokens rest form (Err e) type one = tt
line_from_first tokens rest form (Ok r) type one = λ head x more e. let h = type head.first (after_first head (results x more)) (results_end head.more head.inlined _) e in one head x more h.0 h.1

-- after IS, RETYPES or RESHAPES no further names stand
pub word_is_no_names : (word : Word) (tokens rest : List Token) (ns : List (List ℕ)) → tokens ≡ t.Word word ∷ rest → tokens ≡ many (next s.Comma name_then) ns colon → ⊥
word_is_no_names word tokens rest [] is e = absurd cc
word_is_no_names word tokens rest (n ∷ ns) is e = absurd cc
