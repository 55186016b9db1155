-- Expressions that begin with a name, step by step as they are read.
use Rattle.std.proofs.Common.{◌≡◌, ◌∙◌, inl, inr, refl, sym, ap, subst, ℕ, true, false, List, [], ◌∷◌, Option, Some, None, Result, Ok, Err, IfOk, IfSome, Bor}
use Rattle.std.specs.declared.alloc.AllocError.{AllocError}
use Rattle.occ_lines.specs.declared.token.Symbol.TheVariants as s
use Rattle.occ_lines.specs.declared.token.Token.{Token}
use Rattle.occ_lines.specs.declared.token.Token.TheVariants as t
use Rattle.occ_forms_expressions.specs.declared.begin.Begin.{Begin}
use Rattle.occ_forms_expressions.specs.declared.begin.Begin.TheVariants as be
use Rattle.occ_forms_expressions.specs.declared.bracket.Bracket.{Bracket}
use Rattle.occ_forms_expressions.specs.declared.bracket.Bracket.TheVariants as br
use Rattle.occ_forms_expressions.specs.declared.bracket.Closing.{Closing}
use Rattle.occ_forms_expressions.specs.declared.bracket.Closing.TheVariants as cl
use Rattle.occ_forms_expressions.specs.declared.tail.Tail.{Tail}
use Rattle.occ_forms_expressions.specs.declared.tree.Element.{Element}
use Rattle.occ_forms_expressions.specs.declared.tree.Element.TheVariants as ev
use Rattle.occ_forms_expressions.specs.declared.tree.Expr.{Expr}
use Rattle.occ_forms_expressions.specs.declared.tree.Expr.TheVariants as xv
use Rattle.occ_forms_expressions.specs.declared.tree.NamedOperand.{NamedOperand}
use Rattle.occ_forms_expressions.specs.declared.tree.Operand.{Operand}
use Rattle.occ_forms_expressions.specs.declared.tree.Operand.TheVariants as ov
use Rattle.occ_forms_expressions.specs.inside.Brackets.{Fits, IsBracketed, bounds_begin, closing_then, narrow_of}
use Rattle.occ_forms_expressions.specs.Reading.{IsAfter, IsEndOfRun, IsNot, Reads, begin_of, is_plain_begin}
use Rattle.occ_forms_expressions.specs.Spelling.{arguments_of, element_then, expr_then, many, operand_then, subscript_of, type_form_then}
use Rattle.occ_forms_expressions.specs.inside.Tails.{joined, tail_then}
use Rattle.occ_forms_expressions.proofs.Arguments.{IsFirstRead}
use Rattle.occ_forms_expressions.proofs.Cases.{element_named_spells, operand_element_spells}
use Rattle.occ_forms_expressions.proofs.Classes.{ExprAt, at_named, expr_at, run_at_name}
use Rattle.occ_forms_expressions.proofs.Closings.{bounds_begins, closing_ends}
use Rattle.occ_forms_expressions.proofs.Conversions.{widen}
use Rattle.occ_forms_expressions.proofs.Lists.{after_same}
use Rattle.occ_forms_expressions.proofs.Named.{element_found}
use Rattle.occ_forms_expressions.proofs.Narrow.{narrow_of_table, narrow_parens}
use Rattle.occ_forms_expressions.proofs.Operands.{OperandAt, after_no_index, after_no_open, at_bracket, at_call, at_decorated, at_element, at_literal, at_parens, at_truth, operand_at}
use Rattle.occ_forms_expressions.proofs.Tailed.{end_after, ended_found, ended_only, tail_after}
use Rattle.occ_forms_expressions.proofs.Words.{BeginsNone, after_begins}

pub subscript_found : (m n : List ℕ) (index : Expr) (more all : List Expr) (el : Element) (tokens rest : List Token) (result : Result (Option (Expr × Bor (List Token))) AllocError)
    → el ≡ ev.Named m all → m ≡ n → all ≡ index ∷ more → tokens ≡ many subscript_of more rest
    → IfOk result (λ r. IfSome r (λ y. operand_then (ov.Element el) rest ≡ expr_then y.0 y.1.now))
    → IfOk result (λ r. IfSome r (λ y. t.Name n ∷ subscript_of index tokens ≡ expr_then y.0 y.1.now))
subscript_found m n index more all el tokens rest (Err e) is same items read found = tt
subscript_found m n index more all el tokens rest (Ok None) is same items read found = tt
subscript_found m n index more all el tokens rest (Ok (Some y)) is same items read found =
    ap (λ (z : List Token). t.Name n ∷ subscript_of index z) read ∙ sym (element_named_spells n (index ∷ more) rest)
    ∙ ap (λ (x : Element). element_then x rest) (sym (is ∙ ap (λ (x : List ℕ). ev.Named x all) same ∙ ap (λ (x : List Expr). ev.Named n x) items)) ∙ sym (operand_element_spells el rest) ∙ found

pub subscript_same : (m n : List ℕ) (index : Expr) (all es : List Expr) (el : Element) → el ≡ ev.Named m all → m ≡ n → all ≡ index ∷ es → ov.Element el ≡ ov.Element (ev.Named n (index ∷ es))
subscript_same m n index all es el is same items = ap (λ (x : Element). ov.Element x) (is ∙ ap (λ (x : List ℕ). ev.Named x all) same ∙ ap (λ (x : List Expr). ev.Named n x) items)

-- what may stand after the name with which an expression begins
pub data AfterName (n : List ℕ) (rest k : List Token) (z : Expr) : Type 0 where
  after_element : (es : List Expr) (x : Tail) → z ≡ joined (ov.Element (ev.Named n es)) x → rest ≡ many subscript_of es (tail_then x k) → AfterName n rest k z
  after_call : (es : List Expr) (x : Tail) → z ≡ joined (ov.Call n es) x → rest ≡ arguments_of es (tail_then x k) → AfterName n rest k z
  after_type : (p : Operand) (o : NamedOperand) → z ≡ xv.Named n o → narrow_of p ≡ Some o → rest ≡ operand_then p k → AfterName n rest k z

names_same : (m n : List ℕ) (r q : List Token) → t.Name m ∷ r ≡ t.Name n ∷ q → (n ≡ m) × (r ≡ q)
names_same m n r q e = (cc, cc)

pub after_name_at : (tokens rest : List Token) (n : List ℕ) (z : Expr) (k : List Token) → tokens ≡ t.Name n ∷ rest → tokens ≡ expr_then z k → AfterName n rest k z
after_name_at tokens rest n z k is e = by (expr_at z k tokens be.Name e (ap begin_of is)) where
  by_run : (o : Operand) (x : Tail) → z ≡ joined o x → OperandAt tokens (tail_then x k) o be.Name → AfterName n rest k z
  by_run o x q (at_element m es p f) = let h = names_same n m rest _ (sym is ∙ f) in
      after_element es x (q ∙ ap (λ (y : Operand). joined y x) (p ∙ ap (λ (y : List ℕ). ov.Element (ev.Named y es)) h.0)) h.1
  by_run o x q (at_call m es p f) = let h = names_same n m rest _ (sym is ∙ f) in
      after_call es x (q ∙ ap (λ (y : Operand). joined y x) (p ∙ ap (λ (y : List ℕ). ov.Call y es) h.0)) h.1

  by : ExprAt tokens k z be.Name → AfterName n rest k z
  by (at_named m o q f) = let h = names_same n m rest _ (sym is ∙ f) in let v = widen o in
      after_type v.wide o (q ∙ ap (λ (y : List ℕ). xv.Named y o) h.0) v.narrows (h.1 ∙ sym (v.spells k))
  by (run_at_name o x q f) = by_run o x q (operand_at o (tail_then x k) tokens be.Name f (ap begin_of is))

-- a name and a bracket
after_index : (i : Expr) (begun r : List Token) → t.Symbol s.OpenIndex ∷ begun ≡ subscript_of i r → begun ≡ expr_then i (t.Symbol s.CloseIndex ∷ r)
after_index i begun r e = cc

call_no_index : {Z : Type 0} (es : List Expr) (k begun : List Token) → t.Symbol s.OpenIndex ∷ begun ≡ arguments_of es k → Z
call_no_index [] k begun e = absurd cc
call_no_index (x ∷ xs) k begun e = absurd cc

pub subscripted_all : (tokens rest begun : List Token) (n : List ℕ) (result : Result (Option (Expr × Bor (List Token))) AllocError) → tokens ≡ t.Name n ∷ rest → rest ≡ t.Symbol s.OpenIndex ∷ begun
    → IfOk result (λ r. (i : Expr) (es : List Expr) (x : Tail) (k : List Token) → IsEndOfRun k → begun ≡ expr_then i (t.Symbol s.CloseIndex ∷ many subscript_of es (tail_then x k)) → Reads r (joined (ov.Element (ev.Named n (i ∷ es))) x) k)
    → IfOk result (λ r. (i : Expr) (c : Closing) (p : Operand) (q : NamedOperand) (k : List Token) → IsAfter k → IsBracketed i c (Some p) → narrow_of p ≡ Some q → begun ≡ expr_then i (closing_then c k) → Reads r (xv.Named n q) k)
    → IfOk result (λ r. (z : Expr) (k : List Token) → begin_of tokens ≡ be.Name → IsEndOfRun k → tokens ≡ expr_then z k → Reads r z k)
subscripted_all tokens rest begun n (Err e) is bracket element converted = tt
subscripted_all tokens rest begun n (Ok r) is bracket element converted = λ z k b ends e. by z k ends (after_name_at tokens rest n z k is e) where
  of_operand : (k : List Token) (p : Operand) (o : NamedOperand) → IsEndOfRun k → narrow_of p ≡ Some o → OperandAt rest k p be.Bracket → Reads r (xv.Named n o) k
  of_operand k p o ends narrows (at_bracket i c q f) = let h : t.Symbol s.OpenIndex ∷ begun ≡ t.Symbol s.OpenIndex ∷ expr_then i (closing_then c k) = sym bracket ∙ f in
      converted i c p o k (end_after k ends) q narrows (cc)

  by : (z : Expr) (k : List Token) → IsEndOfRun k → AfterName n rest k z → Reads r z k
  by z k ends (after_element [] x q f) = absurd (after_no_index (tail_then x k) (tail_after x k ends) begun (sym f ∙ bracket))
  by z k ends (after_element (i ∷ es) x q f) = subst (λ (y : Expr). Reads r y k) (sym q) (element i es x k ends (after_index i begun _ (sym bracket ∙ f)))
  by z k ends (after_call es x q f) = call_no_index es _ begun (sym bracket ∙ f)
  by z k ends (after_type p o q narrows f) = subst (λ (y : Expr). Reads r y k) (sym q) (of_operand k p o ends narrows (operand_at p k rest be.Bracket f (ap begin_of bracket)))

-- a name and an operand that begins with a name or a literal
none_plain : (b : Begin) → BeginsNone b → is_plain_begin b ≡ true → ⊥
none_plain b (inl q) plain = let h : true ≡ false = sym plain ∙ ap is_plain_begin q in (cc)
none_plain b (inr q) plain = let h : true ≡ false = sym plain ∙ ap is_plain_begin q in (cc)

call_no_plain : (es : List Expr) (k rest : List Token) → rest ≡ arguments_of es k → is_plain_begin (begin_of rest) ≡ true → ⊥
call_no_plain [] k rest e plain = let h : true ≡ false = sym plain ∙ ap (λ (z : List Token). is_plain_begin (begin_of z)) e in (cc)
call_no_plain (x ∷ xs) k rest e plain = let h : true ≡ false = sym plain ∙ ap (λ (z : List Token). is_plain_begin (begin_of z)) e in (cc)

pub name_converted_all : (tokens rest : List Token) (n : List ℕ) (result : Result (Option (Expr × Bor (List Token))) AllocError) → tokens ≡ t.Name n ∷ rest → is_plain_begin (begin_of rest) ≡ true
    → IfOk result (λ r. (p : Operand) (o : NamedOperand) (k : List Token) → IsAfter k → narrow_of p ≡ Some o → rest ≡ operand_then p k → Reads r (xv.Named n o) k)
    → IfOk result (λ r. (z : Expr) (k : List Token) → begin_of tokens ≡ be.Name → IsEndOfRun k → tokens ≡ expr_then z k → Reads r z k)
name_converted_all tokens rest n (Err e) is plain converted = tt
name_converted_all tokens rest n (Ok r) is plain converted = λ z k b ends e. by z k ends (after_name_at tokens rest n z k is e) where
  by : (z : Expr) (k : List Token) → IsEndOfRun k → AfterName n rest k z → Reads r z k
  by z k ends (after_element [] x q f) = absurd (none_plain (begin_of rest) (after_begins rest (subst IsAfter (sym f) (tail_after x k ends))) plain)
  by z k ends (after_element (i ∷ es) x q f) = let h : true ≡ false = sym plain ∙ ap (λ (z : List Token). is_plain_begin (begin_of z)) f in absurd cc
  by z k ends (after_call es x q f) = absurd (call_no_plain es _ rest f plain)
  by z k ends (after_type p o q narrows f) = subst (λ (y : Expr). Reads r y k) (sym q) (converted p o k (end_after k ends) narrows f)

-- a name and neither
pub plain_name_all : (tokens rest : List Token) (n : List ℕ) (result : Result (Option (Expr × Bor (List Token))) AllocError) → tokens ≡ t.Name n ∷ rest
    → IsNot s.OpenIndex rest → is_plain_begin (begin_of rest) ≡ false
    → IfOk result (λ r. (es : List Expr) (x : Tail) (k : List Token) → IsEndOfRun k → rest ≡ many subscript_of es (tail_then x k) → Reads r (joined (ov.Element (ev.Named n es)) x) k)
    → IfOk result (λ r. (es : List Expr) (x : Tail) (k : List Token) → IsEndOfRun k → rest ≡ arguments_of es (tail_then x k) → Reads r (joined (ov.Call n es) x) k)
    → IfOk result (λ r. (z : Expr) (k : List Token) → begin_of tokens ≡ be.Name → IsEndOfRun k → tokens ≡ expr_then z k → Reads r z k)
plain_name_all tokens rest n (Err e) is none plain element call = tt
plain_name_all tokens rest n (Ok r) is none plain element call = λ z k b ends e. by z k ends (after_name_at tokens rest n z k is e) where
  not_plain : {Z : Type 0} (c : Begin) → begin_of rest ≡ c → is_plain_begin c ≡ true → Z
  not_plain c at reported = let h : false ≡ true = sym plain ∙ ap is_plain_begin at ∙ reported in absurd cc

  of_operand : {Z : Type 0} (k : List Token) (p : Operand) (o : NamedOperand) (c : Begin) → narrow_of p ≡ Some o → begin_of rest ≡ c → OperandAt rest k p c → Z
  of_operand k p o c narrows at (at_element m es q f) = not_plain c at refl
  of_operand k p o c narrows at (at_call m es q f) = not_plain c at refl
  of_operand k p o c narrows at (at_literal l q f) = not_plain c at refl
  of_operand k p o c narrows at (at_decorated l type q f) = not_plain c at refl
  of_operand k p o c narrows at (at_truth y q f) = not_plain c at refl
  of_operand k p o c narrows at (at_parens x q f) = let h : None ≡ Some o = sym (narrow_parens x) ∙ sym (ap narrow_of q) ∙ narrows in absurd cc
  of_operand k p o c narrows at (at_bracket x closing q f) = absurd (none _ f)

  by : (z : Expr) (k : List Token) → IsEndOfRun k → AfterName n rest k z → Reads r z k
  by z k ends (after_element es x q f) = subst (λ (y : Expr). Reads r y k) (sym q) (element es x k ends f)
  by z k ends (after_call es x q f) = subst (λ (y : Expr). Reads r y k) (sym q) (call es x k ends f)
  by z k ends (after_type p o q narrows f) = of_operand k p o (begin_of rest) narrows refl (operand_at p k rest (begin_of rest) f refl)

-- a name where operands end
pub lone_name_found : (n : List ℕ) (none : List Expr) (tokens : List Token) → none ≡ [] → t.Name n ∷ tokens ≡ expr_then (xv.Alone (ov.Element (ev.Named n none))) tokens
lone_name_found n none tokens is =
    element_found n [] (ev.Named n none) tokens tokens (ap (λ (xs : List Expr). ev.Named n xs) is) refl ∙ ended_found (ov.Element (ev.Named n none)) tokens

pub lone_name_only : (n : List ℕ) (none : List Expr) (tokens : List Token) → none ≡ [] → IsEndOfRun tokens
    → (es : List Expr) (x : Tail) (k : List Token) → IsEndOfRun k → tokens ≡ many subscript_of es (tail_then x k)
    → (xv.Alone (ov.Element (ev.Named n none)) ≡ joined (ov.Element (ev.Named n es)) x) × (tokens ≡ k)
lone_name_only n none tokens is ended [] x k ends e =
    let h = ended_only (ov.Element (ev.Named n [])) tokens ended x k ends e in
    (ap (λ (xs : List Expr). xv.Alone (ov.Element (ev.Named n xs))) is ∙ h.0, h.1)
lone_name_only n none tokens is ended (i ∷ es) x k ends e = absurd (after_no_index tokens (end_after tokens ended) _ e)

pub lone_name_no_call : (tokens : List Token) → IsEndOfRun tokens → (es : List Expr) (k : List Token) → tokens ≡ arguments_of es k → ⊥
lone_name_no_call tokens ended [] k e = after_no_open tokens (end_after tokens ended) _ e
lone_name_no_call tokens ended (x ∷ es) k e = after_no_open tokens (end_after tokens ended) _ e

-- subscripts and the tail after them fit after a bracket
pub subscripts_fit : (es : List Expr) (x : Tail) (k : List Token) → IsEndOfRun k → IsNot s.Open (many subscript_of es (tail_then x k))
subscripts_fit [] x k ends = after_no_open (tail_then x k) (tail_after x k ends)
subscripts_fit (e ∷ es) x k ends = λ rest is. absurd cc

pub fitting : (c : Closing) (k : List Token) → IsAfter k → Fits c k
fitting (cl.Items es type) k after = after_no_open k after
fitting (cl.Segment bounds es) k after = after_no_index k after

-- a table of one item without its type is no operand after a name
pub single_no_type : {Z : Type 0} (first : Expr) (closing : Closing) (p : Operand) (q : NamedOperand) → closing ≡ cl.Items [] None → IsBracketed first closing (Some p) → narrow_of p ≡ Some q → Z
single_no_type first closing p q is operand narrows =
    let h : Some p ≡ Some (ov.Table first []) = subst (λ (c : Closing). IsBracketed first c (Some p)) is operand in
    let i : p ≡ ov.Table first [] = (cc) in
    let j : None ≡ Some q = sym (narrow_of_table first []) ∙ sym (ap narrow_of i) ∙ narrows in absurd cc

pub single_index : (n : List ℕ) (first : Expr) (closing : Closing) (tokens : List Token) (result : Result (Option (Expr × Bor (List Token))) AllocError) → closing ≡ cl.Items [] None
    → IfOk result (λ r. (es : List Expr) (x : Tail) (k : List Token) → IsEndOfRun k → tokens ≡ many subscript_of es (tail_then x k) → Reads r (joined (ov.Element (ev.Named n (first ∷ es))) x) k)
    → IfOk result (λ r. (es : List Expr) (x : Tail) (k : List Token) → IsEndOfRun k → closing ≡ cl.Items [] None → tokens ≡ many subscript_of es (tail_then x k) → Reads r (joined (ov.Element (ev.Named n (first ∷ es))) x) k)
single_index n first closing tokens (Err e) is element = tt
single_index n first closing tokens (Ok r) is element = λ es x k ends same e. element es x k ends e

pub single_converted : (n : List ℕ) (first : Expr) (closing : Closing) (tokens : List Token) (result : Result (Option (Expr × Bor (List Token))) AllocError) → closing ≡ cl.Items [] None
    → IfOk result (λ r. (p : Operand) (q : NamedOperand) → IsBracketed first closing (Some p) → narrow_of p ≡ Some q → Reads r (xv.Named n q) tokens)
single_converted n first closing tokens (Err e) is = tt
single_converted n first closing tokens (Ok r) is = λ p q operand narrows. single_no_type first closing p q is operand narrows

pub index_found : (n : List ℕ) (first : Expr) (closing : Closing) (tokens : List Token) (result : Result (Option (Expr × Bor (List Token))) AllocError) → closing ≡ cl.Items [] None
    → IfOk result (λ r. IfSome r (λ y. t.Name n ∷ subscript_of first tokens ≡ expr_then y.0 y.1.now))
    → IfOk result (λ r. IfSome r (λ y. t.Name n ∷ t.Symbol s.OpenIndex ∷ expr_then first (closing_then closing tokens) ≡ expr_then y.0 y.1.now))
index_found n first closing tokens (Err e) is found = tt
index_found n first closing tokens (Ok None) is found = tt
index_found n first closing tokens (Ok (Some y)) is found = ap (λ (c : Closing). t.Name n ∷ t.Symbol s.OpenIndex ∷ expr_then first (closing_then c tokens)) is ∙ found

-- the brackets are read, and this is left
abbrev pub IsBracketRead : List Token → Bracket → List Token → Type 0
IsBracketRead tokens found rest = (i : Expr) (c : Closing) (k : List Token) → Fits c k → tokens ≡ expr_then i (closing_then c k) → (found ≡ br.Closed i c) × (rest ≡ k)

-- what is after the first expression in brackets is read, and this is left
abbrev pub IsClosingRead : List Token → Closing → List Token → Type 0
IsClosingRead tokens closing rest = (c : Closing) (k : List Token) → Fits c k → tokens ≡ closing_then c k → (closing ≡ c) × (rest ≡ k)

-- where one item is closed and no type follows, no other closing is spelled
single_is : (c : Closing) (k next : List Token) → t.Symbol s.CloseIndex ∷ next ≡ closing_then c k → IsNot s.Open next → c ≡ cl.Items [] None
single_is (cl.Items [] None) k next e plain = refl
single_is (cl.Items [] (Some type)) k next e plain = absurd (plain _ (after_same (t.Symbol s.CloseIndex) (t.Symbol s.CloseIndex ∷ next) next (t.Symbol s.Open ∷ type_form_then type (t.Symbol s.Close ∷ k)) refl e))
single_is (cl.Items (i ∷ more) type) k next e plain = absurd cc
single_is (cl.Segment b es) k next e plain = let h : false ≡ true = ap bounds_begin e ∙ bounds_begins b _ in absurd cc

pub single_found : (n : List ℕ) (tokens rest next : List Token) (first : Expr) (result : Result (Option (Expr × Bor (List Token))) AllocError) → tokens ≡ expr_then first rest → rest ≡ t.Symbol s.CloseIndex ∷ next
    → IfOk result (λ r. IfSome r (λ y. t.Name n ∷ subscript_of first next ≡ expr_then y.0 y.1.now))
    → IfOk result (λ r. IfSome r (λ y. t.Name n ∷ t.Symbol s.OpenIndex ∷ tokens ≡ expr_then y.0 y.1.now))
single_found n tokens rest next first (Err e) read is found = tt
single_found n tokens rest next first (Ok None) read is found = tt
single_found n tokens rest next first (Ok (Some y)) read is found = ap (λ (z : List Token). t.Name n ∷ t.Symbol s.OpenIndex ∷ z) (read ∙ ap (λ (z : List Token). expr_then first z) is) ∙ found

pub single_element : (n : List ℕ) (tokens rest next : List Token) (first : Expr) (result : Result (Option (Expr × Bor (List Token))) AllocError) → IsFirstRead tokens first rest → rest ≡ t.Symbol s.CloseIndex ∷ next
    → IfOk result (λ r. (es : List Expr) (x : Tail) (k : List Token) → IsEndOfRun k → next ≡ many subscript_of es (tail_then x k) → Reads r (joined (ov.Element (ev.Named n (first ∷ es))) x) k)
    → IfOk result (λ r. (i : Expr) (es : List Expr) (x : Tail) (k : List Token) → IsEndOfRun k → tokens ≡ expr_then i (t.Symbol s.CloseIndex ∷ many subscript_of es (tail_then x k)) → Reads r (joined (ov.Element (ev.Named n (i ∷ es))) x) k)
single_element n tokens rest next first (Err e) read is element = tt
single_element n tokens rest next first (Ok r) read is element = λ i es x k ends e.
    let h = read i (t.Symbol s.CloseIndex ∷ many subscript_of es (tail_then x k)) refl e in
    subst (λ (y : Expr). Reads r (joined (ov.Element (ev.Named n (y ∷ es))) x) k) h.0 (element es x k ends (after_same _ _ _ _ is h.1))

pub single_type : (n : List ℕ) (tokens rest next : List Token) (first : Expr) (result : Result (Option (Expr × Bor (List Token))) AllocError) → IsFirstRead tokens first rest → rest ≡ t.Symbol s.CloseIndex ∷ next → IsNot s.Open next
    → IfOk result (λ r. (i : Expr) (c : Closing) (p : Operand) (q : NamedOperand) (k : List Token) → IsAfter k → IsBracketed i c (Some p) → narrow_of p ≡ Some q → tokens ≡ expr_then i (closing_then c k) → Reads r (xv.Named n q) k)
single_type n tokens rest next first (Err e) read is plain = tt
single_type n tokens rest next first (Ok r) read is plain = λ i c p q k after operand narrows e.
    let h = read i (closing_then c k) (closing_ends c k) e in
    single_no_type i c p q (single_is c k next (sym is ∙ h.1) plain) operand narrows

pub element_after : (n : List ℕ) (tokens rest left : List Token) (first : Expr) (closing : Closing) (result : Result (Option (Expr × Bor (List Token))) AllocError) → IsFirstRead tokens first rest → IsClosingRead rest closing left
    → IfOk result (λ r. (es : List Expr) (x : Tail) (k : List Token) → IsEndOfRun k → closing ≡ cl.Items [] None → left ≡ many subscript_of es (tail_then x k) → Reads r (joined (ov.Element (ev.Named n (first ∷ es))) x) k)
    → IfOk result (λ r. (i : Expr) (es : List Expr) (x : Tail) (k : List Token) → IsEndOfRun k → tokens ≡ expr_then i (t.Symbol s.CloseIndex ∷ many subscript_of es (tail_then x k)) → Reads r (joined (ov.Element (ev.Named n (i ∷ es))) x) k)
element_after n tokens rest left first closing (Err e) read closed element = tt
element_after n tokens rest left first closing (Ok r) read closed element = λ i es x k ends e.
    let h = read i (t.Symbol s.CloseIndex ∷ many subscript_of es (tail_then x k)) refl e in
    let m = closed (cl.Items [] None) (many subscript_of es (tail_then x k)) (subscripts_fit es x k ends) h.1 in
    subst (λ (y : Expr). Reads r (joined (ov.Element (ev.Named n (y ∷ es))) x) k) h.0 (element es x k ends m.0 m.1)

pub type_after : (n : List ℕ) (tokens rest left : List Token) (first : Expr) (closing : Closing) (result : Result (Option (Expr × Bor (List Token))) AllocError) → IsFirstRead tokens first rest → IsClosingRead rest closing left
    → IfOk result (λ r. (p : Operand) (q : NamedOperand) → IsBracketed first closing (Some p) → narrow_of p ≡ Some q → Reads r (xv.Named n q) left)
    → IfOk result (λ r. (i : Expr) (c : Closing) (p : Operand) (q : NamedOperand) (k : List Token) → IsAfter k → IsBracketed i c (Some p) → narrow_of p ≡ Some q → tokens ≡ expr_then i (closing_then c k) → Reads r (xv.Named n q) k)
type_after n tokens rest left first closing (Err e) read closed converted = tt
type_after n tokens rest left first closing (Ok r) read closed converted = λ i c p q k after operand narrows e.
    let h = read i (closing_then c k) (closing_ends c k) e in
    let m = closed c k (fitting c k after) h.1 in
    subst (λ (y : List Token). Reads r (xv.Named n q) y) m.1 (converted p q (subst (λ (y : Closing). IsBracketed first y (Some p)) (sym m.0) (subst (λ (y : Expr). IsBracketed y c (Some p)) (sym h.0) operand)) narrows)

pub none_converted : {Z : Type 0} (n : List ℕ) (q : NamedOperand) → None ≡ Some (xv.Named n q) → Z
none_converted n q e = absurd cc
