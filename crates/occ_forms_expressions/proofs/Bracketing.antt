-- Expressions that begin with a square bracket, step by step as they are read.
use Rattle.std.proofs.Common.{◌≡◌, ◌∙◌, inl, inr, refl, sym, ap, subst, ℕ, Bool, true, false, List, [], ◌∷◌, Option, Some, None, Result, Ok, Err, IfOk, IfSome, Bor}
use Rattle.std.specs.declared.alloc.AllocError.{AllocError}
use Rattle.occ_lines.specs.declared.token.Symbol.TheVariants as s
use Rattle.occ_lines.specs.declared.token.Token.{Token}
use Rattle.occ_lines.specs.declared.token.Token.TheVariants as t
use Rattle.occ_forms_expressions.specs.declared.begin.Begin.{Begin}
use Rattle.occ_forms_expressions.specs.declared.begin.Begin.TheVariants as be
use Rattle.occ_forms_expressions.specs.declared.bracket.Bracket.{Bracket}
use Rattle.occ_forms_expressions.specs.declared.bracket.Bracket.TheVariants as br
use Rattle.occ_forms_expressions.specs.declared.bracket.Closing.{Closing}
use Rattle.occ_forms_expressions.specs.declared.bracket.Closing.TheVariants as cl
use Rattle.occ_forms_expressions.specs.declared.tail.Tail.{Tail}
use Rattle.occ_forms_expressions.specs.declared.tree.Builtin.{Builtin}
use Rattle.occ_forms_expressions.specs.declared.tree.Dimension.{Dimension}
use Rattle.occ_forms_expressions.specs.declared.tree.Dimension.TheVariants as dv
use Rattle.occ_forms_expressions.specs.declared.tree.Expr.{Expr}
use Rattle.occ_forms_expressions.specs.declared.tree.Expr.TheVariants as xv
use Rattle.occ_forms_expressions.specs.declared.tree.Operand.{Operand}
use Rattle.occ_forms_expressions.specs.inside.Brackets.{Fits, IsBracketed, closing_then}
use Rattle.occ_forms_expressions.specs.Reading.{IsAfter, IsEndOfRun, Reads, begin_of, is_type_begin}
use Rattle.occ_forms_expressions.specs.Spelling.{builtin_then, dimension_then, expr_then, many, operand_then}
use Rattle.occ_forms_expressions.specs.inside.Tails.{joined, tail_then}
use Rattle.occ_forms_expressions.proofs.Following.{IsBracketRead, fitting}
use Rattle.occ_forms_expressions.proofs.Cases.{DimensionIs, dimension_is, dimension_is_open, dimension_is_sized, dimension_open_spells, dimension_sized_spells}
use Rattle.occ_forms_expressions.proofs.Classes.{ExprAt, at_array, at_dimension, builtin_class, dimension_class, expr_at, run_at_bracket}
use Rattle.occ_forms_expressions.proofs.Operands.{OperandAt, at_bracket, bracketed_one, bracketed_spells, operand_at}
use Rattle.occ_forms_expressions.proofs.Tailed.{end_after, tail_after}
use Rattle.occ_forms_expressions.proofs.Words.{BeginsNone, after_begins}

-- a type begins after a dimension
pub named_begins : (ds : List Dimension) (n : List ℕ) (k : List Token) → is_type_begin (begin_of (many dimension_then ds (t.Name n ∷ k))) ≡ true
named_begins [] n k = refl
named_begins (d ∷ ds) n k = ap is_type_begin (dimension_class d (many dimension_then ds (t.Name n ∷ k)))

pub builtin_begins : (ds : List Dimension) (b : Builtin) (k : List Token) → is_type_begin (begin_of (many dimension_then ds (builtin_then b k))) ≡ true
builtin_begins [] b k = ap is_type_begin (builtin_class b k)
builtin_begins (d ∷ ds) b k = ap is_type_begin (dimension_class d (many dimension_then ds (builtin_then b k)))

type_no_bracket : (k rest : List Token) → is_type_begin (begin_of k) ≡ true → k ≡ t.Symbol s.Open ∷ rest → ⊥
type_no_bracket k rest begins is = let h : true ≡ false = sym begins ∙ ap (λ (z : List Token). is_type_begin (begin_of z)) is in (cc)

none_type : (b : Begin) → BeginsNone b → is_type_begin b ≡ true → ⊥
none_type b (inl q) begins = let h : true ≡ false = sym begins ∙ ap is_type_begin q in (cc)
none_type b (inr q) begins = let h : true ≡ false = sym begins ∙ ap is_type_begin q in (cc)

pub tail_no_type : {Z : Type 0} (x : Tail) (k tokens : List Token) → IsEndOfRun k → tokens ≡ tail_then x k → is_type_begin (begin_of tokens) ≡ true → Z
tail_no_type x k tokens ends e begins = absurd (none_type (begin_of tokens) (after_begins tokens (subst IsAfter (sym e) (tail_after x k ends))) begins)

-- the brackets are a dimension
pub dimension_found : (first : Expr) (closing : Closing) (size : Dimension) (tokens : List Token) (result : Result (Option (Expr × Bor (List Token))) AllocError) → closing ≡ cl.Items [] None → size ≡ dv.Sized first
    → IfOk result (λ r. IfSome r (λ y. dimension_then size tokens ≡ expr_then y.0 y.1.now))
    → IfOk result (λ r. IfSome r (λ y. t.Symbol s.OpenIndex ∷ expr_then first (closing_then closing tokens) ≡ expr_then y.0 y.1.now))
dimension_found first closing size tokens (Err e) is sized found = tt
dimension_found first closing size tokens (Ok None) is sized found = tt
dimension_found first closing size tokens (Ok (Some y)) is sized found =
    ap (λ (c : Closing). t.Symbol s.OpenIndex ∷ expr_then first (closing_then c tokens)) is ∙ sym (dimension_sized_spells first tokens) ∙ ap (λ (d : Dimension). dimension_then d tokens) (sym sized) ∙ found

pub dimension_no_operand : (first : Expr) (closing : Closing) (tokens : List Token) (result : Result (Option (Expr × Bor (List Token))) AllocError) → is_type_begin (begin_of tokens) ≡ true
    → IfOk result (λ r. (o : Operand) (x : Tail) (k : List Token) → IsEndOfRun k → IsBracketed first closing (Some o) → tokens ≡ tail_then x k → Reads r (joined o x) k)
dimension_no_operand first closing tokens (Err e) begins = tt
dimension_no_operand first closing tokens (Ok r) begins = λ o x k ends operand e. tail_no_type x k tokens ends e begins

pub dimension_named : (first : Expr) (closing : Closing) (size : Dimension) (tokens : List Token) (result : Result (Option (Expr × Bor (List Token))) AllocError) → size ≡ dv.Sized first
    → IfOk result (λ r. (ds : List Dimension) (n : List ℕ) (o : Operand) (k : List Token) → IsAfter k → tokens ≡ many dimension_then ds (t.Name n ∷ operand_then o k) → Reads r (xv.ArrayConverted size ds n o) k)
    → IfOk result (λ r. (ds : List Dimension) (n : List ℕ) (o : Operand) (k : List Token) → IsAfter k → closing ≡ cl.Items [] None → tokens ≡ many dimension_then ds (t.Name n ∷ operand_then o k) → Reads r (xv.ArrayConverted (dv.Sized first) ds n o) k)
dimension_named first closing size tokens (Err e) sized named = tt
dimension_named first closing size tokens (Ok r) sized named = λ ds n o k after single e. subst (λ (d : Dimension). Reads r (xv.ArrayConverted d ds n o) k) sized (named ds n o k after e)

pub dimension_builtin : (first : Expr) (closing : Closing) (size : Dimension) (tokens : List Token) (result : Result (Option (Expr × Bor (List Token))) AllocError) → size ≡ dv.Sized first
    → IfOk result (λ r. (ds : List Dimension) (b : Builtin) (o : Operand) (k : List Token) → IsAfter k → tokens ≡ many dimension_then ds (builtin_then b (operand_then o k)) → Reads r (xv.Converted (size ∷ ds) b o) k)
    → IfOk result (λ r. (ds : List Dimension) (b : Builtin) (o : Operand) (k : List Token) → IsAfter k → closing ≡ cl.Items [] None → tokens ≡ many dimension_then ds (builtin_then b (operand_then o k)) → Reads r (xv.Converted (dv.Sized first ∷ ds) b o) k)
dimension_builtin first closing size tokens (Err e) sized builtin = tt
dimension_builtin first closing size tokens (Ok r) sized builtin = λ ds b o k after single e. subst (λ (d : Dimension). Reads r (xv.Converted (d ∷ ds) b o) k) sized (builtin ds b o k after e)

-- the brackets are an operand
pub operand_found : (first : Expr) (closing : Closing) (p : Operand) (tokens : List Token) (result : Result (Option (Expr × Bor (List Token))) AllocError) → IsBracketed first closing (Some p)
    → IfOk result (λ r. IfSome r (λ y. operand_then p tokens ≡ expr_then y.0 y.1.now))
    → IfOk result (λ r. IfSome r (λ y. t.Symbol s.OpenIndex ∷ expr_then first (closing_then closing tokens) ≡ expr_then y.0 y.1.now))
operand_found first closing p tokens (Err e) is found = tt
operand_found first closing p tokens (Ok None) is found = tt
operand_found first closing p tokens (Ok (Some y)) is found = sym (bracketed_spells first closing p tokens is) ∙ found

pub operand_after : (first : Expr) (closing : Closing) (p : Operand) (tokens : List Token) (result : Result (Option (Expr × Bor (List Token))) AllocError) → IsBracketed first closing (Some p)
    → IfOk result (λ r. (x : Tail) (k : List Token) → IsEndOfRun k → tokens ≡ tail_then x k → Reads r (joined p x) k)
    → IfOk result (λ r. (o : Operand) (x : Tail) (k : List Token) → IsEndOfRun k → IsBracketed first closing (Some o) → tokens ≡ tail_then x k → Reads r (joined o x) k)
operand_after first closing p tokens (Err e) is only = tt
operand_after first closing p tokens (Ok r) is only = λ o x k ends operand e. subst (λ (y : Operand). Reads r (joined y x) k) (bracketed_one first closing p o is operand) (only x k ends e)

pub no_dimension_here : (A : Type 0) (b : Bool) → (A → b ≡ true) → b ≡ false → A → ⊥
no_dimension_here A b reported none is = let h : true ≡ false = sym (reported is) ∙ none in (cc)

-- where they are no dimension no type begins after one item alone
pub no_named : {Z : Type 0} (closing : Closing) (tokens : List Token) → ((closing ≡ cl.Items [] None) × (is_type_begin (begin_of tokens) ≡ true) → ⊥)
    → (ds : List Dimension) (n : List ℕ) (o : Operand) (k : List Token) → closing ≡ cl.Items [] None → tokens ≡ many dimension_then ds (t.Name n ∷ operand_then o k) → Z
no_named closing tokens none ds n o k single e = absurd (none (single, ap (λ (z : List Token). is_type_begin (begin_of z)) e ∙ named_begins ds n (operand_then o k)))

pub no_builtin : {Z : Type 0} (closing : Closing) (tokens : List Token) → ((closing ≡ cl.Items [] None) × (is_type_begin (begin_of tokens) ≡ true) → ⊥)
    → (ds : List Dimension) (b : Builtin) (o : Operand) (k : List Token) → closing ≡ cl.Items [] None → tokens ≡ many dimension_then ds (builtin_then b (operand_then o k)) → Z
no_builtin closing tokens none ds b o k single e = absurd (none (single, ap (λ (z : List Token). is_type_begin (begin_of z)) e ∙ builtin_begins ds b (operand_then o k)))

pub operand_no_named : (closing : Closing) (first : Expr) (tokens : List Token) (result : Result (Option (Expr × Bor (List Token))) AllocError) → ((closing ≡ cl.Items [] None) × (is_type_begin (begin_of tokens) ≡ true) → ⊥)
    → IfOk result (λ r. (ds : List Dimension) (n : List ℕ) (o : Operand) (k : List Token) → IsAfter k → closing ≡ cl.Items [] None → tokens ≡ many dimension_then ds (t.Name n ∷ operand_then o k) → Reads r (xv.ArrayConverted (dv.Sized first) ds n o) k)
operand_no_named closing first tokens (Err e) none = tt
operand_no_named closing first tokens (Ok r) none = λ ds n o k after single e. no_named closing tokens none ds n o k single e

pub operand_no_builtin : (closing : Closing) (first : Expr) (tokens : List Token) (result : Result (Option (Expr × Bor (List Token))) AllocError) → ((closing ≡ cl.Items [] None) × (is_type_begin (begin_of tokens) ≡ true) → ⊥)
    → IfOk result (λ r. (ds : List Dimension) (b : Builtin) (o : Operand) (k : List Token) → IsAfter k → closing ≡ cl.Items [] None → tokens ≡ many dimension_then ds (builtin_then b (operand_then o k)) → Reads r (xv.Converted (dv.Sized first ∷ ds) b o) k)
operand_no_builtin closing first tokens (Err e) none = tt
operand_no_builtin closing first tokens (Ok r) none = λ ds b o k after single e. no_builtin closing tokens none ds b o k single e

-- what may stand after the dimension with which a conversion begins
pub data AfterDimension (rest k : List Token) (d : Dimension) (z : Expr) : Type 0 where
  dimension_of_name : (ds : List Dimension) (n : List ℕ) (o : Operand) → z ≡ xv.ArrayConverted d ds n o → rest ≡ many dimension_then ds (t.Name n ∷ operand_then o k) → AfterDimension rest k d z
  dimension_of_builtin : (ds : List Dimension) (b : Builtin) (o : Operand) → z ≡ xv.Converted (d ∷ ds) b o → rest ≡ many dimension_then ds (builtin_then b (operand_then o k)) → AfterDimension rest k d z

-- what may stand after the bracket with which an expression begins
pub data AfterBracket (begun k : List Token) (z : Expr) : Type 0 where
  after_open : (rest : List Token) → begun ≡ t.Symbol s.CloseIndex ∷ rest → AfterDimension rest k dv.Open z → AfterBracket begun k z
  after_sized : (i : Expr) (rest : List Token) → begun ≡ expr_then i (t.Symbol s.CloseIndex ∷ rest) → is_type_begin (begin_of rest) ≡ true → AfterDimension rest k (dv.Sized i) z → AfterBracket begun k z
  after_operand : (i : Expr) (c : Closing) (o : Operand) (x : Tail) → z ≡ joined o x → IsBracketed i c (Some o) → begun ≡ expr_then i (closing_then c (tail_then x k)) → AfterBracket begun k z

after_first_bracket : (begun read : List Token) → t.Symbol s.OpenIndex ∷ begun ≡ t.Symbol s.OpenIndex ∷ read → begun ≡ read
after_first_bracket begun read e = cc

pub after_bracket_at : (tokens begun : List Token) (z : Expr) (k : List Token) → tokens ≡ t.Symbol s.OpenIndex ∷ begun → tokens ≡ expr_then z k → AfterBracket begun k z
after_bracket_at tokens begun z k is e = by (expr_at z k tokens be.Bracket e (ap begin_of is)) where
  by_dimension : (d : Dimension) (rest : List Token) → tokens ≡ dimension_then d rest → is_type_begin (begin_of rest) ≡ true → AfterDimension rest k d z → DimensionIs d → AfterBracket begun k z
  by_dimension d rest f begins following (dimension_is_open q) =
      let h : t.Symbol s.OpenIndex ∷ begun ≡ t.Symbol s.OpenIndex ∷ t.Symbol s.CloseIndex ∷ rest = sym is ∙ f ∙ ap (λ (y : Dimension). dimension_then y rest) q ∙ dimension_open_spells rest in
      after_open rest (after_first_bracket begun _ h) (subst (λ (y : Dimension). AfterDimension rest k y z) q following)
  by_dimension d rest f begins following (dimension_is_sized i q) =
      let h : t.Symbol s.OpenIndex ∷ begun ≡ t.Symbol s.OpenIndex ∷ expr_then i (t.Symbol s.CloseIndex ∷ rest) = sym is ∙ f ∙ ap (λ (y : Dimension). dimension_then y rest) q ∙ dimension_sized_spells i rest in
      after_sized i rest (after_first_bracket begun _ h) begins (subst (λ (y : Dimension). AfterDimension rest k y z) q following)

  by_run : (o : Operand) (x : Tail) → z ≡ joined o x → OperandAt tokens (tail_then x k) o be.Bracket → AfterBracket begun k z
  by_run o x q (at_bracket i c p f) = after_operand i c o x q p (after_first_bracket begun _ (sym is ∙ f))

  by : ExprAt tokens k z be.Bracket → AfterBracket begun k z
  by (at_array d ds n o q f) = by_dimension d (many dimension_then ds (t.Name n ∷ operand_then o k)) f (named_begins ds n (operand_then o k)) (dimension_of_name ds n o q refl) (dimension_is d)
  by (at_dimension d ds b o q f) = by_dimension d (many dimension_then ds (builtin_then b (operand_then o k))) f (builtin_begins ds b (operand_then o k)) (dimension_of_builtin ds b o q refl) (dimension_is d)
  by (run_at_bracket o x q f) = by_run o x q (operand_at o (tail_then x k) tokens be.Bracket f (ap begin_of is))

sized_fits : (rest : List Token) → is_type_begin (begin_of rest) ≡ true → Fits (cl.Items [] None) rest
sized_fits rest begins = λ k is. type_no_bracket rest k begins is

pub no_bracketed : (tokens begun : List Token) → tokens ≡ t.Symbol s.OpenIndex ∷ begun
    → ((k : List Token) → begun ≡ t.Symbol s.CloseIndex ∷ k → ⊥)
    → ((i : Expr) (c : Closing) (k : List Token) → Fits c k → begun ≡ expr_then i (closing_then c k) → ⊥)
    → (z : Expr) (k : List Token) → begin_of tokens ≡ be.Bracket → IsEndOfRun k → tokens ≡ expr_then z k → ⊥
no_bracketed tokens begun is no_open none z k b ends e = by (after_bracket_at tokens begun z k is e) where
  by : AfterBracket begun k z → ⊥
  by (after_open rest f h) = no_open rest f
  by (after_sized i rest f begins h) = none i (cl.Items [] None) rest (sized_fits rest begins) f
  by (after_operand i c o x q p f) = none i c (tail_then x k) (fitting c (tail_then x k) (tail_after x k ends)) f

-- the open bracket is read, and this is left
abbrev pub IsOpenRead : List Token → Bracket → List Token → Type 0
IsOpenRead begun found rest = (k : List Token) → begun ≡ t.Symbol s.CloseIndex ∷ k → (found ≡ br.Open) × (rest ≡ k)

pub open_all : (tokens begun rest : List Token) (found : Bracket) (result : Result (Option (Expr × Bor (List Token))) AllocError) → tokens ≡ t.Symbol s.OpenIndex ∷ begun → found ≡ br.Open → IsOpenRead begun found rest → IsBracketRead begun found rest
    → IfOk result (λ r. (ds : List Dimension) (n : List ℕ) (o : Operand) (k : List Token) → IsAfter k → rest ≡ many dimension_then ds (t.Name n ∷ operand_then o k) → Reads r (xv.ArrayConverted dv.Open ds n o) k)
    → IfOk result (λ r. (ds : List Dimension) (b : Builtin) (o : Operand) (k : List Token) → IsAfter k → rest ≡ many dimension_then ds (builtin_then b (operand_then o k)) → Reads r (xv.Converted (dv.Open ∷ ds) b o) k)
    → IfOk result (λ r. (z : Expr) (k : List Token) → begin_of tokens ≡ be.Bracket → IsEndOfRun k → tokens ≡ expr_then z k → Reads r z k)
open_all tokens begun rest found (Err e) is none opened read named builtin = tt
open_all tokens begun rest found (Ok r) is none opened read named builtin = λ z k b ends e. by z k ends (after_bracket_at tokens begun z k is e) where
  no_closed : {Z : Type 0} (i : Expr) (c : Closing) → found ≡ br.Closed i c → Z
  no_closed i c q = let h : br.Open ≡ br.Closed i c = sym none ∙ q in absurd cc

  by_dimension : (left k : List Token) (z : Expr) → IsAfter k → rest ≡ left → AfterDimension left k dv.Open z → Reads r z k
  by_dimension left k z after same (dimension_of_name ds n o q f) = subst (λ (y : Expr). Reads r y k) (sym q) (named ds n o k after (same ∙ f))
  by_dimension left k z after same (dimension_of_builtin ds c o q f) = subst (λ (y : Expr). Reads r y k) (sym q) (builtin ds c o k after (same ∙ f))

  by : (z : Expr) (k : List Token) → IsEndOfRun k → AfterBracket begun k z → Reads r z k
  by z k ends (after_open left f h) = by_dimension left k z (end_after k ends) (opened left f).1 h
  by z k ends (after_sized i left f begins h) = no_closed i (cl.Items [] None) (read i (cl.Items [] None) left (sized_fits left begins) f).0
  by z k ends (after_operand i c o x q p f) = no_closed i c (read i c (tail_then x k) (fitting c (tail_then x k) (tail_after x k ends)) f).0

pub closed_all : (tokens begun rest : List Token) (found : Bracket) (first : Expr) (closing : Closing) (result : Result (Option (Expr × Bor (List Token))) AllocError) → tokens ≡ t.Symbol s.OpenIndex ∷ begun → found ≡ br.Closed first closing → IsOpenRead begun found rest → IsBracketRead begun found rest
    → IfOk result (λ r. (o : Operand) (x : Tail) (k : List Token) → IsEndOfRun k → IsBracketed first closing (Some o) → rest ≡ tail_then x k → Reads r (joined o x) k)
    → IfOk result (λ r. (ds : List Dimension) (n : List ℕ) (o : Operand) (k : List Token) → IsAfter k → closing ≡ cl.Items [] None → rest ≡ many dimension_then ds (t.Name n ∷ operand_then o k) → Reads r (xv.ArrayConverted (dv.Sized first) ds n o) k)
    → IfOk result (λ r. (ds : List Dimension) (b : Builtin) (o : Operand) (k : List Token) → IsAfter k → closing ≡ cl.Items [] None → rest ≡ many dimension_then ds (builtin_then b (operand_then o k)) → Reads r (xv.Converted (dv.Sized first ∷ ds) b o) k)
    → IfOk result (λ r. (z : Expr) (k : List Token) → begin_of tokens ≡ be.Bracket → IsEndOfRun k → tokens ≡ expr_then z k → Reads r z k)
closed_all tokens begun rest found first closing (Err e) is closed opened read operand named builtin = tt
closed_all tokens begun rest found first closing (Ok r) is closed opened read operand named builtin = λ z k b ends e. by z k ends (after_bracket_at tokens begun z k is e) where
  no_opened : {Z : Type 0} → found ≡ br.Open → Z
  no_opened q = let h : br.Open ≡ br.Closed first closing = sym q ∙ closed in absurd cc

  firsts : (i : Expr) (c : Closing) → found ≡ br.Closed i c → (first ≡ i) × (closing ≡ c)
  firsts i c q = let h : br.Closed first closing ≡ br.Closed i c = sym closed ∙ q in (cc, cc)

  by_dimension : (i : Expr) (left k : List Token) (z : Expr) → IsAfter k → first ≡ i → closing ≡ cl.Items [] None → rest ≡ left → AfterDimension left k (dv.Sized i) z → Reads r z k
  by_dimension i left k z after size single same (dimension_of_name ds n o q f) =
      subst (λ (y : Expr). Reads r y k) (ap (λ (y : Expr). xv.ArrayConverted (dv.Sized y) ds n o) size ∙ sym q) (named ds n o k after single (same ∙ f))
  by_dimension i left k z after size single same (dimension_of_builtin ds c o q f) =
      subst (λ (y : Expr). Reads r y k) (ap (λ (y : Expr). xv.Converted (dv.Sized y ∷ ds) c o) size ∙ sym q) (builtin ds c o k after single (same ∙ f))

  moved : (i : Expr) (c : Closing) (o : Operand) → first ≡ i → closing ≡ c → IsBracketed i c (Some o) → IsBracketed first closing (Some o)
  moved i c o p q h = subst (λ (y : Closing). IsBracketed first y (Some o)) (sym q) (subst (λ (y : Expr). IsBracketed y c (Some o)) (sym p) h)

  by : (z : Expr) (k : List Token) → IsEndOfRun k → AfterBracket begun k z → Reads r z k
  by z k ends (after_open left f h) = no_opened (opened left f).0
  by z k ends (after_sized i left f begins h) = let m = read i (cl.Items [] None) left (sized_fits left begins) f in let j = firsts i (cl.Items [] None) m.0 in
      by_dimension i left k z (end_after k ends) j.0 j.1 m.1 h
  by z k ends (after_operand i c o x q p f) = let m = read i c (tail_then x k) (fitting c (tail_then x k) (tail_after x k ends)) f in let j = firsts i c m.0 in
      subst (λ (y : Expr). Reads r y k) (sym q) (operand o x k ends (moved i c o j.0 j.1 p) m.1)
