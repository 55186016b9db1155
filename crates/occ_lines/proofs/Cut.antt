-- Each text can be cut into pieces, and the reader comes over them.
use Rattle.std.proofs.Common.{◌≡◌, ◌<◌, ◌+◌, ◌∙◌, inl, inr, ℕ, true, false, List, [], ◌∷◌, ◌++◌, drop, length, map, Option, Some, None, refl, sym, ap, subst, arith, length-append}
use Rattle.std.proofs.lemmas.Bool.{MatchBool-at_false, MatchBool-at_true, cases_Bool, cond-false, cond-true, or_cases, or_parts}
use Rattle.std.proofs.lemmas.List.{append-nil}
use Rattle.bstr.specs.Text.{lines_of, without_terminator}
use Rattle.occ_base.specs.declared.code.Code.TheVariants as code
use Rattle.occ_lines.specs.declared.directive.Directive.{Directive}
use Rattle.occ_lines.specs.declared.ending.Ending.{Ending}
use Rattle.occ_lines.specs.declared.ending.Ending.TheVariants as ending
use Rattle.occ_lines.specs.declared.statement.Statement.{Statement}
use Rattle.occ_lines.specs.declared.statement.Wants.{Wants}
use Rattle.occ_lines.specs.declared.statement.Wants.TheVariants as wants
use Rattle.occ_lines.specs.declared.text.Body.{Body}
use Rattle.occ_lines.specs.declared.text.Body.TheVariants as body
use Rattle.occ_lines.specs.declared.text.Logical.{Logical}
use Rattle.occ_lines.specs.declared.token.Token.{Token}
use Rattle.occ_lines.specs.declared.token.Token.TheVariants as t
use Rattle.occ_lines.specs.Directive.{directive_body, directive_of}
use Rattle.occ_lines.specs.Lexeme.{after_blanks, string_ending}
use Rattle.occ_lines.specs.Lines.{ArePieces, GoesOn, Holds, IsHeld, IsBegun, IsLines, IsPiece, LexesString, column, continues, directive_lines, goes_on, is_skipped, joined, logical_of, next_passes, resumes, takes}
use Rattle.occ_lines.specs.Quoted.{IsQuoted}
use Rattle.occ_lines.specs.inside.Walk.{AreLogical, AreRead, IsFresh, IsWanted, Reached, Settles, Speaks, broken_off, settled}
use Rattle.occ_lines.proofs.Begun.{begins_with, from_shorter, lexing, quoting}
use Rattle.occ_lines.proofs.Reading.{one_list, other_match, same_match, whole_end}
use Rattle.occ_lines.proofs.Spelled.{one_read}

-- the reader comes over a piece

-- the first line is read so, and then the other lines
abbrev Steps : (List Logical → Option Statement → Type 0) → ℕ → List (List ℕ) → List Logical → Type 0
Steps holds number lines xs = (ended : List Logical) × (next : Option Statement) × (more : List Logical) × holds ended next × (xs ≡ ended ++ more) × AreLogical next (number + 1) lines more

-- a statement is read so far, and then the lines after
abbrev Onward : Reached → ℕ → List (List ℕ) → List Logical → Type 0
Onward (Reached.Open statement) number lines xs = AreLogical (Some statement) number lines xs
Onward (Reached.Done x) number lines xs = (more : List Logical) × AreLogical None number lines more × (xs ≡ x ∷ more)

settles : (r : Reached) (number : ℕ) (lines : List (List ℕ)) (xs : List Logical) → Onward r (number + 1) lines xs → Steps (Settles r) number lines xs
settles (Reached.Open statement) number lines xs h = ([], Some statement, xs, (refl, refl), refl, h)
settles (Reached.Done x) number lines xs h = (x ∷ [], None, h.0, (refl, refl), h.2, h.1)

-- what is open stays open where a line is skipped
stays : (r : Reached) (statement : Statement) (number : ℕ) (line : List ℕ) (lines : List (List ℕ)) (xs : List Logical) → r ≡ Reached.Open statement → IsWanted statement.wants statement number line [] (Some statement) → Onward r (number + 1) lines xs → Onward r number (line ∷ lines) xs
stays r statement number line lines xs is same h =
    let following : AreLogical (Some statement) (number + 1) lines xs = subst (λ (s : Reached). Onward s (number + 1) lines xs) is h in
    subst (λ (s : Reached). Onward s number (line ∷ lines) xs) (sym is) ([], Some statement, xs, same, refl, following)

goes : (r : Reached) (statement : Statement) (s : Reached) (number : ℕ) (line : List ℕ) (lines : List (List ℕ)) (xs : List Logical) → r ≡ Reached.Open statement
    → ((ended : List Logical) (next : Option Statement) → Settles s ended next → IsWanted statement.wants statement number line ended next) → Onward s (number + 1) lines xs → Onward r number (line ∷ lines) xs
goes r statement s number line lines xs is wanted h =
    let steps = settles s number lines xs h in
    subst (λ (s : Reached). Onward s number (line ∷ lines) xs) (sym is) (steps.0, steps.1, steps.2, wanted steps.0 steps.1 steps.3, steps.4, steps.5)

-- a statement that wants something and is not gone on with
breaks : (r : Reached) (statement : Statement) (number : ℕ) (following : List (List ℕ)) (more : List Logical) → r ≡ Reached.Open statement
    → ((line : List ℕ) (lines : List (List ℕ)) → following ≡ line ∷ lines → (ended : List Logical) (next : Option Statement) → IsFresh number line ended next → IsWanted statement.wants statement number line (broken_off statement ∷ ended) next)
    → AreLogical None number following more → Onward r number following (broken_off statement ∷ more)
breaks r statement number [] more is wanted h = subst (λ (s : Reached). Onward s number [] (broken_off statement ∷ more)) (sym is) (ap (λ (xs : List Logical). broken_off statement ∷ xs) h)
breaks r statement number (line ∷ lines) more is wanted h =
    subst (λ (s : Reached). Onward s number (line ∷ lines) (broken_off statement ∷ more)) (sym is)
    (broken_off statement ∷ h.0, h.1, h.2, wanted line lines refl h.0 h.1 h.3, ap (λ (xs : List Logical). broken_off statement ∷ xs) h.4, h.5)

-- a statement that wants a further token, and one that wants the rest of a string
abbrev wanting : ℕ → ℕ → List Token → Wants → Statement
wanting line column tokens w = record { line = line; column = column; tokens = tokens; wants = w }

opens : (line column : ℕ) (tokens : List Token) → goes_on tokens ≡ true → settled line column tokens ending.Whole ≡ Reached.Open (wanting line column tokens wants.More)
opens line column tokens is = cond-true _ _ _ is

break_more : (s : Statement) (number : ℕ) (following : List (List ℕ)) → next_passes (takes s.column) following ≡ false
    → (line : List ℕ) (lines : List (List ℕ)) → following ≡ line ∷ lines → (ended : List Logical) (next : Option Statement) → IsFresh number line ended next → IsWanted wants.More s number line (broken_off s ∷ ended) next
break_more s number following none line lines is ended next fresh =
    let both = or_parts (is_skipped line) (continues s.column line) (sym (ap (next_passes (takes s.column)) is) ∙ none) in
    other_match _ _ _ both.0 (other_match _ _ _ both.1 (ended, refl, fresh))

break_rest : (s : Statement) (bytes : List ℕ) (number : ℕ) (following : List (List ℕ)) → next_passes (resumes s.column) following ≡ false
    → (line : List ℕ) (lines : List (List ℕ)) → following ≡ line ∷ lines → (ended : List Logical) (next : Option Statement) → IsFresh number line ended next → IsWanted (wants.Rest bytes) s number line (broken_off s ∷ ended) next
break_rest s bytes number following none line lines is ended next fresh =
    other_match _ _ _ (sym (ap (next_passes (resumes s.column)) is) ∙ none) (ended, refl, fresh)

-- a statement that takes no further line
holds_none : (line column : ℕ) (tokens : List Token) (x : Ending) (number : ℕ) (following : List (List ℕ)) (held : Body) (more : List Logical)
    → IsHeld column tokens x following held → AreLogical None number following more → Onward (settled line column tokens x) number following (logical_of line column held ∷ more)
holds_none line column tokens ending.Whole number following held more h rest = elim (cases_Bool (goes_on tokens)) [
  | inl wants_more ↦
      let lacks = MatchBool-at_true ((next_passes (takes column) following ≡ false) × (held ≡ body.Fault code.L3)) (held ≡ body.Tokens tokens) wants_more h in
      let s = wanting line column tokens wants.More in
      rw lacks.1 (breaks _ s number following more (opens line column tokens wants_more) (break_more s number following lacks.0) rest)
  | inr ends ↦
      let is = MatchBool-at_false ((next_passes (takes column) following ≡ false) × (held ≡ body.Fault code.L3)) (held ≡ body.Tokens tokens) ends h in
      let done : settled line column tokens ending.Whole ≡ Reached.Done (logical_of line column (body.Tokens tokens)) = cond-false _ _ _ ends in
      subst (λ (r : Reached). Onward r number following (logical_of line column held ∷ more)) (sym done) (more, rest, ap (λ (b : Body). logical_of line column b ∷ more) is)
]
holds_none line column tokens (ending.Broken bytes) number following held more h rest =
    let s = wanting line column tokens (wants.Rest bytes) in
    rw h.1 (breaks (settled line column tokens (ending.Broken bytes)) s number following more refl (break_rest s bytes number following h.0) rest)
holds_none line column tokens (ending.Bad fault) number following held more h rest = (more, rest, ap (λ (b : Body). logical_of line column b ∷ more) h)

-- a statement that takes one more line
takes_line : (line column : ℕ) (tokens : List Token) (x : Ending) (number : ℕ) (next : List ℕ) (lines : List (List ℕ)) (more : List Token) (y : Ending) (xs : List Logical)
    → GoesOn column tokens x next more y → Onward (settled line column (tokens ++ more) y) (number + 1) lines xs → Onward (settled line column tokens x) number (next ∷ lines) xs
takes_line line column tokens ending.Whole number next lines more y xs h rest = elim (cases_Bool (is_skipped next)) [
  | inl skipped ↦
      let same = one_list (after_blanks next) more [] y ending.Whole h.2 (whole_end (after_blanks next) skipped) in
      let is : settled line column (tokens ++ more) y ≡ settled line column tokens ending.Whole =
      ap (λ (ts : List Token). settled line column (tokens ++ ts) y) same.0 ∙ ap (λ (ts : List Token). settled line column ts y) (append-nil tokens) ∙ ap (settled line column tokens) same.1 in
      let following = subst (λ (r : Reached). Onward r (number + 1) lines xs) is rest in
      stays _ (wanting line column tokens wants.More) number next lines xs (opens line column tokens h.0) (same_match _ _ _ skipped (refl, refl)) following
  | inr spoken ↦ elim (or_cases (is_skipped next) (continues column next) h.1) [
    | inl skipped ↦ absurd cc
    | inr on ↦ goes _ (wanting line column tokens wants.More) (settled line column (tokens ++ more) y) number next lines xs (opens line column tokens h.0)
        (λ ended left s. other_match _ _ _ spoken (same_match _ _ _ on (more, y, h.2, s))) rest
  ]
]
takes_line line column tokens (ending.Broken bytes) number next lines more y xs h rest =
    goes (settled line column tokens (ending.Broken bytes)) (wanting line column tokens (wants.Rest bytes)) (settled line column (tokens ++ more) y) number next lines xs refl
    (λ ended left s. same_match _ _ _ h.0 (more, y, h.1, s)) rest
takes_line line column tokens (ending.Bad fault) number next lines more y xs h rest = absurd h

one_line_more : (number : ℕ) (line : List ℕ) (lines : List (List ℕ)) → number + length (line ∷ lines) ≡ number + 1 + length lines
one_line_more number line lines = omega arith

no_line_more : (number : ℕ) → number + length {A = List ℕ} [] ≡ number
no_line_more number = omega arith

holds_all : (line column : ℕ) (tokens : List Token) (x : Ending) (number : ℕ) (lines following : List (List ℕ)) (held : Body) (more : List Logical)
    → Holds column tokens x lines following held → AreLogical None (number + length lines) following more → Onward (settled line column tokens x) number (lines ++ following) (logical_of line column held ∷ more)
holds_all line column tokens x number [] following held more h rest =
    holds_none line column tokens x number following held more h (subst (λ (n : ℕ). AreLogical None n following more) (no_line_more number) rest)
holds_all line column tokens x number (next ∷ lines) following held more h rest =
    let after_it = subst (λ (n : ℕ). AreLogical None n following more) (one_line_more number next lines) rest in
    takes_line line column tokens x number next (lines ++ following) h.0 h.1 (logical_of line column held ∷ more) h.2
    (holds_all line column (tokens ++ h.0) h.1 (number + 1) lines following held more h.3 after_it)

spoken_steps : (o : Option Directive) (number : ℕ) (line : List ℕ) (lines following : List (List ℕ)) (xs more : List Logical)
    → IsBegun o number line lines following xs → AreLogical None (number + 1 + length lines) following more → Steps (Speaks o number line) number (lines ++ following) (xs ++ more)
spoken_steps None number line lines following xs more h rest =
    let margin = column line in
    let onward = holds_all number margin h.tokens h.end (number + 1) lines following h.held more h.holds rest in
    let steps = settles (settled number margin h.tokens h.end) number (lines ++ following) (logical_of number margin h.held ∷ more) onward in
    (steps.0, steps.1, steps.2, (h.tokens, h.end, h.first, steps.3), ap (λ (ys : List Logical). ys ++ more) h.is ∙ steps.4, steps.5)
spoken_steps (Some d) number line [] following xs more h rest =
    (xs, None, more, (h.is, refl), refl, subst (λ (n : ℕ). AreLogical None n following more) (no_line_more (number + 1)) rest)
spoken_steps (Some d) number line (other ∷ lines) following xs more h rest = let e = h.alone in absurd cc

skipped_steps : (number : ℕ) (line : List ℕ) (lines following : List (List ℕ)) (xs more : List Logical) → is_skipped line ≡ true → lines ≡ [] → xs ≡ []
    → AreLogical None (number + 1 + length lines) following more → Steps (IsFresh number line) number (lines ++ following) (xs ++ more)
skipped_steps number line [] following xs more is none empty rest =
    ([], None, more, same_match _ _ _ is (refl, refl), ap (λ (ys : List Logical). ys ++ more) empty, subst (λ (n : ℕ). AreLogical None n following more) (no_line_more (number + 1)) rest)
skipped_steps number line (other ∷ lines) following xs more is none empty rest = absurd cc

piece_read : (number : ℕ) (piece following : List (List ℕ)) (xs more : List Logical) → IsPiece number piece following xs → AreLogical None (number + length piece) following more → AreLogical None number (piece ++ following) (xs ++ more)
piece_read number [] following xs more h rest = absurd h
piece_read number (line ∷ lines) following xs more h rest =
    let after = subst (λ (n : ℕ). AreLogical None n following more) (one_line_more number line lines) rest in
    let P = (lines ≡ []) × (xs ≡ []) in
    let Q = IsBegun (directive_of (after_blanks line)) number line lines following xs in
    elim (cases_Bool (is_skipped line)) [
      | inl skipped ↦ let both = MatchBool-at_true P Q skipped h in skipped_steps number line lines following xs more skipped both.0 both.1 after
      | inr spoken ↦
          let steps = spoken_steps (directive_of (after_blanks line)) number line lines following xs more (MatchBool-at_false P Q spoken h) after in
          (steps.0, steps.1, steps.2, other_match _ _ _ spoken steps.3, steps.4, steps.5)
    ]

pieces_read : (number : ℕ) (pieces : List (List (List ℕ))) (xs : List Logical) → ArePieces number pieces xs → AreLogical None number (joined pieces) xs
pieces_read number [] xs h = h
pieces_read number (piece ∷ pieces) xs h =
    let more = pieces_read (number + length piece) pieces h.1 h.3 in
    subst (λ (ys : List Logical). AreLogical None number (piece ++ joined pieces) ys) (sym h.4) (piece_read number piece (joined pieces) h.0 h.1 h.2 more)

pub cut_read : (text : List ℕ) (xs : List Logical) → IsLines text xs → AreRead text xs
unfolding IsLines
cut_read text xs h = subst (λ (lines : List (List ℕ)). AreLogical None 1 lines xs) (sym h.1) (pieces_read 1 h.0 xs h.2)

-- each text can be cut

-- a text that begins inside a string is tokens with an ending
string_lexes : (bytes text : List ℕ) → (tokens : List Token) × (x : Ending) × LexesString bytes text tokens x
string_lexes bytes text =
    let q = quoting text in
    elim (begins_with 34 q.rest) [
      | inl closed ↦
          let more = lexing (after_blanks closed.0) in
          (t.String (bytes ++ q.values) ∷ more.tokens, more.end, inl (record { values = q.values; rest = closed.0; more = more.tokens; spelled = subst (IsQuoted text q.values) closed.1 q.spelled; follow = more.lexes; is = refl }))
      | inr open_one ↦ ([], string_ending (bytes ++ q.values) q.rest, inr (record { values = q.values; rest = q.rest; spelled = q.spelled; no_close = open_one; none = refl; is = refl }))
    ]

-- the lines that a statement takes, and what it holds
record Taken (column : ℕ) (tokens : List Token) (x : Ending) (lines : List (List ℕ)) : Type 0 where
  taken : List (List ℕ)
  following : List (List ℕ)
  held : Body
  parts : lines ≡ taken ++ following
  holds : Holds column tokens x taken following held

takes_none : (column : ℕ) (tokens : List Token) (x : Ending) (lines : List (List ℕ)) (held : Body) → IsHeld column tokens x lines held → Taken column tokens x lines
takes_none column tokens x lines held h = record { taken = []; following = lines; held = held; parts = refl; holds = h }

takes_one : (column : ℕ) (tokens : List Token) (x : Ending) (line : List ℕ) (lines : List (List ℕ)) (more : List Token) (y : Ending) → GoesOn column tokens x line more y → Taken column (tokens ++ more) y lines → Taken column tokens x (line ∷ lines)
takes_one column tokens x line lines more y on rest = record { taken = line ∷ rest.taken; following = rest.following; held = rest.held; parts = ap (λ (ls : List (List ℕ)). line ∷ ls) rest.parts; holds = (more, y, on, rest.holds) }

-- it holds that where it takes none of the lines
whole_held : (column : ℕ) (tokens : List Token) (lines : List (List ℕ)) → (goes_on tokens ≡ true → next_passes (takes column) lines ≡ false) → Taken column tokens ending.Whole lines
whole_held column tokens lines none = elim (cases_Bool (goes_on tokens)) [
  | inl on ↦ takes_none column tokens ending.Whole lines (body.Fault code.L3) (same_match _ _ _ on (none on, refl))
  | inr ends ↦ takes_none column tokens ending.Whole lines (body.Tokens tokens) (other_match _ _ _ ends refl)
]

taken : (column : ℕ) (tokens : List Token) (x : Ending) (lines : List (List ℕ)) → Taken column tokens x lines
taken column tokens (ending.Bad fault) lines = takes_none column tokens (ending.Bad fault) lines (body.Fault fault) refl
taken column tokens ending.Whole [] = whole_held column tokens [] (λ _. refl)
taken column tokens (ending.Broken bytes) [] = takes_none column tokens (ending.Broken bytes) [] (body.Fault code.L4) (refl, refl)
taken column tokens ending.Whole (line ∷ lines) = elim (cases_Bool (goes_on tokens)) [
  | inr ends ↦ whole_held column tokens (line ∷ lines) (λ on. absurd cc)
  | inl on ↦ elim (cases_Bool (takes column line)) [
    | inr left ↦ whole_held column tokens (line ∷ lines) (λ _. left)
    | inl fits ↦
        let more = lexing (after_blanks line) in
        takes_one column tokens ending.Whole line lines more.tokens more.end (on, fits, more.lexes) (taken column (tokens ++ more.tokens) more.end lines)
  ]
]
taken column tokens (ending.Broken bytes) (line ∷ lines) = elim (cases_Bool (resumes column line)) [
  | inr left ↦ takes_none column tokens (ending.Broken bytes) (line ∷ lines) (body.Fault code.L4) (left, refl)
  | inl fits ↦
      let more = string_lexes bytes (drop 1 (after_blanks line)) in
      takes_one column tokens (ending.Broken bytes) line lines more.0 more.1 (fits, more.2) (taken column (tokens ++ more.0) more.1 lines)
]

-- the further lines of the piece that a line begins
record Spoken (o : Option Directive) (number : ℕ) (line : List ℕ) (lines : List (List ℕ)) : Type 0 where
  further : List (List ℕ)
  following : List (List ℕ)
  xs : List Logical
  parts : lines ≡ further ++ following
  spoken : IsBegun o number line further following xs

speaks : (o : Option Directive) (number : ℕ) (line : List ℕ) (lines : List (List ℕ)) → Spoken o number line lines
speaks None number line lines =
    let begun = lexing (after_blanks line) in
    let rest = taken (column line) begun.tokens begun.end lines in
    record {
      further = rest.taken;
      following = rest.following;
      xs = logical_of number (column line) rest.held ∷ [];
      parts = rest.parts;
      spoken = record { tokens = begun.tokens; end = begun.end; held = rest.held; first = begun.lexes; holds = rest.holds; is = refl };
    }
speaks (Some d) number line lines = record { further = []; following = lines; xs = directive_lines number (column line) (directive_body d (after_blanks line)); parts = refl; spoken = record { alone = refl; is = refl } }

record Pieces (number : ℕ) (lines : List (List ℕ)) : Type 0 where
  pieces : List (List (List ℕ))
  xs : List Logical
  parts : lines ≡ joined pieces
  are : ArePieces number pieces xs

-- one piece more in front
in_front : (number : ℕ) (line : List ℕ) (further following : List (List ℕ)) (xs : List Logical) → ((others : List (List ℕ)) → following ≡ others → IsPiece number (line ∷ further) others xs) → Pieces (number + length (line ∷ further)) following → Pieces number (line ∷ (further ++ following))
in_front number line further following xs piece rest = record {
  pieces = (line ∷ further) ∷ rest.pieces;
  xs = xs ++ rest.xs;
  parts = ap (λ (ls : List (List ℕ)). line ∷ (further ++ ls)) rest.parts;
  are = (xs, rest.xs, piece (joined rest.pieces) rest.parts, rest.are, refl);
}

cut_step : (lines : List (List ℕ)) → ((after : List (List ℕ)) → length after < length lines → (number : ℕ) → Pieces number after) → (number : ℕ) → Pieces number lines
cut_step [] again number = record { pieces = []; xs = []; parts = refl; are = refl }
cut_step (line ∷ lines) again number = elim (cases_Bool (is_skipped line)) [
  | inl skipped ↦ in_front number line [] lines [] (λ others _. same_match _ _ _ skipped (refl, refl)) (again lines (omega arith) (number + length (line ∷ [])))
  | inr spoken ↦
      let s = speaks (directive_of (after_blanks line)) number line lines in
      let rest = again s.following (omega (arith, ap length s.parts, length-append s.further s.following)) (number + length (line ∷ s.further)) in
      let piece : (others : List (List ℕ)) → s.following ≡ others → IsPiece number (line ∷ s.further) others s.xs =
      λ others is. other_match _ _ _ spoken (subst (λ (ls : List (List ℕ)). IsBegun (directive_of (after_blanks line)) number line s.further ls s.xs) is s.spoken) in
      subst (λ (ls : List (List ℕ)). Pieces number (line ∷ ls)) (sym s.parts) (in_front number line s.further s.following s.xs piece rest)
]

cut : (lines : List (List ℕ)) → Pieces 1 lines
cut lines = from_shorter (λ (ls : List (List ℕ)). (number : ℕ) → Pieces number ls) cut_step (length lines) lines (omega arith) 1

-- each text spells a list of logical lines, and no other

pub some_lines : (text : List ℕ) → (xs : List Logical) × IsLines text xs
unfolding IsLines
some_lines text = let c = cut (map without_terminator (lines_of text)) in (c.xs, (c.pieces, c.parts, c.are))

pub one_lines : (text : List ℕ) (xs ys : List Logical) → IsLines text xs → IsLines text ys → xs ≡ ys
one_lines text xs ys h k = one_read text xs ys (cut_read text xs h) (cut_read text ys k)

-- what is read is spelled
pub read_lines : (text : List ℕ) (xs : List Logical) → AreRead text xs → IsLines text xs
read_lines text xs h =
    let some = some_lines text in
    subst (λ (ys : List Logical). IsLines text ys) (one_read text some.0 xs (cut_read text some.0 some.1) h) some.1
