use Rattle.std.proofs.Common.{◌≤◌, [], ◌∷◌, None, arith, codes, inl, lit≤, refl}
use Rattle.bstr.specs.Text.{line_len, lines_from}
use Rattle.occ_base.specs.declared.code.Code.TheVariants as code
use Rattle.occ_lines.specs.declared.ending.Ending.TheVariants as ending
use Rattle.occ_lines.specs.declared.text.Body.TheVariants as body
use Rattle.occ_lines.specs.declared.token.Symbol.TheVariants as s
use Rattle.occ_lines.specs.declared.token.Token.TheVariants as t
use Rattle.occ_lines.specs.Directive.{directive_of}
use Rattle.occ_lines.specs.Lexeme.{Lexes, is_symbol, name_token, number_token, reserved_row, symbol_row, symbol_token, token_of}
use Rattle.occ_lines.specs.Lines.{Holds, IsLines, logical_of}
use Rattle.occ_lines.proofs.First.{first_found}
use Rattle.occ_lines.proofs.Longest.{name_longest, number_longest, symbol_longest, symbol_one, symbol_two}
use Rattle.occ_lines.proofs.rows.text_rows.Goals as goal

assigned : Lexes (codes "a:=") (t.Name (codes "a") ∷ t.Symbol s.Assign ∷ []) ending.Whole
unfolding token_of name_token reserved_row symbol_token symbol_row is_symbol
assigned =
    let name = first_found (codes "a:=") 1 (t.Name (codes "a")) (name_longest (codes "a:=") refl) refl in
    let assign = first_found (codes ":=") 2 (t.Symbol s.Assign) (symbol_longest (codes ":=") 2 refl refl refl (symbol_two (codes ":=") (lit≤ tt, refl))) refl in
    (refl, codes ":=", inl name, (refl, [], inl assign, refl))

one : Lexes (codes "  1") (t.Decimal 1 ∷ []) ending.Whole
unfolding token_of number_token
one = (refl, [], inl (first_found (codes "1") 1 (t.Decimal 1) (number_longest (codes "1") refl) refl), refl)

listed : Lexes (codes "  a,") (t.Name (codes "a") ∷ t.Symbol s.Comma ∷ []) ending.Whole
unfolding token_of name_token reserved_row symbol_token symbol_row is_symbol
listed =
    let name = first_found (codes "a,") 1 (t.Name (codes "a")) (name_longest (codes "a,") refl) refl in
    let comma = first_found (codes ",") 1 (t.Symbol s.Comma) (symbol_longest (codes ",") 1 refl refl refl (symbol_one (codes ",") (λ h. let l : 2 ≤ 1 = h.0 in absurd (omega (arith, l))) (lit≤ tt, refl))) refl in
    (refl, codes ",", inl name, (refl, [], inl comma, refl))

pub returns-clause-continued : goal.returns-clause-continued
unfolding IsLines directive_of lines_from line_len
returns-clause-continued c =
    let tokens = t.Name (codes "a") ∷ t.Symbol s.Assign ∷ [] in
    let all = t.Name (codes "a") ∷ t.Symbol s.Assign ∷ t.Decimal 1 ∷ [] in
    let holds : Holds 0 tokens ending.Whole (codes "--" ∷ codes "  1" ∷ []) [] (body.Tokens all) =
    ([], ending.Whole, (refl, refl, refl), (t.Decimal 1 ∷ [], ending.Whole, (refl, refl, one), refl)) in (
      (codes "a:=" ∷ codes "--" ∷ codes "  1" ∷ []) ∷ [],
      refl,
      (
        logical_of 1 0 (body.Tokens all) ∷ [],
        [],
        record { tokens = tokens; end = ending.Whole; held = body.Tokens all; first = assigned; holds = holds; is = refl },
        refl,
        refl,
      ),
    )

pub returns-clause-crossed : goal.returns-clause-crossed
unfolding IsLines directive_of lines_from line_len
returns-clause-crossed c =
    let uses = logical_of 2 0 (body.Uses (codes "b.occ") None) ∷ [] in (
      (codes "  a," ∷ []) ∷ (codes "#USE \"b\"" ∷ []) ∷ [],
      refl,
      (
        logical_of 1 2 (body.Fault code.L3) ∷ [],
        uses,
        record { tokens = t.Name (codes "a") ∷ t.Symbol s.Comma ∷ []; end = ending.Whole; held = body.Fault code.L3; first = listed; holds = (refl, refl); is = refl },
        (uses, [], record { alone = refl; is = refl }, refl, refl),
        refl,
      ),
    )
