use Rattle.std.proofs.Common.{codes, inl, lit≤, refl}
use Rattle.std.proofs.lemmas.Bool.{false≢true}
use Rattle.occ_lines.specs.Lexeme.{is_symbol, name_token, number_token, reserved_row, symbol_row, symbol_token, token_of}
use Rattle.occ_lines.specs.declared.token.Symbol.TheVariants as s
use Rattle.occ_lines.specs.declared.token.Token.TheVariants as t
use Rattle.occ_lines.proofs.First.{first_found, first_none}
use Rattle.occ_lines.proofs.Longest.{name_longest, number_longest, symbol_longest, symbol_none, symbol_two}
use Rattle.occ_lines.proofs.Reading.{bad_lexeme}
use Rattle.occ_lines.proofs.Strings.{heads}
use Rattle.occ_lines.proofs.rows.first_rows.Goals as goal

pub returns-clause-name : goal.returns-clause-name
unfolding token_of name_token reserved_row
returns-clause-name c = first_found (codes "ab+c") 2 (t.Name (codes "ab")) (name_longest (codes "ab+c") refl) refl

pub returns-clause-number : goal.returns-clause-number
unfolding token_of number_token
returns-clause-number c = first_found (codes "12ab") 2 (t.Decimal 12) (number_longest (codes "12ab") refl) refl

pub returns-clause-symbol : goal.returns-clause-symbol
unfolding token_of symbol_token symbol_row is_symbol
returns-clause-symbol c = first_found (codes ":=b") 2 (t.Symbol s.Assign) (symbol_longest (codes ":=b") 2 refl refl refl (symbol_two (codes ":=b") (lit≤ tt, refl))) refl

pub returns-clause-bad : goal.returns-clause-bad
unfolding token_of symbol_token symbol_row is_symbol
returns-clause-bad c = first_none (codes "$a") 0 (symbol_longest (codes "$a") 0 refl refl refl (symbol_none (codes "$a") (λ h. false≢true h.1) (λ h. false≢true h.1))) refl

pub returns-clause-line : goal.returns-clause-line
unfolding token_of name_token reserved_row
returns-clause-line c = (refl, codes " --", inl (first_found (codes "ab --") 2 (t.Name (codes "ab")) (name_longest (codes "ab --") refl) refl), refl)

pub returns-clause-none : goal.returns-clause-none
unfolding token_of symbol_token symbol_row is_symbol
returns-clause-none c = bad_lexeme (codes "$a") (λ k h. false≢true (heads 36 39 (codes "a") k h)) (λ k h. false≢true (heads 36 34 (codes "a") k h))
    (first_none (codes "$a") 0 (symbol_longest (codes "$a") 0 refl refl refl (symbol_none (codes "$a") (λ h. false≢true h.1) (λ h. false≢true h.1))) refl)
