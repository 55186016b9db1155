use Rattle.std.proofs.Common.{◌∙◌, ◌<◌, ◌≡◌, List, ap, length, subst, sym, true, ℕ}
use Rattle.occ_lines.specs.Lexeme.{is_lexeme, token_of}
use Rattle.occ_lines.proofs.First.{front_spelled, first_found, first_none, first_shorter}
use Rattle.occ_lines.proofs.Reading.{bad_lexeme}
use Rattle.occ_lines.proofs.tokens.lexeme.Goals as goal

pub returns-in-None-clause-stops : goal.returns-in-None-clause-stops
returns-in-None-clause-stops c = bad_lexeme _ c.requires.no_character c.requires.no_string
    (first_none _ _ c.lexeme_len.ensures (ap token_of (sym c.split_at.ensures.front) ∙ sym c.in_ok-token.ensures ∙ c.in-None.is))

pub returns-in-Some-clause-shorter : goal.returns-in-Some-clause-shorter
returns-in-Some-clause-shorter c =
    let is = ap token_of (sym c.split_at.ensures.front) ∙ sym c.in_ok-token.ensures ∙ c.in-Some.is in
    rw c.split_at.ensures.back (first_shorter _ _ _ (first_found _ _ _ c.lexeme_len.ensures is))

pub token_of-requires : goal.token_of-requires
token_of-requires c = subst (λ (l : List ℕ). 0 < length l → is_lexeme l ≡ true) (sym c.split_at.ensures.front) (front_spelled _ _ c.lexeme_len.ensures)
