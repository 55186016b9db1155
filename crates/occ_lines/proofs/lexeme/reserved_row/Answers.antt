use Rattle.std.proofs.Common.{◌≡◌, List, ℕ, drop, map, subst, ◌∙◌}
use Rattle.occ_lines.specs.Lexeme.{found_in, reserved_row}
use Rattle.occ_lines.proofs.Words.{first_and_more}
use Rattle.occ_lines.proofs.lexeme.reserved_row.Goals as goal

pub returns-in-len1-up : goal.returns-in-len1-up
returns-in-len1-up c =
    let e = first_and_more c.args.bytes.now c.in-len1-up.len_at_least in
    c.found_in.ensures ∙ subst (λ (bytes : List ℕ). found_in (map (λ row. (row.0.now, row.1)) c.words_of.result.now) bytes ≡ reserved_row bytes) e (c.words_of.ensures (drop 1 c.args.bytes.now))
