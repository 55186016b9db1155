-- How long the lines of a text are.
use Rattle.std.proofs.Common.{◌≡◌, ◌≤◌, ◌+◌, ◌-◌, ℕ, List, [], ◌∷◌, length, take, map, ap, ◌∙◌, arith, length-append, length-take-le, zero-add}
use Rattle.std.specs.List.{AllByRecursion, concat}
use Rattle.std.proofs.lemmas.List.{length-map}
use Rattle.std.proofs.lemmas.Bool.{cond_both}
use Rattle.bstr.specs.Text.{lines_of, no_cr, without_terminator}
use Rattle.occ_lines.specs.Lines.{line_count}
use Rattle.bstr.proofs.lemmas.RestLemmas.{concat-lines_of}

abbrev pub AreShort : List (List ℕ) → Type 0
AreShort lines = AllByRecursion (λ (line : List ℕ). length line ≤ 262144) lines

no_cr_le : (line : List ℕ) → length (no_cr line) ≤ length line
no_cr_le line = cond_both _ (take (length line - 1) line) line (λ (xs : List ℕ). length xs ≤ length line) (λ _. omega (arith, length-take-le (length line - 1) line)) (λ _. omega arith)

without_le : (line : List ℕ) → length (without_terminator line) ≤ length line
without_le line = cond_both _ (no_cr (take (length line - 1) line)) line (λ (xs : List ℕ). length xs ≤ length line)
    (λ _. omega (arith, no_cr_le (take (length line - 1) line), length-take-le (length line - 1) line)) (λ _. omega arith)

each_short : (n : ℕ) (lines : List (List ℕ)) → length (concat lines) ≤ n → AllByRecursion (λ (line : List ℕ). length line ≤ n) (map without_terminator lines)
each_short n [] h = tt
each_short n (line ∷ lines) h =
    let sizes = length-append line (concat lines) in
    (omega (arith, without_le line), each_short n lines (omega arith))

pub lines_short : (text : List ℕ) → length text ≤ 262144 → AreShort (map without_terminator (lines_of text))
lines_short text h = each_short 262144 (lines_of text) (omega (arith, ap length (concat-lines_of text)))

pub all_counted : (text : List ℕ) (left : List (List ℕ)) → left ≡ map without_terminator (lines_of text) → 0 + length left ≡ line_count text
all_counted text left all = zero-add (length left) ∙ ap length all ∙ length-map (lines_of text) without_terminator
