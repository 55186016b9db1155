-- Brackets that are open at once.
use Rattle.std.proofs.Common.{◌≡◌, ◌<◌, ◌≤◌, ◌+◌, ap, max, ℕ, List, [], ◌∷◌, length, drop, slice_index_or, arith}
use Rattle.std.proofs.lemmas.List.{at_drop_more}
use Rattle.occ_lines.specs.declared.token.Token.{Token}
use Rattle.occ_forms_expressions.specs.Depth.{most_open, open_after}

at_least : (n : ℕ) (tokens : List Token) → n ≤ most_open n tokens
at_least n [] = omega arith
at_least n (x ∷ tokens) = omega arith

-- more than 64 are open after this token
pub too_many : (tokens : List Token) (i count following : ℕ) (token : Token) → i < length tokens → token ≡ slice_index_or tokens i token
    → max 64 (most_open count (drop i tokens)) ≡ max 64 (most_open 0 tokens) → following ≡ open_after count token → 64 < following → 64 < most_open 0 tokens
too_many tokens i count following token less is same opened many =
    let h : most_open count (drop i tokens) ≡ max count (most_open (open_after count (slice_index_or tokens i token)) (drop (i + 1) tokens)) = at_drop_more (most_open count) tokens i token less in
    let e : open_after count token ≡ open_after count (slice_index_or tokens i token) = ap (open_after count) is in
    omega (arith, h, e, same, opened, many, at_least (open_after count (slice_index_or tokens i token)) (drop (i + 1) tokens))
