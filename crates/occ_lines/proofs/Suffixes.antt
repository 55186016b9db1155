-- A name with a suffix.
use Rattle.std.proofs.Common.{◌≡◌, ◌+◌, ℕ, List, ◌++◌, length, take, arith, ap, sym, ◌∙◌, append_assoc}
use Rattle.std.proofs.lemmas.List.{length-append, take_at}

-- what stands in front of other bytes
pub whole_name : (front suffix before after rest : List ℕ) (n : ℕ) → before ≡ front → after ≡ suffix → n ≡ length front + length suffix → take n (before ++ (after ++ rest)) ≡ front ++ suffix
whole_name front suffix before after rest n b a is =
    let long : length (before ++ after) ≡ n = omega (arith, length-append before after, ap length b, ap length a) in
    ap (take n) (sym (append_assoc before after rest)) ∙ take_at (before ++ after) rest n long ∙ ap (λ (xs : List ℕ). xs ++ after) b ∙ ap (λ (xs : List ℕ). front ++ xs) a
