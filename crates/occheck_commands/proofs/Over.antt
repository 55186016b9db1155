-- The lines of a script, read up to the limit or over it.
use Rattle.std.proofs.Common.{◌≡◌, ◌<◌, ◌≤◌, ◌+◌, ℕ, zero, suc, List, [], ◌∷◌, Bool, true, false, cond, nat_lt, refl, ap, sym, ◌∙◌, length, take, arith, length-take}
use Rattle.std.proofs.lemmas.Bool.{lt-ltb, le-ltb}
use Rattle.occheck_commands.specs.Lines.{cut_lines, feeds}
use Rattle.occheck_commands.proofs.Whole.{take_whole}

shorter_front : (n : ℕ) (xs : List ℕ) → take n (take (n + 1) xs) ≡ take n xs
shorter_front zero xs = refl
shorter_front (suc n) [] = let e : suc n + 1 ≡ suc (n + 1) = omega arith in rw e refl
shorter_front (suc n) (x ∷ xs) = let e : suc n + 1 ≡ suc (n + 1) = omega arith in rw e (ap (λ (ys : List ℕ). x ∷ ys) (shorter_front n xs))

-- the lines of n bytes at most, or of the whole ones
abbrev pub whole_by : ℕ → List ℕ → List (List ℕ)
whole_by n bytes = cond (nat_lt n (length bytes)) (take (feeds (take n bytes)) (cut_lines (take n bytes))) (cut_lines bytes)

pub more_than : (n : ℕ) (bytes all : List ℕ) → bytes ≡ take (n + 1) all → n < length bytes → nat_lt n (length all) ≡ true
more_than n bytes all e h =
    let k : length (take (n + 1) all) ≡ length bytes = sym (ap (λ (x : List ℕ). length x) e) in
    let m : n < length all = omega (arith, length-take (n + 1) all) in
    lt-ltb n (length all) m

pub no_more_than : (n : ℕ) (bytes all : List ℕ) → bytes ≡ take (n + 1) all → length bytes ≤ n → nat_lt n (length all) ≡ false
no_more_than n bytes all e h =
    let k : length (take (n + 1) all) ≡ length bytes = sym (ap (λ (x : List ℕ). length x) e) in
    let m : length all ≤ n = omega (arith, length-take (n + 1) all) in
    le-ltb n (length all) m

pub over_lines : (n : ℕ) (bytes all : List ℕ) (lines : List (List ℕ)) → bytes ≡ take (n + 1) all → n < length bytes → lines ≡ take (feeds (take n bytes)) (cut_lines (take n bytes)) → lines ≡ whole_by n all
over_lines n bytes all lines e h l =
    let f : take n bytes ≡ take n all = ap (λ (x : List ℕ). take n x) e ∙ shorter_front n all in
    l ∙ ap (λ (x : List ℕ). take (feeds x) (cut_lines x)) f ∙ sym (ap (λ (b : Bool). cond b (take (feeds (take n all)) (cut_lines (take n all))) (cut_lines all)) (more_than n bytes all e h))

pub within_lines : (n : ℕ) (bytes all : List ℕ) (lines : List (List ℕ)) → bytes ≡ take (n + 1) all → length bytes ≤ n → lines ≡ cut_lines bytes → lines ≡ whole_by n all
within_lines n bytes all lines e h l =
    let k : length (take (n + 1) all) ≡ length bytes = sym (ap (λ (x : List ℕ). length x) e) in
    let m : length all ≤ n + 1 = omega (arith, length-take (n + 1) all) in
    l ∙ ap (λ (x : List ℕ). cut_lines x) (e ∙ take_whole (n + 1) all m) ∙ sym (ap (λ (b : Bool). cond b (take (feeds (take n all)) (cut_lines (take n all))) (cut_lines all)) (no_more_than n bytes all e h))
