-- Bytes cut into lines and into words: what stands before the first separator, and what after it.
use Rattle.std.proofs.Common.{◌≡◌, ◌+◌, ℕ, suc, List, [], ◌∷◌, ◌==◌, Bool, true, false, cond, not, refl, ap, ◌∙◌, take, drop, arith}
use Rattle.std.specs.List.{position_or_len}
use Rattle.occheck_commands.specs.Lines.{cut_lines, words, put_before}

-- how many bytes stand before the first blank, and the first line feed
abbrev pub to_blank : List ℕ → ℕ
to_blank bytes = position_or_len (λ b. b == 32) bytes

abbrev pub to_feed : List ℕ → ℕ
to_feed bytes = position_or_len (λ b. b == 10) bytes

-- the words, and the lines, after a separator
abbrev pub words_after : List ℕ → List (List ℕ)
words_after [] = []
words_after (b ∷ bytes) = words bytes

abbrev pub lines_after : List ℕ → List (List ℕ)
lines_after [] = []
lines_after (b ∷ bytes) = cut_lines bytes

one_more : (n : ℕ) → suc n ≡ 1 + n
one_more n = omega arith

words_by : (b : ℕ) (bytes : List ℕ) (is : Bool) → words bytes ≡ take (to_blank bytes) bytes ∷ words_after (drop (to_blank bytes) bytes)
    → cond is ([] ∷ words bytes) (put_before b (words bytes)) ≡ take (cond (not is) (1 + to_blank bytes) 0) (b ∷ bytes) ∷ words_after (drop (cond (not is) (1 + to_blank bytes) 0) (b ∷ bytes))
words_by b bytes true e = refl
words_by b bytes false e = ap (put_before b) e ∙ ap (λ (n : ℕ). take n (b ∷ bytes) ∷ words_after (drop n (b ∷ bytes))) (one_more (to_blank bytes))

pub words_cut : (bytes : List ℕ) → words bytes ≡ take (to_blank bytes) bytes ∷ words_after (drop (to_blank bytes) bytes)
words_cut [] = refl
words_cut (b ∷ bytes) = words_by b bytes (b == 32) (words_cut bytes)

lines_by : (b c : ℕ) (bytes : List ℕ) (is : Bool)
    → cut_lines (c ∷ bytes) ≡ take (to_feed (c ∷ bytes)) (c ∷ bytes) ∷ lines_after (drop (to_feed (c ∷ bytes)) (c ∷ bytes))
    → cond is ([] ∷ cut_lines (c ∷ bytes)) (put_before b (cut_lines (c ∷ bytes))) ≡ take (cond (not is) (1 + to_feed (c ∷ bytes)) 0) (b ∷ c ∷ bytes) ∷ lines_after (drop (cond (not is) (1 + to_feed (c ∷ bytes)) 0) (b ∷ c ∷ bytes))
lines_by b c bytes true e = refl
lines_by b c bytes false e = ap (put_before b) e ∙ ap (λ (n : ℕ). take n (b ∷ c ∷ bytes) ∷ lines_after (drop n (b ∷ c ∷ bytes))) (one_more (to_feed (c ∷ bytes)))

last_by : (b : ℕ) (is : Bool) → cond is ([] ∷ []) ((b ∷ []) ∷ []) ≡ take (cond (not is) (1 + 0) 0) (b ∷ []) ∷ lines_after (drop (cond (not is) (1 + 0) 0) (b ∷ []))
last_by b true = refl
last_by b false = refl

pub lines_cut : (b : ℕ) (bytes : List ℕ) → cut_lines (b ∷ bytes) ≡ take (to_feed (b ∷ bytes)) (b ∷ bytes) ∷ lines_after (drop (to_feed (b ∷ bytes)) (b ∷ bytes))
lines_cut b [] = last_by b (b == 10)
lines_cut b (c ∷ bytes) = lines_by b c bytes (b == 10) (lines_cut c bytes)
