-- Lines of bytes whose last line is ended.
use Rattle.std.proofs.Common.{◌≡◌, ◌<◌, ◌+◌, ℕ, zero, suc, List, [], ◌∷◌, ◌++◌, ◌==◌, Bool, true, false, cond, not, refl, ap, sym, subst, ◌∙◌, length, take, drop, arith, eqb-true}
use Rattle.occheck_commands.specs.Lines.{cut_lines}
use Rattle.occheck_commands.specs.Ended.{IsEnded}
use Rattle.occheck_commands.proofs.Cut.{to_feed, lines_after, lines_cut}

pub ended_drop : (n : ℕ) (bytes : List ℕ) → IsEnded bytes → IsEnded (drop n bytes)
ended_drop zero bytes h = h
ended_drop (suc n) [] h = tt
ended_drop (suc zero) (b ∷ []) h = tt
ended_drop (suc (suc n)) (b ∷ []) h = tt
ended_drop (suc n) (b ∷ c ∷ bytes) h = ended_drop n (c ∷ bytes) h

last_feed : (b : ℕ) → b ≡ 10 → to_feed (b ∷ []) ≡ 0
last_feed b e = subst (λ (x : ℕ). to_feed (x ∷ []) ≡ 0) (sym e) refl

within_by : (b c : ℕ) (bytes : List ℕ) (is : Bool) → to_feed (c ∷ bytes) < length (c ∷ bytes) → cond (not is) (1 + to_feed (c ∷ bytes)) 0 < length (b ∷ c ∷ bytes)
within_by b c bytes true h = omega arith
within_by b c bytes false h = omega arith

-- an ended line has its LF within the bytes
pub feed_within : (b : ℕ) (bytes : List ℕ) → IsEnded (b ∷ bytes) → to_feed (b ∷ bytes) < length (b ∷ bytes)
feed_within b [] h = let e : to_feed (b ∷ []) ≡ 0 = last_feed b h in omega arith
feed_within b (c ∷ bytes) h = within_by b c bytes (b == 10) (feed_within c bytes h)

pub lines_go_on : (n : ℕ) (bytes : List ℕ) → lines_after (drop n bytes) ≡ cut_lines (drop (suc n) bytes)
lines_go_on zero [] = refl
lines_go_on (suc n) [] = refl
lines_go_on zero (b ∷ bytes) = refl
lines_go_on (suc n) (b ∷ bytes) = lines_go_on n bytes

-- the first line, and the lines after its LF
pub first_cut : (b : ℕ) (bytes : List ℕ) → cut_lines (b ∷ bytes) ≡ take (to_feed (b ∷ bytes)) (b ∷ bytes) ∷ cut_lines (drop (suc (to_feed (b ∷ bytes))) (b ∷ bytes))
first_cut b bytes = lines_cut b bytes ∙ ap (λ (lines : List (List ℕ)). take (to_feed (b ∷ bytes)) (b ∷ bytes) ∷ lines) (lines_go_on (to_feed (b ∷ bytes)) (b ∷ bytes))

feed_by : (b c : ℕ) (bytes : List ℕ) (is : Bool) → (b == 10) ≡ is
    → take (suc (to_feed (c ∷ bytes))) (c ∷ bytes) ≡ take (to_feed (c ∷ bytes)) (c ∷ bytes) ++ 10 ∷ []
    → take (suc (cond (not is) (1 + to_feed (c ∷ bytes)) 0)) (b ∷ c ∷ bytes) ≡ take (cond (not is) (1 + to_feed (c ∷ bytes)) 0) (b ∷ c ∷ bytes) ++ 10 ∷ []
feed_by b c bytes true e h = ap (λ (x : ℕ). x ∷ []) (eqb-true b 10 e)
feed_by b c bytes false e h =
    let n : suc (to_feed (c ∷ bytes)) ≡ 1 + to_feed (c ∷ bytes) = omega arith in
    let P : ℕ → Type 0 = λ (m : ℕ). take (suc m) (b ∷ c ∷ bytes) ≡ take m (b ∷ c ∷ bytes) ++ 10 ∷ [] in
    subst P n (ap (λ (xs : List ℕ). b ∷ xs) h)

-- after the first line stands its LF
pub feed_at : (b : ℕ) (bytes : List ℕ) → IsEnded (b ∷ bytes) → take (suc (to_feed (b ∷ bytes))) (b ∷ bytes) ≡ take (to_feed (b ∷ bytes)) (b ∷ bytes) ++ 10 ∷ []
feed_at b [] h = subst (λ (x : ℕ). take (suc (to_feed (x ∷ []))) (x ∷ []) ≡ take (to_feed (x ∷ [])) (x ∷ []) ++ 10 ∷ []) (sym h) refl
feed_at b (c ∷ bytes) h = feed_by b c bytes (b == 10) refl (feed_at c bytes h)
