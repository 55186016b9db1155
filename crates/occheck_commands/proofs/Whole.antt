-- The lines of ended bytes, and of bytes that go on after them.
use Rattle.std.proofs.Common.{◌≡◌, ◌<◌, ◌≤◌, ◌+◌, ◌-◌, ◌==◌, ℕ, zero, suc, List, [], ◌∷◌, ◌++◌, Bool, true, false, cond, refl, ap, sym, subst, ◌∙◌, length, take, drop, get_or, arith, take-append-drop, nat_eq}
use Rattle.std.specs.Bool.{MatchBool}
use Rattle.std.proofs.lemmas.Bool.{eqb-true, eq-eqb}
use Rattle.std.proofs.Math.Seq.{take-append_seam}
use Rattle.occheck_commands.specs.Lines.{cut_lines, feeds, put_before}
use Rattle.occheck_commands.specs.Ended.{IsEnded, IsOpen}
use Rattle.occheck_commands.proofs.Cut.{lines_cut}

-- there is a first line
put_append : (b c : ℕ) (bytes : List ℕ) (more : List (List ℕ)) → put_before b (cut_lines (c ∷ bytes) ++ more) ≡ put_before b (cut_lines (c ∷ bytes)) ++ more
put_append b c bytes more =
    ap (λ (lines : List (List ℕ)). put_before b (lines ++ more)) (lines_cut c bytes) ∙ sym (ap (λ (lines : List (List ℕ)). put_before b lines ++ more) (lines_cut c bytes))

append_by : (b c : ℕ) (bytes more : List ℕ) (is : Bool) → cut_lines (c ∷ bytes ++ more) ≡ cut_lines (c ∷ bytes) ++ cut_lines more
    → cond is ([] ∷ cut_lines (c ∷ bytes ++ more)) (put_before b (cut_lines (c ∷ bytes ++ more))) ≡ cond is ([] ∷ cut_lines (c ∷ bytes)) (put_before b (cut_lines (c ∷ bytes))) ++ cut_lines more
append_by b c bytes more true e = ap (λ (lines : List (List ℕ)). [] ∷ lines) e
append_by b c bytes more false e = ap (put_before b) e ∙ put_append b c bytes (cut_lines more)

-- after ended bytes a line begins
pub lines_append : (bytes more : List ℕ) → IsEnded bytes → cut_lines (bytes ++ more) ≡ cut_lines bytes ++ cut_lines more
lines_append [] more h = refl
lines_append (b ∷ []) more h = subst (λ (x : ℕ). cut_lines (x ∷ more) ≡ cut_lines (x ∷ []) ++ cut_lines more) (sym h) refl
lines_append (b ∷ c ∷ bytes) more h = append_by b c bytes more (b == 10) (lines_append (c ∷ bytes) more h)

put_length : (b c : ℕ) (bytes : List ℕ) → length (put_before b (cut_lines (c ∷ bytes))) ≡ length (cut_lines (c ∷ bytes))
put_length b c bytes = ap (λ (lines : List (List ℕ)). length (put_before b lines)) (lines_cut c bytes) ∙ sym (ap (λ (lines : List (List ℕ)). length lines) (lines_cut c bytes))

count_lines_by : (b c : ℕ) (bytes : List ℕ) (is : Bool) → length (cut_lines (c ∷ bytes)) ≡ feeds (c ∷ bytes)
    → length (cond is ([] ∷ cut_lines (c ∷ bytes)) (put_before b (cut_lines (c ∷ bytes)))) ≡ cond is 1 0 + feeds (c ∷ bytes)
count_lines_by b c bytes true e = omega arith
count_lines_by b c bytes false e = omega (arith, put_length b c bytes)

-- ended bytes have as many lines as LFs
pub count_lines : (bytes : List ℕ) → IsEnded bytes → length (cut_lines bytes) ≡ feeds bytes
count_lines [] h = refl
count_lines (b ∷ []) h = subst (λ (x : ℕ). length (cut_lines (x ∷ [])) ≡ feeds (x ∷ [])) (sym h) refl
count_lines (b ∷ c ∷ bytes) h = count_lines_by b c bytes (b == 10) (count_lines (c ∷ bytes) h)

pub feeds_append : (xs ys : List ℕ) → feeds (xs ++ ys) ≡ feeds xs + feeds ys
feeds_append [] ys = omega arith
feeds_append (x ∷ xs) ys = omega (arith, feeds_append xs ys)

-- the lines up to the last LF are as many of the first lines as there are LFs
pub whole_part : (bytes : List ℕ) (n : ℕ) → IsEnded (take n bytes) → feeds (drop n bytes) ≡ 0 → cut_lines (take n bytes) ≡ take (feeds bytes) (cut_lines bytes)
whole_part bytes n h z =
    let t : take n bytes ++ drop n bytes ≡ bytes = take-append-drop n bytes in
    let f : feeds bytes ≡ length (cut_lines (take n bytes)) =
    sym (ap (λ (x : List ℕ). feeds x) t) ∙ feeds_append (take n bytes) (drop n bytes) ∙ (let k : feeds (take n bytes) + feeds (drop n bytes) ≡ feeds (take n bytes) = omega arith in k) ∙ sym (count_lines (take n bytes) h) in
    let c : cut_lines bytes ≡ cut_lines (take n bytes) ++ cut_lines (drop n bytes) = sym (ap (λ (x : List ℕ). cut_lines x) t) ∙ lines_append (take n bytes) (drop n bytes) h in
    sym (ap (λ (m : ℕ). take m (cut_lines bytes)) f ∙ ap (λ (x : List (List ℕ)). take (length (cut_lines (take n bytes))) x) c ∙ take-append_seam (cut_lines (take n bytes)) (cut_lines (drop n bytes)))

close_by : (b c : ℕ) (bytes : List ℕ) (is : Bool) → cut_lines (c ∷ bytes ++ 10 ∷ []) ≡ cut_lines (c ∷ bytes)
    → cond is ([] ∷ cut_lines (c ∷ bytes ++ 10 ∷ [])) (put_before b (cut_lines (c ∷ bytes ++ 10 ∷ []))) ≡ cond is ([] ∷ cut_lines (c ∷ bytes)) (put_before b (cut_lines (c ∷ bytes)))
close_by b c bytes true e = ap (λ (lines : List (List ℕ)). [] ∷ lines) e
close_by b c bytes false e = ap (put_before b) e

single : (b : ℕ) (is : Bool) → (b == 10) ≡ is → (b ≡ 10 → ⊥) → cond is ([] ∷ cut_lines (10 ∷ [])) (put_before b (cut_lines (10 ∷ []))) ≡ cond is ([] ∷ []) (put_before b [])
single b true e h = absurd (h (eqb-true b 10 e))
single b false e h = refl

-- an LF after the last line changes no line
pub close_last : (bytes : List ℕ) → IsOpen bytes → cut_lines (bytes ++ 10 ∷ []) ≡ cut_lines bytes
close_last [] h = absurd h
close_last (b ∷ []) h = single b (b == 10) refl h
close_last (b ∷ c ∷ bytes) h = close_by b c bytes (b == 10) (close_last (c ∷ bytes) h)

pub ended_close : (bytes : List ℕ) → IsEnded (bytes ++ 10 ∷ [])
ended_close [] = refl
ended_close (b ∷ []) = refl
ended_close (b ∷ c ∷ bytes) = ended_close (c ∷ bytes)

-- bytes up to an LF are ended
pub ended_at : (n : ℕ) (bytes : List ℕ) → n < length bytes → get_or bytes n 0 ≡ 10 → IsEnded (take (suc n) bytes)
ended_at n [] h e = absurd (omega arith)
ended_at zero (b ∷ bytes) h e = e
ended_at (suc n) (b ∷ []) h e = absurd (omega arith)
ended_at (suc zero) (b ∷ c ∷ bytes) h e = ended_at zero (c ∷ bytes) (omega arith) e
ended_at (suc (suc n)) (b ∷ c ∷ bytes) h e = ended_at (suc n) (c ∷ bytes) (omega arith) e

feed_by : (b : ℕ) (bytes : List ℕ) (is : Bool) → (b == 10) ≡ is → (b ≡ 10 → ⊥) → feeds bytes ≡ 0 → cond is 1 0 + feeds bytes ≡ 0
feed_by b bytes true e f z = absurd (f (eqb-true b 10 e))
feed_by b bytes false e f z = omega arith

-- one more byte at the end that is no LF
pub no_feed_at : (n : ℕ) (bytes : List ℕ) → n < length bytes → (get_or bytes n 0 ≡ 10 → ⊥) → feeds (drop (suc n) bytes) ≡ 0 → feeds (drop n bytes) ≡ 0
no_feed_at n [] h f z = absurd (omega arith)
no_feed_at zero (b ∷ bytes) h f z = feed_by b bytes (b == 10) refl f z
no_feed_at (suc n) (b ∷ bytes) h f z = no_feed_at n bytes (omega arith) f z

last_by : (b : ℕ) (is : Bool) → (b == 10) ≡ is → MatchBool is (b ≡ 10) (b ≡ 10 → ⊥)
last_by b true e = eqb-true b 10 e
last_by b false e = λ h. let t : (b == 10) ≡ true = eq-eqb b 10 h in absurd cc

-- the last byte reports
pub last_reports : (bytes : List ℕ) (n : ℕ) → length bytes ≡ suc n → MatchBool (nat_eq (get_or bytes n 0) 10) (IsEnded bytes) (IsOpen bytes)
last_reports [] n h = absurd (omega arith)
last_reports (b ∷ []) zero h = last_by b (b == 10) refl
last_reports (b ∷ []) (suc n) h = absurd (omega arith)
last_reports (b ∷ c ∷ bytes) zero h = absurd (omega arith)
last_reports (b ∷ c ∷ bytes) (suc n) h = last_reports (c ∷ bytes) n (omega arith)

pub last_byte_reports : (bytes : List ℕ) → 1 ≤ length bytes → MatchBool (nat_eq (get_or bytes (length bytes - 1) 0) 10) (IsEnded bytes) (IsOpen bytes)
last_byte_reports bytes h = last_reports bytes (length bytes - 1) (omega arith)

pub ended_up_to : (n : ℕ) (bytes : List ℕ) → 0 < n → n ≤ length bytes → get_or bytes (n - 1) 0 ≡ 10 → IsEnded (take n bytes)
ended_up_to zero bytes z h e = absurd (omega arith)
ended_up_to (suc n) bytes z h e = let m : suc n - 1 ≡ n = omega arith in ended_at n bytes (omega arith) (sym (ap (λ (k : ℕ). get_or bytes k 0) m) ∙ e)

pub no_feed_before : (n : ℕ) (bytes : List ℕ) → 0 < n → n ≤ length bytes → (get_or bytes (n - 1) 0 ≡ 10 → ⊥) → feeds (drop n bytes) ≡ 0 → feeds (drop (n - 1) bytes) ≡ 0
no_feed_before zero bytes h l f z = absurd (omega arith)
no_feed_before (suc n) bytes h l f z =
    let m : suc n - 1 ≡ n = omega arith in
    ap (λ (k : ℕ). feeds (drop k bytes)) m ∙ no_feed_at n bytes (omega arith) (λ (e : get_or bytes n 0 ≡ 10). f (ap (λ (k : ℕ). get_or bytes k 0) m ∙ e)) z

pub cut_off_is : (whole front slice kept : List ℕ) (n : ℕ) → front ≡ whole → slice ≡ front → kept ≡ take n front → IsEnded (take n slice) → feeds (drop n slice) ≡ 0
    → cut_lines kept ≡ take (feeds whole) (cut_lines whole)
cut_off_is whole front slice kept n w s k e z =
    ap (λ (x : List ℕ). cut_lines x) (k ∙ ap (λ (x : List ℕ). take n x) (sym s)) ∙ whole_part slice n e z ∙ ap (λ (x : List ℕ). take (feeds x) (cut_lines x)) (s ∙ w)

pub take_whole : (n : ℕ) (xs : List ℕ) → length xs ≤ n → take n xs ≡ xs
take_whole zero [] h = refl
take_whole (suc n) [] h = refl
take_whole zero (x ∷ xs) h = absurd (omega arith)
take_whole (suc n) (x ∷ xs) h = ap (λ (ys : List ℕ). x ∷ ys) (take_whole n xs (omega arith))

-- one byte more is passed
pub feeds_at : (n : ℕ) (bytes : List ℕ) → n < length bytes → feeds (drop n bytes) ≡ cond (get_or bytes n 0 == 10) 1 0 + feeds (drop (n + 1) bytes)
feeds_at n [] h = absurd (omega arith)
feeds_at zero (b ∷ bytes) h = refl
feeds_at (suc n) (b ∷ bytes) h = let e : suc n + 1 ≡ suc (n + 1) = omega arith in rw e (feeds_at n bytes (omega arith))
