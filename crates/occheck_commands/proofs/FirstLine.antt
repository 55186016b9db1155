-- The first line of some bytes, as it is cut off, and the first lines as a text.
use Rattle.std.proofs.Common.{◌≡◌, ◌≢◌, ◌<◌, ◌≤◌, ◌+◌, ◌-◌, ℕ, zero, suc, List, [], ◌∷◌, ◌++◌, ◌==◌, Bool, true, false, cond, not, refl, ap, sym, subst, ◌∙◌, length, take, drop, arith, append_assoc, take-append-drop, add-one, length-append}
use Rattle.std.proofs.lemmas.Bool.{eqb-true}
use Rattle.std.proofs.Math.Seq.{take-append_seam}
use Rattle.occheck_commands.specs.Lines.{cut_lines, text_of}
use Rattle.occheck_commands.specs.Ended.{IsEnded, IsNoFeed}
use Rattle.occheck_commands.proofs.Cut.{to_feed}
use Rattle.occheck_commands.proofs.Ended.{ended_drop, feed_within, first_cut, feed_at}

pub within : (bytes : List ℕ) (n : ℕ) → 0 < length bytes → IsEnded bytes → n ≡ to_feed bytes → n + 1 ≤ length bytes
within [] n h e i = absurd (omega arith)
within (b ∷ bytes) n h e i = let f : to_feed (b ∷ bytes) < length (b ∷ bytes) = feed_within b bytes e in omega arith

at_feed : (bytes : List ℕ) → 0 < length bytes → cut_lines bytes ≡ take (to_feed bytes) bytes ∷ cut_lines (drop (to_feed bytes + 1) bytes)
at_feed [] h = absurd (omega arith)
at_feed (b ∷ bytes) h = first_cut b bytes ∙ ap (λ (n : ℕ). take (to_feed (b ∷ bytes)) (b ∷ bytes) ∷ cut_lines (drop n (b ∷ bytes))) (sym (add-one (to_feed (b ∷ bytes))))

pub cut_is : (bytes line following : List ℕ) (n : ℕ) → 0 < length bytes → n ≡ to_feed bytes → line ≡ take n bytes → following ≡ drop (n + 1) bytes → cut_lines bytes ≡ line ∷ cut_lines following
cut_is bytes line following n h i l d = at_feed bytes h ∙ let e : take (to_feed bytes) bytes ∷ cut_lines (drop (to_feed bytes + 1) bytes) ≡ line ∷ cut_lines following = cc in e

feed_text : (bytes : List ℕ) → 0 < length bytes → IsEnded bytes → take (to_feed bytes + 1) bytes ≡ take (to_feed bytes) bytes ++ 10 ∷ []
feed_text [] h e = absurd (omega arith)
feed_text (b ∷ bytes) h e = ap (λ (n : ℕ). take n (b ∷ bytes)) (add-one (to_feed (b ∷ bytes))) ∙ feed_at b bytes e

pub text_is : (bytes line following : List ℕ) (n : ℕ) → 0 < length bytes → IsEnded bytes → n ≡ to_feed bytes → line ≡ take n bytes → following ≡ drop (n + 1) bytes → bytes ≡ line ++ 10 ∷ following
text_is bytes line following n h e i l d =
    let a : take (n + 1) bytes ≡ take n bytes ++ 10 ∷ [] = ap (λ (m : ℕ). take (m + 1) bytes) i ∙ feed_text bytes h e ∙ ap (λ (m : ℕ). take m bytes ++ 10 ∷ []) (sym i) in
    let s : (line ++ 10 ∷ []) ++ following ≡ line ++ 10 ∷ following = append_assoc line (10 ∷ []) following in
    let t : take (n + 1) bytes ++ drop (n + 1) bytes ≡ bytes = take-append-drop (n + 1) bytes in
    cc

begun_by : (b : ℕ) (bytes : List ℕ) (is : Bool) → (b == 10) ≡ is → (b ≡ 10 → ⊥) → take (cond (not is) (1 + to_feed bytes) 0) (b ∷ bytes) ≢ []
begun_by b bytes true e f h = f (eqb-true b 10 e)
begun_by b bytes false e f h = let n : 1 + to_feed bytes ≡ suc (to_feed bytes) = omega arith in
    let k : b ∷ take (to_feed bytes) bytes ≡ [] = ap (λ (m : ℕ). take m (b ∷ bytes)) (sym n) ∙ h in cc

pub begun_is : (bytes line : List ℕ) (n : ℕ) → 0 < length bytes → n ≡ to_feed bytes → line ≡ take n bytes → IsNoFeed bytes → line ≢ []
begun_is [] line n h i l f e = absurd (omega arith)
begun_is (b ∷ bytes) line n h i l f e = begun_by b bytes (b == 10) refl f (let k : take (to_feed (b ∷ bytes)) (b ∷ bytes) ≡ [] = cc in k)

-- one more line
pub drop_more : {X : Type 0} (lines : List X) (c : ℕ) (line : X) (rest : List X) → drop c lines ≡ line ∷ rest → drop (c + 1) lines ≡ rest
drop_more [] zero line rest e = absurd cc
drop_more [] (suc c) line rest e = absurd cc
drop_more (x ∷ lines) zero line rest e = cc
drop_more (x ∷ lines) (suc c) line rest e = let n : suc c + 1 ≡ suc (c + 1) = omega arith in rw n (drop_more lines c line rest e)

pub count_more : {X : Type 0} (lines : List X) (c : ℕ) (line : X) (rest : List X) → drop c lines ≡ line ∷ rest → c + 1 ≤ length lines
count_more [] zero line rest e = absurd cc
count_more [] (suc c) line rest e = absurd cc
count_more (x ∷ lines) zero line rest e = omega arith
count_more (x ∷ lines) (suc c) line rest e = let n : c + 1 ≤ length lines = count_more lines c line rest e in omega arith

pub text_more : (lines : List (List ℕ)) (c : ℕ) (line : List ℕ) (rest : List (List ℕ)) (following : List ℕ) → drop c lines ≡ line ∷ rest
    → text_of (take c lines) ++ (line ++ 10 ∷ following) ≡ text_of (take (c + 1) lines) ++ following
text_more [] zero line rest following e = absurd cc
text_more [] (suc c) line rest following e = absurd cc
text_more (x ∷ lines) zero line rest following e = let k : x ≡ line = cc in subst (λ (y : List ℕ). line ++ 10 ∷ following ≡ (y ++ 10 ∷ []) ++ following) (sym k) (sym (append_assoc line (10 ∷ []) following))
text_more (x ∷ lines) (suc c) line rest following e =
    let n : suc c + 1 ≡ suc (c + 1) = omega arith in
    rw n (append_assoc x (10 ∷ text_of (take c lines)) (line ++ 10 ∷ following) ∙ ap (λ (y : List ℕ). x ++ 10 ∷ y) (text_more lines c line rest following e) ∙ sym (append_assoc x (10 ∷ text_of (take (c + 1) lines)) following))

-- the bytes in front of what is left
pub front_is : (bytes text following : List ℕ) → bytes ≡ text ++ following → take (length bytes - length following) bytes ≡ text
front_is bytes text following e =
    let n : length bytes - length following ≡ length text = omega (arith, ap (λ (x : List ℕ). length x) e, length-append text following) in
    ap (λ (m : ℕ). take m bytes) n ∙ ap (λ (x : List ℕ). take (length text) x) e ∙ take-append_seam text following

none_left : (lines : List (List ℕ)) (c : ℕ) → drop c lines ≡ [] → c ≤ length lines → length lines ≡ c
none_left [] c e h = omega arith
none_left (x ∷ lines) zero e h = absurd cc
none_left (x ∷ lines) (suc c) e h = let k : length lines ≡ c = none_left lines c e (omega arith) in omega arith

pub ended_is : (bytes following : List ℕ) (n : ℕ) → following ≡ drop n bytes → IsEnded bytes → IsEnded following
ended_is bytes following n e h = subst IsEnded (sym e) (ended_drop n bytes h)

-- where nothing follows, all lines were passed
pub all_passed : (lines : List (List ℕ)) (following : List ℕ) (c : ℕ) → drop c lines ≡ cut_lines following → length following ≡ 0 → c ≤ length lines → length lines ≡ c
all_passed lines [] c e z h = none_left lines c e h
all_passed lines (b ∷ following) c e z h = absurd (omega arith)

pub text_step : (lines : List (List ℕ)) (bytes following line rest : List ℕ) (c : ℕ) → drop c lines ≡ cut_lines following → cut_lines following ≡ line ∷ cut_lines rest → following ≡ line ++ 10 ∷ rest
    → bytes ≡ text_of (take c lines) ++ following → bytes ≡ text_of (take (c + 1) lines) ++ rest
text_step lines bytes following line rest c d k b e = e ∙ ap (λ (x : List ℕ). text_of (take c lines) ++ x) b ∙ text_more lines c line (cut_lines rest) rest (d ∙ k)

pub less_by : (following line rest : List ℕ) (c all : ℕ) → following ≡ line ++ 10 ∷ rest → length following + c ≤ all → length rest + (c + 1) ≤ all
less_by following line rest c all e h = omega (arith, ap (λ (x : List ℕ). length x) e, length-append line (10 ∷ rest))

-- the last bytes of the last bytes are last
pub last_of_last : (bytes middle left between : List ℕ) → ((front : List ℕ) × (bytes ≡ front ++ middle)) → middle ≡ between ++ left → (front : List ℕ) × (bytes ≡ front ++ left)
last_of_last bytes middle left between h e = (h.0 ++ between, h.1 ∙ ap (λ (x : List ℕ). h.0 ++ x) e ∙ sym (append_assoc h.0 between left))

pub last_after_line : (bytes middle left line : List ℕ) → ((front : List ℕ) × (bytes ≡ front ++ middle)) → middle ≡ line ++ 10 ∷ left → (front : List ℕ) × (bytes ≡ front ++ left)
last_after_line bytes middle left line h e = last_of_last bytes middle left (line ++ 10 ∷ []) h (e ∙ sym (append_assoc line (10 ∷ []) left))

pub line_length : (bytes line following : List ℕ) → bytes ≡ line ++ 10 ∷ following → length following + 1 ≤ length bytes
line_length bytes line following e = omega (arith, ap (λ (x : List ℕ). length x) e, length-append line (10 ∷ following))

pub part_length : (bytes text following : List ℕ) → bytes ≡ text ++ following → length following ≤ length bytes
part_length bytes text following e = omega (arith, ap (λ (x : List ℕ). length x) e, length-append text following)
