-- Lines say what they are found to say, and nothing else.
use Rattle.std.proofs.Common.{◌≡◌, ◌≢◌, ◌<◌, ◌≤◌, ◌+◌, ◌++◌, ℕ, zero, suc, List, [], ◌∷◌, Bool, true, false, cond, nat_le, refl, ap, sym, subst, ◌∙◌, length, take, drop, Option, Some, None, arith, take-append-drop, length-append, length-take}
use Rattle.std.proofs.lemmas.Bool.{le-leb, leb-false, leb-true}
use Rattle.std.proofs.lemmas.List.{length-drop}
use Rattle.std.proofs.Math.Seq.{drop-append_seam, take-append_seam}
use Rattle.occheck_commands.specs.Says.{Says}
use Rattle.occheck_commands.specs.Says.Says.{alone, at_end, cut_short, skipped, with_text, wrong}
use Rattle.occheck_commands.specs.Script.{Edit, Header, Script, command_at, ended, header, script_from, then, with_lines}
use Rattle.occheck_commands.specs.Script.Header.{Alone, Texts}
use Rattle.occheck_commands.proofs.Going.{begin_line}

-- ---- what is found is said

begun : (b : ℕ) (bytes : List ℕ) → b ∷ bytes ≢ []
begun b bytes e = cc

-- a line of a command that has so many lines of text after it
with_taken : (over : Bool) (n : ℕ) (line : List ℕ) (lines : List (List ℕ)) (edit : Edit) (name : List ℕ) (k : ℕ) → header line ≡ Some (Texts edit name k) → k ≤ length lines
    → Says over (n + 1 + k) (drop k lines) (script_from over (n + 1 + k) (drop k lines))
    → Says over n (line ∷ lines) (then n (with_lines edit name (take k lines)) (script_from over (n + 1 + k) (drop k lines)))
with_taken over n line lines edit name k e h d =
    let taken : length (take k lines) ≡ k = omega (arith, length-take k lines) in
    let rest : Script = script_from over (n + 1 + k) (drop k lines) in
    let said : Says over (n + 1 + length (take k lines)) (drop k lines) rest = subst (λ (m : ℕ). Says over (n + 1 + m) (drop k lines) rest) (sym taken) d in
    let is : header line ≡ Some (Texts edit name (length (take k lines))) = e ∙ ap (λ (m : ℕ). Some (Texts edit name m)) (sym taken) in
    subst (λ (ls : List (List ℕ)). Says over n (line ∷ ls) (then n (with_lines edit name (take k lines)) rest)) (take-append-drop k lines) (with_text n line (take k lines) (drop k lines) edit name rest is said)

text_said : (over : Bool) (n : ℕ) (line : List ℕ) (lines : List (List ℕ)) (edit : Edit) (name : List ℕ) (k : ℕ) (fits : Bool) → nat_le k (length lines) ≡ fits → header line ≡ Some (Texts edit name k)
    → Says over (n + 1 + k) (drop k lines) (script_from over (n + 1 + k) (drop k lines))
    → Says over n (line ∷ lines) (cond fits (then n (with_lines edit name (take k lines)) (script_from over (n + 1 + k) (drop k lines))) (ended (Some n)))
text_said over n line lines edit name k true f e d = with_taken over n line lines edit name k e (leb-true k (length lines) f) d
text_said over n line lines edit name k false f e d = cut_short n line lines edit name k e (leb-false k (length lines) f)

command_said : (over : Bool) (n b : ℕ) (bytes : List ℕ) (lines : List (List ℕ)) (h : Option Header) → header (b ∷ bytes) ≡ h → ((m k : ℕ) → Says over m (drop k lines) (script_from over m (drop k lines)))
    → Says over n ((b ∷ bytes) ∷ lines) (command_at n h lines (script_from over))
command_said over n b bytes lines None e d = wrong n (b ∷ bytes) lines (begun b bytes) e
command_said over n b bytes lines (Some (Texts edit name k)) e d = text_said over n (b ∷ bytes) lines edit name k (nat_le k (length lines)) refl e (d (n + 1 + k) k)
command_said over n b bytes lines (Some (Alone command)) e d = alone n (b ∷ bytes) lines command (script_from over (n + 1) lines) e (d (n + 1) 0)

found_in : (turns : ℕ) (over : Bool) (n : ℕ) (lines : List (List ℕ)) → length lines < turns → Says over n lines (script_from over n lines)
found_in zero over n lines h = absurd (omega arith)
found_in (suc turns) over n [] h = at_end n
found_in (suc turns) over n ([] ∷ lines) h = skipped n lines (script_from over (n + 1) lines) (found_in turns over (n + 1) lines (omega arith))
found_in (suc turns) over n ((b ∷ bytes) ∷ lines) h =
    subst (λ (s : Script). Says over n ((b ∷ bytes) ∷ lines) s) (sym (begin_line over n (b ∷ bytes) lines (begun b bytes)))
    (command_said over n b bytes lines (header (b ∷ bytes)) refl (λ m k. found_in turns over m (drop k lines) (omega (arith, length-drop k lines))))

pub found : (over : Bool) (n : ℕ) (lines : List (List ℕ)) → Says over n lines (script_from over n lines)
found over n lines = found_in (suc (length lines)) over n lines (omega arith)

-- ---- what is said is found

begins : (line : List ℕ) (h : Header) → header line ≡ Some h → line ≢ []
begins [] h e i = absurd cc
begins (b ∷ bytes) h e i = begun b bytes i

-- a line that begins a command goes on as that does
goes_on : (over : Bool) (n : ℕ) (line : List ℕ) (lines : List (List ℕ)) (h : Header) → header line ≡ Some h → script_from over n (line ∷ lines) ≡ command_at n (Some h) lines (script_from over)
goes_on over n line lines h e = begin_line over n line lines (begins line h e) ∙ ap (λ (x : Option Header). command_at n x lines (script_from over)) e

seam : (over : Bool) (n : ℕ) (text lines : List (List ℕ)) (edit : Edit) (name : List ℕ)
    → command_at n (Some (Texts edit name (length text))) (text ++ lines) (script_from over) ≡ then n (with_lines edit name text) (script_from over (n + 1 + length text) lines)
seam over n text lines edit name =
    let fits : nat_le (length text) (length (text ++ lines)) ≡ true = le-leb _ _ (omega (arith, length-append text lines)) in
    ap (λ (b : Bool). cond b (then n (with_lines edit name (take (length text) (text ++ lines))) (script_from over (n + 1 + length text) (drop (length text) (text ++ lines)))) (ended (Some n))) fits
    ∙ ap (λ (ls : List (List ℕ)). then n (with_lines edit name ls) (script_from over (n + 1 + length text) (drop (length text) (text ++ lines)))) (take-append_seam text lines)
    ∙ ap (λ (ls : List (List ℕ)). then n (with_lines edit name text) (script_from over (n + 1 + length text) ls)) (drop-append_seam text lines)

short : (n k : ℕ) (lines : List (List ℕ)) (script : Script) → length lines < k → cond (nat_le k (length lines)) script (ended (Some n)) ≡ ended (Some n)
short n k lines script h = by (nat_le k (length lines)) refl where
  by : (b : Bool) → nat_le k (length lines) ≡ b → cond b script (ended (Some n)) ≡ ended (Some n)
  by true e = let l : k ≤ length lines = leb-true k (length lines) e in absurd (omega arith)
  by false e = refl

pub only : (over : Bool) (n : ℕ) (lines : List (List ℕ)) (script : Script) → Says over n lines script → script ≡ script_from over n lines
only over _ _ _ (at_end n) = refl
only over _ _ _ (skipped n lines script d) = only over (n + 1) lines script d
only over _ _ _ (alone n line lines command script e d) = ap (λ (s : Script). then n command s) (only over (n + 1) lines script d) ∙ sym (goes_on over n line lines (Alone command) e)
only over _ _ _ (with_text n line text lines edit name script e d) =
    ap (λ (s : Script). then n (with_lines edit name text) s) (only over (n + 1 + length text) lines script d)
    ∙ sym (seam over n text lines edit name) ∙ sym (goes_on over n line (text ++ lines) (Texts edit name (length text)) e)
only over _ _ _ (cut_short n line lines edit name k e h) =
    sym (short n k lines (then n (with_lines edit name (take k lines)) (script_from over (n + 1 + k) (drop k lines))) h) ∙ sym (goes_on over n line lines (Texts edit name k) e)
only over _ _ _ (wrong n line lines begin e) = sym (begin_line over n line lines begin ∙ ap (λ (x : Option Header). command_at n x lines (script_from over)) e)
