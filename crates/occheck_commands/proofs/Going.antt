-- How a script goes on from line to line.
use Rattle.std.proofs.Common.{◌≡◌, ◌≢◌, ◌<◌, ◌≤◌, ◌+◌, ◌==◌, ◌||◌, ℕ, zero, suc, List, [], ◌∷◌, ◌++◌, Bool, true, false, cond, nat_le, nat_lt, not, refl, ap, sym, subst, ◌∙◌, length, take, drop, Option, Some, None, arith, append-nil, length-append, length-take}
use Rattle.std.proofs.lemmas.List.{length-drop, take-append-le, drop-append-le, take_all}
use Rattle.std.proofs.lemmas.Bool.{eqb-false, eqb-true, le-leb, le-ltb, lt-leb, lt-ltb}
use Rattle.occheck_commands.specs.Lines.{cut_lines, ended_lines, feeds, last_lines}
use Rattle.occheck_commands.specs.Ended.{IsEnded}
use Rattle.occheck_commands.specs.Left.{IsLacking, cut_short, ending}
use Rattle.occheck_commands.specs.Script.{Command, Edit, Header, Script, command_at, ended, header, script_from, script_in, then, with_lines}
use Rattle.occheck_commands.specs.Script.Header.{Alone, Texts}
use Rattle.occheck_commands.proofs.Ended.{ended_drop}
use Rattle.occheck_commands.proofs.Whole.{count_lines, feeds_append, lines_append}

last_blank : (over : Bool) (bytes : List ℕ) → last_lines over (10 ∷ bytes) ≡ [] ∷ last_lines over bytes
last_blank true bytes = let e : 1 + feeds bytes ≡ suc (feeds bytes) = omega arith in ap (λ (n : ℕ). take n ([] ∷ cut_lines bytes)) e
last_blank false bytes = refl

pub blank_ending : (over : Bool) (n : ℕ) (bytes following more : List ℕ) → bytes ≡ 10 ∷ following → ending over (n + 1) (following ++ more) ≡ ending over n (bytes ++ more)
blank_ending over n bytes following more e =
    sym (ap (λ (x : List ℕ). ending over n (x ++ more)) e ∙ ap (λ (lines : List (List ℕ)). script_from over n lines) (last_blank over (following ++ more)))

take_past : (xs ys : List (List ℕ)) (n : ℕ) → take (length xs + n) (xs ++ ys) ≡ xs ++ take n ys
take_past [] ys n = let e : 0 + n ≡ n = omega arith in ap (λ (m : ℕ). take m ys) e
take_past (x ∷ xs) ys n = let e : suc (length xs) + n ≡ suc (length xs + n) = omega arith in rw e (ap (λ (zs : List (List ℕ)). x ∷ zs) (take_past xs ys n))

-- what comes after ended bytes begins a line
pub last_append : (over : Bool) (bytes more : List ℕ) → IsEnded bytes → last_lines over (bytes ++ more) ≡ cut_lines bytes ++ last_lines over more
last_append true bytes more h =
    let n : feeds (bytes ++ more) ≡ length (cut_lines bytes) + feeds more = omega (arith, feeds_append bytes more, count_lines bytes h) in
    ap (λ (m : ℕ). take m (cut_lines (bytes ++ more))) n ∙ ap (λ (lines : List (List ℕ)). take (length (cut_lines bytes) + feeds more) lines) (lines_append bytes more h)
    ∙ take_past (cut_lines bytes) (cut_lines more) (feeds more)
last_append false bytes more h = lines_append bytes more h

-- the last lines are all where the bytes are ended
pub last_ended : (over : Bool) (bytes : List ℕ) → IsEnded bytes → last_lines over bytes ≡ cut_lines bytes
last_ended true bytes h = ap (λ (n : ℕ). take n (cut_lines bytes)) (sym (count_lines bytes h)) ∙ take_all (length (cut_lines bytes)) (cut_lines bytes) (omega arith)
last_ended false bytes h = refl

pub ended_after : (b : ℕ) (bytes following : List ℕ) → bytes ≡ b ∷ following → IsEnded bytes → IsEnded following
ended_after b bytes following e h = ended_drop 1 (b ∷ following) (subst IsEnded e h)

same_texts : (f g : ℕ → List (List ℕ) → Script) (n k : ℕ) (edit : Edit) (name : List ℕ) (lines : List (List ℕ)) (fits : Bool) → f (n + 1 + k) (drop k lines) ≡ g (n + 1 + k) (drop k lines)
    → cond fits (then n (with_lines edit name (take k lines)) (f (n + 1 + k) (drop k lines))) (ended (Some n))
    ≡ cond fits (then n (with_lines edit name (take k lines)) (g (n + 1 + k) (drop k lines))) (ended (Some n))
same_texts f g n k edit name lines true e = ap (λ (s : Script). then n (with_lines edit name (take k lines)) s) e
same_texts f g n k edit name lines false e = refl

-- a command hangs on what follows after its own lines alone
command_same : (f g : ℕ → List (List ℕ) → Script) (n : ℕ) (h : Option Header) (lines : List (List ℕ))
    → ((m k : ℕ) → f m (drop k lines) ≡ g m (drop k lines)) → command_at n h lines f ≡ command_at n h lines g
command_same f g n None lines e = refl
command_same f g n (Some (Texts edit name k)) lines e = same_texts f g n k edit name lines (nat_le k (length lines)) (e (n + 1 + k) k)
command_same f g n (Some (Alone command)) lines e = ap (λ (s : Script). then n command s) (e (n + 1) 0)

same_turns : (s t : ℕ) (over : Bool) (n : ℕ) (lines : List (List ℕ)) → length lines < s → length lines < t → script_in s over n lines ≡ script_in t over n lines
same_turns zero t over n lines h k = absurd (omega arith)
same_turns (suc s) zero over n lines h k = absurd (omega arith)
same_turns (suc s) (suc t) over n [] h k = refl
same_turns (suc s) (suc t) over n ([] ∷ lines) h k = same_turns s t over (n + 1) lines (omega arith) (omega arith)
same_turns (suc s) (suc t) over n ((b ∷ bytes) ∷ lines) h k =
    command_same (script_in s over) (script_in t over) n (header (b ∷ bytes)) lines
    (λ m i. same_turns s t over m (drop i lines) (omega (arith, length-drop i lines)) (omega (arith, length-drop i lines)))

-- a line that is not empty begins a command
pub begin_line : (over : Bool) (n : ℕ) (line : List ℕ) (lines : List (List ℕ)) → line ≢ [] → script_from over n (line ∷ lines) ≡ command_at n (header line) lines (script_from over)
begin_line over n [] lines h = absurd (h refl)
begin_line over n (b ∷ bytes) lines h =
    command_same (script_in (suc (length lines)) over) (script_from over) n (header (b ∷ bytes)) lines
    (λ m i. same_turns (suc (length lines)) (suc (length (drop i lines))) over m (drop i lines) (omega (arith, length-drop i lines)) (omega arith))

-- what a line that is not empty says, and what comes after it
pub begins : (over : Bool) (n : ℕ) (bytes line following more : List ℕ) (h : Option Header) → IsEnded bytes → cut_lines bytes ≡ line ∷ cut_lines following → line ≢ [] → h ≡ header line
    → ending over n (bytes ++ more) ≡ command_at n h (cut_lines following ++ last_lines over more) (script_from over)
begins over n bytes line following more h e c l s =
    ap (λ (x : List (List ℕ)). script_from over n x) (last_append over bytes more e ∙ ap (λ (x : List (List ℕ)). x ++ last_lines over more) c)
    ∙ begin_line over n line (cut_lines following ++ last_lines over more) l ∙ sym (ap (λ (x : Option Header). command_at n x (cut_lines following ++ last_lines over more) (script_from over)) s)

-- a line that is all of a command
pub alone_says : (over : Bool) (n : ℕ) (following more : List ℕ) (command : Command) → IsEnded following
    → command_at n (Some (Alone command)) (cut_lines following ++ last_lines over more) (script_from over) ≡ then n command (ending over (n + 1) (following ++ more))
alone_says over n following more command e = ap (λ (x : List (List ℕ)). then n command (script_from over (n + 1) x)) (sym (last_append over following more e))

enough_by : (n k : ℕ) (edit : Edit) (name : List ℕ) (lines : List (List ℕ)) (f : ℕ → List (List ℕ) → Script) → k ≤ length lines
    → command_at n (Some (Texts edit name k)) lines f ≡ then n (with_lines edit name (take k lines)) (f (n + 1 + k) (drop k lines))
enough_by n k edit name lines f h = let t : nat_le k (length lines) ≡ true = le-leb k (length lines) h in rw t refl

-- a line with its text
pub texts_say : (over : Bool) (n k : ℕ) (edit : Edit) (name following left more : List ℕ) → k ≤ length (cut_lines following) → IsEnded left → cut_lines left ≡ drop k (cut_lines following)
    → command_at n (Some (Texts edit name k)) (cut_lines following ++ last_lines over more) (script_from over)
    ≡ then n (with_lines edit name (take k (cut_lines following))) (ending over (n + 1 + k) (left ++ more))
texts_say over n k edit name following left more h e d =
    let all : k ≤ length (cut_lines following ++ last_lines over more) = omega (arith, length-append (cut_lines following) (last_lines over more)) in
    enough_by n k edit name (cut_lines following ++ last_lines over more) (script_from over) all
    ∙ ap (λ (x : List (List ℕ)). then n (with_lines edit name x) (script_from over (n + 1 + k) (drop k (cut_lines following ++ last_lines over more)))) (take-append-le k (cut_lines following) (last_lines over more) h)
    ∙ ap (λ (x : List (List ℕ)). then n (with_lines edit name (take k (cut_lines following))) (script_from over (n + 1 + k) x))
    (drop-append-le k (cut_lines following) (last_lines over more) h ∙ ap (λ (x : List (List ℕ)). x ++ last_lines over more) (sym d) ∙ sym (last_append over left more e))

few_by : (n k : ℕ) (edit : Edit) (name : List ℕ) (lines : List (List ℕ)) (f : ℕ → List (List ℕ) → Script) → length lines < k → command_at n (Some (Texts edit name k)) lines f ≡ ended (Some n)
few_by n k edit name lines f h = let t : nat_le k (length lines) ≡ false = lt-leb k (length lines) (omega arith) in rw t refl

few_ended : (bytes : List ℕ) → length (ended_lines bytes) ≤ feeds bytes
few_ended bytes = omega (arith, length-take (feeds bytes) (cut_lines bytes))

last_none : (over : Bool) → last_lines over [] ≡ []
last_none true = refl
last_none false = refl

or_true : (over : Bool) → (over || true) ≡ true
or_true true = refl
or_true false = refl

-- part of a command
pub is_unfinished : (n k lacks : ℕ) (edit : Edit) (name bytes line following : List ℕ) → IsEnded bytes → cut_lines bytes ≡ line ∷ cut_lines following → line ≢ [] → Some (Texts edit name k) ≡ header line
    → 0 < length bytes → length (cut_lines following) + lacks ≡ k → 0 < lacks
    → IsLacking n bytes lacks × ((over : Bool) → ending over n bytes ≡ cut_short over n bytes)
is_unfinished n k lacks edit name bytes line following e c l s some t z = (
  λ more f.
      let few : length (cut_lines following ++ last_lines true more) < k = omega (arith, few_ended more, length-append (cut_lines following) (ended_lines more)) in
      ap (λ (x : Script). x.commands) (begins true n bytes line following more (Some (Texts edit name k)) e c l s ∙ few_by n k edit name (cut_lines following ++ last_lines true more) (script_from true) few),
  λ over.
      let few : length (cut_lines following ++ last_lines over []) < k = omega (arith, length-append (cut_lines following) (last_lines over []), ap (λ (x : List (List ℕ)). length x) (last_none over)) in
      let is : nat_lt 0 (length bytes) ≡ true = lt-ltb 0 (length bytes) some in
      sym (ap (λ (x : List ℕ). ending over n x) (append-nil bytes)) ∙ begins over n bytes line following [] (Some (Texts edit name k)) e c l s ∙ few_by n k edit name (cut_lines following ++ last_lines over []) (script_from over) few
      ∙ sym (ap (λ (x : Bool). ended (cond (over || x) (Some n) None)) is ∙ ap (λ (x : Bool). ended (cond x (Some n) None)) (or_true over)),
)

none_ended : (bytes : List ℕ) → feeds bytes ≡ 0 → ended_lines bytes ≡ []
none_ended bytes z = ap (λ (n : ℕ). take n (cut_lines bytes)) z

nothing_by : (over : Bool) (n : ℕ) → script_from over n (last_lines over []) ≡ ended (cond (over || false) (Some n) None)
nothing_by true n = refl
nothing_by false n = refl

-- nothing at all
pub is_nothing : (n : ℕ) (bytes : List ℕ) → length bytes ≡ 0 → IsLacking n bytes 1 × ((over : Bool) → ending over n bytes ≡ cut_short over n bytes)
is_nothing n [] e = (
  λ more f. ap (λ (lines : List (List ℕ)). (script_from true n lines).commands) (none_ended more (omega arith)),
  λ over. nothing_by over n,
)
is_nothing n (b ∷ bytes) e = absurd (omega arith)

-- ended bytes that nothing comes after
pub ending_is : (over : Bool) (n : ℕ) (bytes : List ℕ) → IsEnded bytes → ending over n (bytes ++ []) ≡ script_from over n (cut_lines bytes)
ending_is over n bytes e = ap (λ (x : List ℕ). ending over n x) (append-nil bytes) ∙ ap (λ (lines : List (List ℕ)). script_from over n lines) (last_ended over bytes e)

some_by : (n : ℕ) (is : Bool) → (n == 0) ≡ is → nat_lt 0 n ≡ not is
some_by n true e = let z : n ≡ 0 = eqb-true n 0 e in le-ltb 0 n (omega arith)
some_by n false e = let z : n ≢ 0 = eqb-false n 0 e in lt-ltb 0 n (omega arith)

-- where there are no bytes over the limit, part of a command decides
pub unfinished_decides : (over empty : Bool) (n : ℕ) → over ≡ false → empty ≡ (n == 0) → (over || nat_lt 0 n) ≡ not empty
unfinished_decides over empty n o e = ap (λ (x : Bool). x || nat_lt 0 n) o ∙ some_by n empty (sym e)
