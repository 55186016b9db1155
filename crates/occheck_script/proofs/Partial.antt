-- What was begun to be read: part of a command, and what comes behind it.
use Rattle.std.proofs.Common.{◌≡◌, ◌+◌, ◌-◌, ◌<◌, ◌==◌, ℕ, inl, inr, zero, suc, Bool, true, false, cond, nat_le, List, [], ◌∷◌, ◌++◌, Option, Some, None, refl, ap, sym, subst, ◌∙◌, append_assoc, take, drop, length, length-append, take-append-drop, arith}
use Rattle.std.proofs.lemmas.Bool.{eqb-true}
use Rattle.std.proofs.lemmas.List.{drop-append-le}
use Rattle.occheck_commands.specs.Ended.{IsNoFeed}
use Rattle.occheck_commands.specs.Left.{AreEnded, AreLast, IsLacking, IsUnfinished, cut_short, ending}
use Rattle.occheck_commands.specs.Lines.{cut_lines, feeds, put_before}
use Rattle.occheck_commands.specs.Script.{Edit, Header, Script, command_at, ended, header, script_from, script_in, then, with_lines}
use Rattle.occheck_commands.specs.Script.Header.{Alone, Texts}
use Rattle.occheck_commands.specs.declared.first.Lines.{Lines}
use Rattle.occheck_script.specs.declared.begun.Begun.{Begun}
use Rattle.occheck_script.specs.declared.begun.Answered.{Answered}
use Rattle.occheck_script.specs.inside.Begun.{IsBegun, IsLeft}
use Rattle.occheck_script.specs.inside.Going.{IsRefusedIn}

-- ---- a line that is not empty says something

texts_say : (n k : ℕ) (edit : Edit) (name : List ℕ) (lines : List (List ℕ)) (f : ℕ → List (List ℕ) → Script) (fits : Bool)
    → IsRefusedIn 0 (cond fits (then n (with_lines edit name (take k lines)) (f (n + 1 + k) (drop k lines))) (ended (Some n)))
texts_say n k edit name lines f true = inl (omega arith)
texts_say n k edit name lines f false = inr (refl, refl)

command_says : (n : ℕ) (h : Option Header) (lines : List (List ℕ)) (f : ℕ → List (List ℕ) → Script) → IsRefusedIn 0 (command_at n h lines f)
command_says n None lines f = inr (refl, refl)
command_says n (Some (Alone command)) lines f = inl (omega arith)
command_says n (Some (Texts edit name k)) lines f = texts_say n k edit name lines f (nat_le k (length lines))

lines_say : (over : Bool) (n b : ℕ) (line : List ℕ) (lines : List (List ℕ)) → IsRefusedIn 0 (script_from over n ((b ∷ line) ∷ lines))
lines_say over n b line lines = command_says n (header (b ∷ line)) lines (script_in (suc (length lines)) over)

put_first : (b : ℕ) (lines : List (List ℕ)) → (line : List ℕ) × (more : List (List ℕ)) × (put_before b lines ≡ (b ∷ line) ∷ more)
put_first b [] = ([], [], refl)
put_first b (line ∷ lines) = (line, lines, refl)

cut_by : (b : ℕ) (lines : List (List ℕ)) (is : Bool) → (b == 10) ≡ is → (b ≡ 10 → ⊥) → (line : List ℕ) × (more : List (List ℕ)) × (cond is ([] ∷ lines) (put_before b lines) ≡ (b ∷ line) ∷ more)
cut_by b lines true e h = absurd (h (eqb-true b 10 e))
cut_by b lines false e h = put_first b lines

some_lines_say : (n m b : ℕ) (line : List ℕ) (lines : List (List ℕ)) → IsRefusedIn 0 (script_from true n (take m ((b ∷ line) ∷ lines)))
some_lines_say n zero b line lines = inr (refl, refl)
some_lines_say n (suc m) b line lines = lines_say true n b line (take m lines)

byte_says : (over : Bool) (n b : ℕ) (bytes : List ℕ) → (b ≡ 10 → ⊥) → IsRefusedIn 0 (ending over n (b ∷ bytes))
byte_says true n b bytes h =
    let c = cut_by b (cut_lines bytes) (b == 10) refl h in
    subst (λ (x : List (List ℕ)). IsRefusedIn 0 (script_from true n (take (feeds (b ∷ bytes)) x))) (sym c.2) (some_lines_say n (feeds (b ∷ bytes)) b c.0 c.1)
byte_says false n b bytes h =
    let c = cut_by b (cut_lines bytes) (b == 10) refl h in
    subst (λ (x : List (List ℕ)). IsRefusedIn 0 (script_from false n x)) (sym c.2) (lines_say false n b c.0 c.1)

-- where bytes do not begin with LF, there is a command or a fault
pub bytes_say : (over : Bool) (n : ℕ) (bytes more : List ℕ) → IsNoFeed bytes → 0 < length bytes → IsRefusedIn 0 (ending over n (bytes ++ more))
bytes_say over n [] more h z = absurd (omega arith)
bytes_say over n (b ∷ bytes) more h z = byte_says over n b (bytes ++ more) h

-- ---- what comes behind

pub feeds_append : (xs ys : List ℕ) → feeds (xs ++ ys) ≡ feeds xs + feeds ys
feeds_append [] ys = omega arith
feeds_append (x ∷ xs) ys = omega (arith, feeds_append xs ys)

pub lacking_more : (line lacks few : ℕ) (bytes piece : List ℕ) → IsLacking line bytes lacks → few ≡ lacks - feeds piece → IsLacking line (bytes ++ piece) few
lacking_more line lacks few bytes piece h e more f =
    ap (λ (x : List ℕ). (ending true line x).commands) (append_assoc bytes piece more) ∙ h (piece ++ more) (omega (arith, feeds_append piece more))

pub nothing_lacks : (line : ℕ) → IsLacking line [] 1
nothing_lacks line more f = let z : feeds more ≡ 0 = omega arith in ap (λ (n : ℕ). (script_from true line (take n (cut_lines more))).commands) z

pub no_feed_append : (a b : List ℕ) → IsNoFeed a → IsNoFeed b → IsNoFeed (a ++ b)
no_feed_append [] b h k = k
no_feed_append (x ∷ a) b h k = h

-- what has no LF does not begin with one
pub no_feed_in : (bytes : List ℕ) → feeds bytes ≡ 0 → IsNoFeed bytes
no_feed_in [] h = tt
no_feed_in (b ∷ bytes) h = λ e. let k : feeds (10 ∷ bytes) ≡ 0 = subst (λ (x : ℕ). feeds (x ∷ bytes) ≡ 0) e h in absurd (omega arith)

drop_seam : (front left : List ℕ) → drop (length front) (front ++ left) ≡ left
drop_seam [] left = refl
drop_seam (x ∷ front) left = drop_seam front left

-- the last bytes, by how many are before them
pub drop_front : (bytes left : List ℕ) → ((front : List ℕ) × (bytes ≡ front ++ left)) → (n : ℕ) → n ≡ length bytes - length left → left ≡ drop n bytes
drop_front bytes left h n e =
    let k : n ≡ length h.0 = omega (arith, ap (λ (x : List ℕ). length x) h.1, length-append h.0 left) in
    let d : drop (length h.0) (h.0 ++ left) ≡ left = drop_seam h.0 left in
    sym (ap (λ (m : ℕ). drop m bytes) k ∙ ap (λ (x : List ℕ). drop (length h.0) x) h.1 ∙ d)

pub all_are_last : (lines : Lines) → AreEnded lines → AreLast lines lines
all_are_last lines h = record { are_ended = h; last = ([], refl); line = omega arith }

pub last_are_last : (lines rest left : Lines) → AreLast lines rest → AreLast rest left → AreLast lines left
last_are_last lines rest left h k = record {
  are_ended = k.are_ended;
  last = (h.last.0 ++ k.last.0, h.last.1 ∙ ap (λ (x : List ℕ). h.last.0 ++ x) k.last.1 ∙ sym (append_assoc h.last.0 k.last.0 left.bytes.now));
  line = omega (arith, h.line, k.line);
}

-- what is left of lines that are ended
pub is_left : (lines left : Lines) (used lacks : ℕ) → AreLast lines left → IsUnfinished left lacks → used ≡ length lines.bytes.now - length left.bytes.now → IsLeft lines.line lines.bytes.now (record { used = used; line = left.line; lacks = lacks })
is_left lines left used lacks l p e =
    let d : left.bytes.now ≡ drop used lines.bytes.now = drop_front lines.bytes.now left.bytes.now l.last used e in
    record {
      used = omega arith;
      begins = subst IsNoFeed d p.begun;
      lacking = subst (λ (x : List ℕ). IsLacking left.line x lacks) d p.lacking;
      some = p.some;
      at_end = λ over. subst (λ (x : List ℕ). ending over left.line x ≡ cut_short over left.line x) d (p.at_end over);
      next_line = omega (arith, ap (λ (x : List ℕ). length x) d, l.line);
    }

-- and of bytes of which they are the ended lines
pub is_begun : (begun : Begun) (bytes lines behind : List ℕ) (line : ℕ) (answered : Answered) → bytes ≡ lines ++ behind → feeds behind ≡ 0 → IsLeft line lines answered
    → begun.bytes.items ≡ drop answered.used bytes → begun.line ≡ answered.line → begun.lacks ≡ answered.lacks → IsBegun begun
is_begun begun bytes lines behind line answered e z h b l k =
    let d : begun.bytes.items ≡ drop answered.used lines ++ behind = b ∙ ap (λ (x : List ℕ). drop answered.used x) e ∙ drop-append-le answered.used lines behind h.used in
    record {
      begins = subst IsNoFeed (sym d) (no_feed_append (drop answered.used lines) behind h.begins (no_feed_in behind z));
      lacking =
          subst (λ (x : List ℕ). IsLacking begun.line x begun.lacks) (sym d)
          (subst (λ (n : ℕ). IsLacking n (drop answered.used lines ++ behind) begun.lacks) (sym l)
          (subst (λ (n : ℕ). IsLacking answered.line (drop answered.used lines ++ behind) n) (sym k) (lacking_more answered.line answered.lacks answered.lacks (drop answered.used lines) behind h.lacking (omega arith))));
    }

-- a piece more was read of what was begun
pub is_begun_more : (begun : Begun) (bytes piece : List ℕ) (line lacks few : ℕ) → IsLacking line bytes lacks → IsNoFeed (bytes ++ piece) → begun.bytes.items ≡ bytes ++ piece → begun.line ≡ line → few ≡ lacks - feeds piece → begun.lacks ≡ few → IsBegun begun
is_begun_more begun bytes piece line lacks few h n b l e k = record {
  begins = subst IsNoFeed (sym b) n;
  lacking =
      subst (λ (x : List ℕ). IsLacking begun.line x begun.lacks) (sym b)
      (subst (λ (m : ℕ). IsLacking m (bytes ++ piece) begun.lacks) (sym l) (subst (λ (m : ℕ). IsLacking line (bytes ++ piece) m) (sym k) (lacking_more line lacks few bytes piece h e)));
}

-- bytes that were split are their parts
pub parts_are : (items bytes front back : List ℕ) (n : ℕ) → bytes ≡ items → front ≡ take n bytes → back ≡ drop n bytes → items ≡ front ++ back
parts_are items bytes front back n e f b = let t : take n bytes ++ drop n bytes ≡ bytes = take-append-drop n bytes in cc
