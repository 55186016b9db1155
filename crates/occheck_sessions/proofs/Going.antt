-- How the answers of a session go on from command to command.
use Rattle.std.proofs.Common.{◌≡◌, ◌∙◌, ◌+◌, ℕ, List, [], ◌∷◌, ◌++◌, Option, Some, None, refl, ap, sym, subst, append_assoc, append-nil}
use Rattle.occ_board.specs.declared.entry.Edit.{Edit}
use Rattle.occ_board.specs.declared.entry.Entry.{Entry}
use Rattle.occheck_commands.specs.Script.{Command, Placed, Script, ended, then}
use Rattle.occheck_script.specs.Machine.{IsReading, Reading, ReadsCommand}
use Rattle.occheck_sessions.specs.Sessions.{AreAnswers, IsAnswer, edits_of}

-- what answers the commands that are left, after the edits made so far, completes the text
abbrev pub GoesOn : Reading → List Entry → ℕ → Script → List Edit → List ℕ → Script → Type 0
GoesOn read es k script made text left =
    IsReading read left.commands × ((more : List ℕ) → AreAnswers read es k made left.commands more → AreAnswers read es k [] script.commands (text ++ more))

pub begun : (read : Reading) (es : List Entry) (k : ℕ) (script left : Script) → left ≡ script → IsReading read script.commands → GoesOn read es k script [] [] left
begun read es k script left e r = subst (λ (s : Script). GoesOn read es k script [] [] s) (sym e) (r, λ more h. h)

reads_next : (read : Reading) (left rest : Script) (n : ℕ) (c : Command) → left ≡ then n c rest → IsReading read left.commands → ReadsCommand read c × IsReading read rest.commands
reads_next read left rest n c e r = subst (λ (s : Script). IsReading read s.commands) e r

-- the command that comes next reads its text
pub reads_command : (read : Reading) (es : List Entry) (k : ℕ) (script left rest : Script) (n : ℕ) (c : Command) (made : List Edit) (text : List ℕ) → GoesOn read es k script made text left → left ≡ then n c rest
    → ReadsCommand read c
reads_command read es k script left rest n c made text g e = (reads_next read left rest n c e g.0).0

pub one_more : (read : Reading) (es : List Entry) (k : ℕ) (script left rest : Script) (n : ℕ) (c : Command) (made next : List Edit) (text answer after : List ℕ)
    → GoesOn read es k script made text left → left ≡ then n c rest → IsAnswer read es k made c answer next → after ≡ text ++ answer → GoesOn read es k script next after rest
one_more read es k script left rest n c made next text answer after g e a t = (
  (reads_next read left rest n c e g.0).1,
  λ more h.
      let whole : AreAnswers read es k made (then n c rest).commands (answer ++ more) = (answer, more, next, refl, a, h) in
      let all : AreAnswers read es k [] script.commands (text ++ (answer ++ more)) = g.1 (answer ++ more) (subst (λ (s : Script). AreAnswers read es k made s.commands (answer ++ more)) (sym e) whole) in
      subst (λ (x : List ℕ). AreAnswers read es k [] script.commands x) (sym (ap (λ (x : List ℕ). x ++ more) t ∙ append_assoc text answer more)) all,
)

pub at_end : (read : Reading) (es : List Entry) (k : ℕ) (script left : Script) (made : List Edit) (text : List ℕ) → GoesOn read es k script made text left → left ≡ ended None → edits_of k es ≡ made
    → AreAnswers read es k [] script.commands text
at_end read es k script left made text g e m =
    let all : AreAnswers read es k [] script.commands (text ++ []) = g.1 [] (subst (λ (s : Script). AreAnswers read es k made s.commands []) (sym e) (refl, m)) in
    subst (λ (x : List ℕ). AreAnswers read es k [] script.commands x) (append-nil text) all

-- the same, where something was written before
abbrev pub GoesOnAfter : Reading → List Entry → ℕ → Script → List Edit → List ℕ → List ℕ → Script → Type 0
GoesOnAfter read es k script made before text left = (answers : List ℕ) × (text ≡ before ++ answers) × GoesOn read es k script made answers left

pub begun_after : (read : Reading) (es : List Entry) (k : ℕ) (script left : Script) (before : List ℕ) → left ≡ script → IsReading read script.commands → GoesOnAfter read es k script [] before before left
begun_after read es k script left before e r = ([], sym (append-nil before), begun read es k script left e r)

pub one_more_after : (read : Reading) (es : List Entry) (k : ℕ) (script left rest : Script) (n : ℕ) (c : Command) (made next : List Edit) (before text answer after : List ℕ)
    → GoesOnAfter read es k script made before text left → left ≡ then n c rest → IsAnswer read es k made c answer next → after ≡ text ++ answer → GoesOnAfter read es k script next before after rest
one_more_after read es k script left rest n c made next before text answer after g e a t = (
  g.0 ++ answer,
  t ∙ ap (λ (x : List ℕ). x ++ answer) g.1 ∙ append_assoc before g.0 answer,
  one_more read es k script left rest n c made next g.0 answer (g.0 ++ answer) g.2 e a refl,
)
