-- What a run has written at its end.
use Rattle.std.proofs.Common.{◌≡◌, ◌⊎◌, ◌∙◌, ◌+◌, ℕ, Bool, true, false, List, [], ◌∷◌, ◌++◌, Option, Some, None, map, refl, ap, sym, subst, inl, inr}
use Rattle.occ_board.specs.declared.entry.Entry.{Entry}
use Rattle.occheck_commands.specs.Script.{Script}
use Rattle.occheck_script.specs.Machine.{IsReading, Reading}
use Rattle.occheck_script.specs.declared.status.Status.{Status}
use Rattle.occheck_script.specs.declared.status.Status.TheVariants as status
use Rattle.occheck_sessions.specs.Output.{AreReading, AreReported, IsWritten, first_fault, session_line}
use Rattle.occheck_sessions.specs.Sessions.{AreAnswers}
use Rattle.occheck_sessions.specs.inside.Written.{IsFaultWritten, IsOutput, IsOutputWritten}

pub run_reported : (read : Reading) (scripts : List Script) (text : List ℕ) (errors : Bool) (before now : Option (List ℕ)) (result : Status)
    → IsOutput read scripts text errors → IsOutputWritten text errors before now result → IsWritten read scripts before now result
run_reported read scripts text errors before now status.Clean o w = (o.0, text, o.1, w.0, sym w.1 ∙ o.2)
run_reported read scripts text errors before now status.Errors o w = (o.0, text, o.1, w.0, sym w.1 ∙ o.2)
run_reported read scripts text errors before now status.ScriptFault o w = absurd w
run_reported read scripts text errors before now status.DeviceFault o w = inr (inl (o.0, text, o.1, w))
run_reported read scripts text errors before now status.NoMemory o w = absurd w
run_reported read scripts text errors before now status.Disagree o w = absurd w

pub fault_reported : (read : Reading) (scripts : List Script) (fault : ℕ × ℕ) (before now : Option (List ℕ)) (result : Status)
    → first_fault 1 scripts ≡ Some fault → IsFaultWritten fault before now result → IsWritten read scripts before now result
fault_reported read scripts fault before now status.Clean f w = absurd w
fault_reported read scripts fault before now status.Errors f w = absurd w
fault_reported read scripts fault before now status.ScriptFault f w = (fault, f, w)
fault_reported read scripts fault before now status.DeviceFault f w = inr (inr (fault, f, w))
fault_reported read scripts fault before now status.NoMemory f w = w
fault_reported read scripts fault before now status.Disagree f w = absurd w

pub reported_more : (read : Reading) (es : List Entry) (k : ℕ) (script : Script) (scripts : List Script) (head answers rest text : List ℕ)
    → head ≡ session_line k → AreAnswers read es k [] script.commands answers → AreReported read es (k + 1) scripts rest → text ≡ (head ++ answers) ++ rest → AreReported read es k (script ∷ scripts) text
reported_more read es k script scripts head answers rest text h a r t =
    (answers, rest, t ∙ ap (λ (x : List ℕ). (x ++ answers) ++ rest) h, a, r)
