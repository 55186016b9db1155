-- Answers that are written behind what was written before.
use Rattle.std.proofs.Common.{◌≡◌, ◌∙◌, ◌+◌, ℕ, true, List, [], ◌∷◌, ◌++◌, None, length, refl, ap, sym, subst, append_assoc}
use Rattle.std.specs.List.{list_all}
use Rattle.occ_board.specs.Journal.{IsLegal, nothing, replay}
use Rattle.occ_board.specs.declared.base.Base.{Base}
use Rattle.occ_board.specs.declared.entry.Entry.{Entry}
use Rattle.occ_board.specs.declared.report.Row.{Row}
use Rattle.occ_server.specs.Snapshots.{IsWhole, whole_rows}
use Rattle.occheck_commands.specs.Script.{Script}
use Rattle.occheck_script.specs.Machine.{Reading, report_text}
use Rattle.occheck_sessions.specs.Output.{AreReported, IsRun, first_fault, is_of_one, session_line}
use Rattle.occheck_sessions.specs.Sessions.{AreAnswers}

-- something is written behind this, of which P holds
abbrev pub Appended : List ℕ → List ℕ → (List ℕ → Type 0) → Type 0
Appended before after P = (x : List ℕ) × (after ≡ before ++ x) × P x

-- a session and then those after it
pub more_reported : (read : Reading) (es : List Entry) (k : ℕ) (scripts rest : List Script) (script : Script) (before headed told all : List ℕ) → scripts ≡ script ∷ rest → headed ≡ before ++ session_line k
    → Appended headed told (AreAnswers read es k [] script.commands) → Appended told all (AreReported read es (k + 1) rest) → Appended before all (AreReported read es k scripts)
more_reported read es k scripts rest script before headed told all e h t r = (
  session_line k ++ t.0 ++ r.0,
  r.1 ∙ ap (λ (x : List ℕ). x ++ r.0) (t.1 ∙ ap (λ (x : List ℕ). x ++ t.0) h ∙ append_assoc before (session_line k) t.0) ∙ append_assoc before (session_line k ++ t.0) r.0,
  subst (λ (ss : List Script). AreReported read es k ss (session_line k ++ t.0 ++ r.0)) (sym e) (t.0, r.0, refl, t.2, r.2),
)

-- all sessions, and then the report of the close
pub run_is : (read : Reading) (scripts : List Script) (base : Base) (es seen : List Entry) (rows shown : List Row) (start text lines all : List ℕ) → first_fault 1 scripts ≡ None → base ≡ nothing → IsWhole base es rows → seen ≡ es
    → list_all (is_of_one (length scripts)) es ≡ true → start ≡ [] → Appended start text (AreReported read seen 1 scripts) → shown ≡ rows → lines ≡ report_text shown → all ≡ text ++ lines → IsRun read scripts es all
run_is read scripts base es seen rows shown start text lines all f b w s i z t h l e = record {
  fine = f;
  legal = subst (λ (x : Base). IsLegal x es) b w.legal;
  within = i;
  announced = (
    t.0,
    e ∙ ap (λ (x : List ℕ). x ++ lines) (t.1 ∙ ap (λ (x : List ℕ). x ++ t.0) z)
        ∙ ap (λ (x : List ℕ). t.0 ++ x) (l ∙ ap report_text (h ∙ w.whole ∙ ap (λ (x : Base). whole_rows (replay x es)) b)),
    subst (λ (xs : List Entry). AreReported read xs 1 scripts t.0) s t.2,
  );
}
