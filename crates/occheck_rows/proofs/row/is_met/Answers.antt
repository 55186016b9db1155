use Rattle.std.proofs.Common.{◌∙◌, ap, sym, Some, List, ℕ}
use Rattle.std.proofs.lemmas.Bool.{eqb-true}
use Rattle.std.proofs.lemmas.Slice.Eq.{bytes_eq-Decides}
use Rattle.occheck_commands.specs.Script.{script_of}
use Rattle.occheck_rows.proofs.Finding.{met}
use Rattle.occheck_rows.proofs.row.is_met.Goals.{then-code-row, else-code-row}
use Rattle.occheck_rows.proofs.row.is_met.Goals as goal

pub returns : goal.returns
returns c = λ is s read r.
    elim c.if-code-row.branch [
      | then-code-row w ↦
          met read (script_of c.args.row.now.script.items) _ _ _ _ _ _ (c.run_script-status.ensures.reported _ (ap (λ (x : List ℕ). Some x) (c.new-paper.ensures.bytes ∙ c.as_slice.ensures.value)) read r) c.new-page.ensures.bytes c.code.ensures w.if-code-row.true
          (sym w.bytes.ensures ∙ (bytes_eq-Decides _ _).0 (sym w.eq.ensures ∙ sym w.result-is ∙ is) ∙ w.as_slice-then-code-row.ensures.value) s
      | else-code-row w ↦ absurd (w.if-code-row.false (eqb-true _ _ (sym w.result-is ∙ is)))
    ]
