use Rattle.std.proofs.Common.{◌≡◌, ◌∙◌, Bool, List, None, Some, [], ap, append-nil, cond, drop, length, nat_lt, subst, sym, ◌||◌, ℕ}
use Rattle.occheck_commands.specs.Left.{ending}
use Rattle.occheck_commands.specs.Lines.{last_lines}
use Rattle.occheck_commands.specs.Script.{ended}
use Rattle.occheck_script.specs.inside.Going.{IsRefusedIn}
use Rattle.occheck_script.proofs.Partial.{bytes_say}
use Rattle.occheck_script.proofs.Running.{end_says, end_stops, end_written, fault_written, stopped_memory}
use Rattle.occheck_script.proofs.run.end.Goals as goal

pub returns-in_default-clause-reported : goal.returns-in_default-clause-reported
returns-in_default-clause-reported g c = λ read r.
    stopped_memory read c.args.desk (ending c.args.over c.args.begun.line c.args.begun.bytes.items) (g.W.ByteOut.written c.args.writer.now)
    (subst (λ (x : List ℕ). IsRefusedIn 0 (ending c.args.over c.args.begun.line x)) (append-nil c.args.begun.bytes.items) (bytes_say c.args.over c.args.begun.line c.args.begun.bytes.items [] c.requires.begun.begins c.in_default.ensures.refused))

pub returns-then-is_cut_short-clause-reported : goal.returns-then-is_cut_short-clause-reported
returns-then-is_cut_short-clause-reported g c =
    let d : c.split_at.result.1.now ≡ drop c.in-Ok-answer_lines.answered.used c.as_slice.result.now = c.split_at.ensures.back ∙ ap (λ (x : List ℕ). drop c.in-Ok-answer_lines.answered.used x) (c.as_slice-2.ensures.value ∙ sym c.as_slice.ensures.value) in
    end_says c.args.over c.args.begun.line c.args.begun.bytes.items c.as_slice.result.now c.in-Ok-answer_lines.answered.line (drop c.in-Ok-answer_lines.answered.used c.as_slice.result.now) _ _ _ _ _ (ended (Some c.in-Ok-answer_lines.answered.line)) _ (ap (λ (x : List ℕ). last_lines c.args.over x) c.as_slice.ensures.value ∙ c.in-Ok.ensures.lines) c.in-Ok-answer_lines.ensures.goes_on
    (c.in-Ok-answer_lines.ensures.left.at_end c.args.over ∙ ap (λ (x : List ℕ). ended (cond (c.args.over || nat_lt 0 (length x)) (Some c.in-Ok-answer_lines.answered.line) None)) (sym d) ∙ ap (λ (x : Bool). ended (cond x (Some c.in-Ok-answer_lines.answered.line) None)) (sym c.if-is_cut_short.ensures))
    (λ read. fault_written read c.answer_lines.new.desk c.in-Ok-answer_lines.answered.line (g.W.ByteOut.written c.answer_lines.new.writer) (g.W.ByteOut.written c.report_fault.new.writer) c.report_fault.result c.report_fault.ensures.reported)

pub returns-else-is_cut_short-clause-reported : goal.returns-else-is_cut_short-clause-reported
returns-else-is_cut_short-clause-reported g c =
    let d : c.split_at.result.1.now ≡ drop c.in-Ok-answer_lines.answered.used c.as_slice.result.now = c.split_at.ensures.back ∙ ap (λ (x : List ℕ). drop c.in-Ok-answer_lines.answered.used x) (c.as_slice-2.ensures.value ∙ sym c.as_slice.ensures.value) in
    end_says c.args.over c.args.begun.line c.args.begun.bytes.items c.as_slice.result.now c.in-Ok-answer_lines.answered.line (drop c.in-Ok-answer_lines.answered.used c.as_slice.result.now) _ _ _ _ _ (ended None) _ (ap (λ (x : List ℕ). last_lines c.args.over x) c.as_slice.ensures.value ∙ c.in-Ok.ensures.lines) c.in-Ok-answer_lines.ensures.goes_on
    (c.in-Ok-answer_lines.ensures.left.at_end c.args.over ∙ ap (λ (x : List ℕ). ended (cond (c.args.over || nat_lt 0 (length x)) (Some c.in-Ok-answer_lines.answered.line) None)) (sym d) ∙ ap (λ (x : Bool). ended (cond x (Some c.in-Ok-answer_lines.answered.line) None)) (sym c.if-is_cut_short.ensures))
    (λ read. end_written read c.answer_lines.new.desk (g.W.ByteOut.written c.answer_lines.new.writer) c.end_run.result c.end_run.ensures)

pub returns-in-Err-clause-reported : goal.returns-in-Err-clause-reported
returns-in-Err-clause-reported g c = λ read r.
    end_stops c.args.over c.args.begun.line c.args.begun.bytes.items c.as_slice.result.now c.args.desk (g.W.ByteOut.written c.args.writer.now) (g.W.ByteOut.written c.answer_lines.new.writer) c.in-Err.status (ap (λ (x : List ℕ). last_lines c.args.over x) c.as_slice.ensures.value ∙ c.in-Ok.ensures.lines) c.in-Err.ensures.stops read r
