use Rattle.std.proofs.Common.{◌≡◌, ◌∙◌, ◌++◌, List, ℕ, ap, arith, drop, subst, sym}
use Rattle.std.proofs.lemmas.List.{drop-append-le}
use Rattle.std.proofs.lemmas.Result.{err_from_is_err_and}
use Rattle.occheck_commands.specs.Lines.{feeds}
use Rattle.occheck_script.specs.inside.Going.{GoesOn, Stops}
use Rattle.occheck_script.proofs.Left.{passed_on}
use Rattle.occheck_script.proofs.Partial.{is_begun, parts_are}
use Rattle.occheck_script.proofs.Running.{goes_on_behind, stops_behind}
use Rattle.occheck_script.proofs.answering.answer_begun.Goals as goal

pub returns-in_err-answered-clause-stops : goal.returns-in_err-answered-clause-stops
returns-in_err-answered-clause-stops g c =
    let e = parts_are c.args.begun.now.bytes.items c.as_slice-bytes.result.now c.split_at.result.0.now c.split_at.result.1.now c.ended_length.result c.as_slice-bytes.ensures.value c.split_at.ensures.front c.split_at.ensures.back in
    passed_on c.from_residual.result _ c.in_err-answered.field-0.0 (err_from_is_err_and c.from_residual.result c.from_residual.ensures.1)
    (subst (λ (x : List ℕ). Stops c.args.begun.now.line x c.args.desk.now (g.W.ByteOut.written c.args.writer.now) (g.W.ByteOut.written c.answer_lines.new.writer) c.in_err-answered.field-0.0) (sym e)
    (stops_behind c.args.begun.now.line c.split_at.result.0.now c.split_at.result.1.now c.args.desk.now (g.W.ByteOut.written c.args.writer.now) (g.W.ByteOut.written c.answer_lines.new.writer) c.in_err-answered.field-0.0 c.in_err-answered.ensures.stops))

pub returns-clause-begun : goal.returns-clause-begun
returns-clause-begun g c =
    let e = parts_are c.args.begun.now.bytes.items c.as_slice-bytes.result.now c.split_at.result.0.now c.split_at.result.1.now c.ended_length.result c.as_slice-bytes.ensures.value c.split_at.ensures.front c.split_at.ensures.back in
    is_begun c.keep.new.self c.args.begun.now.bytes.items c.split_at.result.0.now c.split_at.result.1.now c.args.begun.now.line c.in_ok-answered.answered e (ap (λ (x : List ℕ). feeds x) c.split_at.ensures.back ∙ c.ended_length.ensures.none) c.in_ok-answered.ensures.left c.keep.ensures.bytes c.keep.ensures.line c.keep.ensures.lacks

pub returns-clause-lacks : goal.returns-clause-lacks
returns-clause-lacks g c = omega (arith, c.in_ok-answered.ensures.left.some, c.keep.ensures.lacks)

pub returns-clause-goes_on : goal.returns-clause-goes_on
returns-clause-goes_on g c =
    let e = parts_are c.args.begun.now.bytes.items c.as_slice-bytes.result.now c.split_at.result.0.now c.split_at.result.1.now c.ended_length.result c.as_slice-bytes.ensures.value c.split_at.ensures.front c.split_at.ensures.back in
    let d : c.keep.new.self.bytes.items ≡ drop c.in_ok-answered.answered.used c.split_at.result.0.now ++ c.split_at.result.1.now =
    c.keep.ensures.bytes ∙ ap (λ (x : List ℕ). drop c.in_ok-answered.answered.used x) e ∙ drop-append-le c.in_ok-answered.answered.used c.split_at.result.0.now c.split_at.result.1.now c.in_ok-answered.ensures.left.used in
    subst (λ (x : List ℕ). GoesOn c.args.begun.now.line x c.keep.new.self.line c.keep.new.self.bytes.items c.args.desk.now c.answer_lines.new.desk (g.W.ByteOut.written c.args.writer.now) (g.W.ByteOut.written c.answer_lines.new.writer)) (sym e)
    (subst (λ (x : List ℕ). GoesOn c.args.begun.now.line (c.split_at.result.0.now ++ c.split_at.result.1.now) c.keep.new.self.line x c.args.desk.now c.answer_lines.new.desk (g.W.ByteOut.written c.args.writer.now) (g.W.ByteOut.written c.answer_lines.new.writer)) (sym d)
    (subst (λ (n : ℕ). GoesOn c.args.begun.now.line (c.split_at.result.0.now ++ c.split_at.result.1.now) n (drop c.in_ok-answered.answered.used c.split_at.result.0.now ++ c.split_at.result.1.now) c.args.desk.now c.answer_lines.new.desk (g.W.ByteOut.written c.args.writer.now) (g.W.ByteOut.written c.answer_lines.new.writer)) (sym c.keep.ensures.line)
    (goes_on_behind _ _ c.split_at.result.1.now _ _ _ _ _ _ c.in_ok-answered.ensures.goes_on)))
