use Rattle.std.proofs.Common.{◌∙◌, ◌++◌, List, ℕ, ap, append_assoc, sym}
use Rattle.occheck_commands.specs.Left.{ending}
use Rattle.occheck_script.specs.inside.Going.{Stops}
use Rattle.occheck_script.proofs.Left.{map_err, map_ok}
use Rattle.occheck_script.proofs.Running.{goes_on_nothing, goes_on_same, stops_same}
use Rattle.occheck_script.proofs.run.go_on.Goals as goal

pub returns-then-begun-gt0-clause-goes_on : goal.returns-then-begun-gt0-clause-goes_on
returns-then-begun-gt0-clause-goes_on g c =
    goes_on_nothing _ _ _ _ _ _ (λ over more. c.in_default.ensures.same over more ∙ ap (λ (x : List ℕ). ending over c.args.begun.now.line x) (sym (append_assoc c.args.begun.now.bytes.items c.args.piece.now more)))

pub returns-clause-goes_on : goal.returns-clause-goes_on
returns-clause-goes_on g c =
    map_ok c.answer_begun.result c.answer_begun.ensures.goes_on
    (goes_on_same _ _ _ _ _ _ _ _ _ _ (λ over more. c.in_default.ensures.same over more ∙ ap (λ (x : List ℕ). ending over c.args.begun.now.line x) (sym (append_assoc c.args.begun.now.bytes.items c.args.piece.now more))))

pub returns-clause-stops : goal.returns-clause-stops
returns-clause-stops g c =
    map_err c.answer_begun.result (λ ended. Stops c.add.new.self.line c.add.new.self.bytes.items c.args.desk.now (g.W.ByteOut.written c.args.writer.now) (g.W.ByteOut.written c.answer_begun.new.writer) ended) _ c.answer_begun.ensures.stops
    (λ ended. stops_same c.args.begun.now.line (c.args.begun.now.bytes.items ++ c.args.piece.now) c.add.new.self.line c.add.new.self.bytes.items c.args.desk.now (g.W.ByteOut.written c.args.writer.now) (g.W.ByteOut.written c.answer_begun.new.writer) ended (λ over more. c.in_default.ensures.same over more ∙ ap (λ (x : List ℕ). ending over c.args.begun.now.line x) (sym (append_assoc c.args.begun.now.bytes.items c.args.piece.now more))))
