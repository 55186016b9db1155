use Rattle.std.proofs.Common.{◌-◌, List, ℕ, arith, length, refl, subst}
use Rattle.std.proofs.lemmas.Result.{err_from_is_err_and}
use Rattle.occheck_commands.specs.Left.{meant}
use Rattle.occheck_script.specs.inside.Going.{GoesOn}
use Rattle.occheck_script.proofs.Left.{all_held, passed_on}
use Rattle.occheck_script.proofs.Partial.{all_are_last, drop_front, is_left, last_are_last}
use Rattle.occheck_script.proofs.Running.{command_halted, fault_stops, held_failed, held_written, holds_more, holds_nothing}
use Rattle.occheck_script.proofs.answering.answer_lines.Goals as goal

pub loop-init : goal.loop-init
loop-init g c = record { last = all_are_last _ c.requires.lines; room = omega arith; fine = c.requires.writer; holding = holds_nothing _ _ _ _ _ c.new-held.ensures.items }

pub returns-in_err-carry_out-in-Command-clause-stops : goal.returns-in_err-carry_out-in-Command-clause-stops
returns-in_err-carry_out-in-Command-clause-stops g c =
    passed_on c.from_residual.result _ c.in_err-carry_out-in-Command.field-0.0 (err_from_is_err_and c.from_residual.result c.from_residual.ensures.1)
    (command_halted _ c.in-Command._line _ _ c.in-Command.left.line _ c.in-Command.left.bytes.now _ _ _ _ _ _ (meant c.in-Command.command) _ c.loop.invariant.holding c.in-Command.ensures.says c.in_err-carry_out-in-Command.ensures.halted)

pub returns-in_err-write_held-in-Fault-clause-stops : goal.returns-in_err-write_held-in-Fault-clause-stops
returns-in_err-write_held-in-Fault-clause-stops g c =
    passed_on c.from_residual-in_err-write_held-in-Fault.result _ c.in_err-write_held-in-Fault.field-0.0 (err_from_is_err_and c.from_residual-in_err-write_held-in-Fault.result c.from_residual-in_err-write_held-in-Fault.ensures.1)
    (held_failed _ _ _ _ _ _ _ _ _ _ _ c.loop.invariant.holding c.in_err-write_held-in-Fault.ensures.front c.in_err-write_held-in-Fault.ensures.failed)

pub returns-in-Fault-clause-stops : goal.returns-in-Fault-clause-stops
returns-in-Fault-clause-stops g c =
    fault_stops _ c.in-Fault.line _ _ _ _ _ _ _ _ _ _ _ c.loop.invariant.holding c.in-Fault.ensures.says (λ b all h. all_held b _ _ all c.in_ok-write_held-in-Fault.ensures.empty (c.in_ok-write_held-in-Fault.ensures.held b all h)) c.report_fault.ensures.reported

pub returns-in_err-write_held-in-Unfinished-clause-stops : goal.returns-in_err-write_held-in-Unfinished-clause-stops
returns-in_err-write_held-in-Unfinished-clause-stops g c =
    passed_on c.from_residual-in_err-write_held-in-Unfinished.result _ c.in_err-write_held-in-Unfinished.field-0.0 (err_from_is_err_and c.from_residual-in_err-write_held-in-Unfinished.result c.from_residual-in_err-write_held-in-Unfinished.ensures.1)
    (held_failed _ _ _ _ _ _ _ _ _ _ _ c.loop.invariant.holding c.in_err-write_held-in-Unfinished.ensures.front c.in_err-write_held-in-Unfinished.ensures.failed)

pub returns-in-Unfinished-clause-left : goal.returns-in-Unfinished-clause-left
returns-in-Unfinished-clause-left g c = is_left c.args.lines c.in-Unfinished.left _ c.in-Unfinished.lacks (last_are_last c.args.lines c.loop.rest c.in-Unfinished.left c.loop.invariant.last c.in-Unfinished.ensures.behind.0) c.in-Unfinished.ensures.behind.1 refl

pub returns-in-Unfinished-clause-goes_on : goal.returns-in-Unfinished-clause-goes_on
returns-in-Unfinished-clause-goes_on g c =
    let l = last_are_last c.args.lines c.loop.rest c.in-Unfinished.left c.loop.invariant.last c.in-Unfinished.ensures.behind.0 in
    subst (λ (x : List ℕ). GoesOn c.args.lines.line c.args.lines.bytes.now c.in-Unfinished.left.line x c.args.desk.now c.loop.desk (g.W.ByteOut.written c.args.writer.now) (g.W.ByteOut.written c.write_held-in-Unfinished.new.writer))
    (drop_front c.args.lines.bytes.now c.in-Unfinished.left.bytes.now l.last (length c.args.lines.bytes.now - length c.in-Unfinished.left.bytes.now) refl)
    (held_written _ _ _ _ c.in-Unfinished.left.line c.in-Unfinished.left.bytes.now _ _ _ _ _ _ c.loop.invariant.holding c.in-Unfinished.ensures.says (λ b all h. all_held b _ _ all c.in_ok-write_held-in-Unfinished.ensures.empty (c.in_ok-write_held-in-Unfinished.ensures.held b all h)))

pub loop-preserved : goal.loop-preserved
loop-preserved g c = record {
  last = last_are_last c.args.lines c.loop.rest c.in-Command.left c.loop.invariant.last c.in-Command.ensures.behind.0;
  room = omega (arith, c.in-Command.ensures.behind.1);
  fine = c.in_ok-carry_out-in-Command.ensures.fine;
  holding = holds_more _ c.in-Command._line _ _ c.in-Command.left.line _ c.in-Command.left.bytes.now _ _ _ _ _ _ _ _ (meant c.in-Command.command) c.loop.invariant.holding c.in-Command.ensures.says c.in_ok-carry_out-in-Command.ensures.after c.in_ok-carry_out-in-Command.ensures.held;
}
