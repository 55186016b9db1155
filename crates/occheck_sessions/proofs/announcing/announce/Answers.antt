use Rattle.std.proofs.Common.{◌∙◌, ◌++◌, ℕ, List, ap, arith}
use Rattle.occheck_commands.specs.Left.{meant, script_left}
use Rattle.occheck_sessions.proofs.Going.{at_end, begun_after, one_more_after, reads_command}
use Rattle.occheck_sessions.proofs.announcing.announce.Goals as goal

pub returns-in-None : goal.returns-in-None
returns-in-None c = λ read r.
    let g = c.loop-place.invariant.so_far read r in
    (g.0, g.1, at_end read c.args.entries.now c.args.session c.args.script.now (script_left c.loop-place.rest) _ g.0 g.2 c.in-End.ensures.says c.in-None.ensures.none)

pub loop-place-init : goal.loop-place-init
loop-place-init c = record {
  rest = c.begin-rest.ensures.rest;
  room = omega arith;
  within = omega arith;
  so_far = λ read r. begun_after read c.args.entries.now c.args.session c.args.script.now (script_left c.begin-rest.result) c.args.before.items c.begin-rest.ensures.says r;
}

pub loop-place-preserved : goal.loop-place-preserved
loop-place-preserved c = record {
  rest = c.in-Command.ensures.less.0;
  room = omega (arith, c.in-Command.ensures.less.1, c.loop-place.invariant.room);
  within = c.in_ok-answer-in-Command.ensures.within;
  so_far = λ read r.
      let g = c.loop-place.invariant.so_far read r in
      one_more_after read c.args.entries.now c.args.session c.args.script.now (script_left c.loop-place.rest) (script_left c.in-Command.left) _ (meant c.in-Command.command) _ _ c.args.before.items c.loop-place.text.items c.in_ok-answer-in-Command.answer.text.items _ g c.in-Command.ensures.says
      (c.in_ok-answer-in-Command.ensures.announced read (reads_command read c.args.entries.now c.args.session c.args.script.now (script_left c.loop-place.rest) (script_left c.in-Command.left) _ (meant c.in-Command.command) _ g.0 g.2 c.in-Command.ensures.says))
      (c.in_ok-extend_from_slice-in-Command.ensures.items ∙ ap (λ (x : List ℕ). c.loop-place.text.items ++ x) c.as_slice.ensures.value);
}
