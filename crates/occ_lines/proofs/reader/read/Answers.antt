use Rattle.std.proofs.Common.{◌∙◌, ap, arith, length}
use Rattle.occ_lines.proofs.Sizes.{all_counted, lines_short}
use Rattle.occ_lines.proofs.Spelled.{sent_begins, sent_if_ok, sent_over}
use Rattle.occ_lines.proofs.reader.read.Goals as goal

pub loop-line-init : goal.loop-line-init
loop-line-init g c =
    let all = c.into_iter-line-iterator.ensures.into_iter_gives ∙ c.lines-line-items.ensures.value in
    record {
      sent = sent_begins _ _ _ c.requires.begins all;
      none = c.new-found.ensures;
      counted = all_counted _ _ all;
      short = rw all (lines_short _ c.requires.bytes);
    }

pub loop-line-preserved : goal.loop-line-preserved
loop-line-preserved g c =
    let steps = c.in-Some.ensures.steps in
    record {
      sent = sent_over (g.S.Sink.holds c.loop-line.sink) (g.S.Sink.holds c.hand_on.new.sink) _ _ _ _ c.in-Some.line.now _ _ _ c.loop-line.invariant.none c.in_ok-statement.ensures c.in_ok-hand_on.ensures.taken (rw steps at c.loop-line.invariant.sent);
      none = c.in_ok-hand_on.ensures.none;
      counted = omega (arith, ap length steps);
      short = (rw steps at c.loop-line.invariant.short).1;
    }

pub returns : goal.returns
returns g c =
    sent_if_ok _ (g.S.Sink.holds c.loop-line.sink) (g.S.Sink.holds c.hand_on-2.new.sink) _ _ _ _ _ _ c.in-None.ensures.steps.0 c.loop-line.invariant.none c.in_ok-finish.ensures c.hand_on-2.ensures.taken c.loop-line.invariant.sent
