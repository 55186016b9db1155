use Rattle.occ_lines.proofs.Spelled.{handed_all, handed_more, handed_none}
use Rattle.occ_lines.proofs.reader.hand_on.Goals as goal

pub loop-sink-init : goal.loop-sink-init
loop-sink-init g c = handed_none (g.S.Sink.holds c.args.sink.now) c.args.found.now

pub loop-sink-preserved : goal.loop-sink-preserved
loop-sink-preserved g c =
    handed_more (g.S.Sink.holds c.args.sink.now) (g.S.Sink.holds c.loop-sink.sink) (g.S.Sink.holds c.take.new.self) _ _ _ _ c.remove.ensures.item c.remove.ensures.rest c.in_ok-take.ensures c.loop-sink.invariant

pub returns-clause-taken : goal.returns-clause-taken
returns-clause-taken g c = handed_all _ _ _ _ (c.is_empty.ensures.0 c.loop-sink-test.false) c.loop-sink.invariant
