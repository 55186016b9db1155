use Rattle.occheck_commands.proofs.Whole.{ended_up_to}
use Rattle.occheck_commands.proofs.text.ended_length.Goals as goal

pub returns-else-bytes-length-ne10-clause-ended : goal.returns-else-bytes-length-ne10-clause-ended
returns-else-bytes-length-ne10-clause-ended c = ended_up_to c.loop-length.length c.args.bytes.now c.loop-length-test.true c.loop-length.invariant.within c.if-bytes-length-ne10.false
