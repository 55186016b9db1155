use Rattle.std.proofs.Common.{length}
use Rattle.occheck_sessions.proofs.output.+reported_from.Given as goal

abbrev pub decreases-reported_from : goal.decreases-reported_from
decreases-reported_from l = length l.scripts.now
