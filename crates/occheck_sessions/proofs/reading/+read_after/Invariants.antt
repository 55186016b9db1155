use Rattle.std.proofs.Common.{length}
use Rattle.occheck_sessions.proofs.reading.+read_after.Given as goal

abbrev pub decreases-read_after : goal.decreases-read_after
decreases-read_after g l = length l.readers.now
