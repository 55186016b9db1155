use Rattle.occ_lines.proofs.Spelled.{unclosed}
use Rattle.occ_lines.proofs.statement.read_string.Goals as goal

pub returns-in-None : goal.returns-in-None
returns-in-None c = rw c.string_ending.ensures (unclosed _ _ _ _ _ c.in_ok-bytes.ensures.gathers (rw c.in-None.is at c.following.ensures))
