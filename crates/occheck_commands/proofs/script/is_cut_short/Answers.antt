use Rattle.std.proofs.Common.{length, sym}
use Rattle.occheck_commands.proofs.Going.{unfinished_decides}
use Rattle.occheck_commands.proofs.script.is_cut_short.Goals as goal

pub returns-else-over : goal.returns-else-over
returns-else-over c = sym (unfinished_decides c.args.over c.is_empty.result (length c.args.left.now) c.if-over.false c.is_empty.ensures)
