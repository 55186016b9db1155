use Rattle.occheck_commands.proofs.Whole.{last_byte_reports}
use Rattle.occheck_commands.proofs.text.is_ended.Goals as goal

pub returns-in-len1-up : goal.returns-in-len1-up
returns-in-len1-up c = last_byte_reports c.args.bytes.now c.in-len1-up.len_at_least
