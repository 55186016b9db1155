use Rattle.std.proofs.Common.{refl}
use Rattle.occheck_commands.proofs.Whole.{cut_off_is}
use Rattle.occheck_commands.proofs.text.ended_part.Goals as goal

pub returns-clause-lines : goal.returns-clause-lines
returns-clause-lines c = cut_off_is _ _ _ _ c.ended_length-length.result refl c.as_slice.ensures.value c.truncate.ensures.items c.ended_length-length.ensures.ended c.ended_length-length.ensures.none
