use Rattle.std.proofs.Common.{◌+◌}
use Rattle.occheck_commands.proofs.FirstLine.{within, cut_is, text_is, begun_is, ended_is}
use Rattle.occheck_commands.proofs.first.first_line.Goals as goal

pub split_at-requires-2 : goal.split_at-requires-2
split_at-requires-2 c = within _ _ c.requires.some c.requires.ended c.length_before-length.ensures.value

pub returns-clause-cut : goal.returns-clause-cut
returns-clause-cut c = cut_is _ _ _ _ c.requires.some c.length_before-length.ensures.value c.split_at.ensures.front c.split_at-2.ensures.back

pub returns-clause-ended : goal.returns-clause-ended
returns-clause-ended c = ended_is c.args.bytes.now _ (c.length_before-length.result + 1) c.split_at-2.ensures.back c.requires.ended

pub returns-clause-text : goal.returns-clause-text
returns-clause-text c = text_is _ _ _ _ c.requires.some c.requires.ended c.length_before-length.ensures.value c.split_at.ensures.front c.split_at-2.ensures.back

pub returns-clause-begun : goal.returns-clause-begun
returns-clause-begun c = begun_is _ _ _ c.requires.some c.length_before-length.ensures.value c.split_at.ensures.front
