use Rattle.std.proofs.Common.{◌∙◌, sym, arith}
use Rattle.occheck_commands.proofs.Over.{over_lines, within_lines, more_than, no_more_than}
use Rattle.occheck_commands.proofs.text.whole_text.Goals as goal

pub returns-then-len-gt-LIMIT-clause-lines : goal.returns-then-len-gt-LIMIT-clause-lines
returns-then-len-gt-LIMIT-clause-lines c = λ all e. over_lines 67108864 _ all _ e (omega arith) c.cut_off.ensures.lines

pub returns-then-len-gt-LIMIT-clause-over : goal.returns-then-len-gt-LIMIT-clause-over
returns-then-len-gt-LIMIT-clause-over c = λ all e. c.cut_off.ensures.over ∙ sym (more_than 67108864 _ all e (omega arith))

pub returns-clause-lines : goal.returns-clause-lines
returns-clause-lines c = λ all e. within_lines 67108864 _ all _ e (omega arith) c.in_ok-bytes.ensures.lines

pub returns-clause-over : goal.returns-clause-over
returns-clause-over c = λ all e. sym (no_more_than 67108864 _ all e (omega arith))
