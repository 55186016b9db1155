use Rattle.std.proofs.Common.{◌∙◌, sym}
use Rattle.occ_lines.proofs.SameLines.{same_lines, same_list}
use Rattle.occ_lines.proofs.alike.are_alike.Goals as goal

pub returns-clause-lines : goal.returns-clause-lines
returns-clause-lines c = λ is xs h. same_lines c.args.a.now c.args.b.now xs (sym c.have_alike_lines.ensures ∙ is) h

pub returns-clause-listed : goal.returns-clause-listed
returns-clause-listed c = λ is. same_list c.args.a.now c.args.b.now (sym c.have_alike_lines.ensures ∙ is)
