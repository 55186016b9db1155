use Rattle.std.proofs.Common.{◌∙◌, ◌-◌, ap, arith, length}
use Rattle.occ_lines.specs.Lines.{goes_on_token}
use Rattle.occ_lines.proofs.Spelled.{last_asked}
use Rattle.occ_lines.proofs.statement.goes_on.Goals as goal

pub returns-in-len1-up : goal.returns-in-len1-up
returns-in-len1-up c = c.goes_on_token.ensures ∙ ap goes_on_token c.last-item.is ∙ last_asked c.args.tokens.now (length c.args.tokens.now - 1) _ (omega arith)
