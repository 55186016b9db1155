use Rattle.std.proofs.Common.{sym, ◌∙◌}
use Rattle.occ_forms_expressions.proofs.Operands.{bracket_only, name_only, value_only}
use Rattle.occ_forms_expressions.proofs.operand.operand.Goals as goal

pub returns-in-Name-clause-only : goal.returns-in-Name-clause-only
returns-in-Name-clause-only g c = name_only _ _ (sym c.begins.ensures ∙ c.in-Name.is) c.named.ensures.element c.named.ensures.call

pub returns-in-Value-clause-only : goal.returns-in-Value-clause-only
returns-in-Value-clause-only g c = value_only _ _ (sym c.begins.ensures ∙ c.in-Value.is) c.value.ensures.literal c.value.ensures.decorated c.value.ensures.truth

pub returns-in-Bracket-clause-only : goal.returns-in-Bracket-clause-only
returns-in-Bracket-clause-only g c = bracket_only _ _ (sym c.begins.ensures ∙ c.in-Bracket.is) c.table.ensures.only
