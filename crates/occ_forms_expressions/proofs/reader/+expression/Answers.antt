use Rattle.std.proofs.Common.{sym, ◌∙◌, ap}
use Rattle.occ_forms_expressions.proofs.Begins.{is_begun, no_expr}
use Rattle.occ_forms_expressions.proofs.Classes.{answers_at, answers_end, answers_most, answers_run, applied_all, converted_all, most_end, most_most, most_run, parens_all, value_all}
use Rattle.occ_forms_expressions.proofs.reader.+expression.Goals as goal

pub returns-in-Nothing-clause-only : goal.returns-in-Nothing-clause-only
returns-in-Nothing-clause-only t c = λ z k ends e. no_expr z k _ (ap is_begun (sym c.begins.ensures ∙ c.in-Nothing.is)) e

pub returns-in-Nothing-clause-run : goal.returns-in-Nothing-clause-run
returns-in-Nothing-clause-run t c = λ z k ends none e. no_expr z k _ (ap is_begun (sym c.begins.ensures ∙ c.in-Nothing.is)) e

pub returns-in-Nothing-clause-most : goal.returns-in-Nothing-clause-most
returns-in-Nothing-clause-most t c = λ m type k ends following e. no_expr _ k _ (ap is_begun (sym c.begins.ensures ∙ c.in-Nothing.is)) e

pub returns-in-Extreme-clause-only : goal.returns-in-Extreme-clause-only
returns-in-Extreme-clause-only t c = most_end _ _ (sym c.begins.ensures ∙ c.in-Extreme.is) c.most.ensures.only

pub returns-in-Extreme-clause-run : goal.returns-in-Extreme-clause-run
returns-in-Extreme-clause-run t c = most_run _ _ (sym c.begins.ensures ∙ c.in-Extreme.is)

pub returns-in-Extreme-clause-most : goal.returns-in-Extreme-clause-most
returns-in-Extreme-clause-most t c = most_most _ _ c.most.ensures.only

pub returns-in-Monadic-clause-only : goal.returns-in-Monadic-clause-only
returns-in-Monadic-clause-only t c = answers_end _ _ (applied_all _ _ (sym c.begins.ensures ∙ c.in-Monadic.is) c.applied.ensures.only)

pub returns-in-Monadic-clause-run : goal.returns-in-Monadic-clause-run
returns-in-Monadic-clause-run t c = answers_run _ _ (applied_all _ _ (sym c.begins.ensures ∙ c.in-Monadic.is) c.applied.ensures.only)

pub returns-in-Monadic-clause-most : goal.returns-in-Monadic-clause-most
returns-in-Monadic-clause-most t c = answers_most _ _ (applied_all _ _ (sym c.begins.ensures ∙ c.in-Monadic.is) c.applied.ensures.only)

pub returns-in-Builtin-clause-only : goal.returns-in-Builtin-clause-only
returns-in-Builtin-clause-only t c = answers_end _ _ (converted_all _ _ _ (sym c.begins.ensures ∙ c.in-Builtin.is) c.new.ensures c.converted.ensures.only)

pub returns-in-Builtin-clause-run : goal.returns-in-Builtin-clause-run
returns-in-Builtin-clause-run t c = answers_run _ _ (converted_all _ _ _ (sym c.begins.ensures ∙ c.in-Builtin.is) c.new.ensures c.converted.ensures.only)

pub returns-in-Builtin-clause-most : goal.returns-in-Builtin-clause-most
returns-in-Builtin-clause-most t c = answers_most _ _ (converted_all _ _ _ (sym c.begins.ensures ∙ c.in-Builtin.is) c.new.ensures c.converted.ensures.only)

pub returns-in-Name-clause-only : goal.returns-in-Name-clause-only
returns-in-Name-clause-only t c = answers_end _ _ (answers_at _ _ _ (sym c.begins.ensures ∙ c.in-Name.is) c.named_expression.ensures.only)

pub returns-in-Name-clause-run : goal.returns-in-Name-clause-run
returns-in-Name-clause-run t c = answers_run _ _ (answers_at _ _ _ (sym c.begins.ensures ∙ c.in-Name.is) c.named_expression.ensures.only)

pub returns-in-Name-clause-most : goal.returns-in-Name-clause-most
returns-in-Name-clause-most t c = answers_most _ _ (answers_at _ _ _ (sym c.begins.ensures ∙ c.in-Name.is) c.named_expression.ensures.only)

pub returns-in-Bracket-clause-only : goal.returns-in-Bracket-clause-only
returns-in-Bracket-clause-only t c = answers_end _ _ (answers_at _ _ _ (sym c.begins.ensures ∙ c.in-Bracket.is) c.bracketed_expression.ensures.only)

pub returns-in-Bracket-clause-run : goal.returns-in-Bracket-clause-run
returns-in-Bracket-clause-run t c = answers_run _ _ (answers_at _ _ _ (sym c.begins.ensures ∙ c.in-Bracket.is) c.bracketed_expression.ensures.only)

pub returns-in-Bracket-clause-most : goal.returns-in-Bracket-clause-most
returns-in-Bracket-clause-most t c = answers_most _ _ (answers_at _ _ _ (sym c.begins.ensures ∙ c.in-Bracket.is) c.bracketed_expression.ensures.only)

pub returns-in-Parens-clause-only : goal.returns-in-Parens-clause-only
returns-in-Parens-clause-only t c = answers_end _ _ (parens_all _ _ (sym c.begins.ensures ∙ c.in-Parens.is) c.run.ensures.only)

pub returns-in-Parens-clause-run : goal.returns-in-Parens-clause-run
returns-in-Parens-clause-run t c = answers_run _ _ (parens_all _ _ (sym c.begins.ensures ∙ c.in-Parens.is) c.run.ensures.only)

pub returns-in-Parens-clause-most : goal.returns-in-Parens-clause-most
returns-in-Parens-clause-most t c = answers_most _ _ (parens_all _ _ (sym c.begins.ensures ∙ c.in-Parens.is) c.run.ensures.only)

pub returns-in-Value-clause-only : goal.returns-in-Value-clause-only
returns-in-Value-clause-only t c = answers_end _ _ (value_all _ _ (sym c.begins.ensures ∙ c.in-Value.is) c.run-in-Value.ensures.only)

pub returns-in-Value-clause-run : goal.returns-in-Value-clause-run
returns-in-Value-clause-run t c = answers_run _ _ (value_all _ _ (sym c.begins.ensures ∙ c.in-Value.is) c.run-in-Value.ensures.only)

pub returns-in-Value-clause-most : goal.returns-in-Value-clause-most
returns-in-Value-clause-most t c = answers_most _ _ (value_all _ _ (sym c.begins.ensures ∙ c.in-Value.is) c.run-in-Value.ensures.only)
