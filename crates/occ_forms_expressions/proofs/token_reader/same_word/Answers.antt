use Rattle.std.proofs.Common.{sym, ◌∙◌}
use denote.Enum.Bare.{same_true, true_same}
use Rattle.occ_lines.specs.contracts.token.Word.{the_type}
use Rattle.occ_forms_expressions.proofs.token_reader.same_word.Goals as goal

pub returns : goal.returns
returns c = (λ h. same_true the_type tt _ _ (sym (c.eq.ensures) ∙ h), λ e. c.eq.ensures ∙ true_same the_type _ _ e)
