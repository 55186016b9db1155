use Rattle.std.proofs.Common.{sym, ◌∙◌}
use Rattle.occ_forms_expressions.proofs.Following.{name_converted_all, plain_name_all, subscripted_all}
use Rattle.occ_forms_expressions.proofs.naming.named_expression.Goals as goal

pub returns-in-Some-after-clause-only : goal.returns-in-Some-after-clause-only
returns-in-Some-after-clause-only g c = subscripted_all _ _ _ _ _ (rw c.in-Some.is at c.in_ok-name.ensures) c.in-Some-after.ensures c.subscripted.ensures.element c.subscripted.ensures.converted

pub returns-then-begins_plain-clause-only : goal.returns-then-begins_plain-clause-only
returns-then-begins_plain-clause-only g c = name_converted_all _ _ _ _ (rw c.in-Some.is at c.in_ok-name.ensures) (sym c.begins_plain.ensures ∙ c.if-begins_plain.true) c.name_converted.ensures.only

pub returns-clause-only : goal.returns-clause-only
returns-clause-only g c = plain_name_all _ _ _ _ (rw c.in-Some.is at c.in_ok-name.ensures) c.in_default-after.ensures (sym c.begins_plain.ensures ∙ c.if-begins_plain.false) c.plain_name.ensures.element c.plain_name.ensures.call
