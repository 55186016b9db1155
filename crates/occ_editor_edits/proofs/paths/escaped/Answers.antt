use Rattle.std.proofs.Common.{◌≡◌, ◌∙◌, arith, refl}
use Rattle.occ_editor_edits.proofs.paths.escaped.Goals as goal

pub returns-clause-percent : goal.returns-clause-percent
returns-clause-percent c = c.remove-5.ensures.others 37 (omega arith) (λ e. omega (arith, e)) ∙ c.remove-4.ensures.others 37 (omega arith) (λ e. omega (arith, e)) ∙ c.remove-3.ensures.others 37 (omega arith) (λ e. omega (arith, e)) ∙ c.remove-2.ensures.others 37 (omega arith) (λ e. omega (arith, e)) ∙ c.remove.ensures.others 37 (omega arith) (λ e. omega (arith, e)) ∙ refl

pub returns-clause-slash : goal.returns-clause-slash
returns-clause-slash c = c.remove-5.ensures.others 47 (omega arith) (λ e. omega (arith, e)) ∙ c.remove-4.ensures.others 47 (omega arith) (λ e. omega (arith, e)) ∙ c.remove-3.ensures.others 47 (omega arith) (λ e. omega (arith, e)) ∙ c.remove-2.ensures.others 47 (omega arith) (λ e. omega (arith, e)) ∙ c.remove.ensures.removed
