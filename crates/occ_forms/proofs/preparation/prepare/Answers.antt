use Rattle.std.proofs.Common.{subst, sym}
use Rattle.occ_forms.specs.Prepared.{IsPrepared}
use Rattle.occ_forms.proofs.preparation.prepare.Goals as goal

pub returns-clause-only : goal.returns-clause-only
returns-clause-only c = λ lines h. c.source_law.ensures c.args.text.now lines c.in_ok-source.field-0.lines h
    (subst (IsPrepared c.args.text.now) (sym c.in_ok-source.ensures.lines) c.in_ok-lines.ensures.lines)
