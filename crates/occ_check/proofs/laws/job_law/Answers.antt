use Rattle.occ_check.proofs.Inputs.{is_input, reads_and_uses}
use Rattle.occ_check.proofs.laws.job_law.Goals as goal

pub returns-clause-stands : goal.returns-clause-stands
returns-clause-stands c = λ files u h text. is_input files u h text (c.reads_law.ensures.own files u h)

pub returns-clause-any : goal.returns-clause-any
returns-clause-any c = λ files u used h text these. reads_and_uses files u used h text these (c.reads_law.ensures.own files u h)
