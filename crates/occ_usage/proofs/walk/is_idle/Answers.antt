use Rattle.std.proofs.Common.{◌∙◌, ap, sym}
use Rattle.occ_usage.proofs.Idle.{idle_abbreviations, idle_parallel, no_body}
use Rattle.occ_usage.specs.Trees.{head_of, trees_of}
use Rattle.occ_usage.proofs.walk.is_idle.Goals as goal

pub returns-in-Uses-clause-body : goal.returns-in-Uses-clause-body
returns-in-Uses-clause-body c t = no_body (head_of c.args.line.now) _ (sym c.get.ensures ∙ c.in-Uses.is)

pub returns-in-Uses-clause-parallel : goal.returns-in-Uses-clause-parallel
returns-in-Uses-clause-parallel c t env = idle_parallel env (head_of c.args.line.now) _ _ (sym c.get.ensures ∙ c.in-Uses.is) (ap trees_of (c.is_empty.ensures.0 t))

pub returns-in-Uses-clause-abbreviations : goal.returns-in-Uses-clause-abbreviations
returns-in-Uses-clause-abbreviations c t env = idle_abbreviations env (head_of c.args.line.now) _ _ (sym c.get.ensures ∙ c.in-Uses.is) (ap trees_of (c.is_empty.ensures.0 t))
