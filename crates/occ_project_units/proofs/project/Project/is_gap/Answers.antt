use Rattle.occ_project_units.proofs.Finding.{none_between}
use Rattle.occ_project_units.proofs.project.Project.is_gap.Goals as goal

pub returns-then-is_before : goal.returns-then-is_before
returns-then-is_before c = λ after. none_between c.args.name c.args.self.now c.args.index (c.is_before.ensures c.if-is_before.true) (c.is_after.ensures after)
