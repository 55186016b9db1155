use Rattle.std.proofs.Common.{◌∙◌, rules}
use Rattle.occ_project_units.proofs.OtherReaders.{ok_more, with_own, without_own}
use Rattle.occ_project_units.proofs.readers.with_itself.Goals as goal

pub returns-then-is_unit : goal.returns-then-is_unit
returns-then-is_unit c =
    ok_more _ _ c.with_index.result (λ all h. with_own c.args.project.now c.files-files.ensures.in_order c.args.index c.requires.within c.args.others.now all (search rules) c.requires.others h) c.with_index.ensures

pub returns-else-is_unit : goal.returns-else-is_unit
returns-else-is_unit c =
    ok_more _ _ c.from_slice.result (λ all h. h ∙ without_own c.args.project.now c.files-files.ensures.in_order c.args.index c.requires.within c.args.others.now (search rules) c.requires.others) c.from_slice.ensures
