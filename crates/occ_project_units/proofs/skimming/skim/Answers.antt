use Rattle.std.proofs.Common.{ap, ◌∙◌}
use Rattle.occ_base.specs.Firsts.{first_indices}
use Rattle.occ_project_units.proofs.Noting.{reads_noted, uses_noted}
use Rattle.occ_project_units.proofs.skimming.skim.Goals as goal

pub returns-clause-reads : goal.returns-clause-reads
returns-clause-reads c =
    c.in_ok-first_indices.ensures ∙ ap first_indices c.as_slice.ensures
    ∙ reads_noted c.args.project.now c.args.unit c.in_ok-names.field-0 c.in_ok-names.ensures

pub returns-clause-uses : goal.returns-clause-uses
returns-clause-uses c =
    c.in_ok-in_order.ensures
    ∙ uses_noted c.args.project.now c.args.unit c.in_ok-names.field-0 c.in_ok-names.ensures
