use Rattle.occ_project_units.proofs.Renewed.{among_there}
use Rattle.occ_project_units.proofs.renewing.facts_of_all.Goals as goal

pub name_at-name-requires : goal.name_at-name-requires
name_at-name-requires c = c.requires _ (among_there c.args.indices.now c.loop-index.index-index c.loop-index-test.true)
