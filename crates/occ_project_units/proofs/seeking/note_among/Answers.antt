use Rattle.occ_project_units.proofs.Renewed.{among_there}
use Rattle.occ_project_units.proofs.seeking.note_among.Goals as goal

pub note_at-requires-clause-within : goal.note_at-requires-clause-within
note_at-requires-clause-within c = c.requires.within _ (among_there c.args.indices.now c.loop-index.index-index c.loop-index-test.true)
