use Rattle.occ_project_units.proofs.Renewed.{reader_law, reader_within}
use Rattle.occ_project_units.proofs.laws.readers_law.Goals as goal

pub returns-clause-readers : goal.returns-clause-readers
returns-clause-readers c = λ files p q project lt within. reader_law c.sources_law.ensures files p q project lt within

pub returns-clause-within : goal.returns-clause-within
returns-clause-within c = λ files p q. reader_within c.sources_law.ensures files p q
