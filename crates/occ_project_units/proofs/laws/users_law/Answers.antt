use Rattle.occ_project_units.proofs.Users.{rest_used, user_within}
use Rattle.occ_project_units.proofs.laws.users_law.Goals as goal
use Rattle.occ_project_units.specs.Indices.{graph_of}

pub returns-clause-users : goal.returns-clause-users
returns-clause-users c = λ files p q. c.sources_law.ensures (graph_of files) p q

pub returns-clause-rests : goal.returns-clause-rests
returns-clause-rests c = λ files p q. rest_used c.sources_law.ensures files p q

pub returns-clause-within : goal.returns-clause-within
returns-clause-within c = λ files p q. user_within c.sources_law.ensures files p q
