use Rattle.occ_forms_expressions.proofs.Dimensions.{open_only}
use Rattle.occ_forms_expressions.proofs.types.dimension.Goals as goal

pub returns-in-Some-clause-only : goal.returns-in-Some-clause-only
returns-in-Some-clause-only g c = open_only _ _ c.in-Some.ensures
