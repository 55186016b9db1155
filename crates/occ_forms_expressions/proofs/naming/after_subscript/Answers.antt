use Rattle.occ_forms_expressions.proofs.Following.{subscript_found}
use Rattle.occ_forms_expressions.proofs.Lists.{first_and_more}
use Rattle.std.proofs.Common.{[], refl}
use Rattle.occ_forms_expressions.proofs.naming.after_subscript.Goals as goal

pub returns-clause-found : goal.returns-clause-found
returns-clause-found g c = subscript_found _ _ _ _ _ _ _ _ _ refl refl (first_and_more [] _ _ _ _ refl c.in_ok-all.ensures c.in_ok-append.ensures) (rw c.in-Some.is at c.in_ok-more.ensures.found) c.after_first.ensures.found
