use Rattle.std.proofs.Common.{None, Some, refl}
use Rattle.occ_forms_expressions.proofs.Named.{decorated_same, plain_is_not_decorated}
use Rattle.occ_forms_expressions.proofs.operand.after_literal.Goals as goal

pub returns-in_default-clause-plain : goal.returns-in_default-clause-plain
returns-in_default-clause-plain g c k ends e = rw c.in_default.is at c.in_ok-decoration.ensures.only None k ends e

pub returns-in_default-clause-decorated : goal.returns-in_default-clause-decorated
returns-in_default-clause-decorated g c ty k ends e = rw c.in_default.is at c.in_ok-decoration.ensures.only (Some ty) k ends e

pub returns-in-None-clause-decorated : goal.returns-in-None-clause-decorated
returns-in-None-clause-decorated g c ty k ends e = let h = rw c.in-Some.is at c.in_ok-decoration.ensures.only (Some ty) k ends e in
    plain_is_not_decorated ty _ c.in-None.is h.0

pub returns-in-Some-decoration-clause-decorated : goal.returns-in-Some-decoration-clause-decorated
returns-in-Some-decoration-clause-decorated g c ty k ends e = let h = rw c.in-Some.is at c.in_ok-decoration.ensures.only (Some ty) k ends e in
    (decorated_same _ _ _ ty _ refl c.in-Some-decoration.is h.0, h.1)
