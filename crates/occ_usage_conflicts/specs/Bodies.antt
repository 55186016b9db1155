-- The body of a PROC or a FUNCTION, as it is seen from outside.
use Rattle.std.specs.Prelude.{ℕ, nat_lt, List, [], ◌∷◌, if◌then◌else◌}
use Rattle.std.specs.List.{filter}
use Rattle.occ_usage_values.specs.declared.uses.Use.{Use}
use Rattle.occ_project.specs.declared.expanded.Location.{Location}
use Rattle.occ_usage_conflicts.specs.Distinct.{distinct}

abbrev pub below : ℕ → List ℕ → List ℕ
below n ks = filter (λ k. nat_lt k n) ks

-- a use in a body that n specifications stand round, reported at the line of the head; the names by which it is made are those from outside
abbrev pub from_outside : ℕ → Location → Use → Use
from_outside n line u = record u { line = line; chain = below n u.chain }

-- those of what the body does not specify itself: its own specifications have numbers from m on
abbrev pub outside : ℕ → ℕ → Location → List Use → List Use
outside n m line [] = []
outside n m line (u ∷ us) = if nat_lt u.part.root m then from_outside n line u ∷ outside n m line us else outside n m line us

abbrev pub body_uses : ℕ → ℕ → Location → List Use → List Use
body_uses n m line us = distinct (outside n m line us)
