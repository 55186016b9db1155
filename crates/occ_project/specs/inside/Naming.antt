-- What is held of the units of a `#USE`: one name, or a list of them.
use Rattle.std.specs.Prelude.{ℕ, List, [], ◌∷◌}
use Rattle.occ_project.specs.declared.line_units.Named.{Named}
use Rattle.occ_project.specs.declared.line_units.Named.TheVariants as named

abbrev pub named_units : Named → List (List ℕ)
named_units (named.One unit) = unit ∷ []
named_units (named.Listed units) = units
