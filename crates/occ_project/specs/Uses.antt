-- The units that a unit uses.
use Rattle.std.specs.Prelude.{ℕ, List, [], ◌∷◌}
use Rattle.std.specs.List.{flat_map}
use Rattle.occ_base.specs.Order.{placed}
use Rattle.occ_project.specs.Reads.{name_cmp}
use Rattle.occ_project.specs.declared.expanded.ExpandedBody.{ExpandedBody}
use Rattle.occ_project.specs.declared.expanded.ExpandedBody.TheVariants as body
use Rattle.occ_project.specs.declared.expanded.ExpandedLine.{ExpandedLine}

-- those that a line uses, if it is a `#USE`
abbrev pub body_units : ExpandedBody → List (List ℕ)
body_units (body.Uses units) = units
body_units (body.Form form) = []
body_units (body.Fault fault) = []

abbrev pub units_of : ExpandedLine → List (List ℕ)
units_of line = body_units line.body

-- names of files in order, each once
abbrev pub names_in_order : List (List ℕ) → List (List ℕ)
names_in_order names = placed name_cmp names []

-- the units that the lines of an expansion use, in order of name, each once
abbrev pub used_in : List ExpandedLine → List (List ℕ)
used_in lines = names_in_order (flat_map units_of lines)
