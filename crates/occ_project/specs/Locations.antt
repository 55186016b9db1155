-- Where the lines of an expansion stand.
use Rattle.occ_project.specs.declared.expanded.ExpandedLine.{ExpandedLine}
use Rattle.occ_project.specs.declared.expanded.Location.{Location}

abbrev pub location_of : ExpandedLine → Location
location_of line = record { file = line.file; line = line.line }
