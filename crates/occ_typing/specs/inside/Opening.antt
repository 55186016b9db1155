-- A line that is judged, with those under it.
use Rattle.std.specs.Prelude.{Bool, List}
use Rattle.occ_project.specs.Locations.{location_of}
use Rattle.occ_project.specs.declared.expanded.ExpandedLine.{ExpandedLine}
use Rattle.occ_typing_lines.specs.declared.parent.Line.{Line}
use Rattle.occ_typing.specs.declared.tree.TypedLine.{TypedLine, roll-TypedLine}

abbrev pub with_children : ExpandedLine → Bool → Line → List TypedLine → TypedLine
with_children l is_process x under =
    roll-TypedLine record {
      place = location_of l;
      is_process = is_process;
      form = x.form;
      enters = x.enters;
      adds = x.adds;
      under = under;
    }
