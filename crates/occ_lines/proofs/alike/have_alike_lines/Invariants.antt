use Rattle.std.proofs.Common.{◌≡◌, map}
use Rattle.bstr.specs.Text.{lines_of, without_terminator}
use Rattle.occ_lines.specs.inside.Alike.{are_alike}
use Rattle.occ_lines.proofs.alike.have_alike_lines.Given as goal

abbrev pub invariant-loop-line : goal.invariant-loop-line
invariant-loop-line l = record {
  left : are_alike l.line-iterator l.others ≡ are_alike (map without_terminator (lines_of l.fn.a)) (map without_terminator (lines_of l.fn.b));
}
