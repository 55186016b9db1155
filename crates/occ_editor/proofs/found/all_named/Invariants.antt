use Rattle.std.proofs.Common.{◌≡◌, ◌++◌, drop}
use Rattle.occ_editor.proofs.found.all_named.Given as goal
use Rattle.occ_editor.specs.inside.Named.{named_in}

abbrev pub invariant-loop-line : goal.invariant-loop-line
invariant-loop-line l = l.names.items ++ named_in (drop l.line-index l.lines) ≡ named_in l.lines
