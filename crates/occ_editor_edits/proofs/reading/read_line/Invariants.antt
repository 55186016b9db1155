use Rattle.std.proofs.Common.{◌≡◌, ◌==◌, not, true}
use Rattle.std.specs.Io.KnownBytes.{Consumes}
use Rattle.std.specs.List.{list_all}
use Rattle.occ_editor_edits.proofs.reading.read_line.Given as goal

abbrev pub invariant-loop : goal.invariant-loop
invariant-loop g l = Consumes (g.R.Read.remaining l.initial.reader) (g.R.Read.remaining l.reader) l.line.items × (list_all (λ b. not (b == 10)) l.line.items ≡ true)
