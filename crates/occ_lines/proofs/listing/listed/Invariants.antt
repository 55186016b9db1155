use Rattle.occ_lines.proofs.Lists.{Goes}
use Rattle.occ_lines.proofs.listing.listed.Given as goal

abbrev pub invariant-loop-line : goal.invariant-loop-line
invariant-loop-line l = record { goes : Goes l.fn.text l.units l.line-iterator }
