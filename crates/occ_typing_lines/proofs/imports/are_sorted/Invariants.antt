use Rattle.std.proofs.Common.{drop}
use Rattle.occ_typing_lines.specs.inside.Sorted.{AreSorted, AreSortedAfter}
use Rattle.occ_typing_lines.proofs.imports.are_sorted.Given as goal

abbrev pub invariant-loop-import : goal.invariant-loop-import
invariant-loop-import l = AreSortedAfter l.before (drop l.import-index l.imports) → AreSorted l.imports
