use Rattle.std.proofs.Common.{◌≡◌, ◌+◌, ◌++◌, drop}
use Rattle.occ_check.specs.Exports.{entries_exports}
use Rattle.occ_check.proofs.export.add_entries.Given as goal

abbrev pub invariant-loop-entry : goal.invariant-loop-entry
invariant-loop-entry l =
    (l.found.items ++ entries_exports l.env l.next (drop l.entry-index l.entries) ≡ l.initial.found.items ++ entries_exports l.env l.number l.entries)
    × (l.next ≡ l.number + l.entry-index)
