use Rattle.std.proofs.Common.{◌≡◌, ◌++◌, drop}
use Rattle.occ_typing_lines.specs.Using.{entries_of}
use Rattle.occ_typing_lines.proofs.using.push_exports.Given as goal

abbrev pub invariant-loop-export : goal.invariant-loop-export
invariant-loop-export l = l.entries ++ entries_of (drop l.export-index l.exports) ≡ l.initial.entries ++ entries_of l.exports
