use Rattle.std.proofs.Common.{◌≡◌, drop, map}
use Rattle.occ_lines.specs.Lexeme.{found_in}
use Rattle.occ_lines.proofs.lexeme.found_in.Given as goal

abbrev pub invariant-loop-spelling : goal.invariant-loop-spelling
invariant-loop-spelling g l = found_in (map (λ row. (row.0.now, row.1)) (drop l.spelling-index l.table)) l.bytes ≡ found_in (map (λ row. (row.0.now, row.1)) l.table) l.bytes
