use Rattle.std.proofs.Common.{◌≡◌, ◌+◌, take}
use Rattle.std.specs.List.{All}
use Rattle.occheck_rows.specs.Met.{IsRight}
use Rattle.occheck_rows.proofs.run_rows.Given as goal

abbrev pub invariant-loop-row : goal.invariant-loop-row
invariant-loop-row g l = record {
  all : l.met.passed + l.met.failed ≡ l.row-index;
  right : l.met.failed ≡ 0 → All IsRight (take l.row-index l.rows);
}
