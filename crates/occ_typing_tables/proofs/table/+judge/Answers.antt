use Rattle.std.proofs.Common.{arith}
use Rattle.std.proofs.lemmas.Grind.{common_steps}
use Rattle.occ_typing_tables.proofs.Judging.{judging_rules}
use Rattle.occ_typing_tables.proofs.table.+judge.Goals as goal
