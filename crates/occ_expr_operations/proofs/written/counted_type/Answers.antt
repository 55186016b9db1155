use Rattle.std.proofs.Common.{arith}
use Rattle.std.proofs.lemmas.Grind.{common_steps}
use Rattle.occ_expr_operations.specs.Written.{counted_type}
use Rattle.occ_expr_operations.proofs.written.counted_type.Goals as goal

pub returns-in_default : goal.returns-in_default
unfolding counted_type
returns-in_default c = grind (arith, common_steps)

pub returns-in_ok-counted_channel-in-Some-Some : goal.returns-in_ok-counted_channel-in-Some-Some
unfolding counted_type
returns-in_ok-counted_channel-in-Some-Some c = grind (arith, common_steps)
