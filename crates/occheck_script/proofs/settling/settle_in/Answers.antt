use Rattle.std.proofs.Common.{◌∙◌, ◌+◌, ◌-◌, arith}
use Rattle.occheck_script.proofs.Stepwise.{one_done}
use Rattle.occheck_script.proofs.settling.settle_in.Goals as goal

pub loop-preserved : goal.loop-preserved
loop-preserved c = record { left = c.loop.invariant.left ∙ one_done (c.args.jobs - c.loop.counter) (c.args.jobs - (c.loop.counter + 1)) _ _ _ (omega (arith, c.loop-test.true)) c.if-not-branch.false c.in_ok-work_once.ensures }
