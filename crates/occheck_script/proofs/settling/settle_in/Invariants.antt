use Rattle.std.proofs.Common.{◌≡◌, ◌-◌}
use Rattle.occheck_script.specs.Settling.{settled_in}
use Rattle.occheck_script.proofs.settling.settle_in.Given as goal

abbrev pub invariant-loop : goal.invariant-loop
invariant-loop l = record { left : settled_in l.jobs l.fn.board ≡ settled_in (l.jobs - l.counter) l.board }
