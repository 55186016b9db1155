use Rattle.std.proofs.Common.{◌≡◌}
use Rattle.occ_typing_statements.proofs.calls.+compare_calls.Given as goal

abbrev pub invariant-loop-actual : goal.invariant-loop-actual
invariant-loop-actual l = (l.place ≡ l.actual-index) × (l.scope ≡ l.initial.scope)
