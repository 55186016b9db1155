use Rattle.std.proofs.Common.{◌≡◌, ◌++◌, drop}
use Rattle.occ_typing_specifications.specs.Results.{results}
use Rattle.occ_typing_specifications.proofs.result_type.push_results.Given as goal

abbrev pub invariant-loop-form : goal.invariant-loop-form
invariant-loop-form l =
    (l.types ++ (results l.scope (drop l.form-index l.forms)).types ≡ l.initial.types ++ (results l.scope l.forms).types)
    × (l.faults ++ (results l.scope (drop l.form-index l.forms)).faults ≡ l.initial.faults ++ (results l.scope l.forms).faults)
