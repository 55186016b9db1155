use Rattle.std.proofs.Common.{◌≡◌, ◌++◌, drop}
use Rattle.std.specs.HashSet.{contains}
use Rattle.occ_base.specs.Firsts.{first_indices}
use Rattle.std.specs.Str.{bytes_eq}
use Rattle.occ_base.proofs.Indices.{unknown}
use Rattle.occ_base.proofs.firsts.first_indices.Given as goal

abbrev pub invariant-loop-name : goal.invariant-loop-name
invariant-loop-name l = l.found ++ unknown (contains bytes_eq l.seen) (drop l.name-index l.names) ≡ first_indices l.names
