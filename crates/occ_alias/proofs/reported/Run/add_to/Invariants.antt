use Rattle.std.proofs.Common.{◌≡◌, ◌++◌, ◌∷◌, replicate}
use Rattle.occ_alias.proofs.reported.Run.add_to.Given as goal

abbrev pub invariant-loop-index : goal.invariant-loop-index
invariant-loop-index l = l.all ≡ l.fn.all ++ l.self.diag ∷ replicate l.index l.self.diag
