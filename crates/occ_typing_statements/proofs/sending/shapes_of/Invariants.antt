use Rattle.std.proofs.Common.{◌≡◌, ◌++◌, drop}
use Rattle.occ_typing_statements.specs.Sending.{shapes_of}
use Rattle.occ_typing_statements.proofs.sending.shapes_of.Given as goal

abbrev pub invariant-loop-item : goal.invariant-loop-item
invariant-loop-item l = l.shapes ++ shapes_of (drop l.item-index l.items) ≡ shapes_of l.items
