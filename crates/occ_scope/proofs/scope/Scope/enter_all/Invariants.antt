use Rattle.std.proofs.Common.{◌≡◌, ◌≤◌, drop, length}
use Rattle.occ_scope.specs.Visible.{back_to, with_all}
use Rattle.occ_scope.proofs.scope.Scope.enter_all.Given as goal

abbrev pub invariant-loop-entry : goal.invariant-loop-entry
invariant-loop-entry l =
    (l.count ≤ length l.self.meanings)
    × (back_to l.count l.self ≡ l.initial.self)
    × (with_all l.self (drop l.entry-index l.entries) ≡ with_all l.initial.self l.entries)
