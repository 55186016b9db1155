-- A scope after what was entered and left.
use Rattle.std.proofs.Common.{◌≡◌, ◌∙◌, List, length, arith}
use Rattle.occ_scope.specs.declared.meaning.ScopeEntry.{ScopeEntry}
use Rattle.occ_scope.specs.declared.scope.Scope.{Scope}
use Rattle.occ_scope.specs.Visible.{back_to, with_all}
use Rattle.occ_scope.proofs.Leaving.{back_here, back_over}

pub left_all : (s : Scope) (xs : List ScopeEntry) → back_to (length s.meanings) (with_all s xs) ≡ s
left_all s xs = back_over (length s.meanings) xs s (omega arith) ∙ back_here s

pub ruleset scope_rules = (back_here, left_all)
