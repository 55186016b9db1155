-- The targets of an assignment.
use Rattle.std.specs.Prelude.{List, [], ◌∷◌}
use Rattle.occ_typing_operands.specs.Settling.{Finding}
use Rattle.occ_scope.specs.declared.scope.Scope.{Scope}
use Rattle.occ_forms_expressions.specs.declared.tree.Element.{Element}
use Rattle.occ_expr.specs.Targets.{target_of}

abbrev pub targets : Scope → List Element → List Finding
targets s [] = []
targets s (el ∷ els) = target_of s el ∷ targets s els
