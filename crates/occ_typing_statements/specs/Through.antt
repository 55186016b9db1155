-- What a line sends or receives through: an element, which has to be a channel or a timer.
use Rattle.std.specs.Prelude.{ℕ, Option, Some, List}
use Rattle.occ_scope.specs.Visible.{visible}
use Rattle.occ_scope.specs.declared.meaning.Meaning.{Meaning}
use Rattle.occ_scope.specs.declared.meaning.Meaning.TheVariants as m
use Rattle.occ_scope.specs.declared.scope.Scope.{Scope}
use Rattle.occ_typing_operands.specs.Settling.{Finding}
use Rattle.occ_protocol.specs.Carrying.{Carrier, carrier}
use Rattle.occ_forms_expressions.specs.declared.tree.Element.{Element}
use Rattle.occ_expr_operations.specs.Views.{element_view}
use Rattle.occ_expr.specs.Targets.{root}

abbrev pub through : Scope → Element → Finding
through s el = (element_view el).reported s

abbrev pub carrier_of : Scope → Element → Carrier
carrier_of s el = carrier (through s el).kind

-- the name that is reported of what this name stands for
abbrev pub root_in : List ℕ → Option Meaning → List ℕ
root_in name (Some (m.Element whole)) = whole.root
root_in name meaning = name

-- the name of the channel or timer, to which abbreviations are followed
abbrev pub root_of : Scope → Element → List ℕ
root_of s el = root_in (root el) (visible s (root el))
