-- What an input receives: its targets, counted or not.
use Rattle.std.specs.Prelude.{Option, Some, None, List, [], ◌∷◌, ◌++◌}
use Rattle.occ_base.specs.declared.fault.Fault.{Fault}
use Rattle.occ_expr.specs.Trees.{element_tree}
use Rattle.occ_typing_operands.specs.declared.kind.Kind.TheVariants as k
use Rattle.occ_scope.specs.declared.scope.Scope.{Scope}
use Rattle.occ_typing_rules.specs.declared.expr.TypedElement.{TypedElement}
use Rattle.occ_protocol.specs.declared.given.Given.{Given}
use Rattle.occ_protocol.specs.declared.given.Given.TheVariants as g
use Rattle.occ_forms_expressions.specs.declared.tree.Element.{Element}
use Rattle.occ_forms.specs.declared.tree.Detail.{Detail}
use Rattle.occ_forms.specs.declared.tree.Detail.TheVariants as detail
use Rattle.occ_forms.specs.declared.tree.InputItem.{InputItem}
use Rattle.occ_forms.specs.declared.tree.InputItem.TheVariants as into
use Rattle.occ_base.specs.Lists.{joined, one_part}
use Rattle.occ_expr.specs.Targets.{target_of}
use Rattle.occ_typing_statements.specs.declared.exchange_tree.TypedTarget.{TypedTarget}
use Rattle.occ_typing_statements.specs.declared.exchange_tree.TypedTarget.TheVariants as target

-- what is received as one: its faults, what is known of where it goes, and its tree
pub record Received : Type 0 where
  pub faults : List Fault
  pub given : Given
  pub tree : Option TypedTarget

abbrev pub single_target : Option TypedElement → Option TypedTarget
single_target None = None
single_target (Some x) = Some (target.Single x)

abbrev pub counted_target : Option TypedElement → Option TypedElement → Option TypedTarget
counted_target None x = None
counted_target (Some n) None = None
counted_target (Some n) (Some x) = Some (target.Counted n x)

abbrev pub single : Scope → Element → Received
single s el =
    record { faults = (target_of s el).faults; given = g.Plain (target_of s el).kind; tree = single_target (element_tree s el) }

abbrev pub counted : Scope → Element → Element → Received
counted s n el =
    record {
      faults = (target_of s n).faults ++ (target_of s el).faults;
      given = g.Counted (target_of s n).kind (target_of s el).kind;
      tree = counted_target (element_tree s n) (element_tree s el);
    }

-- of an input
abbrev pub item_received : Scope → InputItem → Received
item_received s (into.Plain el) = single s el
item_received s (into.Counted n el) = counted s n el

-- a part of a variant that can be a type alone is no target
abbrev pub no_target : Received
no_target = record { faults = []; given = g.Plain k.Faulty; tree = None }

-- of a variant
abbrev pub detail_received : Scope → Detail → Received
detail_received s (detail.Element el) = single s el
detail_received s (detail.Counted n el) = counted s n el
detail_received s (detail.Array d ds name) = no_target
detail_received s (detail.Builtin ds word) = no_target
detail_received s (detail.CountedType count of) = no_target

abbrev pub items_received : Scope → List InputItem → List Received
items_received s [] = []
items_received s (x ∷ xs) = item_received s x ∷ items_received s xs

abbrev pub details_received : Scope → List Detail → List Received
details_received s [] = []
details_received s (d ∷ ds) = detail_received s d ∷ details_received s ds

abbrev pub received_faults : List Received → List Fault
received_faults [] = []
received_faults (x ∷ xs) = x.faults ++ received_faults xs

abbrev pub givens : List Received → List Given
givens [] = []
givens (x ∷ xs) = x.given ∷ givens xs

abbrev pub received_trees : List Received → Option (List TypedTarget)
received_trees [] = Some []
received_trees (x ∷ xs) = joined (one_part x.tree) (received_trees xs)
