-- Targets: the name of which an element is a part, and what is read of an element that is written to.
use Rattle.std.specs.Prelude.{ℕ, Option, Some, None, List}
use Rattle.occ_typing_operands.specs.Settling.{Finding, silent}
use Rattle.occ_typing_operands.specs.declared.kind.Kind.{Kind}
use Rattle.occ_scope.specs.Visible.{visible}
use Rattle.occ_scope.specs.declared.meaning.Meaning.{Meaning}
use Rattle.occ_scope.specs.declared.meaning.Meaning.TheVariants as m
use Rattle.occ_scope.specs.declared.scope.Scope.{Scope}
use Rattle.occ_typing_tables.specs.Terms.{and_then}
use Rattle.occ_forms_expressions.specs.declared.tree.Bounds.TheFolds.{fold-Element}
use Rattle.occ_forms_expressions.specs.declared.tree.Bounds.TheOpen.{Element-F}
use Rattle.occ_forms_expressions.specs.declared.tree.Element.{Element}
use Rattle.occ_expr_operations.specs.Views.{element_view}
use Rattle.occ_typing_rules.specs.Assigning.{target}

abbrev pub root_step : Element-F (Unit {0}) (Unit {0}) (Unit {0}) (List ℕ) (Unit {0}) (Unit {0}) (Unit {0}) (Unit {0}) → List ℕ
root_step (Element-F.Element::Named name es) = name
root_step (Element-F.Segment root bounds es) = root

-- the name of which an element is a part
abbrev pub root : Element → List ℕ
root = fold-Element (Unit {0}) (Unit {0}) (Unit {0}) (List ℕ) (Unit {0}) (Unit {0}) (Unit {0}) (Unit {0}) (λ _. tt) (λ _. tt) (λ _. tt) root_step (λ _. tt) (λ _. tt) (λ _. tt) (λ _. tt)

-- by what stands for its name
abbrev pub reached : Option Meaning → Kind → Finding
reached None kind = silent
reached (Some m.Faulty) kind = silent
reached (Some (m.Type of)) kind = silent
reached (Some (m.Protocol p)) kind = silent
reached (Some (m.Procedure formals)) kind = silent
reached (Some (m.Function formals results)) kind = silent
reached (Some (m.Element whole)) kind = target whole kind

unfoldable pub target_of : Scope → Element → Finding
target_of s el = and_then ((element_view el).reported s) (reached (visible s (root el)))
