-- The name of which each form of an element is a part.
use Rattle.std.proofs.Common.{◌≡◌, ◌∙◌, ℕ, List, ap, sym}
use Rattle.occ_forms_expressions.specs.declared.tree.Bounds.{Bounds}
use Rattle.occ_forms_expressions.specs.declared.tree.Bounds.TheFolds.{fold-roll-Element}
use Rattle.occ_forms_expressions.specs.declared.tree.Bounds.TheOpen.{Element-F}
use Rattle.occ_forms_expressions.specs.declared.tree.Element.{Element}
use Rattle.occ_forms_expressions.specs.declared.tree.Element.TheVariants as ev
use Rattle.occ_forms_expressions.specs.declared.tree.Expr.{Expr}
use Rattle.occ_expr.specs.Targets.{root, root_step}

pub root_named : (name : List ℕ) (es : List Expr) → root (ev.Named name es) ≡ name
root_named name es = ap root (sym (ev.rolls-Named name es)) ∙ fold-roll-Element (Unit {0}) (Unit {0}) (Unit {0}) (List ℕ) (Unit {0}) (Unit {0}) (Unit {0}) (Unit {0}) (λ _. tt) (λ _. tt) (λ _. tt) root_step (λ _. tt) (λ _. tt) (λ _. tt) (λ _. tt) (Element-F.Element::Named name es)

pub root_segment : (el : Element) (part : Bounds) (es : List Expr) → root (ev.Segment el part es) ≡ root el
root_segment el part es = ap root (sym (ev.rolls-Segment el part es)) ∙ fold-roll-Element (Unit {0}) (Unit {0}) (Unit {0}) (List ℕ) (Unit {0}) (Unit {0}) (Unit {0}) (Unit {0}) (λ _. tt) (λ _. tt) (λ _. tt) root_step (λ _. tt) (λ _. tt) (λ _. tt) (λ _. tt) (Element-F.Segment el part es)

pub ruleset root_rules = (root_named, root_segment)
