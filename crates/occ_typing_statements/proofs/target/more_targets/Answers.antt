use Rattle.std.proofs.Common.{arith, ◌≡◌, ◌∷◌, ◌++◌, ◌+◌, ◌∙◌, [], List, Option, ap, append_assoc, drop, sym}
use Rattle.std.proofs.lemmas.List.{drop_more}
use Rattle.occ_base.specs.declared.fault.Fault.{Fault}
use Rattle.occ_forms_expressions.specs.declared.tree.Element.{Element}
use Rattle.occ_typing_operands.specs.Operators.{all_faults, kinds}
use Rattle.occ_typing_operands.specs.declared.kind.Kind.{Kind}
use Rattle.occ_typing_rules.specs.declared.expr.TypedElement.{TypedElement}
use Rattle.occ_typing_statements.specs.StatementTrees.{one_element, target_trees, with_elements}
use Rattle.occ_expr.specs.Targets.{target_of}
use Rattle.occ_typing_statements.specs.Targets.{targets}
use Rattle.occ_typing_statements.proofs.Elements.{front_of_front}
use Rattle.occ_typing_statements.proofs.target.more_targets.Goals as goal

pub loop-written-preserved : goal.loop-written-preserved
loop-written-preserved c =
    let s = c.args.scope.now in
    let i = c.loop-written.written-index in
    let els = c.args.elements.now in
    let written = c.written-item.result in
    let rest = drop (i + 1) els in
    let l = c.loop-written in
    let read = c.in_ok-read in
    let next : drop i els ≡ written ∷ rest = drop_more els i written (omega arith) ∙ ap (λ (el : Element). el ∷ rest) (sym c.written-item.is) in
    let known : c.push.new.self ++ kinds (targets s rest) ≡ c.args.targets.kinds ++ kinds (targets s els)
    = ap (λ (z : List Kind). z ++ kinds (targets s rest)) c.in_ok-push.ensures.ok
    ∙ append_assoc l.targets.kinds (read.read.kind ∷ []) (kinds (targets s rest))
    ∙ ap (λ (z : Kind). l.targets.kinds ++ z ∷ kinds (targets s rest)) read.ensures.kind
    ∙ ap (λ (z : List Element). l.targets.kinds ++ kinds (targets s z)) (sym next)
    ∙ l.invariant.0 in
    let trees : with_elements c.in_ok-targets.field-0 (target_trees s rest) ≡ with_elements c.args.targets.trees (target_trees s els)
    = ap (λ (z : Option (List TypedElement)). with_elements z (target_trees s rest)) c.in_ok-targets.ensures
    ∙ front_of_front l.targets.trees (one_element read.read.tree) (target_trees s rest)
    ∙ ap (λ (z : Option TypedElement). with_elements l.targets.trees (with_elements (one_element z) (target_trees s rest))) read.ensures.tree
    ∙ ap (λ (z : List Element). with_elements l.targets.trees (target_trees s z)) (sym next)
    ∙ l.invariant.1 in
    let reported : c.target_of.new.faults ++ all_faults (targets s rest) ≡ c.args.faults.now ++ all_faults (targets s els)
    = ap (λ (z : List Fault). z ++ all_faults (targets s rest)) read.ensures.faults
    ∙ append_assoc l.faults (target_of s written).faults (all_faults (targets s rest))
    ∙ ap (λ (z : List Element). l.faults ++ all_faults (targets s z)) (sym next)
    ∙ l.invariant.2 in
    (known, trees, reported)
