use Rattle.std.proofs.Common.{◌≡◌, ◌∙◌, ◌++◌, IfOk, OnOk, subst, sym}
use Rattle.occ_tree.specs.Forest.{forest_of}
use Rattle.occ_typing_lines.specs.Lines.{Judged}
use Rattle.occ_typing_lines.proofs.Judging.{judged_alone}
use Rattle.occ_typing_lines.proofs.judge.judged.Goals as goal

pub returns-clause-line : goal.returns-clause-line
returns-clause-line c =
    subst
    (λ (x : Judged). IfOk c.line.result (λ one. one ≡ x.line))
    (sym (judged_alone c.args.imports.now c.args.scope.now c.args.body.now (forest_of c.args.nodes.now) c.args.parent (sym c.is_reported_with_head.ensures ∙ c.if-is_reported_with_head.false)))
    c.line.ensures.line

pub returns-clause-found : goal.returns-clause-found
returns-clause-found c =
    subst
    (λ (x : Judged). OnOk c.line.result (c.line.new.found ≡ c.args.found.now ++ x.beneath))
    (sym (judged_alone c.args.imports.now c.args.scope.now c.args.body.now (forest_of c.args.nodes.now) c.args.parent (sym c.is_reported_with_head.ensures ∙ c.if-is_reported_with_head.false)))
    c.line.ensures.found

pub returns-clause-faults : goal.returns-clause-faults
returns-clause-faults c =
    subst
    (λ (x : Judged). OnOk c.line.result (c.line.new.faults ≡ c.args.faults.now ++ x.faults))
    (sym (judged_alone c.args.imports.now c.args.scope.now c.args.body.now (forest_of c.args.nodes.now) c.args.parent (sym c.is_reported_with_head.ensures ∙ c.if-is_reported_with_head.false)))
    c.line.ensures.faults
