use Rattle.std.proofs.Common.{◌∙◌, sym, rules}
use Rattle.occ_scope.proofs.Begun.{front_before, nearest_is_before, nearest_is_last}
use Rattle.occ_scope.proofs.scopes.among_last.Goals as goal

pub returns-then-is : goal.returns-then-is
returns-then-is c =
    sym c.loop-rest.invariant.0
    ∙ nearest_is_last c.in_ok-last.before.now c.in_ok-last.last.now c.loop-rest.rest.now c.args.sought.now c.in_ok-last.ensures.cases.0 c.if-is.ensures

pub loop-rest-preserved : goal.loop-rest-preserved
loop-rest-preserved c =
    let split = c.in_ok-last.ensures.cases.0 in
    (sym (nearest_is_before c.in_ok-last.before.now c.in_ok-last.last.now c.loop-rest.rest.now c.args.sought.now split c.if-is.ensures) ∙ c.loop-rest.invariant.0, sym (front_before c.in_ok-last.before.now c.in_ok-last.last.now c.loop-rest.rest.now c.args.first split (search rules)) ∙ c.loop-rest.invariant.1)
