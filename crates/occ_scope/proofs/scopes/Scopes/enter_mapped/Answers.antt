use Rattle.std.proofs.Common.{◌∙◌, ◌≡◌, List, ℕ, subst, sym, rules}
use Rattle.occ_scope.proofs.Begun.{popped}
use Rattle.occ_scope.specs.inside.Begun.{Begins}
use Rattle.occ_scope.proofs.scopes.Scopes.enter_mapped.Goals as goal

pub invariant_of-self-in-Err : goal.invariant_of-self-in-Err
invariant_of-self-in-Err c =
    let back : c.pop.new.self ≡ c.self.inside.names = popped c.pop.result c.self.inside.names c.new.result c.push.new.self c.pop.new.self c.in_ok-push.ensures.ok c.pop.ensures in
    let begins : Begins c.map_all.new.mapped c.self.inside.names = search rules in
    subst (Begins c.enter_over.new.self) (sym back) (subst (λ (front : List (List ℕ)). Begins front c.self.inside.names) (sym c.in-Err.ensures.err) begins)

pub returns-in-Err-clause-err : goal.returns-in-Err-clause-err
returns-in-Err-clause-err c =
    let back : c.pop.new.self ≡ c.self.inside.names = popped c.pop.result c.self.inside.names c.new.result c.push.new.self c.pop.new.self c.in_ok-push.ensures.ok c.pop.ensures in
    back ∙ c.self.view_is
