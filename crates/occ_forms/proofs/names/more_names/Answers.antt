use Rattle.occ_forms_expressions.proofs.Many.{goes_on, is_done}
use Rattle.occ_forms.proofs.Named.{IsAtNoName, name_is_no_end, names_within, next_same, next_shorter}
use Rattle.occ_forms.proofs.names.more_names.Goals as goal

pub loop-found-preserved : goal.loop-found-preserved
loop-found-preserved c = let is = (rw c.in-Some.is at c.in_ok-name.ensures.value) in rw c.in_ok-push.ensures.ok (goes_on _ IsAtNoName _ names_within _ _ _ _ _ c.loop-found.invariant
    is (next_shorter _ _ _ is) (name_is_no_end _ _ _ is (rw c.in-Some.is at c.in_ok-name.ensures.end)) (λ y k inside e. next_same _ _ _ _ _ is e))

pub returns-clause-only : goal.returns-clause-only
returns-clause-only c = is_done _ IsAtNoName _ names_within _ _ _ c.loop-found.invariant (λ y k inside e. (rw c.in_default.is at c.in_ok-name.ensures.value) y k inside e)
