use Rattle.std.proofs.Common.{◌∙◌, Some, ap, sym}
use Rattle.occ_board.proofs.Looked.{looked_now}
use Rattle.occ_board.proofs.Settled.{step_rests}
use Rattle.occ_board.proofs.verified.verified_law.Goals as goal
use Rattle.occ_board.specs.Done.{done}
use Rattle.occ_check.specs.Input.{Input}

pub returns-clause-looked : goal.returns-clause-looked
returns-clause-looked c = λ files cached u project rested. looked_now files cached u (λ v. c.input_law.ensures.interface files v project) (λ v. c.cached_law.ensures files cached v project) rested

pub returns-clause-done : goal.returns-clause-done
returns-clause-done c = λ files cached u project is.
    c.cached_law.ensures files cached u project is
    ∙ ap (λ (i : Input). Some i)
    (sym (looked_now files cached u (λ v. c.input_law.ensures.interface files v project) (λ v. c.cached_law.ensures files cached v project) (step_rests files cached u (done files cached) (sym (c.done_law.ensures.done files cached u project) ∙ is))))
