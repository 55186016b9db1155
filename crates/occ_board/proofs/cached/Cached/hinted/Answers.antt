use Rattle.std.proofs.Common.{◌≡◌, ◌∙◌, List, Some, ap, subst, sym}
use Rattle.std.proofs.lemmas.Slice.Eq.{bytes_eq-Decides}
use Rattle.std.specs.List.{slice_get}
use Rattle.occ_board.proofs.Caches.{index_single}
use Rattle.occ_board.proofs.cached.Cached.hinted.Goals as goal
use Rattle.occ_board.specs.inside.Holding.{AreSingle}
use Rattle.occ_check.specs.Input.{Input}

pub returns-then-eq : goal.returns-then-eq
returns-then-eq c =
    let cached : List Input = c.args.self.now in
    let single : AreSingle cached = subst AreSingle c.self.view_is c.self.invariant.single in
    let there : slice_get cached c.in_ok-hint.hint.now ≡ Some c.in_ok-outcome.outcome.now = sym (c.in_ok-outcome.ensures ∙ ap (λ (is : List Input). slice_get is c.in_ok-hint.hint.now) (c.as_slice.ensures.value ∙ c.self.view_is)) in
    index_single cached c.args.unit c.in_ok-hint.hint.now c.in_ok-outcome.outcome.now single there
    ((bytes_eq-Decides c.in_ok-outcome.outcome.now.unit c.args.unit).1 (ap (λ (i : Input). i.unit) (sym c.job.ensures) ∙ sym c.unit.ensures.value ∙ (bytes_eq-Decides c.unit.result c.args.unit).0 (sym c.if-eq.ensures)))
