use Rattle.std.proofs.Common.{List, ap, ◌∙◌}
use Rattle.std.specs.List.{slice_get}
use Rattle.std.specs.Option.{option_and_then}
use Rattle.occ_board.proofs.Caches.{cached_there}
use Rattle.occ_board.proofs.cached.Cached.get_near.Goals as goal
use Rattle.occ_check.specs.Input.{Input}

pub returns-in-Some : goal.returns-in-Some
returns-in-Some c =
    c.at.ensures
    ∙ ap (λ (is : List Input). slice_get is c.in-Some.index) (c.as_slice.ensures.value ∙ c.self.view_is)
    ∙ ap (option_and_then (slice_get c.args.self.now)) c.in-Some.ensures
    ∙ cached_there c.args.self.now c.args.unit

pub returns-in-None : goal.returns-in-None
returns-in-None c = ap (option_and_then (slice_get c.args.self.now)) c.in-None.ensures ∙ cached_there c.args.self.now c.args.unit
