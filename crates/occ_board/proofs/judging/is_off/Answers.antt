use Rattle.std.proofs.Common.{ap, ◌∙◌, ◌&&◌, Bool, not}
use Rattle.occ_board.proofs.Stands.{is_off_by}
use Rattle.occ_board.proofs.judging.is_off.Goals as goal
use Rattle.occ_project_units.specs.Indices.{is_below, standing_of}

pub returns : goal.returns
returns c =
    is_off_by c.is_unit_now.result c.args.graph.now c.args.cached.now c.args.user c.args.one.now
    (c.if-is_waiting.ensures ∙ ap (λ (b : Bool). is_below (standing_of c.args.graph.now c.args.user c.args.one.now.unit) && not b) (c.requires c.args.one.now.unit)) c.is_unit_now.ensures
