use Rattle.std.proofs.Common.{rules, ◌∙◌}
use Rattle.std.specs.Option.{option_copied}
use Rattle.occ_board.proofs.Stands.{read_is}
use Rattle.occ_board.proofs.present.is_read_now.Goals as goal

pub returns-then-read-revision_near-clause-one : goal.returns-then-read-revision_near-clause-one
returns-then-read-revision_near-clause-one c =
    read_is c.are_same_sources.result c.args.project.now c.args.read.now (option_copied c.as_ref.result) (option_copied c.get_near.result) (c.if-read-revision_near.true ∙ c.revision_near.ensures) c.are_same_sources.ensures.one (search rules) c.get_near.ensures
