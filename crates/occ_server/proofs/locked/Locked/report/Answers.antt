use Rattle.std.proofs.Common.{◌∙◌}
use Rattle.occ_server.proofs.Shows.{snapshot_of}
use Rattle.occ_server.proofs.locked.Locked.report.Goals as goal

pub of-requires : goal.of-requires
of-requires c = snapshot_of c.args.self.now.board c.in_ok-base.base c.in_ok-entries.entries c.in_ok-rows.rows c.base.ensures.known c.entries.ensures.legal (c.in_ok-base.ensures ∙ c.base-2.ensures.base) (c.in_ok-entries.ensures ∙ c.entries-2.ensures.entries) c.in_ok-rows.ensures
