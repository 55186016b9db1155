use Rattle.std.proofs.Common.{◌∙◌}
use Rattle.occ_usage_parts.specs.Selecting.{part_of}
use Rattle.occ_usage_parts.proofs.Turning.{overlap_turned}
use Rattle.occ_alias.proofs.pairs.overlap_with_selected.Goals as goal

pub returns : goal.returns
returns c = c.overlap_selected.ensures ∙ overlap_turned (part_of c.args.other.now) c.args.one.now
