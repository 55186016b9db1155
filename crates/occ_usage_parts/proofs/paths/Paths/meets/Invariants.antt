use Rattle.std.proofs.Common.{◌≡◌, drop}
use Rattle.occ_usage_parts.specs.Keeping.{meets_some}
use Rattle.occ_usage_parts.specs.inside.Paths.{parts_in}
use Rattle.occ_usage_parts.proofs.paths.Paths.meets.Given as goal

abbrev pub invariant-loop-path : goal.invariant-loop-path
invariant-loop-path l = meets_some (parts_in (drop l.path-index l.path-items)) l.part ≡ meets_some (parts_in l.path-items) l.part
