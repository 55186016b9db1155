use Rattle.std.proofs.Common.{◌≡◌, take}
use Rattle.std.specs.List.{All}
use Rattle.std.specs.String.{string_bytes}
use Rattle.occ_files.proofs.gathering.gather.Given as goal
use Rattle.occ_files.specs.inside.Found.{AreFound, IsMet}

abbrev pub invariant-loop-path : goal.invariant-loop-path
invariant-loop-path g l = AreFound (g.D.Disk.known l.gathering.disk.now) l.gathering.found.texts.items l.gathering.found.refusals.items l.gathering.places × (l.gathering.disk.now ≡ l.disk) × All (λ path. IsMet l.gathering.found (string_bytes path)) (take l.path-index l.paths)

abbrev pub invariant-loop-index : goal.invariant-loop-index
invariant-loop-index g l = AreFound (g.D.Disk.known l.gathering.disk.now) l.gathering.found.texts.items l.gathering.found.refusals.items l.gathering.places × (l.gathering.disk.now ≡ l.disk) × All (λ path. IsMet l.gathering.found (string_bytes path)) l.paths
