use Rattle.std.proofs.Common.{◌≡◌}
use Rattle.occ_files.proofs.gathering.Gathering.add_uses.Given as goal
use Rattle.occ_files.specs.inside.Found.{AreFound, Keeps}

abbrev pub invariant-loop-line : goal.invariant-loop-line
invariant-loop-line g l = AreFound (g.D.Disk.known l.self.disk.now) l.self.found.texts.items l.self.found.refusals.items l.self.places × (l.self.disk ≡ l.fn.self.disk) × Keeps l.fn.self.found l.self.found
