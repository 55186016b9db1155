use Rattle.std.proofs.Common.{◌≡◌}
use Rattle.occ_files.proofs.gathering.Gathering.follow.Given as goal
use Rattle.occ_files.specs.inside.Found.{AreFound, Keeps}

abbrev pub invariant-loop-mention : goal.invariant-loop-mention
invariant-loop-mention g l = AreFound (g.D.Disk.known l.self.disk.now) l.self.found.texts.items l.self.found.refusals.items l.self.places × (l.self.disk ≡ l.fn.self.disk) × Keeps l.fn.self.found l.self.found

abbrev pub invariant-loop : goal.invariant-loop
invariant-loop g l = AreFound (g.D.Disk.known l.self.disk.now) l.self.found.texts.items l.self.found.refusals.items l.self.places × (l.self.disk ≡ l.fn.self.disk) × Keeps l.fn.self.found l.self.found
