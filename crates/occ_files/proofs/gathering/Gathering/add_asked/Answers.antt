use Rattle.occ_files.proofs.gathering.Gathering.add_asked.Goals as goal

pub refuse-requires-clause-right : goal.refuse-requires-clause-right
refuse-requires-clause-right g c = c.in-Err.ensures.right (g.D.Disk.known c.args.self.now.disk.now c.args.path.now) c.args.self.now.found.texts.items
