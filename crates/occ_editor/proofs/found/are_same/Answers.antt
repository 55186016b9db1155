use Rattle.occ_editor.proofs.Named.{names_decide}
use Rattle.occ_editor.proofs.found.are_same.Goals as goal

pub returns : goal.returns
returns c = names_decide c.args.names.now c.args.others.now c.eq.result c.eq.ensures
