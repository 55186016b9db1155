use Rattle.occ_board.specs.declared.entry.Edit.TheVariants as edit
use Rattle.occ_editor.proofs.Replayed.{one_later}
use Rattle.occ_editor.proofs.placing.remove.Goals as goal

pub returns-in-Ok : goal.returns-in-Ok
returns-in-Ok c = one_later c.args.board.now c.cut.new.board c.remove.new.self 0 (edit.Removed c.args.name) c.in-Ok._number c.in_ok-cut.ensures c.put_law.ensures.files c.in-Ok.ensures.answered c.in-Ok.ensures.after
