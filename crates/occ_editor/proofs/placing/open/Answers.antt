use Rattle.occ_board.specs.declared.entry.Edit.TheVariants as edit
use Rattle.occ_editor.proofs.Replayed.{one_edit}
use Rattle.occ_editor.proofs.placing.open.Goals as goal

pub returns-in-Ok : goal.returns-in-Ok
returns-in-Ok c = one_edit c.args.board.now c.open.new.self 0 (edit.Added c.args.name c.args.source) c.in-Ok._number c.put_law.ensures.files c.in-Ok.ensures.answered c.in-Ok.ensures.after
