use Rattle.std.proofs.Common.{◌∙◌, ap, cond, Some}
use Rattle.std.specs.Str.{bytes_eq}
use Rattle.occ_board.specs.declared.entry.Edit.TheVariants as edit
use Rattle.occ_editor.proofs.Replayed.{one_later}
use Rattle.occ_editor.specs.Placing.{source_on}
use Rattle.occ_forms.specs.Prepared.{Prepared}
use Rattle.occ_editor.proofs.placing.put.Goals as goal

pub returns-in-Ok : goal.returns-in-Ok
returns-in-Ok c other =
    one_later c.args.board.now c.cut.new.board c.change.new.self 0 (edit.Changed c.args.name c.in_ok-share.field-0) c.in-Ok._number c.in_ok-cut.ensures c.put_law.ensures.files c.in-Ok.ensures.answered c.in-Ok.ensures.after other
    ∙ ap (λ (s : Prepared). cond (bytes_eq c.args.name other) (Some s) (source_on c.args.board.now other)) c.in_ok-share.ensures
