use Rattle.std.proofs.Common.{◌∙◌, ap, subst, sym}
use Rattle.occ_board.specs.declared.entry.Edit.TheVariants as edit
use Rattle.occ_lines.specs.Lines.{limit_fault}
use Rattle.occheck_script.specs.Machine.{text_read}
use Rattle.occheck_script.specs.declared.edit.RequestedEdit.{RequestedEdit}
use Rattle.occheck_script.specs.inside.Seen.{IsFile, refused_by}
use Rattle.occheck_script.proofs.Editing.{after_is, renamed, said, text_is}
use Rattle.occheck_script.proofs.desk.Desk.change.Goals as goal

pub returns-in-File-clause-answered : goal.returns-in-File-clause-answered
returns-in-File-clause-answered c = λ read l.
    text_is (λ bytes. bytes.items) c.edited.result c.args.self.now c.change.new.self c.args.name.now (limit_fault c.args.text.now) (edit.Changed c.args.name.now (text_read read c.args.text.now)) c.change.result
    (sym c.in_ok-given.ensures.refused ∙ ap refused_by c.in-File.is)
    (renamed c.args.self.now.board c.change.new.self edit.Changed c.in-File.file c.args.name.now c.in-File.source (text_read read c.args.text.now) c.change.result
    (subst (λ (g : RequestedEdit). IsFile g c.args.name.now (text_read read c.args.text.now)) c.in-File.is (c.in_ok-given.ensures.file read l))
    (said c.args.self.now.board c.change.new.self (edit.Changed c.in-File.file c.in-File.source) c.change.result c.change.ensures.answered c.change.ensures.after c.change.ensures.fault c.change.ensures.err))
    c.edited.ensures.memory c.edited.ensures.text

pub returns-in-File-clause-after : goal.returns-in-File-clause-after
returns-in-File-clause-after c = λ read l.
    after_is c.edited.result c.args.self.now c.change.new.self c.args.name.now (limit_fault c.args.text.now) (edit.Changed c.args.name.now (text_read read c.args.text.now)) c.change.result
    (sym c.in_ok-given.ensures.refused ∙ ap refused_by c.in-File.is)
    (renamed c.args.self.now.board c.change.new.self edit.Changed c.in-File.file c.args.name.now c.in-File.source (text_read read c.args.text.now) c.change.result
    (subst (λ (g : RequestedEdit). IsFile g c.args.name.now (text_read read c.args.text.now)) c.in-File.is (c.in_ok-given.ensures.file read l))
    (said c.args.self.now.board c.change.new.self (edit.Changed c.in-File.file c.in-File.source) c.change.result c.change.ensures.answered c.change.ensures.after c.change.ensures.fault c.change.ensures.err))
    c.edited.ensures.memory
