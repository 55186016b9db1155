use Rattle.std.proofs.Common.{◌≡◌, List, Option, rules}
use Rattle.occ_editor_edits.proofs.Noted.{is_opened, texts_after}
use Rattle.occ_editor_edits.specs.Documents.{IsAfter}
use Rattle.occ_editor_edits.specs.declared.documents.Note.{Note}
use Rattle.occ_editor_edits.proofs.documents.Documents.take.Goals as goal

pub returns-in_ok-put-in-Opened-clause-after : goal.returns-in_ok-put-in-Opened-clause-after
returns-in_ok-put-in-Opened-clause-after c = is_opened _ _ _ c.in-Opened.path c.in-Opened.text c.in-Opened.is c.in_ok-put-in-Opened.ensures

pub returns-in_ok-put-in-Opened-clause-texts : goal.returns-in_ok-put-in-Opened-clause-texts
returns-in_ok-put-in-Opened-clause-texts c = texts_after _ _ _ (is_opened _ _ _ c.in-Opened.path c.in-Opened.text c.in-Opened.is c.in_ok-put-in-Opened.ensures)

pub returns-in_ok-change-in-Changed-clause-texts : goal.returns-in_ok-change-in-Changed-clause-texts
returns-in_ok-change-in-Changed-clause-texts c =
    let after : IsAfter c.args.self.now.all.items c.args.note c.change.new.self.all.items = search rules in
    texts_after _ _ _ after

pub returns-in-Closed-clause-texts : goal.returns-in-Closed-clause-texts
returns-in-Closed-clause-texts c =
    let after : IsAfter c.args.self.now.all.items c.args.note c.close.new.self.all.items = search rules in
    texts_after _ _ _ after
