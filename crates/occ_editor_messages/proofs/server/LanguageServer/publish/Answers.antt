use Rattle.std.proofs.Common.{List, subst, sym}
use Rattle.std.specs.List.{All}
use Rattle.occ_editor.specs.Publishing.{AreWhole, IsPublished}
use Rattle.occ_editor.specs.Standing.{AreServed, IsStanding, IsUpToDate}
use Rattle.occ_editor.specs.declared.editor.Editor.{Editor}
use Rattle.occ_editor.specs.declared.editor.Published.{Published}
use Rattle.occ_editor_messages.specs.inside.Sending.{AreSent}
use Rattle.occ_editor_messages.proofs.server.LanguageServer.publish.Goals as goal

pub returns-clause-boards : goal.returns-clause-boards
returns-clause-boards g c = λ stands. subst IsUpToDate (sym c.send_all.ensures.editor) (c.in_ok-all.ensures.boards stands)

pub returns-clause-stands : goal.returns-clause-stands
returns-clause-stands g c = λ stands. subst IsStanding (sym c.send_all.ensures.editor) (c.in_ok-all.ensures.stands stands)

pub returns-clause-served : goal.returns-clause-served
returns-clause-served g c = λ stands. subst AreServed (sym c.send_all.ensures.editor) (c.in_ok-all.ensures.served stands)

pub returns-clause-told : goal.returns-clause-told
returns-clause-told g c = λ stands.
    let all : List Published = c.in_ok-all.all.items in
    let before : Editor = c.args.self.now.editor in
    let sent : AreSent all c.args.self.now.sending.bytes.items c.send_all.new.self.sending.bytes.items = subst (λ (ps : List Published). AreSent ps c.args.self.now.sending.bytes.items c.send_all.new.self.sending.bytes.items) c.as_slice.ensures.value c.in_ok-send_all.ensures.sent in
    record {
      all = all;
      params = sent.0;
      published = subst (λ (e : Editor). All (IsPublished e.rooms.items) all) (sym c.send_all.ensures.editor) c.in_ok-all.ensures.told;
      whole = subst (λ (e : Editor). AreWhole before.rooms.items e.rooms.items all) (sym c.send_all.ensures.editor) (c.in_ok-all.ensures.whole stands);
      told = sent.1;
      sent = sent.2;
    }
