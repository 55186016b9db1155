use Rattle.std.proofs.Common.{◌≡◌, ◌∙◌, Global, List, String, ap, false, rules, subst, sym}
use Rattle.std.specs.BTreeSet.{BTreeSet}
use Rattle.occ_editor.proofs.Shown.{all_at, at_both, published_as}
use Rattle.occ_editor.proofs.Wanted.{all_served, folder_same}
use Rattle.occ_editor.proofs.editor.Editor.publish.Goals as goal
use Rattle.occ_editor.specs.Rooms.{AllSettled, HaveRooms}
use Rattle.occ_editor.specs.inside.Shown.{has_key}
use Rattle.occ_editor.specs.declared.room.Room.{Room}
use Rattle.occ_editor_edits.specs.declared.documents.Document.{Document}
use Rattle.occ_editor_edits.specs.declared.documents.Documents.{Documents}
use Rattle.occ_files.specs.Paths.{folder_of}

pub returns-clause-boards : goal.returns-clause-boards
returns-clause-boards g c = λ stand.
    let same : c.leave_empty.new.self.documents ≡ c.args.self.now.documents = search rules in
    subst (λ (d : Documents). AllSettled d.all.items c.leave_empty.new.self.rooms.items) (sym same) (c.leave_empty.ensures.boards c.args.self.now.documents.all.items (c.in_ok-renew_all.ensures.boards stand.boards))

pub returns-clause-stands : goal.returns-clause-stands
returns-clause-stands g c = λ stand.
    let documents : List Document = c.args.self.now.documents.all.items in
    let same : c.leave_empty.new.self.documents ≡ c.args.self.now.documents = search rules in
    let have : HaveRooms documents c.renew_all.new.self.rooms.items = λ path bytes e unit. folder_same c.renew_all.new.self.rooms.items c.args.self.now.rooms.items (folder_of path) c.in_ok-renew_all.ensures.folders ∙ stand.folders path bytes e unit in
    record {
      boards = λ index room there. (returns-clause-boards g c stand index room there).stands;
      folders = subst (λ (d : Documents). HaveRooms d.all.items c.leave_empty.new.self.rooms.items) (sym same) (c.leave_empty.ensures.folders documents (c.in_ok-renew_all.ensures.boards stand.boards) have);
    }

pub returns-clause-served : goal.returns-clause-served
returns-clause-served g c = λ stand. all_served c.leave_empty.new.self.documents.all.items c.leave_empty.new.self.rooms.items (returns-clause-boards g c stand) ((returns-clause-stands g c stand).folders)

pub returns-clause-whole : goal.returns-clause-whole
returns-clause-whole g c = λ stand path none.
    let stale : c.leave_empty.new.self.stale ≡ c.renew_all.new.self.stale = c.leave_empty.ensures.stale in
    let missing : has_key c.renew_all.new.self.stale path ≡ false = ap (λ (paths : BTreeSet (String Global)). has_key paths path) (sym stale) ∙ sym (published_as c.in_ok-published.published.items c.leave_empty.new.self.stale path c.in_ok-published.ensures.paths) ∙ none in
    at_both c.args.self.now.rooms.items c.renew_all.new.self.rooms.items c.leave_empty.new.self.rooms.items path
    (all_at c.args.self.now.rooms.items c.renew_all.new.self.rooms.items path (c.in_ok-renew_all.ensures.told stand.boards path missing)) (c.leave_empty.ensures.told path)
