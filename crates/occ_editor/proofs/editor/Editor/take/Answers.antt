use Rattle.std.proofs.Common.{◌≡◌, ◌∙◌, Bool, ℕ, List, Some, ap, cond, rules, subst, sym}
use Rattle.occ_editor_edits.proofs.Noted.{changes_at}
use Rattle.occ_editor.proofs.Shown.{all_at, at_both}
use Rattle.occ_editor.proofs.Wanted.{folder_same}
use Rattle.occ_editor.proofs.editor.Editor.take.Goals as goal
use Rattle.occ_editor_edits.specs.Documents.{ChangesAt, path_of, text_in}
use Rattle.occ_editor.specs.Rooms.{AllStand, HaveOthers, HaveRooms}
use Rattle.occ_files.specs.Paths.{folder_of}
use Rattle.occ_editor_edits.specs.declared.documents.Document.{Document}
use Rattle.occ_editor_edits.specs.declared.documents.Documents.{Documents}

pub returns-clause-boards : goal.returns-clause-boards
returns-clause-boards c = λ stand.
    let before : List Document = c.args.self.now.documents.all.items in
    let now : List Document = c.take.new.self.all.items in
    let path : c.as_str.result.now ≡ path_of c.args.note = search rules in
    let changes : ChangesAt before now c.as_str.result.now (text_in now c.as_str.result.now) = subst (λ (p : List ℕ). ChangesAt before now p (text_in now p)) (sym path) (changes_at before now c.args.note c.in_ok-take.ensures.after) in
    let same : c.add_room.new.self.documents ≡ c.take.new.self = c.in_ok-add_room.ensures.documents ∙ c.in_ok-tell_all.ensures.documents in
    let told : c.tell_all.new.self.documents ≡ c.take.new.self = c.in_ok-tell_all.ensures.documents in
    let others : HaveOthers c.as_str.result.now c.tell_all.new.self.documents.all.items c.tell_all.new.self.rooms.items = λ other bytes e unit differs.
    let there : text_in before other ≡ Some bytes = sym (changes other ∙ ap (λ (b : Bool). cond b (text_in now c.as_str.result.now) (text_in before other)) differs) ∙ ap (λ (d : Documents). text_in d.all.items other) (sym told) ∙ e in
    folder_same c.tell_all.new.self.rooms.items c.args.self.now.rooms.items (folder_of other) c.in_ok-tell_all.ensures.folders ∙ stand.folders other bytes there unit in
    record {
      boards = subst (λ (d : Documents). AllStand d.all.items c.add_room.new.self.rooms.items) (sym same) (c.in_ok-add_room.ensures.boards now (c.in_ok-tell_all.ensures.boards before changes stand.boards));
      folders = subst (λ (d : Documents). HaveRooms d.all.items c.add_room.new.self.rooms.items) (sym c.in_ok-add_room.ensures.documents) (c.in_ok-add_room.ensures.rooms (subst (λ (p : List ℕ). HaveOthers p c.tell_all.new.self.documents.all.items c.tell_all.new.self.rooms.items) (c.as_str.ensures.value ∙ sym c.as_str-2.ensures.value) others));
    }

pub returns-clause-told : goal.returns-clause-told
returns-clause-told c = λ path. at_both c.args.self.now.rooms.items c.tell_all.new.self.rooms.items c.add_room.new.self.rooms.items path (all_at c.args.self.now.rooms.items c.tell_all.new.self.rooms.items path (c.in_ok-tell_all.ensures.told path)) (c.in_ok-add_room.ensures.told path)
