use Rattle.occ_editor_edits.specs.Documents.{ChangesAt}
use Rattle.std.proofs.Common.{◌≡◌, ◌≤◌, ◌<◌, ℕ, List, Option, Some, arith, length, refl, subst, sym}
use Rattle.std.proofs.lemmas.Option.{slice_get_read}
use Rattle.std.specs.List.{slice_get}
use Rattle.occ_editor.proofs.Rooms.{followed_next, followed_past}
use Rattle.occ_editor.proofs.Shown.{all_set, all_themselves}
use Rattle.occ_editor.proofs.Wanted.{folders_set}
use Rattle.occ_editor.proofs.editor.Editor.tell.Goals as goal
use Rattle.occ_editor_edits.specs.declared.documents.Document.{Document}
use Rattle.occ_editor.specs.declared.room.Room.{Room}

pub returns-in_ok-told-clause-boards : goal.returns-in_ok-told-clause-boards
returns-in_ok-told-clause-boards c = λ before changes followed.
    let documents : List Document = c.args.self.now.documents.all.items in
    let rooms : List Room = c.args.self.now.rooms.items in
    let index : ℕ = c.args.index in
    let less : index < length rooms = grind (arith, c.in-Some.ensures.item.0) in
    let there : slice_get rooms index ≡ Some c.in-Some.room.now = slice_get_read rooms _ _ c.in-Some.room.now refl less c.in-Some.ensures.item.1 in
    followed_next before documents index rooms c.told.new.room followed
    (c.in_ok-told.ensures.stands before documents (subst (λ (text : Option (List ℕ)). ChangesAt before documents c.args.path.now text) (sym c.text_of-text.ensures) changes) (followed.left index c.in-Some.room.now (omega arith) there))

pub returns-in_default-clause-boards : goal.returns-in_default-clause-boards
returns-in_default-clause-boards c = λ before changes followed.
    let past : length c.args.self.now.rooms.items ≤ c.args.index = grind (arith, c.in_default.ensures.item.0) in
    followed_past before c.args.self.now.documents.all.items c.args.index c.args.self.now.rooms.items past followed

pub returns-in_ok-told-clause-folders : goal.returns-in_ok-told-clause-folders
returns-in_ok-told-clause-folders c =
    let rooms : List Room = c.args.self.now.rooms.items in
    let less : c.args.index < length rooms = grind (arith, c.in-Some.ensures.item.0) in
    folders_set rooms c.args.index c.in-Some.room.now c.told.new.room (slice_get_read rooms _ _ c.in-Some.room.now refl less c.in-Some.ensures.item.1) c.told.ensures.folder

pub returns-in_ok-told-clause-told : goal.returns-in_ok-told-clause-told
returns-in_ok-told-clause-told c = λ path.
    let rooms : List Room = c.args.self.now.rooms.items in
    let less : c.args.index < length rooms = grind (arith, c.in-Some.ensures.item.0) in
    all_set rooms c.args.index c.in-Some.room.now c.told.new.room path (slice_get_read rooms _ _ c.in-Some.room.now refl less c.in-Some.ensures.item.1) (c.in_ok-told.ensures.told path)

pub returns-in_default-clause-told : goal.returns-in_default-clause-told
returns-in_default-clause-told c = λ path. all_themselves c.args.self.now.rooms.items path
