use Rattle.std.proofs.Common.{◌≡◌, ◌∙◌, ap, ◌++◌, ◌∷◌, List, [], rules, subst, sym}
use Rattle.occ_editor.proofs.Rooms.{stand_more}
use Rattle.std.specs.String.{string_bytes}
use Rattle.occ_files.specs.Paths.{folder_of}
use Rattle.occ_editor.proofs.Shown.{more_quiet}
use Rattle.occ_editor.proofs.Wanted.{room_for}
use Rattle.occ_editor.proofs.editor.Editor.add_room.Goals as goal
use Rattle.occ_editor.specs.Publishing.{TellsAt}
use Rattle.occ_editor.specs.Rooms.{AllStand, has_folder}
use Rattle.occ_editor.specs.declared.room.Room.{Room}

pub returns-in_ok-push-clause-boards : goal.returns-in_ok-push-clause-boards
returns-in_ok-push-clause-boards c = λ documents all.
    let rooms : List Room = c.args.self.now.rooms.items in
    let more : c.push.new.self.items ≡ rooms ++ c.in_ok-new.field-0 ∷ [] = search rules in
    subst (AllStand documents) (sym more) (stand_more documents rooms c.in_ok-new.field-0 all (c.in_ok-new.ensures.stands documents))

pub returns-in_ok-push-clause-rooms : goal.returns-in_ok-push-clause-rooms
returns-in_ok-push-clause-rooms c = λ others path bytes e unit.
    let rooms : List Room = c.args.self.now.rooms.items in
    let more : c.push.new.self.items ≡ rooms ++ c.in_ok-new.field-0 ∷ [] = search rules in
    let folder : string_bytes c.in_ok-new.field-0.folder ≡ folder_of c.args.path.now = c.in_ok-new.ensures.folder ∙ c.folder_of.ensures in
    ap (λ (rs : List Room). has_folder rs (folder_of path)) more ∙ room_for rooms c.in_ok-new.field-0 c.args.path.now path (others path bytes e unit) folder

pub returns-in_ok-push-clause-told : goal.returns-in_ok-push-clause-told
returns-in_ok-push-clause-told c = λ path.
    let rooms : List Room = c.args.self.now.rooms.items in
    let more : c.push.new.self.items ≡ rooms ++ c.in_ok-new.field-0 ∷ [] = search rules in
    subst (λ (rs : List Room). TellsAt rooms rs path) (sym more) (more_quiet rooms c.in_ok-new.field-0 path (c.in_ok-new.ensures.quiet path))
