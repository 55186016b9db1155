use Rattle.std.proofs.Common.{◌∙◌, List, ap, not, rules, subst, sym}
use Rattle.std.proofs.lemmas.Fn.{filter_same}
use Rattle.std.specs.List.{slice_get}
use Rattle.occ_editor.proofs.Rooms.{where_true}
use Rattle.occ_editor.proofs.Shown.{without_vacant}
use Rattle.occ_editor.proofs.Wanted.{rooms_filter}
use Rattle.occ_editor.proofs.editor.Editor.leave_empty.Goals as goal
use Rattle.occ_editor.specs.Publishing.{BoardsTellSame}
use Rattle.occ_editor.specs.Rooms.{HaveRooms, is_vacant}
use Rattle.occ_editor.specs.declared.room.Room.{Room}

pub returns-clause-boards : goal.returns-clause-boards
returns-clause-boards c = λ documents all index room e.
    let kept = c.retain.ensures.filtered in
    let from = where_true kept.0 c.args.self.now.rooms.items index room (ap (λ (rooms : List Room). slice_get rooms index) (sym kept.4) ∙ e) in
    all from.0 room from.1

pub returns-clause-rooms : goal.returns-clause-rooms
returns-clause-rooms c = filter_same _ (λ (room : Room). not (is_vacant room)) _ (λ room b f' k. search rules) _ _ c.retain.ensures.filtered

pub returns-clause-folders : goal.returns-clause-folders
returns-clause-folders c = λ documents settled have. subst (HaveRooms documents) (sym (returns-clause-rooms c)) (rooms_filter documents c.args.self.now.rooms.items settled have)

pub returns-clause-told : goal.returns-clause-told
returns-clause-told c = subst (BoardsTellSame c.args.self.now.rooms.items) (sym (returns-clause-rooms c)) (without_vacant c.args.self.now.rooms.items)
