use Rattle.std.proofs.Common.{◌≡◌, ◌<◌, ℕ, List, Some, arith, length, refl}
use Rattle.std.proofs.lemmas.Option.{slice_get_read}
use Rattle.std.specs.List.{slice_get}
use Rattle.occ_editor.proofs.Rooms.{loose, stand_next}
use Rattle.occ_editor.proofs.Shown.{all_set, all_themselves}
use Rattle.occ_editor.proofs.Wanted.{folders_set}
use Rattle.occ_editor.proofs.editor.Editor.loosen.Goals as goal
use Rattle.occ_editor.specs.declared.room.Room.{Room}

pub returns-in-Some-clause-boards : goal.returns-in-Some-clause-boards
returns-in-Some-clause-boards c = λ documents all.
    let rooms : List Room = c.args.self.now.rooms.items in
    let index : ℕ = c.args.index in
    let room : Room = c.in-Some.room.now in
    let less : index < length rooms = grind (arith, c.in-Some.ensures.item.0) in
    let there : slice_get rooms index ≡ Some room = slice_get_read rooms _ _ room refl less c.in-Some.ensures.item.1 in
    stand_next documents index rooms _ all (loose documents room (all index room there))

pub returns-in-Some-clause-folders : goal.returns-in-Some-clause-folders
returns-in-Some-clause-folders c =
    let rooms : List Room = c.args.self.now.rooms.items in
    let index : ℕ = c.args.index in
    let room : Room = c.in-Some.room.now in
    let less : index < length rooms = grind (arith, c.in-Some.ensures.item.0) in
    folders_set rooms index room _ (slice_get_read rooms _ _ room refl less c.in-Some.ensures.item.1) refl

pub returns-in-Some-clause-told : goal.returns-in-Some-clause-told
returns-in-Some-clause-told c = λ path.
    let rooms : List Room = c.args.self.now.rooms.items in
    let room : Room = c.in-Some.room.now in
    let less : c.args.index < length rooms = grind (arith, c.in-Some.ensures.item.0) in
    all_set rooms c.args.index room _ path (slice_get_read rooms _ _ room refl less c.in-Some.ensures.item.1) (record { heads = λ head. (λ h. h, λ h. h); why = refl })

pub returns-in_default-clause-told : goal.returns-in_default-clause-told
returns-in_default-clause-told c = λ path. all_themselves c.args.self.now.rooms.items path
