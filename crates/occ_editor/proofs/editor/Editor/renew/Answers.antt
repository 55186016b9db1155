use Rattle.std.proofs.Common.{◌≡◌, ◌≤◌, ◌<◌, ℕ, List, Option, Some, ap, arith, length, refl, subst, sym}
use Rattle.std.proofs.lemmas.Option.{slice_get_read}
use Rattle.std.specs.List.{slice_get}
use Rattle.occ_editor.proofs.Rooms.{settled_next, settled_past}
use Rattle.occ_editor.proofs.Shown.{all_set, all_themselves}
use Rattle.occ_editor.proofs.Wanted.{folders_set}
use Rattle.occ_editor.proofs.editor.Editor.renew.Goals as goal
use Rattle.occ_editor.specs.Rooms.{over}
use Rattle.occ_editor_edits.specs.declared.documents.Document.{Document}
use Rattle.occ_editor.specs.declared.room.Room.{Room}
use Rattle.occ_editor.specs.inside.Placed.{AreAsked}

pub returns-in_ok-renew-clause-boards : goal.returns-in_ok-renew-clause-boards
returns-in_ok-renew-clause-boards g c = λ settled.
    let documents : List Document = c.args.self.now.documents.all.items in
    let rooms : List Room = c.args.self.now.rooms.items in
    let index : ℕ = c.args.index in
    let less : index < length rooms = grind (arith, c.in-Some.ensures.item.0) in
    let there : slice_get rooms index ≡ Some c.in-Some.room.now = slice_get_read rooms _ _ c.in-Some.room.now refl less c.in-Some.ensures.item.1 in
    let asked : AreAsked documents c.in-Some.room.now c.as_slice.result.now = subst (AreAsked documents c.in-Some.room.now) (sym c.as_slice.ensures.value) c.in_ok-paths.ensures in
    settled_next documents index rooms c.renew.new.self settled
    (c.in_ok-renew.ensures.settled documents (λ path bytes e. ap (λ (text : Option (List ℕ)). over text (g.D.Disk.known c.args.disk.now path)) e) asked (settled.left index c.in-Some.room.now (omega arith) there))

pub returns-in_default-clause-boards : goal.returns-in_default-clause-boards
returns-in_default-clause-boards g c = λ settled.
    let past : length c.args.self.now.rooms.items ≤ c.args.index = grind (arith, c.in_default.ensures.item.0) in
    settled_past c.args.self.now.documents.all.items c.args.index c.args.self.now.rooms.items past settled

pub returns-in_ok-renew-clause-folders : goal.returns-in_ok-renew-clause-folders
returns-in_ok-renew-clause-folders g c =
    let rooms : List Room = c.args.self.now.rooms.items in
    let less : c.args.index < length rooms = grind (arith, c.in-Some.ensures.item.0) in
    folders_set rooms c.args.index c.in-Some.room.now c.renew.new.self (slice_get_read rooms _ _ c.in-Some.room.now refl less c.in-Some.ensures.item.1) c.in_ok-renew.ensures.folder

pub returns-in_ok-renew-clause-told : goal.returns-in_ok-renew-clause-told
returns-in_ok-renew-clause-told g c = λ settled path none.
    let documents : List Document = c.args.self.now.documents.all.items in
    let rooms : List Room = c.args.self.now.rooms.items in
    let index : ℕ = c.args.index in
    let less : index < length rooms = grind (arith, c.in-Some.ensures.item.0) in
    let there : slice_get rooms index ≡ Some c.in-Some.room.now = slice_get_read rooms _ _ c.in-Some.room.now refl less c.in-Some.ensures.item.1 in
    all_set rooms index c.in-Some.room.now c.renew.new.self path there (c.in_ok-renew.ensures.told documents (settled.left index c.in-Some.room.now (omega arith) there) path none)

pub returns-in_default-clause-told : goal.returns-in_default-clause-told
returns-in_default-clause-told g c = λ settled path none. all_themselves c.args.self.now.rooms.items path
