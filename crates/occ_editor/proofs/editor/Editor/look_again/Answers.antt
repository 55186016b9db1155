use Rattle.std.proofs.Common.{◌∙◌, List, refl, subst, sym}
use Rattle.occ_editor.proofs.Shown.{all_at, all_both, all_themselves}
use Rattle.occ_editor.proofs.Wanted.{folder_same}
use Rattle.occ_editor.proofs.editor.Editor.look_again.Goals as goal
use Rattle.occ_editor.specs.Rooms.{AllStand, HaveRooms}
use Rattle.occ_editor.specs.declared.room.Room.{Room}
use Rattle.occ_files.specs.Paths.{folder_of}
use Rattle.occ_editor_edits.specs.declared.documents.Documents.{Documents}

pub loop-index-preserved : goal.loop-index-preserved
loop-index-preserved c = (c.loosen.ensures.documents ∙ c.loop-index.invariant.0, λ documents all. c.loosen.ensures.boards documents (c.loop-index.invariant.1 documents all), c.loosen.ensures.folders ∙ c.loop-index.invariant.2, λ path. all_both c.args.self.now.rooms.items c.loop-index.self.rooms.items c.loosen.new.self.rooms.items path (c.loop-index.invariant.3 path) (c.loosen.ensures.told path))

pub loop-index-init : goal.loop-index-init
loop-index-init c = (refl, λ documents all. all, refl, λ path. all_themselves c.args.self.now.rooms.items path)

pub returns-clause-told : goal.returns-clause-told
returns-clause-told c = λ path. all_at c.args.self.now.rooms.items c.loop-index.self.rooms.items path (c.loop-index.invariant.3 path)

pub returns-clause-boards : goal.returns-clause-boards
returns-clause-boards c = λ all.
    let rooms : List Room = c.loop-index.self.rooms.items in
    record {
      boards = subst (λ (d : Documents). AllStand d.all.items rooms) (sym c.loop-index.invariant.0) (c.loop-index.invariant.1 c.args.self.now.documents.all.items all.boards);
      folders = subst (λ (d : Documents). HaveRooms d.all.items rooms) (sym c.loop-index.invariant.0) (λ path bytes e unit. folder_same rooms c.args.self.now.rooms.items (folder_of path) c.loop-index.invariant.2 ∙ all.folders path bytes e unit);
    }
