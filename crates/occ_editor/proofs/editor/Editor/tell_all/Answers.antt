use Rattle.std.proofs.Common.{◌∙◌, ◌+◌, ◌≤◌, List, length, refl, rules, subst, ℕ}
use Rattle.occ_editor.proofs.Rooms.{followed_all, followed_none}
use Rattle.occ_editor.proofs.Shown.{all_both, all_themselves}
use Rattle.occ_editor.proofs.editor.Editor.tell_all.Goals as goal
use Rattle.occ_editor.specs.declared.room.Room.{Room}
use Rattle.occ_editor.specs.inside.Followed.{HaveFollowed}
use Rattle.occ_editor_edits.specs.Documents.{ChangesAt, text_in}
use Rattle.occ_editor_edits.specs.declared.documents.Document.{Document}
use Rattle.occ_editor_edits.specs.declared.documents.Documents.{Documents}

pub loop-index-init : goal.loop-index-init
loop-index-init c = (refl, refl, λ before changes all. followed_none before c.args.self.now.documents.all.items c.args.self.now.rooms.items all, refl, λ path. all_themselves c.args.self.now.rooms.items path)

pub returns-clause-boards : goal.returns-clause-boards
returns-clause-boards c = λ before changes all.
    let rooms : List Room = c.loop-index.self.rooms.items in
    let past : length rooms ≤ c.loop-index.index = search rules in
    followed_all before c.args.self.now.documents.all.items c.loop-index.index rooms past (c.loop-index.invariant.2 before changes all)

pub loop-index-preserved : goal.loop-index-preserved
loop-index-preserved c =
    let path : List ℕ = c.args.path.now in
    let rooms : List Room = c.loop-index.self.rooms.items in
    let now : List Room = c.tell.new.self.rooms.items in
    let index : ℕ = c.loop-index.index in
    let boards = subst (λ (d : Documents). (before : List Document) → ChangesAt before d.all.items path (text_in d.all.items path) → HaveFollowed before d.all.items index rooms → HaveFollowed before d.all.items (index + 1) now) c.loop-index.invariant.0 c.in_ok-tell.ensures.boards in (
      c.tell.ensures.documents ∙ c.loop-index.invariant.0,
      c.in_ok-tell.ensures.count ∙ c.loop-index.invariant.1,
      λ before changes all. boards before changes (c.loop-index.invariant.2 before changes all),
      c.in_ok-tell.ensures.folders ∙ c.loop-index.invariant.3,
      λ path. all_both c.args.self.now.rooms.items rooms now path (c.loop-index.invariant.4 path) (c.in_ok-tell.ensures.told path),
    )
