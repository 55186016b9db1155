use Rattle.std.proofs.Common.{◌∙◌, ◌+◌, ◌≤◌, List, length, refl, rules, subst, ℕ}
use Rattle.occ_editor.proofs.Rooms.{settled_all, settled_none}
use Rattle.occ_editor.proofs.Shown.{all_themselves, but_next}
use Rattle.occ_editor.proofs.editor.Editor.renew_all.Goals as goal
use Rattle.occ_editor.specs.declared.room.Room.{Room}
use Rattle.occ_editor.specs.inside.Followed.{AreSettled}
use Rattle.occ_editor.specs.inside.Shown.{AllTellBut}
use Rattle.occ_editor_edits.specs.declared.documents.Documents.{Documents}

pub loop-index-init : goal.loop-index-init
loop-index-init g c = (refl, refl, λ all. settled_none c.args.self.now.documents.all.items c.args.self.now.rooms.items all, refl, λ all path none. all_themselves c.args.self.now.rooms.items path)

pub returns-clause-boards : goal.returns-clause-boards
returns-clause-boards g c = λ all.
    let rooms : List Room = c.loop-index.self.rooms.items in
    let past : length rooms ≤ c.loop-index.index = search rules in
    settled_all c.args.self.now.documents.all.items c.loop-index.index rooms past (c.loop-index.invariant.2 all)

pub loop-index-preserved : goal.loop-index-preserved
loop-index-preserved g c =
    let first : List Room = c.args.self.now.rooms.items in
    let rooms : List Room = c.loop-index.self.rooms.items in
    let now : List Room = c.renew.new.self.rooms.items in
    let index : ℕ = c.loop-index.index in
    let boards = subst (λ (d : Documents). AreSettled d.all.items index rooms → AreSettled d.all.items (index + 1) now) c.loop-index.invariant.0 c.in_ok-renew.ensures.boards in
    let told = subst (λ (d : Documents). AreSettled d.all.items index rooms → AllTellBut c.renew.new.self.stale rooms now) c.loop-index.invariant.0 c.in_ok-renew.ensures.told in (
      c.renew.ensures.documents ∙ c.loop-index.invariant.0,
      c.in_ok-renew.ensures.count ∙ c.loop-index.invariant.1,
      λ all. boards (c.loop-index.invariant.2 all),
      c.in_ok-renew.ensures.folders ∙ c.loop-index.invariant.3,
      λ all. but_next c.loop-index.self.stale c.renew.new.self.stale first rooms now c.in_ok-renew.ensures.grows (c.loop-index.invariant.4 all) (told (c.loop-index.invariant.2 all)),
    )
