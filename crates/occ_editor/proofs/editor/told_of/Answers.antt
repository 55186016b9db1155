use Rattle.std.proofs.Common.{◌≡◌, ◌∙◌, ◌⊎◌, ◌↔◌, ◌∷◌, ◌+◌, ℕ, Global, List, String, Vec, ap, drop, map, subst, sym}
use Rattle.std.proofs.lemmas.List.{drop_more}
use Rattle.std.specs.List.{Contains}
use Rattle.std.specs.String.{string_bytes}
use Rattle.occ_editor.proofs.Heads.{merged}
use Rattle.occ_editor.proofs.editor.told_of.Goals as goal
use Rattle.occ_editor.specs.Publishing.{IsTold, told_at}
use Rattle.occ_editor.specs.declared.room.Room.{Room}
use Rattle.occ_messages.specs.Located.{Head, head_of}
use Rattle.occ_messages.specs.declared.message.Message.{Message}

pub loop-room-preserved : goal.loop-room-preserved
loop-room-preserved c =
    let rooms : List Room = c.args.rooms.now in
    let i : ℕ = c.loop-room.room-index in
    let room : Room = c.room-item.result in
    let path : List ℕ = c.args.path.now in
    let next : drop i rooms ≡ room ∷ drop (i + 1) rooms = drop_more rooms i room c.loop-room-test.true ∙ ap (λ (r : Room). r ∷ drop (i + 1) rooms) (sym c.room-item.is) in
    let old : List Message = c.loop-room.published.messages.items in
    let new : List Message = c.add_all.new.self.messages.items in
    let more : (head : Head) → Contains (map head_of new) head ↔ (Contains (map head_of old) head ⊎ Contains (told_at room path) head) = λ head.
    subst (λ (hs : List Head). Contains (map head_of new) head ↔ (Contains (map head_of old) head ⊎ Contains hs head)) c.in_ok-messages_of.ensures
    (c.in_ok-add_all.ensures.messages head) in (
      ap (λ (p : String Global). string_bytes p) c.in_ok-add_all.ensures.path ∙ c.loop-room.invariant.0,
      c.in_ok-add_all.ensures.refusal ∙ c.loop-room.invariant.1,
      λ head. merged (more head) (subst (λ (rs : List Room). (Contains (map head_of old) head ⊎ IsTold rs path head) ↔ IsTold rooms path head) next (c.loop-room.invariant.2 head)),
    )
