use Rattle.std.proofs.Common.{◌≡◌, ◌∙◌, ◌⊎◌, ◌↔◌, ◌∷◌, ◌+◌, List, ap, drop, rules, subst, sym, ℕ}
use Rattle.std.proofs.lemmas.List.{drop_more}
use Rattle.std.specs.List.{Contains}
use Rattle.occ_editor.proofs.Codes.{first_or_more, past_rooms}
use Rattle.occ_editor.proofs.Heads.{ended, merged, split_right}
use Rattle.occ_editor.proofs.editor.Editor.codes_at.Goals as goal
use Rattle.occ_editor.specs.Publishing.{HasCode, IsTold}
use Rattle.occ_editor.specs.declared.room.Room.{Room}

pub loop-room-preserved : goal.loop-room-preserved
loop-room-preserved c = λ code.
    let rooms : List Room = c.args.self.now.rooms.items in
    let all : List Room = c.deref-room-items.result.now in
    let i : ℕ = c.loop-room.room-index in
    let room : Room = c.room-item.result in
    let path : List ℕ = c.args.path.now in
    let line : ℕ = c.args.line in
    let next : drop i rooms ≡ room ∷ drop (i + 1) rooms = subst (λ (rs : List Room). drop i rs ≡ room ∷ drop (i + 1) rs) c.deref-room-items.ensures.value (drop_more all i room c.loop-room-test.true ∙ ap (λ (r : Room). r ∷ drop (i + 1) all) (sym c.room-item.is)) in
    merged (c.in_ok-add_codes.ensures code)
    (split_right (first_or_more room (drop (i + 1) rooms) path line code)
    (subst (λ (rs : List Room). (Contains c.loop-room.codes.keys code ⊎ HasCode (IsTold rs path) line code) ↔ HasCode (IsTold rooms path) line code) next (c.loop-room.invariant code)))

pub returns : goal.returns
returns c = λ code. ended (past_rooms c.args.self.now.rooms.items c.loop-room.room-index c.args.path.now c.args.line code (search rules)) (c.loop-room.invariant code)
