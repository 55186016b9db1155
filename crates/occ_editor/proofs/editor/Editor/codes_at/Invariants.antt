use Rattle.std.proofs.Common.{◌⊎◌, ◌↔◌, drop}
use Rattle.std.specs.List.{Contains}
use Rattle.occ_base.specs.declared.code.Code.{Code}
use Rattle.occ_editor.proofs.editor.Editor.codes_at.Given as goal
use Rattle.occ_editor.specs.Publishing.{HasCode, IsTold}

abbrev pub invariant-loop-room : goal.invariant-loop-room
invariant-loop-room l = (code : Code) → (Contains l.codes.keys code ⊎ HasCode (IsTold (drop l.room-index l.self.rooms.items) l.path) l.line code) ↔ HasCode (IsTold l.self.rooms.items l.path) l.line code
