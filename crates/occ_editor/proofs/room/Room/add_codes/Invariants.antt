use Rattle.std.proofs.Common.{◌⊎◌, ◌↔◌, drop}
use Rattle.std.specs.List.{Contains}
use Rattle.occ_base.specs.declared.code.Code.{Code}
use Rattle.occ_editor.proofs.room.Room.add_codes.Given as goal
use Rattle.occ_editor.specs.inside.Codes.{IsOneAt}

abbrev pub invariant-loop-diag : goal.invariant-loop-diag
invariant-loop-diag l = (code : Code) → (Contains l.codes.keys code ⊎ IsOneAt (drop l.diag-index l.self.told) l.text.name l.line code) ↔ (Contains l.fn.codes.keys code ⊎ IsOneAt l.self.told l.text.name l.line code)
