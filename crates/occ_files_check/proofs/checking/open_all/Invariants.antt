use Rattle.std.proofs.Common.{◌≡◌, ◌++◌, map, take}
use Rattle.occ_files_check.specs.Told.{opening}
use Rattle.occ_files_check.proofs.checking.open_all.Given as goal

abbrev pub invariant-loop-text : goal.invariant-loop-text
invariant-loop-text l = (l.board.base ≡ l.fn.board.base) × (l.board.journal ≡ l.fn.board.journal ++ map opening (take l.text-index l.texts))
