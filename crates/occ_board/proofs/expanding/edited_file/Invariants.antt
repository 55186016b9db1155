use Rattle.std.proofs.Common.{◌≡◌, drop, nat_eq}
use Rattle.std.specs.List.{find}
use Rattle.occ_board.proofs.expanding.edited_file.Given as goal

abbrev pub invariant-loop-file : goal.invariant-loop-file
invariant-loop-file l = find (λ file. nat_eq file.revision l.number) (drop l.file-index l.files) ≡ find (λ file. nat_eq file.revision l.number) l.files
