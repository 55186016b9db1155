use Rattle.std.proofs.Common.{◌≡◌, ◌++◌, map}
use Rattle.std.specs.List.{All}
use Rattle.std.specs.String.{string_bytes}
use Rattle.occ_editor.proofs.editor.told_all.Given as goal
use Rattle.occ_editor.specs.Publishing.{IsPublished}

abbrev pub invariant-loop-path : goal.invariant-loop-path
invariant-loop-path l = All (IsPublished l.rooms) l.published.items × (map (λ p. string_bytes p.path) l.published.items ++ map string_bytes l.path-iterator ≡ map string_bytes l.paths.keys)
