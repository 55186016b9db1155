use Rattle.std.proofs.Common.{◌≡◌, IfSome, List, drop, false, true, ℕ}
use Rattle.std.specs.List.{Contains}
use Rattle.occ_base.specs.declared.diag.Diag.{Diag}
use Rattle.occ_editor.proofs.room.Room.add_paths.Given as goal
use Rattle.occ_editor.specs.inside.Shown.{Grows, HasFile, IsIn, has_key}
use Rattle.occ_files.specs.Gathering.{are_apart}

abbrev pub invariant-loop-diag : goal.invariant-loop-diag
invariant-loop-diag l =
    Grows l.fn.paths l.paths
    × IfSome l.last (HasFile l.self.texts.items l.paths)
    × (are_apart l.self.texts.items ≡ true → (path : List ℕ) → has_key l.paths path ≡ false → ((diag : Diag) → Contains (drop l.diag-index l.diags) diag → IsIn l.self.texts.items path diag → Contains l.others diag)
    → (diag : Diag) → Contains l.diags diag → IsIn l.self.texts.items path diag → Contains l.others diag)
