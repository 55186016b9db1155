-- Which units an edit of a file does not concern.
use Rattle.std.specs.Prelude.{◌≡◌, ◌⊎◌, ℕ, false, List}
use Rattle.occ_project.specs.Entries.{is_among}
use Rattle.occ_project.specs.Expansion.{expansion}
use Rattle.occ_project.specs.declared.reads.Read.{Read}
use Rattle.occ_project_units.specs.Units.{Reaches}

-- v is u, or a unit that u reaches
abbrev pub IsUnder : List Read → List ℕ → List ℕ → Type 0
IsUnder files u v = (v ≡ u) ⊎ Reaches files u v

-- the file of that name is a read neither of u nor of a unit that u reaches, where an absent unit reads its own name
abbrev pub IsApart : List Read → List ℕ → List ℕ → Type 0
IsApart files name u = (v : List ℕ) → IsUnder files u v → is_among (expansion files v).reads name ≡ false
