-- What a unit reads of a project, which units it uses, and which of them in a circle. A unit is a file whose name ends in
-- `.occ`.
use Rattle.std.specs.Prelude.{◌≡◌, ℕ, true, cond, ◌⊎◌, List, [], ◌∷◌, map}
use Rattle.occ_base.specs.FileName.{is_unit}
use Rattle.occ_project.specs.declared.reads.Read.{Read}
use Rattle.occ_project.specs.Entries.{is_among}
use Rattle.occ_project.specs.Expansion.{expansion}
use Rattle.occ_project.specs.Uses.{used_in}
use Rattle.occ_project_units.specs.Project.{file_of}

-- the names that its expansion looks up, in the order of their first look-ups
abbrev pub read_names : List Read → List ℕ → List (List ℕ)
read_names files unit = cond (is_unit unit) (expansion files unit).reads []

-- the files of these names, each with its revision, and with its text unless it is absent
abbrev pub unit_reads : List Read → List ℕ → List Read
unit_reads files unit = map (file_of files) (read_names files unit)

-- the units that the `#USE` lines of its expansion use, each once, in order of name
abbrev pub used_units : List Read → List ℕ → List (List ℕ)
used_units files unit = cond (is_unit unit) (used_in (expansion files unit).lines) []

-- u uses v
abbrev pub Uses : List Read → List ℕ → List ℕ → Type 0
Uses files u v = is_among (used_units files u) v ≡ true

-- u uses the first of these units, each of them the next, and the last of them v
abbrev pub UsesBy : List Read → List ℕ → List (List ℕ) → List ℕ → Type 0
UsesBy files u [] v = Uses files u v
UsesBy files u (w ∷ ws) v = Uses files u w × UsesBy files w ws v

-- u uses v, or a unit that uses v, or one that uses such a unit, and so on
abbrev pub Reaches : List Read → List ℕ → List ℕ → Type 0
Reaches files u v = (ws : List (List ℕ)) × UsesBy files u ws v

-- u uses v in a circle: v is u itself, or reaches u
abbrev pub IsCircular : List Read → List ℕ → List ℕ → Type 0
IsCircular files u v = Uses files u v × ((v ≡ u) ⊎ Reaches files v u)
