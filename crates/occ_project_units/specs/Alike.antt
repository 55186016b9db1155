-- Projects that agree in who uses whom, by indices, and in which files are open.
use Rattle.std.specs.Prelude.{◌≡◌, ℕ, List}
use Rattle.std.specs.Option.{is_some}
use Rattle.occ_project.specs.declared.reads.Read.{Read}
use Rattle.occ_project_units.specs.Indices.{graph_of}
use Rattle.occ_project_units.specs.Project.{file_of}

-- the units at the same indices use those at the same indices, and the same files are open
pub record AreAlike (files later : List Read) : Type 0 where
  pub graph : graph_of later ≡ graph_of files
  pub opened : (name : List ℕ) → is_some (file_of later name).source ≡ is_some (file_of files name).source
