-- The same by indices in the project, so that it can be computed.
use Rattle.std.specs.Prelude.{ℕ, Bool, true, false, cond, ◌&&◌, List, map, Option, Some}
use Rattle.std.specs.List.{filter, filter_map}
use Rattle.std.specs.Option.{is_some}
use Rattle.occ_project_graph.specs.Graph.{Graph}
use Rattle.occ_project_graph.specs.Graph as graph
use Rattle.occ_project_graph.specs.Sources.{sources}
use Rattle.occ_project.specs.declared.reads.Read.{Read}
use Rattle.occ_project.specs.Entries.{is_among}
use Rattle.occ_project.specs.Reads.{index}
use Rattle.occ_project_units.specs.declared.standing.Standing.{Standing}
use Rattle.occ_project_units.specs.declared.standing.Standing.TheVariants as standing
use Rattle.occ_project_units.specs.Project.{file_of}
use Rattle.occ_project_units.specs.Units.{read_names, used_units}

-- the indices of the files of these names
abbrev pub indices_of : List Read → List (List ℕ) → List ℕ
indices_of files names = filter_map (λ name. index name files) names

-- an edge from each unit to each that it uses and that is in the project
abbrev pub graph_of : List Read → Graph
graph_of files = map (λ file. indices_of files (used_units files file.name)) files

-- the indices of the units that use the one at an index, in order
abbrev pub users_at : List Read → ℕ → List ℕ
users_at files p = sources (graph_of files) p

-- an edge from each unit to each file that its expansion looks up and that is in the project
abbrev pub read_graph : List Read → Graph
read_graph files = map (λ file. indices_of files (read_names files file.name)) files

-- the indices of the units that read the file at an index, in order
abbrev pub readers_at : List Read → ℕ → List ℕ
readers_at files p = sources (read_graph files) p

-- an edge between these indices stands in a circle
abbrev pub circular_at : Graph → Option ℕ → Option ℕ → Bool
circular_at g (Some p) (Some q) = graph.is_circular g p q
circular_at g p q = false

-- u uses v in a circle
abbrev pub is_circular : List Read → List ℕ → List ℕ → Bool
is_circular files u v = is_among (used_units files u) v && circular_at (graph_of files) (index u files) (index v files)

-- how v stands to u, which uses it
abbrev pub standing_of : List Read → List ℕ → List ℕ → Standing
standing_of files u v = cond (is_some (file_of files v).source) (cond (is_circular files u v) standing.Circular standing.Below) standing.Absent

abbrev pub is_below : Standing → Bool
is_below standing.Below = true
is_below other = false

-- the units that u rests on: those that it uses, that are open and in no circle with it
abbrev pub rest_units : List Read → List ℕ → List (List ℕ)
rest_units files u = filter (λ v. is_below (standing_of files u v)) (used_units files u)
