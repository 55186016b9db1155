-- Lines of the worked rows.
use Rattle.std.specs.Prelude.{ℕ, Bool, List, [], ◌∷◌, ◌++◌}
use Rattle.occ_tree.specs.declared.outline.Outline.{Outline}
use Rattle.occ_tree.specs.declared.sort.Sort.{Sort}
use Rattle.occ_tree.specs.declared.sort.Sort.TheVariants as sort
use Rattle.occ_tree.specs.Wrong.{wrong}

abbrev pub at : ℕ → Sort → Outline
at d s = record { depth = d; sort = s }

-- what is reported of the lines of the body of a procedure, of its head before them and of its close after them
abbrev pub in_procedure : List Outline → List Bool
in_procedure ls = wrong (at 0 sort.ProcedureHead ∷ (ls ++ at 0 sort.Close ∷ []))

-- the same of a function
abbrev pub in_function : List Outline → List Bool
in_function ls = wrong (at 0 sort.FunctionHead ∷ (ls ++ at 0 sort.Close ∷ []))

-- the same of a protocol
abbrev pub in_protocol : List Outline → List Bool
in_protocol ls = wrong (at 0 sort.ProtocolHead ∷ (ls ++ at 0 sort.Close ∷ []))

-- the same of a data type
abbrev pub in_data_type : List Outline → List Bool
in_data_type ls = wrong (at 0 sort.DataTypeHead ∷ (ls ++ at 0 sort.Close ∷ []))
