-- What comes into scope where a line uses units: the exports of each, in the order of the units.
use Rattle.std.specs.Prelude.{ℕ, List, [], ◌∷◌, ◌++◌, if◌then◌else◌}
use Rattle.std.specs.Str.{bytes_eq}
use Rattle.occ_scope.specs.declared.meaning.ScopeEntry.{ScopeEntry}
use Rattle.occ_scope.specs.declared.meaning.Meaning.{Meaning}
use Rattle.occ_scope.specs.declared.meaning.Meaning.TheVariants as m
use Rattle.occ_types.specs.declared.interface.Export.{Export}
use Rattle.occ_types.specs.declared.interface.ExportKind.{ExportKind}
use Rattle.occ_types.specs.declared.interface.ExportKind.TheVariants as kind
use Rattle.occ_types.specs.declared.interface.Formal.{Formal}
use Rattle.occ_types.specs.declared.interface.Interface.{Interface}
use Rattle.occ_types.specs.declared.types.OccType.{OccType}
use Rattle.occ_typing_lines.specs.declared.using.Import.{Import}

abbrev pub meaning_of : ExportKind → List Formal → List OccType → Meaning
meaning_of kind.Process formals results = m.Procedure formals
meaning_of kind.Function formals results = m.Function formals results

abbrev pub entry_of : Export → ScopeEntry
entry_of x = record { name = x.name; meaning = meaning_of x.kind x.formals x.results }

abbrev pub entries_of : List Export → List ScopeEntry
entries_of [] = []
entries_of (x ∷ xs) = entry_of x ∷ entries_of xs

-- what the first import of this unit shows; a unit of which there is none shows nothing
abbrev pub interface_of : List ℕ → List Import → List Interface
interface_of unit [] = []
interface_of unit (i ∷ is) = if bytes_eq i.unit unit then i.interface ∷ [] else interface_of unit is

-- what the imports of these units show, in the order of the units
abbrev pub interfaces_of : List (List ℕ) → List Import → List Interface
interfaces_of [] is = []
interfaces_of (unit ∷ units) is = interface_of unit is ++ interfaces_of units is

-- what comes into scope by what is shown
abbrev pub imported : List Interface → List ScopeEntry
imported [] = []
imported (i ∷ is) = entries_of i.exports ++ imported is
