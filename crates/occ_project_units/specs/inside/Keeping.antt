-- What a graph keeps.
use Rattle.std.specs.List.{filter, insert}
use Rattle.std.specs.Option.{option_map, unwrap_or}
use Rattle.std.specs.Prelude.{◌≡◌, ◌+◌, ◌<◌, ◌≤◌, ◌⊎◌, ◌==◌, ◌%◌, ℕ, zero, suc, Bool, false, true, not, List, [], ◌∷◌, get_or, length, map, slice_get, slice_set, Option, Some, None}
use Rattle.std.specs.Str.{bytes_eq}
use Rattle.occ_base.specs.Mixing.{number_of_bytes}
use Rattle.occ_project_graph.specs.Adding.{IsParted, with_used_node}
use Rattle.occ_project_graph.specs.Graph.{Graph, is_among as is_index, targets}
use Rattle.occ_project.specs.declared.reads.Read.{Read}
use Rattle.occ_project.specs.Entries.{is_among}
use Rattle.occ_project.specs.Reads.{index}
use Rattle.occ_project_units.specs.Along.{name_at}
use Rattle.occ_project_units.specs.declared.facts.Facts.{Facts}
use Rattle.occ_project_units.specs.declared.lookers.Lookers.{Lookers}
use Rattle.occ_project_units.specs.Indices.{graph_of, indices_of, read_graph, readers_at}
use Rattle.occ_project_units.specs.New.{IsGap}
use Rattle.occ_project_units.specs.Project.{file_of}
use Rattle.occ_project_units.specs.Units.{read_names, used_units}

-- what is known of a file
abbrev pub facts_of : List Read → List ℕ → Facts
facts_of files name = record { reads = read_names files name; uses = used_units files name }

abbrev pub all_facts : List Read → List Facts
all_facts files = map (λ file. facts_of files file.name) files

-- all files but the one of that name are as they were
abbrev pub AreOthers : List ℕ → List Read → List Read → Type 0
AreOthers name files later = (other : List ℕ) → bytes_eq name other ≡ false → file_of later other ≡ file_of files other

-- those that are not this one
abbrev pub others : ℕ → List ℕ → List ℕ
others p ws = filter (λ w. not (w == p)) ws

-- of each file the indices of the others that read it, if they were asked for
abbrev pub AreReaders : List Read → Option Graph → Type 0
AreReaders files None = Unit {0}
AreReaders files (Some rows) = (p : ℕ) → p < length files → get_or rows p [] ≡ others p (readers_at files p)

-- which of n rows is that of a name
abbrev pub row_of : List ℕ → ℕ → Option ℕ
row_of name zero = None
row_of name (suc n) = Some (number_of_bytes 0 name % suc n)

-- the files of that row
abbrev pub looking_for : Lookers → List ℕ → List (List ℕ)
looking_for lookers name = unwrap_or (option_map (λ at. get_or lookers.rows.items at []) (row_of name (length lookers.rows.items))) []

-- where a file is found it is found still
abbrev pub IsMore : Lookers → Lookers → Type 0
IsMore lookers more = (name unit : List ℕ) → is_among (looking_for lookers name) unit ≡ true → is_among (looking_for more name) unit ≡ true

-- a file is found by each other name that these facts look up, and use, unless what they use is there
abbrev pub IsNotedOf : Facts → List ℕ → Bool → Lookers → Type 0
IsNotedOf known unit are_there lookers = (name : List ℕ) → bytes_eq unit name ≡ false → (is_among known.reads name ≡ true → is_among (looking_for lookers name) unit ≡ true) × (are_there ≡ false → is_among known.uses name ≡ true → is_among (looking_for lookers name) unit ≡ true)

-- it reads itself at most and an edge leads to each that it uses, or it is so
abbrev pub IsNotedBy : Facts → List ℕ → ℕ → Lookers → Type 0
IsNotedBy known unit edges lookers = ((length known.reads ≤ 1) × (edges ≡ length known.uses)) ⊎ IsNotedOf known unit (edges == length known.uses) lookers

-- a file is found by each other name that it reads, and by each that it uses and that is not there
abbrev pub IsNoted : List Read → List ℕ → Lookers → Type 0
IsNoted files unit lookers = (name : List ℕ) → bytes_eq unit name ≡ false → (is_among (read_names files unit) name ≡ true → is_among (looking_for lookers name) unit ≡ true) × (index name files ≡ None → is_among (used_units files unit) name ≡ true → is_among (looking_for lookers name) unit ≡ true)

-- all files are
abbrev pub AreLookers : List Read → Lookers → Type 0
AreLookers files lookers = (p : ℕ) → p < length files → IsNoted files (name_at files p) lookers

-- if it is known who looks for what
abbrev pub AreLookersIf : List Read → Option Lookers → Type 0
AreLookersIf files None = Unit {0}
AreLookersIf files (Some lookers) = AreLookers files lookers

-- the file at an index is noted and where files were found they are found still, or all are noted
abbrev pub AreNotedWith : List Read → ℕ → Option Lookers → Lookers → Type 0
AreNotedWith files at None next = AreLookers files next
AreNotedWith files at (Some lookers) next = (IsMore lookers next × IsNoted files (name_at files at) next) ⊎ AreLookers files next

-- those that read a file of that name stand at these indices
pub record AreReading (files : List Read) (name : List ℕ) (indices : List ℕ) : Type 0 where
  pub within : (p : ℕ) → is_index indices p ≡ true → p < length files
  pub all : (p : ℕ) → p < length files → is_among (read_names files (name_at files p)) name ≡ true → is_index indices p ≡ true

-- those are noted that read the edited file, and where files were found they are found still
abbrev pub AreNotedAfter : List Read → List ℕ → Option Lookers → Lookers → Type 0
AreNotedAfter files edited None next = ⊥
AreNotedAfter files edited (Some lookers) next = IsMore lookers next × ((p : ℕ) → p < length files → is_among (read_names files (name_at files p)) edited ≡ true → IsNoted files (name_at files p) next)

-- or all are
abbrev pub AreNotedThen : List Read → List ℕ → Option Lookers → Lookers → Type 0
AreNotedThen files edited lookers next = AreNotedAfter files edited lookers next ⊎ AreLookers files next

pub record IsGraph (files : List Read) (facts : List Facts) (links : Graph) (readers : Option Graph) (lookers : Option Lookers) : Type 0 where
  pub facts_are : facts ≡ all_facts files
  pub links_are : links ≡ graph_of files
  pub readers_are : AreReaders files readers
  pub lookers_are : AreLookersIf files lookers

-- what is known of a file reads and uses what it did before
abbrev pub IsAsBefore : Option Facts → Option Facts → Type 0
IsAsBefore None now = ⊥
IsAsBefore (Some before) None = ⊥
IsAsBefore (Some before) (Some now) = (before.reads ≡ now.reads) × (before.uses ≡ now.uses)

-- so do the files at these indices, by what was found of them
abbrev pub AreAsBefore : List Facts → List ℕ → List Facts → Type 0
AreAsBefore facts indices found = (i : ℕ) → i < length indices → IsAsBefore (slice_get facts (get_or indices i 0)) (slice_get found i)

-- what is known of a file uses what it did before
abbrev pub IsUsingAsBefore : Option Facts → Option Facts → Type 0
IsUsingAsBefore None now = ⊥
IsUsingAsBefore (Some before) None = ⊥
IsUsingAsBefore (Some before) (Some now) = before.uses ≡ now.uses

-- so do the files at these indices from one place up to another, by what was found of them
abbrev pub DoUseAsBefore : List Facts → List ℕ → List Facts → ℕ → ℕ → Type 0
DoUseAsBefore facts indices found from place = (i : ℕ) → from ≤ i → i < place → i < length indices → IsUsingAsBefore (slice_get facts (get_or indices i 0)) (slice_get found i)

-- where one at most of the files at these indices uses others than before, at this place, edges lead from it to these, if there is one
pub record IsLed (later : List Read) (facts : List Facts) (indices : List ℕ) (found : List Facts) (g led : Graph) : Type 0 where
  pub place : ℕ
  pub before : DoUseAsBefore facts indices found 0 place
  pub behind : DoUseAsBefore facts indices found (place + 1) (length indices)
  pub is : ((length indices ≤ place) × (led ≡ g)) ⊎ ((place < length indices) × (led ≡ slice_set g (get_or indices place 0) (indices_of later (get_or (map (λ f. f.uses) found) place []))))

-- all read and use what they did before
pub record IsRenewed (files later : List Read) : Type 0 where
  pub len : length later ≡ length files
  pub graph : graph_of later ≡ graph_of files
  pub reads : read_graph later ≡ read_graph files
  pub placed : (name : List ℕ) → index name later ≡ index name files
  pub named : (p : ℕ) → p < length files → name_at later p ≡ name_at files p
  pub known : (p : ℕ) → p < length files → (read_names files (name_at files p) ≡ read_names later (name_at files p)) × (used_units files (name_at files p) ≡ used_units later (name_at files p))

-- no file has the name, which would stand at this index, and none reads it
pub record IsUnread (files : List Read) (name : List ℕ) (at : ℕ) : Type 0 where
  pub gap : IsGap name files at
  pub unread : (p : ℕ) → p < length files → is_among (read_names files (name_at files p)) name ≡ false

-- what is known before of files, and what is known when one is put at an index that no other reads
pub record IsJoining (facts : List Facts) (links : Graph) (later : List Read) (at : ℕ) : Type 0 where
  pub within : at < length later
  pub facts_fit : at ≤ length facts
  pub links_fit : at ≤ length links
  pub long : length later ≡ length links + 1
  pub facts_are : insert facts at (facts_of later (name_at later at)) ≡ all_facts later
  pub parted : (u : ℕ) → get_or (map (λ f. is_among f.uses (name_at later at)) facts) u false ≡ true → IsParted at (targets links u)
  pub links_are : slice_set (with_used_node links at (map (λ f. is_among f.uses (name_at later at)) facts)) at (indices_of later (used_units later (name_at later at))) ≡ graph_of later
