-- A project: its files in order of name, each with its text or without, if it is absent.
use Rattle.std.specs.Prelude.{ℕ, List, [], ◌∷◌, map, None}
use Rattle.std.specs.List.Sorted.{IsStrictlySortedBy}
use Rattle.std.specs.Option.{unwrap_or}
use Rattle.std.specs.Ordering.{match_ordering}
use Rattle.occ_project.specs.declared.reads.Read.{Read}
use Rattle.occ_project.specs.Reads.{member, name_cmp}

-- each name stands before those that are greater, so none stands twice
abbrev pub IsProject : List Read → Type 0
IsProject files = IsStrictlySortedBy name_cmp (map (λ file. file.name) files)

-- the file comes to its place in the order, in place of the one of its name if there is one
abbrev pub put : List Read → Read → List Read
put [] file = file ∷ []
put (other ∷ files) file = match_ordering (name_cmp file.name other.name) (file ∷ other ∷ files) (file ∷ files) (other ∷ put files file)

-- these files come one after the other, the last of them first
abbrev pub put_back : List Read → List Read → List Read
put_back files [] = files
put_back files (file ∷ more) = put (put_back files more) file

-- the file of that name: one that is not in the project is absent, and no edit made it so
abbrev pub file_of : List Read → List ℕ → Read
file_of files name = unwrap_or (member files name) (record { name = name; revision = 0; source = None })
