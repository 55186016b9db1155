-- What a board knows of what cached inputs looked at: the file of a read's name, if it has the revision of the read, is the read, text
-- or absence alike.
use Rattle.std.specs.Prelude.{◌≡◌, ◌<◌, ℕ, List, slice_get, Some}
use Rattle.occ_check.specs.Input.{Input}
use Rattle.occ_project.specs.declared.reads.Read.{Read}
use Rattle.occ_project_units.specs.Project.{file_of}

-- the file of that name is the read, if its revision is
abbrev pub IsGivenByRevision : List Read → Read → Type 0
IsGivenByRevision files read = read.revision ≡ (file_of files read.name).revision → read ≡ file_of files read.name

-- each of these is so
abbrev pub AreGivenByRevision : List Read → List Read → Type 0
AreGivenByRevision files reads = (i : ℕ) (read : Read) → slice_get reads i ≡ Some read → IsGivenByRevision files read

-- what each cached input looked at
abbrev pub AllGivenByRevision : List Read → List Input → Type 0
AllGivenByRevision files cached = (k : ℕ) (i : Input) → slice_get cached k ≡ Some i → AreGivenByRevision files i.reads

-- no cached input looked at a revision of this number or a later one
abbrev pub AreBefore : ℕ → List Input → Type 0
AreBefore n cached = (k : ℕ) (i : Input) → slice_get cached k ≡ Some i → (m : ℕ) (read : Read) → slice_get i.reads m ≡ Some read → read.revision < n
