-- The files that edits of a journal make, for a base that follows it.
use Rattle.std.specs.Prelude.{ℕ, ◌+◌, List, [], ◌∷◌, ◌++◌}
use Rattle.occ_board.specs.Journal.{edited}
use Rattle.occ_board.specs.declared.entry.Entry.{Entry}
use Rattle.occ_project.specs.declared.reads.Read.{Read}

-- the file after each of these edits, the first of which has number n; that of the last edit stands first
abbrev pub edited_back : ℕ → List Entry → List Read
edited_back n [] = []
edited_back n (e ∷ es) = edited_back (n + 1) es ++ edited n e.edit ∷ []
