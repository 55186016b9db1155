-- Projects for rows.
use Rattle.std.specs.Prelude.{List, [], ◌∷◌, codes}
use Rattle.occ_project.specs.declared.reads.Read.{Read}
use Rattle.occ_project.specs.Samples.{open_file, use_at}

-- three units of which each uses the next, the last the first, and one that uses the first
abbrev pub circle_of_three : List Read
circle_of_three =
    open_file (codes "a.occ") (use_at 1 0 (codes "b.occ") ∷ [])
    ∷ open_file (codes "b.occ") (use_at 1 0 (codes "c.occ") ∷ [])
    ∷ open_file (codes "c.occ") (use_at 1 0 (codes "a.occ") ∷ [])
    ∷ open_file (codes "d.occ") (use_at 1 0 (codes "a.occ") ∷ [])
    ∷ []
