-- Inputs for rows.
use Rattle.std.specs.Prelude.{[], ◌∷◌, codes}
use Rattle.occ_check.specs.Input.{Input}
use Rattle.occ_check.specs.declared.used.Used.{Used}
use Rattle.occ_project.specs.Samples.{open_file, use_at}

-- a unit whose one line uses another, which stands so
abbrev pub user_of : Used → Input
user_of used = record {
  unit = codes "a.occ";
  reads = open_file (codes "a.occ") (use_at 1 0 (codes "b.occ") ∷ []) ∷ [];
  used = (record { unit = codes "b.occ"; used = used }) ∷ [];
}
