-- What is reported of uses in the scope of some specifications.
use Rattle.std.specs.Prelude.{ℕ, Option, Some, None, List, [], ◌∷◌, ◌++◌, slice_get}
use Rattle.occ_alias.specs.AbbreviationRule.{bound_faults}
use Rattle.occ_base.specs.declared.diag.Diag.{Diag}
use Rattle.occ_usage_values.specs.Bounds.{Env}
use Rattle.occ_usage_values.specs.declared.bound.Bound.{Bound}
use Rattle.occ_usage_values.specs.declared.uses.Use.{Use}

-- by the specification n, if there is one
abbrev pub numbered_faults : ℕ → Env → Option Bound → List Use → List Diag
numbered_faults n env None us = []
numbered_faults n env (Some x) us = bound_faults n env x us

-- by those with these numbers
abbrev pub chosen_faults : Env → List Use → List ℕ → List Diag
chosen_faults env us [] = []
chosen_faults env us (n ∷ ns) = numbered_faults n env (slice_get env n) us ++ chosen_faults env us ns
