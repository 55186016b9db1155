-- A diagnostic, for rows.
use Rattle.std.specs.Prelude.{ℕ, List, Option}
use Rattle.occ_base.specs.declared.code.Code.{Code}
use Rattle.occ_base.specs.declared.code.Grade.{Grade}
use Rattle.occ_base.specs.declared.diag.Diag.{Diag}

abbrev pub sample : List ℕ → ℕ → Code → Grade → Option (List ℕ) → Diag
sample file line code grade name = record { file = file; line = line; code = code; grade = grade; name = name }
