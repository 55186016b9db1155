-- What makes the program fail, and its exit status.
use Rattle.std.specs.Prelude.{◌≤◌, ℕ, Bool, true, false, if◌then◌else◌}
use Rattle.occ_base.specs.declared.code.Code.{Code}
use Rattle.occ_base.specs.declared.code.Code.TheVariants.{U1, U2, U3, A1, A2, A3, A4}
use Rattle.occ_base.specs.declared.code.Grade.{Grade}
use Rattle.occ_base.specs.declared.code.Grade.TheVariants.{Error, Check}

-- whether a code is about races: of U or A
abbrev pub is_race : Code → Bool
is_race U1 = true
is_race U2 = true
is_race U3 = true
is_race A1 = true
is_race A2 = true
is_race A3 = true
is_race A4 = true
is_race _ = false

-- an error always does, a check if races have to be excluded and it is about one
abbrev pub fails : Bool → Grade → Code → Bool
fails race_free Error code = true
fails race_free Check code = if race_free then is_race code else false

-- 2 where something was not read, else 1 where a diagnostic fails, else 0
abbrev pub status_of : Bool → Bool → ℕ
status_of trouble fails = if trouble then 2 else if fails then 1 else 0

-- so it is one of these three
abbrev pub IsStatus : ℕ → Type 0
IsStatus status = status ≤ 2
