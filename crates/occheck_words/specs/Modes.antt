-- What the program may be asked to do.
use Rattle.std.specs.Prelude.{◌≤◌, ◌+◌, ℕ, List, [], ◌∷◌, codes, length, map, if◌then◌else◌}
use Rattle.std.specs.Str.{bytes_eq}
use Rattle.std.specs.String.{string_bytes}
use Rattle.occheck_words.specs.declared.words.Mode.{Mode}
use Rattle.occheck_words.specs.declared.words.Mode.TheVariants as mode

-- how often standard input is among scripts
abbrev pub inputs : List (List ℕ) → ℕ
inputs [] = 0
inputs (script ∷ scripts) = if bytes_eq script (codes "-") then inputs scripts + 1 else inputs scripts

abbrev pub IsFew : ℕ → Type 0
IsFew n = (1 ≤ n) × (n ≤ 16)

-- one script; or 1 to 16, of which standard input is one at most, and 1 to 16 workers
abbrev pub IsAllowed : Mode → Type 0
IsAllowed (mode.Steps script) = Unit {0}
IsAllowed (mode.Workers workers scripts) = IsFew workers × (IsFew (length scripts.items) × (inputs (map string_bytes scripts.items) ≤ 1))
