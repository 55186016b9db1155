-- Which diagnostics are at a line of a file.
use Rattle.std.specs.Prelude.{◌≡◌, ◌⊎◌, ℕ, List, [], ◌∷◌}
use Rattle.occ_base.specs.declared.code.Code.{Code}
use Rattle.occ_base.specs.declared.diag.Diag.{Diag}

-- the diagnostic is at the line of the file of that name, and has the code
abbrev pub IsAt : List ℕ → ℕ → Code → Diag → Type 0
IsAt name line code diag = (diag.file ≡ name) × (diag.line ≡ line) × (diag.code ≡ code)

-- one of these is there and has it
abbrev pub IsOneAt : List Diag → List ℕ → ℕ → Code → Type 0
IsOneAt [] name line code = ⊥
IsOneAt (diag ∷ diags) name line code = IsAt name line code diag ⊎ IsOneAt diags name line code
