-- Where a diagnostic is, and what of it counts whatever words are found for it.
use Rattle.std.specs.Prelude.{ℕ, List}
use Rattle.std.specs.String.{string_bytes}
use Rattle.occ_base.specs.declared.code.Code.{Code}
use Rattle.occ_base.specs.declared.code.Grade.{Grade}
use Rattle.occ_base.specs.declared.diag.Diag.{Diag}
use Rattle.occ_messages.specs.declared.message.Message.{Message}

-- the head of a message: path, line, code and grade
pub record Head : Type 0 where
  pub path : List ℕ
  pub line : ℕ
  pub code : Code
  pub grade : Grade

abbrev pub head_of : Message → Head
head_of m = record { path = string_bytes m.path; line = m.line; code = m.code; grade = m.grade }

-- that of a diagnostic in a file at a path
abbrev pub located : List ℕ → Diag → Head
located path d = record { path = path; line = d.line; code = d.code; grade = d.grade }
