-- A text with its lines, each with its form or its one fault.
use Rattle.std.specs.Prelude.{◌≡◌, ◌⊎◌, ℕ, List, [], ◌∷◌}
use Rattle.occ_base.specs.declared.code.Code.TheVariants as code
use Rattle.occ_lines.specs.declared.text.Body.{Body}
use Rattle.occ_lines.specs.declared.text.Body.TheVariants as body
use Rattle.occ_lines.specs.declared.text.Logical.{Logical}
use Rattle.occ_lines.specs.Lines.{IsLines}
use Rattle.occ_forms.specs.declared.source.LineBody.{LineBody}
use Rattle.occ_forms.specs.declared.source.LineBody.TheVariants as held
use Rattle.occ_forms.specs.declared.source.SourceLine.{SourceLine}
use Rattle.occ_forms.specs.Depth.{HasForm, HasNoForm, IsTooDeep}

-- what callers see of a source
pub record Prepared : Type 0 where
  pub text : List ℕ
  pub lines : List SourceLine

-- the form that the tokens spell, S3 where the line is too deep, S1 where it has no form; or the directive or fault
-- that the line is already
abbrev pub IsFormed : Body → LineBody → Type 0
IsFormed (body.Tokens tokens) (held.Form form) = HasForm tokens form
IsFormed (body.Tokens tokens) (held.Fault fault) = ((fault ≡ code.S3) × IsTooDeep tokens) ⊎ ((fault ≡ code.S1) × HasNoForm tokens)
IsFormed (body.Include given) (held.Include name) = name ≡ given
IsFormed (body.Uses given lists) (held.Uses name list) = (name ≡ given) × (list ≡ lists)
IsFormed (body.Fault given) (held.Fault fault) = fault ≡ given
IsFormed given other = ⊥

-- the same line, with its form
pub record IsFormedLine (logical : Logical) (line : SourceLine) : Type 0 where
  pub number : line.line ≡ logical.line
  pub depth : line.depth ≡ logical.depth
  pub held : IsFormed logical.body line.body

-- line by line
abbrev pub AreFormed : List Logical → List SourceLine → Type 0
AreFormed [] [] = Unit {0}
AreFormed [] (line ∷ lines) = ⊥
AreFormed (logical ∷ logicals) [] = ⊥
AreFormed (logical ∷ logicals) (line ∷ lines) = IsFormedLine logical line × AreFormed logicals lines

-- the lines of the text, with their forms
abbrev pub IsPrepared : List ℕ → List SourceLine → Type 0
IsPrepared text lines = (logicals : List Logical) × IsLines text logicals × AreFormed logicals lines
