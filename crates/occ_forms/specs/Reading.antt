-- What the reader of a line has to answer, and what ends what it is made of.
use Rattle.std.specs.Prelude.{◌≡◌, Bool, true, false, List, [], ◌∷◌, Option, Some, IfSome}
use Rattle.occ_lines.specs.declared.token.Token.{Token}
use Rattle.occ_lines.specs.declared.token.Token.TheVariants as t
use Rattle.occ_lines.specs.declared.token.Symbol.TheVariants as s
use Rattle.occ_forms.specs.declared.tree.Form.{Form}
use Rattle.occ_forms.specs.Spelling.{form_tokens}

-- an item of a list ends at the end of the line, or at the next item
abbrev pub ends_item : List Token → Bool
ends_item [] = true
ends_item (t.Symbol s.Semicolon ∷ k) = true
ends_item other = false

abbrev pub IsItemEnd : List Token → Type 0
IsItemEnd k = ends_item k ≡ true

-- the answer is the one form of the tokens, or none where no form spells them
pub record IsFormOf (tokens : List Token) (answer : Option Form) : Type 0 where
  pub found : IfSome answer (λ form. tokens ≡ form_tokens form)
  pub only : (form : Form) → tokens ≡ form_tokens form → answer ≡ Some form
