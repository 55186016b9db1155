-- What a line spells that begins with `el ?`.
use Rattle.std.specs.Prelude.{List, [], ◌∷◌}
use Rattle.occ_lines.specs.declared.token.Token.{Token}
use Rattle.occ_lines.specs.declared.token.Token.TheVariants as t
use Rattle.occ_lines.specs.declared.token.Symbol.TheVariants as s
use Rattle.occ_forms_expressions.specs.declared.tree.Element.{Element}
use Rattle.occ_forms_expressions.specs.Spelling.{element_then}
use Rattle.occ_forms.specs.declared.input.Received.{Received}
use Rattle.occ_forms.specs.declared.input.Received.TheVariants as re
use Rattle.occ_forms.specs.Spelling.{case_input_then, input_then}

-- these tokens after `el ?`
abbrev pub received_after : Element → List Token → List Token
received_after el tokens = element_then el (t.Symbol s.Input ∷ tokens)

abbrev pub received_tokens : Received → List Token
received_tokens (re.Input input) = input_then input []
received_tokens (re.Case el) = case_input_then (element_then el) []
