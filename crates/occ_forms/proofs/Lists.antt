-- Where lists end.
use Rattle.std.proofs.Common.{refl, List, [], ◌∷◌}
use Rattle.occ_lines.specs.declared.token.Symbol.{Symbol}
use Rattle.occ_lines.specs.declared.token.Symbol.TheVariants as s
use Rattle.occ_lines.specs.declared.token.Token.{Token}
use Rattle.occ_lines.specs.declared.token.Token.TheVariants as t
use Rattle.occ_forms_expressions.specs.Reading.{IsEnd, IsNot}

-- no separator stands at the end of a line
pub no_more : (separator : Symbol) → IsNot separator []
no_more separator rest e = absurd cc

-- an element may end at `:=`, and no comma stands there
pub assign_ends : (k : List Token) → IsEnd (t.Symbol s.Assign ∷ k)
assign_ends k = refl

pub no_comma : (k : List Token) → IsNot s.Comma (t.Symbol s.Assign ∷ k)
no_comma k rest e = absurd cc
