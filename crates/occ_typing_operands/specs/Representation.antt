-- How an untyped expression is kept: a literal in decimal digits as its number.
use Rattle.std.specs.Prelude.{pos}
use Rattle.occ_typing_operands.specs.Outcomes.{decimal}
use Rattle.occ_typing_operands.specs.declared.kind.Untyped.{Untyped}
use Rattle.occ_typing_operands.specs.declared.untyped_constant.Representation.{Representation}
use Rattle.occ_typing_operands.specs.declared.untyped_constant.Representation.TheVariants as s

-- what it comes to in each type
abbrev pub shown : Representation → Untyped
shown (s.Decimal n) = decimal (pos n)
shown (s.Found f) = f
