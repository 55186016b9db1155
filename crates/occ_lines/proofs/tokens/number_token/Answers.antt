use Rattle.occ_lines.proofs.Digits.{number_digits}
use Rattle.occ_lines.proofs.tokens.number_token.Goals as goal

pub value-requires-clause-digits : goal.value-requires-clause-digits
value-requires-clause-digits c = number_digits c.args.digits.now c.requires
