use Rattle.std.proofs.Common.{◌∙◌, ap, arith, length, length-drop, sym}
use Rattle.std.specs.Char.{is_ascii_hexdigit}
use Rattle.std.proofs.lemmas.List.Sums.{prefix_len-le-length}
use Rattle.occ_lines.proofs.Longest.{hexadecimal_longest, name_longest, number_longest, symbol_longest}
use Rattle.occ_lines.proofs.scan.lexeme_len.Goals as goal

pub returns-then-starts_name : goal.returns-then-starts_name
returns-then-starts_name c = rw c.name_len.ensures.value (name_longest _ (sym c.starts_name.ensures ∙ c.if-starts_name.true))

pub returns-then-starts_number : goal.returns-then-starts_number
returns-then-starts_number c = rw c.number_len.ensures (number_longest _ (sym c.starts_number.ensures ∙ c.if-starts_number.true))

pub overflow_add-result : goal.overflow_add-result
overflow_add-result c = omega (arith, c.hexadecimal_len.ensures, prefix_len-le-length is_ascii_hexdigit c.after_first.result.now, ap length c.after_first.ensures, length-drop 1 c.args.text.now)

pub returns-then-starts_hexadecimal : goal.returns-then-starts_hexadecimal
returns-then-starts_hexadecimal c = rw (c.hexadecimal_len.ensures, c.after_first.ensures) (hexadecimal_longest _ (sym c.starts_hexadecimal.ensures ∙ c.if-starts_hexadecimal.true))

pub returns-else-starts_hexadecimal : goal.returns-else-starts_hexadecimal
returns-else-starts_hexadecimal c =
    symbol_longest _ _ (sym c.starts_name.ensures ∙ c.if-starts_name.false) (sym c.starts_number.ensures ∙ c.if-starts_number.false) (sym c.starts_hexadecimal.ensures ∙ c.if-starts_hexadecimal.false) c.symbol_len.ensures
