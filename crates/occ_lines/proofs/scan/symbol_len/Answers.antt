use Rattle.std.proofs.lemmas.Bool.{iff_false}
use Rattle.occ_lines.proofs.Longest.{symbol_none, symbol_one, symbol_two}
use Rattle.occ_lines.proofs.scan.symbol_len.Goals as goal

pub returns-then-starts_symbol : goal.returns-then-starts_symbol
returns-then-starts_symbol c = symbol_two _ (c.starts_symbol.ensures.0 c.if-starts_symbol.true)

pub returns-then-starts_symbol-2 : goal.returns-then-starts_symbol-2
returns-then-starts_symbol-2 c =
    symbol_one _ (iff_false c.starts_symbol.ensures c.if-starts_symbol.false) (c.starts_symbol-else-starts_symbol.ensures.0 c.if-starts_symbol-2.true)

pub returns-else-starts_symbol-2 : goal.returns-else-starts_symbol-2
returns-else-starts_symbol-2 c =
    symbol_none _ (iff_false c.starts_symbol.ensures c.if-starts_symbol.false) (iff_false c.starts_symbol-else-starts_symbol.ensures c.if-starts_symbol-2.false)
