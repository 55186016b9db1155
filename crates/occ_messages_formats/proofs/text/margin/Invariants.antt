use Rattle.std.proofs.Common.{◌≡◌}
use Rattle.std.specs.String.{string_bytes}
use Rattle.occ_messages_formats.specs.Written.{blank}
use Rattle.occ_messages_formats.proofs.text.margin.Given as goal

abbrev pub invariant-loop : goal.invariant-loop
invariant-loop l = string_bytes l.margin ≡ blank l.index
