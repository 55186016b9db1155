-- How many operands there are.
use Rattle.std.proofs.Common.{◌≡◌, List, length}
use Rattle.occ_typing_tables.proofs.Judging as judging
use Rattle.occ_typing_tables.specs.Terms.{judged_all}
use Rattle.occ_typing_tables.specs.declared.term.Term.{Term}

pub judged_length : (xs : List Term) → length (judged_all xs) ≡ length xs
judged_length = judging.judged_length
