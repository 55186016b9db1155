use Rattle.std.proofs.Common.{◌≤◌, length}
use Rattle.occ_lines.proofs.Strings.{Gathering}
use Rattle.occ_lines.proofs.quoted.gather.Given as goal

abbrev pub invariant-rest : goal.invariant-rest
invariant-rest l = record {
  gathers : Gathering l.fn.so_far l.fn.text l.found l.rest;
  shorter : length l.rest ≤ length l.fn.text;
}

abbrev pub decreases-rest : goal.decreases-rest
decreases-rest l = length l.rest
