use Rattle.std.proofs.Common.{◌≡◌, ◌≤◌, drop, max}
use Rattle.occ_forms_expressions.specs.Depth.{most_open}
use Rattle.occ_forms_expressions.proofs.depth.opens_too_many.Given as goal

abbrev pub invariant-loop-token : goal.invariant-loop-token
invariant-loop-token l = record {
  few : l.count ≤ 64;
  same : max 64 (most_open l.count (drop l.token-index l.tokens)) ≡ max 64 (most_open 0 l.tokens);
}
