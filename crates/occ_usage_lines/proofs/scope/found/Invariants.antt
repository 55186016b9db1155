use Rattle.std.proofs.Common.{◌≡◌, ◌||◌, ℕ, drop}
use Rattle.std.specs.List.{list_any}
use Rattle.occ_usage_lines.specs.inside.Noting.{is_found, is_in}
use Rattle.occ_usage_lines.proofs.scope.found.Given as goal

abbrev pub invariant-loop-one : goal.invariant-loop-one
invariant-loop-one l =
    (n : ℕ) → (is_in l.numbers.items n || list_any (is_found l.bounds l.named l.read n) (drop l.one-index l.uses)) ≡ list_any (is_found l.bounds l.named l.read n) l.uses
