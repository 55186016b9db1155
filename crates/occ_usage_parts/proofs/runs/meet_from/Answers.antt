use Rattle.std.proofs.Common.{◌≡◌, ◌≤◌, ℕ, false, arith}
use Rattle.std.specs.Ordering.{is_lt, nat_cmp}
use Rattle.std.proofs.lemmas.Bool.Decides.{nat_tests}
use Rattle.occ_usage_parts.specs.inside.Runs.{runs_of}
use Rattle.occ_usage_parts.proofs.Neighbours.{decided_from}
use Rattle.occ_usage_parts.proofs.runs.meet_from.Goals as goal

not_below : (x y : ℕ) → is_lt (nat_cmp x y) ≡ false → y ≤ x
not_below x y w = grind (arith, nat_tests)

pub returns-in-Some : goal.returns-in-Some
returns-in-Some c =
    let d = decided_from (runs_of c.args.runs.now) c.requires c.in-Some.field-0-0.now c.in-Some.end.now c.args.first c.in-Some.ensures.value
    (λ q s. not_below c.in-Some.field-0-0.now q (c.in-Some.ensures.greatest q s)) in
    ((λ t. d.0 (grind (arith, nat_tests))), (λ h. let l : c.args.first ≤ c.in-Some.end.now = d.1 h in grind (arith, nat_tests)))
